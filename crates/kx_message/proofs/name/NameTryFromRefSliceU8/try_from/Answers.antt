use Rattle.std.proofs.Common.{ℕ, ◌-◌, List, ◌++◌, length, drop, replicate, refl, rules, arith}
use Rattle.std.proofs.Common.{length-append}
use Rattle.std.proofs.lemmas.List.{length-replicate, drop-replicate}
use Rattle.std.proofs.Math.Seq.{take-append_seam, drop-append_seam}
use Rattle.kx_message.specs.Ranges.{IsName}
use Rattle.kx_message.specs.Names.{HoldsName}
use Rattle.kx_message.proofs.name.NameTryFromRefSliceU8.try_from.Goals as goal

-- a room of zeros whose first bytes a name took
copied : (text : List ℕ) → IsName text
    → HoldsName (text ++ drop (length text) (replicate 64 0)) (length text)
copied text h =
    let zeros : List ℕ = replicate (64 - length text) 0 in
    rw (drop-replicate {X = ℕ} (length text) 64 0) (record {
      whole = rw (length-append text zeros, length-replicate {A = ℕ} (64 - length text) 0)
          (omega (arith, h.fits));
      within = h.fits;
      name = rw (take-append_seam text zeros) h;
      zeros = rw (take-append_seam text zeros, drop-append_seam text zeros) refl;
    })

pub invariant_of-result : goal.invariant_of-result
invariant_of-result c =
    let named : IsName c.args.text.now = search rules in
    rw c.copy_from_slice.ensures.after (copied _ named)
