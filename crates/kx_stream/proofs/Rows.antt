-- Messages in a row, and what a machine hands out for them.
use Rattle.std.proofs.Common.{◌≡◌, ◌≤◌, ℕ, List, [], ◌∷◌, ◌++◌, Option, Ok, Err, refl, sym, ap}
use Rattle.std.proofs.Common.{◌∙◌, ◌+◌, ◌<◌, suc, length, drop, subst, append_assoc, append-nil}
use Rattle.std.proofs.Common.{arith, get_or}
use Rattle.std.specs.Prelude.{take}
use Rattle.std.proofs.Math.Seq.{take-suc}
use Rattle.std.proofs.lemmas.List.{take-append-drop, take_all}
use Rattle.std.specs.Io.KnownBytes.{Appends}
use Rattle.std.proofs.KnownBytes.{Appends-nil}
use Rattle.kx_machine.specs.Meaning.{NodeState}
use Rattle.kx_message.specs.declared.message.Message.{Message}
use Rattle.kx_model.specs.Disk.{Store}
use Rattle.kx_stream.specs.Sending.{Written, frames}
use Rattle.kx_stream.specs.Serving.{Answers, Serves}
use Rattle.kx_stream.specs.Stream.{AllServed, OneServed}
use Rattle.kx_stream.specs.declared.fault.StreamFault.{StreamFault}
use Rattle.kx_stream.specs.declared.fault.StreamFault.TheVariants.{Read, Write, Frame}
use Rattle.kx_stream.proofs.Writing.{appends_both, broken_after, cut_behind, frames-append}

-- those up to a place, with the one that stands there
pub split_at : (all : List Message) (at : ℕ) (x : Message) → (at < length all)
    → x ≡ get_or all at x
    → (take (at + 1) all ≡ take at all ++ x ∷ [])
    × (all ≡ (take at all ++ x ∷ []) ++ drop (at + 1) all)
split_at all at x within is =
    let next : at + 1 ≡ suc at = omega arith in
    let longer : take (at + 1) all ≡ take at all ++ x ∷ [] =
    ap (λ (n : ℕ). take n all) next ∙ take-suc all at x within
    ∙ ap (λ (e : Message). take at all ++ e ∷ []) (sym is) in (
      longer,
      sym (take-append-drop (at + 1) all)
          ∙ ap (λ (l : List Message). l ++ drop (at + 1) all) longer,
    )

pub taken_all : (all : List Message) (at : ℕ) → length all ≤ at → take at all ≡ all
taken_all all at enough = take_all at all enough

module _ {M : Type 0} (stands : NodeState → M → Type 0)
    (allows : M → Option ℕ → Store → Type 0) where
  abbrev Serving : M → List Message → List Message → M → Type 0
  Serving = Serves stands allows

  pub serves_none : (m : M) → Serving m [] [] m
  unfolding Serves
  serves_none m = (refl, refl)

  pub serves_both : (first mid last : M) (xs ys handed more : List Message)
      → Serving first xs handed mid → Serving mid ys more last
      → Serving first (xs ++ ys) (handed ++ more) last
  unfolding Serves
  serves_both first mid last [] ys handed more none rest =
      subst (λ (l : List Message). Serving first ys (l ++ more) last) (sym none.0)
      (subst (λ m. Serving m ys more last) none.1 rest)
  serves_both first mid last (x ∷ xs) ys handed more (next, one, others, answers, behind, parts)
      rest = (
        next,
        one,
        others ++ more,
        answers,
        serves_both next mid last xs ys others more behind rest,
        ap (λ (l : List Message). l ++ more) parts ∙ append_assoc one others more,
      )

  pub serves_one : (before after : M) (x : Message) (handed : List Message)
      → Answers stands allows before x handed after → Serving before (x ∷ []) handed after
  unfolding Serves
  serves_one before after x handed answers =
      (after, handed, [], answers, (refl, refl), sym (append-nil handed))

  -- these messages were served, and all that was handed out is written
  pub record Far (front : List Message) (before after : M) (old new : Option (List ℕ))
      : Type 0 where
    pub handed : List Message
    pub serves : Serving before front handed after
    pub written : Appends old new (frames handed)

  pub far_none : (m : M) (known : Option (List ℕ)) → Far [] m m known known
  far_none m known =
      record { handed = []; serves = serves_none m; written = Appends-nil known }

  pub far_more : (before mid after : M) (old now new : Option (List ℕ)) (front : List Message)
      (x : Message) → Far front before mid old now
      → OneServed stands allows x mid after now new (Ok tt)
      → Far (front ++ x ∷ []) before after old new
  far_more before mid after old now new front x far one = record {
    handed = far.handed ++ one.handed;
    serves = serves_both before mid after front (x ∷ []) far.handed one.handed far.serves
        (serves_one mid after x one.handed one.answers);
    written = appends_both old now new far.handed one.handed far.written one.written;
  }

  written_behind : (old now new : Option (List ℕ)) (handed more : List Message)
      (fault : StreamFault) → Appends old now (frames handed) → Written more now new (Err fault)
      → Written (handed ++ more) old new (Err fault)
  written_behind old now new handed more (Frame fault) first cut =
      cut_behind old now new handed more fault first cut
  written_behind old now new handed more Write first cut =
      broken_after old now new (frames handed) (frames more) (frames (handed ++ more))
      (frames-append handed more) first cut
  written_behind old now new handed more Read first cut = absurd cut

  pub far_fails : (before mid after : M) (old now new : Option (List ℕ))
      (all front : List Message) (x : Message) (rest : List Message) (fault : StreamFault)
      → Far front before mid old now → OneServed stands allows x mid after now new (Err fault)
      → all ≡ (front ++ x ∷ []) ++ rest
      → AllServed stands allows all before after old new (Err fault)
  far_fails before mid after old now new all front x rest fault far one parts = record {
    front = front ++ x ∷ [];
    untaken = rest;
    parts = parts;
    all = tt;
    handed = far.handed ++ one.handed;
    serves = serves_both before mid after front (x ∷ []) far.handed one.handed far.serves
        (serves_one mid after x one.handed one.answers);
    written = written_behind old now new far.handed one.handed fault far.written one.written;
  }

  pub far_all : (before after : M) (old new : Option (List ℕ)) (all : List Message)
      → Far all before after old new → AllServed stands allows all before after old new (Ok tt)
  far_all before after old new all far = record {
    front = all;
    untaken = [];
    parts = sym (append-nil all);
    all = refl;
    handed = far.handed;
    serves = far.serves;
    written = far.written;
  }
