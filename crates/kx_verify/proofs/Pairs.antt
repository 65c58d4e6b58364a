-- The id and epoch of a request's batch.
use Rattle.std.proofs.Common.{◌≡◌, ℕ, ℤ, pos, negsuc, ◌≤ℤ◌, List, Some, refl, true, false}
use Rattle.std.proofs.Common.{arith}
use Rattle.std.specs.Prelude.{nat_le, ◌&&◌}
use Rattle.std.proofs.lemmas.Bool.{le-leb}
use Rattle.std.proofs.lemmas.Int.{ints}
use Rattle.kx_batch.specs.Batch.{Batch, batch_of, is_control}
use Rattle.kx_message.specs.declared.message.Held.{Held}
use Rattle.kx_message.specs.declared.payload.PartitionOffset.{PartitionOffset}
use Rattle.kx_model.specs.Groups.{offsets_batch}
use Rattle.kx_model.specs.Log.{entry_in}
use Rattle.kx_model.specs.Produce.{is_sequenced}
use Rattle.kx_model.specs.Verification.{pair_in}
use Rattle.kx_offsets.specs.Facts.{CommitFits}
use Rattle.kx_offsets.proofs.Commits.{commit_pair as read_pair}

-- that of a commit is the one that it was sent with
pub commit_pair : (group : List ℕ) (held : Held) (first : ℤ) (offsets : List PartitionOffset)
    → pos 0 ≤ℤ first → CommitFits group held first offsets
    → pair_in (entry_in (batch_of (offsets_batch group held first offsets))) ≡ Some held
commit_pair group held (pos n) offsets le fits = read_pair group held n offsets fits
commit_pair group held (negsuc n) offsets le fits = absurd (omega (arith, ints, le))

tests : (id epoch n : ℕ)
    → (((nat_le 0 id && nat_le 0 epoch) && nat_le 0 n) && true) ≡ true
tests id epoch n = rw (
  le-leb 0 id (omega arith),
  le-leb 0 epoch (omega arith),
  le-leb 0 n (omega arith),
) refl

-- that of a batch of a producer is read from its fields
pub sequenced_pair : (b : Batch) (id epoch : ℕ) (first : ℤ) → is_control b ≡ false
    → b.producer_id ≡ pos id → b.producer_epoch ≡ pos epoch → b.base_sequence ≡ first
    → pos 0 ≤ℤ first
    → (is_sequenced b ≡ true)
    × (pair_in (entry_in b) ≡ Some (record { id = id; epoch = epoch }))
unfolding entry_in
sequenced_pair b id epoch (pos n) control id_is epoch_is first_is le =
    let passes : is_sequenced b ≡ true =
    rw (id_is, epoch_is, first_is, control) (tests id epoch n) in
    (passes, rw (control, id_is, epoch_is, first_is) refl)
sequenced_pair b id epoch (negsuc n) control id_is epoch_is first_is le =
    absurd (omega (arith, ints, le))
