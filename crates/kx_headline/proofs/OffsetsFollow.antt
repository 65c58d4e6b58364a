-- A group's committed offsets are those of decided-commit transactions alone, if each marker has
-- the outcome that was decided.
use Rattle.std.proofs.Common.{◌≡◌, ℕ, ℤ, negsuc, ◌++◌, Bool, true, false, ◌&&◌, cond, List, []}
use Rattle.std.proofs.Common.{◌∷◌}
use Rattle.std.proofs.Common.{Some, None, Contains, refl, sym, ap, ◌∙◌, arith, subst}
use Rattle.std.proofs.Common.{flat_map}
use Rattle.std.specs.List.{last_or}
use Rattle.std.specs.Prelude.{if◌then◌else◌, unwrap_or}
use Rattle.std.specs.Option.{option_map_or}
use Rattle.kx_message.specs.Ranges.{offsets_partition}
use Rattle.kx_message.specs.declared.code.ErrorCode.TheVariants.{NoError, UnstableOffsetCommit}
use Rattle.kx_message.specs.declared.outcome.Outcome.TheVariants.{Commit}
use Rattle.kx_model.specs.Coordinator.{commits, decision, same_outcome}
use Rattle.kx_model.specs.Groups.{OffsetAnswer, committed_in, group_offset, marked_offset}
use Rattle.kx_model.specs.Groups.{offsets_in}
use Rattle.kx_model.specs.Headline.{FollowsDecisions, HasOneOutcome}
use Rattle.kx_model.specs.Log.{Entry, Plain, Data, Control, Sequenced}
use Rattle.kx_model.specs.Transactions.{has_commit, is_commit_of}
use Rattle.kx_model.specs.World.{World, entries_at, notes}
use Rattle.kx_laws.proofs.ClosedByCommit.{IsCommit, commit_tells}
use Rattle.kx_laws.proofs.Membership.{any_holds}

module _ (w : World) (one : HasOneOutcome w) (p : ℕ) where
  decided : (id epoch : ℕ) (entry : Entry) → Contains (entries_at w p) entry
      → IsCommit id epoch entry → decision (notes w) id epoch ≡ Some Commit
  decided id epoch entry c k =
      let (e, is, d) = one.decided p k.marker (subst (Contains (entries_at w p)) k.is c) in
      let same : e ≡ epoch = omega (arith, is, k.raised) in
      ap (λ id. decision (notes w) id epoch) (sym k.its_id)
      ∙ ap (decision (notes w) k.marker.id) (sym same) ∙ d ∙ ap Some k.outcome

  -- what counts by its marker counts by what is decided
  counts_alike : (id epoch : ℕ) → has_commit (entries_at w p) id epoch
      ≡ (has_commit (entries_at w p) id epoch && commits (notes w) id epoch)
  counts_alike id epoch = at (has_commit (entries_at w p) id epoch) refl
    where
      at : (b : Bool) → has_commit (entries_at w p) id epoch ≡ b
          → b ≡ (b && commits (notes w) id epoch)
      at false e = refl
      at true e =
          let (entry, c, t) = any_holds (is_commit_of id epoch) (entries_at w p) e in
          sym (ap (λ o. option_map_or (same_outcome Commit) o false)
          (decided id epoch entry c (commit_tells id epoch entry t)))

committed_alike : (c d : Sequenced → Bool) → ((b : Sequenced) → c b ≡ d b) → (group : List ℕ)
    (q : ℕ) (entry : Entry) → committed_in c group q entry ≡ committed_in d group q entry
committed_alike c d h group q (Plain records) = refl
committed_alike c d h group q (Control m) = refl
committed_alike c d h group q (Data b) = ap (λ t. cond t (offsets_in group q b) []) (h b)

all_alike : (c d : Sequenced → Bool) → ((b : Sequenced) → c b ≡ d b) → (log : List Entry)
    (group : List ℕ) (q : ℕ)
    → flat_map (committed_in c group q) log ≡ flat_map (committed_in d group q) log
all_alike c d h [] group q = refl
all_alike c d h (entry ∷ log) group q =
    ap (λ l. l ++ flat_map (committed_in c group q) log) (committed_alike c d h group q entry)
    ∙ ap (λ l. committed_in d group q entry ++ l) (all_alike c d h log group q)

offset_alike : (w : World) → HasOneOutcome w → (p : ℕ) (group : List ℕ) (q : ℕ)
    → marked_offset (entries_at w p) group q
    ≡ group_offset (entries_at w p) (commits (notes w)) group q
unfolding marked_offset group_offset
offset_alike w one p group q =
    let log = entries_at w p in
    let marked = λ (b : Sequenced). has_commit log b.id b.epoch in
    let both = λ (b : Sequenced). has_commit log b.id b.epoch && commits (notes w) b.id b.epoch in
    ap (λ offsets. unwrap_or (last_or None offsets) (negsuc 0))
    (all_alike marked both (λ b. counts_alike w one p b.id b.epoch) log group q)

-- what is fetched of a group's offsets follows what is decided
pub follows_decisions : (w : World) → HasOneOutcome w → (group : List ℕ) (q : ℕ)
    → FollowsDecisions w group q
follows_decisions w one group q = record {
  any = ap good (offset_alike w one offsets_partition group q);
  pending = λ e. ap by_pending e;
  stable = λ e. ap by_pending e;
}
  where
    good : ℤ → OffsetAnswer
    good offset = record { code = NoError; offset = offset }

    by_pending : Bool → OffsetAnswer
    by_pending pending =
        if pending then record { code = UnstableOffsetCommit; offset = negsuc 0 }
        else record {
          code = NoError;
          offset = marked_offset (entries_at w offsets_partition) group q;
        }
