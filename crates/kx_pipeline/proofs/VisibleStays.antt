-- What is visible below a last stable offset stays as it is over schedules: the outcome of each
-- closed transaction is decided, and stands for ever.
use Rattle.std.proofs.Common.{◌≡◌, ◌⊎◌, inr, ℕ, ℤ, pos, ◌≤ℤ◌, List, [], ◌++◌, filter, sym, ap, ◌∙◌}
use Rattle.std.proofs.Common.{subst, arith}
use Rattle.std.proofs.lemmas.Int.{ints}
use Rattle.std.proofs.lemmas.List.{map-append}
use Rattle.kx_model.specs.Coordinator.{commits}
use Rattle.kx_model.specs.Headline.{HasOneOutcome}
use Rattle.kx_model.specs.Log.{entries, entry_of}
use Rattle.kx_model.specs.Reading.{visible}
use Rattle.kx_model.specs.Transactions.{last_stable_offset}
use Rattle.kx_model.specs.World.{Event, World, entries_at, log_at, notes, run}
use Rattle.kx_model.proofs.Schedules.{partitions_grow}
use Rattle.kx_laws.specs.Grown.{IsGrown}
use Rattle.kx_laws.proofs.GrownLogs.{each_admitted}
use Rattle.kx_laws.proofs.StableRanges.{stable_grows_on}
use Rattle.kx_laws.proofs.StableRanges as laws
use Rattle.kx_headline.proofs.WorldReaders.{decided_known}
use Rattle.kx_pipeline.specs.Visible.{between, visible_in}

-- what ends by a last stable offset goes on to end by it
pub stable_stays : (w : World) (events : List Event) (q : ℕ) (next : ℤ)
    → next ≤ℤ pos (last_stable_offset (entries_at w q))
    → next ≤ℤ pos (last_stable_offset (entries_at (run events w) q))
stable_stays w events q next low =
    let g = partitions_grow events w q in
    let grows : entries_at (run events w) q ≡ entries_at w q ++ entries g.more =
    ap entries g.parts ∙ map-append entry_of (log_at w q) g.more in
    subst (λ l. next ≤ℤ pos (last_stable_offset l)) (sym grows)
    (omega (arith, ints, low, stable_grows_on (entries_at w q) (entries g.more)))

-- what is visible of a range that is empty, or ends by a last stable offset, in a world and in each
-- to which a schedule leads from there
pub range_stays : (w : World) (events : List Event) (q : ℕ) (from next : ℤ)
    → IsGrown (log_at w q) → HasOneOutcome w
    → (next ≡ from) ⊎ (next ≤ℤ pos (last_stable_offset (entries_at w q)))
    → visible_in (run events w) q from next ≡ visible_in w q from next
unfolding run
range_stays w events q from next grown one stable =
    let g = partitions_grow events w q in
    let grows : entries_at (run events w) q ≡ entries_at w q ++ entries g.more =
    ap entries g.parts ∙ map-append entry_of (log_at w q) g.more in
    let each = each_admitted (log_at w q) grown in
    ap (λ l. filter (between from next) (visible l (commits (notes (run events w))))) grows
    ∙ laws.range_stays (entries_at w q) (commits (notes w)) (commits (notes (run events w)))
    (decided_known w [] q one each) (decided_known w events q one each) (entries g.more) from next
    stable

-- the same of one that ends by it
pub visible_stays : (w : World) (events : List Event) (q : ℕ) (from next : ℤ)
    → IsGrown (log_at w q) → HasOneOutcome w
    → next ≤ℤ pos (last_stable_offset (entries_at w q))
    → visible_in (run events w) q from next ≡ visible_in w q from next
visible_stays w events q from next grown one low =
    range_stays w events q from next grown one (inr low)
