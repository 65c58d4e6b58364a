-- In a world whose partitions hold and whose markers agree, readers of committed records get
-- exactly what is visible, and nothing of a transaction that isn't decided to commit.
use Rattle.std.proofs.Common.{◌≡◌, ℕ, ◌+◌, ℤ, true, false, ◌&&◌}
use Rattle.std.proofs.Common.{List, [], ◌∷◌, ◌++◌, filter, Option, Some, Ok}
use Rattle.std.proofs.Common.{None, Contains, refl, sym, ap, ◌∙◌, subst, arith}
use Rattle.std.specs.Prelude.{IfSome, int_le, int_lt}
use Rattle.std.specs.Option.{option_map_or}
use Rattle.kx_message.specs.declared.message.Message.{Message}
use Rattle.kx_message.specs.declared.outcome.Outcome.{Outcome}
use Rattle.kx_message.specs.declared.outcome.Outcome.TheVariants.{Abort, Commit}
use Rattle.kx_model.specs.Coordinator.{commits, decision, same_outcome}
use Rattle.kx_model.specs.Headline.{GivesVisible, HasOneOutcome}
use Rattle.kx_model.specs.Log.{Data, Control, Marker, Sequenced}
use Rattle.kx_model.specs.Page.{Fetched, answer_to, page}
use Rattle.kx_model.specs.PartitionNode.{Partition}
use Rattle.kx_model.specs.Reading.{committed_of, visible}
use Rattle.kx_model.specs.World.{Event, World, entries_at, log_at, log_in, notes, partition_at, run}
use Rattle.kx_model.proofs.Schedules.{decision_stands}
use Rattle.kx_laws.specs.Grown.{IsGrown, Unwritten}
use Rattle.kx_laws.proofs.CommittedPages.{fetched_page}
use Rattle.kx_laws.proofs.CommittedRecords.{gives_standing}
use Rattle.kx_laws.proofs.GrownLogs.{Admits, each_admitted, each_stands}
use Rattle.kx_laws.proofs.LogRules.{closes_its_own}
use Rattle.kx_laws.proofs.Membership.{in_the_middle}
use Rattle.kx_headline.proofs.PartitionsAlways.{PartitionsHold}
use Rattle.kx_headline.proofs.PartitionHolds.{MarkersFit, PartitionHolds, built_grown}
use Rattle.kx_laws.proofs.DroppedIds.{KnowsClosed}
use Rattle.kx_laws.proofs.Splits.{Each}

grown_in : (sent : List Message) (q : ℕ) (o : Option Partition)
    → IfSome o (PartitionHolds sent q) → MarkersFit sent → IsGrown (log_in o)
grown_in sent q None h fit = Unwritten
grown_in sent q (Some p) h fit = built_grown sent q p.disk.kept fit h.log

-- each partition's log is grown
pub grown_at : (w : World) (q : ℕ) → PartitionsHold w → MarkersFit w.sent → IsGrown (log_at w q)
grown_at w q all fit = grown_in w.sent q (partition_at w q) (all q) fit

same_either_way : (a b : Outcome) → same_outcome a b ≡ same_outcome b a
same_either_way Abort Abort = refl
same_either_way Abort Commit = refl
same_either_way Commit Abort = refl
same_either_way Commit Commit = refl

-- what a closing marker says is what is decided
decision_is : (w : World) → HasOneOutcome w → (q : ℕ) (d : Sequenced) (m : Marker)
    → Contains (entries_at w q) (Control m) → m.id ≡ d.id → m.epoch ≡ d.epoch + 1
    → decision (notes w) d.id d.epoch ≡ Some m.outcome
decision_is w one q d m here ids raised =
    let h = one.decided q m here in
    let epochs : h.0 ≡ d.epoch = omega (arith, h.1, raised) in
    ap (λ i. decision (notes w) i d.epoch) (sym ids)
    ∙ ap (decision (notes w) m.id) (sym epochs) ∙ h.2

-- of each closed transaction it is known whether it commits, in the world and in each to which a
-- schedule leads from there
pub decided_known : (w : World) (events : List Event) (q : ℕ) → HasOneOutcome w
    → Each Admits (entries_at w q)
    → KnowsClosed (entries_at w q) (commits (notes (run events w)))
decided_known w events q one each = record {
  known = λ before between after d m parts t ids none.
      let raised = closes_its_own before between d m
      (each (before ++ Data d ∷ between) (Control m) after parts) t none ids in
      let here = subst (λ l. Contains l (Control m)) (sym parts)
      (in_the_middle (before ++ Data d ∷ between) after (Control m)) in
      ap (λ o. option_map_or (same_outcome Commit) o false)
      (decision_stands events w d.id d.epoch m.outcome
      (decision_is w one q d m here ids raised))
      ∙ same_either_way Commit m.outcome;
}

-- a page of any partition
pub gives_visible : (w : World) → PartitionsHold w → MarkersFit w.sent → HasOneOutcome w
    → (q from room : ℕ) → GivesVisible w q (page (log_at w q) from room true)
unfolding page run
gives_visible w all fit one q from room =
    let grown = grown_at w q all fit in
    gives_standing (log_at w q) (commits (notes w)) from room (each_stands (log_at w q) grown)
    (decided_known w [] q one (each_admitted (log_at w q) grown))

-- what a fetch of committed records was answered with
pub fetch_gives_visible : (w : World) → PartitionsHold w → MarkersFit w.sent → HasOneOutcome w
    → (q room : ℕ) (from : ℤ) (got : Fetched) → answer_to (log_at w q) from room true ≡ Ok got
    → committed_of got ≡ filter (λ s. int_le got.from s.offset && int_lt s.offset got.next)
    (visible (entries_at w q) (commits (notes w)))
fetch_gives_visible w all fit one q room from got e =
    let f = fetched_page (log_at w q) room from got e in
    subst (λ (g : Fetched). committed_of g
    ≡ filter (λ s. int_le g.from s.offset && int_lt s.offset g.next)
    (visible (entries_at w q) (commits (notes w)))) (sym f.2)
    (gives_visible w all fit one q f.0 room)
