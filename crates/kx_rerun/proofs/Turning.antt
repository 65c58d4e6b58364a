-- The step of a turn is the one that is told.
use Rattle.std.proofs.Common.{◌≡◌, ◌∙◌, List, Some, refl, sym, ap, subst}
use Rattle.std.specs.Prelude.{slice_get}
use Rattle.std.proofs.lemmas.Option.{same_Some}
use Rattle.kx_audit.specs.Making.{Trail, named, trail_of}
use Rattle.kx_audit.specs.Replayed.{trails_of}
use Rattle.kx_audit.specs.Rerun.{behind_at}
use Rattle.kx_audit.specs.Run.{IsTurn, step_at, step_in}
use Rattle.kx_audit.specs.Told.{Told}
use Rattle.kx_audit.specs.declared.turn.Turn.{Turn}
use Rattle.kx_audit.proofs.Places.{from_map}
use Rattle.kx_cluster.specs.Any.{any_making, any_state}
use Rattle.kx_cluster.specs.declared.making.AnyMaking.{AnyMaking}
use Rattle.kx_cluster.specs.declared.making.AnyMaking.TheVariants as any
use Rattle.kx_core.specs.declared.event.Event as happening
use Rattle.kx_machine.specs.declared.machine.Making.TheVariants as making
use Rattle.kx_machine.specs.declared.machine.StoreMode.{StoreMode}
use Rattle.kx_message.specs.declared.message.Message.{Message}
use Rattle.kx_message.specs.declared.message.NodeId.{NodeId}
use Rattle.kx_nodes.specs.Again.{mode_for}
use Rattle.kx_nodes.specs.Replay.{Traced, name_of}
use Rattle.kx_nodes.specs.declared.trace.Step.{Step}
use Rattle.kx_rerun.specs.Stepping.{IsStepOf}
use Rattle.kx_system.specs.Processor.{Images}

module _ {F : Type 0} (image_of : F → Images) where
  named_is : (m : AnyMaking F) → named (any_making image_of m) ≡ name_of (any_state image_of m)
  named_is (any.Plain making.Coordinator) = refl
  named_is (any.Plain (making.Partition number)) = refl
  named_is (any.Plain (making.Client number txn timeout)) = refl
  named_is (any.Processor m) = refl

  module _ (traces : List (Traced (AnyMaking F))) (turn : Turn) (x : Told)
      (is : IsTurn (trails_of (any_making image_of) traces) turn x)
      (trace : Traced (AnyMaking F)) (there : slice_get traces turn.trace ≡ Some trace) where
    trail_is : trail_of (any_making image_of) trace ≡ is.trail
    trail_is =
        let of = from_map (trail_of (any_making image_of)) traces turn.trace is.trail is.there in
        let same : of.0 ≡ trace = same_Some of.0 trace (sym of.1 ∙ there) in
        ap (trail_of (any_making image_of)) (sym same) ∙ of.2

    node_is : (node : NodeId) → node ≡ name_of (any_state image_of trace.made)
        → node ≡ x.node
    node_is node named_so =
        named_so ∙ sym (named_is trace.made) ∙ ap (λ (t : Trail). named t.made) trail_is
        ∙ sym is.node_is

    step_is : (step : Step) → step_at traces turn ≡ Some step → step ≡ x.step
    step_is step at =
        same_Some step x.step (sym at ∙ ap (λ o. step_in o turn.step) there
        ∙ ap (λ (t : Trail). slice_get t.steps turn.step) trail_is ∙ is.step_is)

    pub is_step : (sent : List Message) (node : NodeId) (step : Step) (store : StoreMode)
        (e : happening.Event F) → node ≡ name_of (any_state image_of trace.made)
        → step_at traces turn ≡ Some step
        → ((s : Step) → step_at traces turn ≡ Some s → store ≡ mode_for s (behind_at traces turn))
        → IsStepOf sent node step.input store e
        → IsStepOf sent x.node x.step.input (mode_for x.step (behind_at traces turn)) e
    is_step sent node step store e named_so at mode steps =
        let same = step_is step at in
        subst (λ (s : Step).
        IsStepOf sent x.node s.input (mode_for s (behind_at traces turn)) e) same
        (subst (λ (m : StoreMode). IsStepOf sent x.node step.input m e) (mode step at)
        (subst (λ (n : NodeId). IsStepOf sent n step.input store e)
        (node_is node named_so) steps))
