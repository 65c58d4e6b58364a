-- Each event means one of the definitions that is the step, with the store that its trace tells.
use Rattle.std.proofs.Common.{◌≡◌, ◌∙◌, ℕ, Bool, true, false, List, Some, Contains}
use Rattle.std.proofs.Common.{refl, sym, ap, subst, inl, inr, le_refl}
use Rattle.std.specs.Prelude.{slice_get}
use Rattle.std.proofs.lemmas.Option.{get_or_from_slice_get, slice_get_within}
use Rattle.kx_audit.specs.Schedule.{IsEventOf}
use Rattle.kx_batch.specs.Batch.{batch_limit}
use Rattle.kx_core.specs.declared.event.Event as happening
use Rattle.kx_core.specs.declared.event.Event.TheVariants as event
use Rattle.kx_machine.specs.Meaning.{input_of}
use Rattle.kx_machine.specs.declared.input.Input.{Input}
use Rattle.kx_machine.specs.declared.input.Input.TheVariants as input
use Rattle.kx_machine.specs.declared.machine.StoreMode.{StoreMode}
use Rattle.kx_message.specs.declared.message.Message.{Message}
use Rattle.kx_message.specs.declared.message.NodeId.{NodeId}
use Rattle.kx_model.specs.Disk.{Store}
use Rattle.kx_model.specs.World.{Deliver, Hand, IsInput}
use Rattle.kx_nodes.specs.Again.{leaves_whole, mode_by, mode_for, store_by, store_for}
use Rattle.kx_nodes.specs.declared.mark.Mark.{Mark}
use Rattle.kx_nodes.specs.declared.mark.Mark.TheVariants as mark
use Rattle.kx_nodes.specs.declared.trace.Step.{Step}
use Rattle.kx_pipeline.specs.OpenSystems.{Inside}
use Rattle.kx_rerun.specs.Events.{IsSure, IsSureMode, meaning, store_of}
use Rattle.kx_rerun.specs.Stepping.{IsStepOf}
use Rattle.kx_system.specs.Processor.{Images}
use Rattle.kx_system.specs.System.{Happens, IsSystemEvent, SystemEvent}

------ the store

store_by_mark : (m : Mark) (whole : Bool) → store_of (mode_by m whole) ≡ store_by m whole
store_by_mark mark.Unread whole = refl
store_by_mark mark.Failed true = refl
store_by_mark mark.Failed false = refl
store_by_mark (mark.Unwritten found) true = refl
store_by_mark (mark.Unwritten found) false = refl
store_by_mark mark.Worked whole = refl
store_by_mark mark.Found whole = refl
store_by_mark mark.UsedUp whole = refl

sure_by_mark : (m : Mark) (whole : Bool) → IsSureMode (mode_by m whole)
sure_by_mark mark.Unread whole = tt
sure_by_mark mark.Failed true = inr (le_refl batch_limit)
sure_by_mark mark.Failed false = inl refl
sure_by_mark (mark.Unwritten found) true = inr (le_refl batch_limit)
sure_by_mark (mark.Unwritten found) false = inl refl
sure_by_mark mark.Worked whole = tt
sure_by_mark mark.Found whole = tt
sure_by_mark mark.UsedUp whole = tt

pub store_told : (step : Step) (behind : List Step)
    → store_of (mode_for step behind) ≡ store_for step behind
store_told step behind = store_by_mark step.mark (leaves_whole behind)

pub sure_told : (step : Step) (behind : List Step) → IsSureMode (mode_for step behind)
sure_told step behind = sure_by_mark step.mark (leaves_whole behind)

------ the event

-- it means an event of the system that is the step
pub record IsMeant {F : Type 0} (image_of : F → Images) (sent : List Message) (to : NodeId)
    (i : Input) (store : Store) (e : happening.Event F) : Type 0 where
  pub event : SystemEvent
  pub means : meaning image_of e ≡ Inside event
  pub is : IsEventOf sent to i store event
  pub fits : IsSystemEvent event
  pub sure : IsSure e

module _ {F : Type 0} (image_of : F → Images) (sent : List Message) (to : NodeId)
    (mode : StoreMode) (store : Store) (same : store_of mode ≡ store) (sure : IsSureMode mode)
    (e : happening.Event F) where
  -- an input that is no message
  handed : (i : Input)
      → ((event : SystemEvent) → event ≡ Happens (Hand to (input_of i) store)
      → IsEventOf sent to i store event)
      → IsInput (input_of i) → e ≡ event.Hand to i mode
      → IsMeant image_of sent to i store e
  handed i any fits is = record {
    event = Happens (Hand to (input_of i) store);
    means = ap (meaning image_of) is
        ∙ ap (λ (x : Store). Inside (Happens (Hand to (input_of i) x))) same;
    is = any (Happens (Hand to (input_of i) store)) refl;
    fits = fits;
    sure = subst IsSure (sym is) sure;
  }

  -- the input of an event is in range
  input_fits : (i : Input) (own : Store) (event : SystemEvent)
      → event ≡ Happens (Hand to (input_of i) own) → IsSystemEvent event
      → IsInput (input_of i)
  input_fits i own event is fits = subst IsSystemEvent is fits

  contained : (m : Message) (which : ℕ) → slice_get sent which ≡ Some m → Contains sent m
  contained m which there =
      (which, slice_get_within sent which m there, get_or_from_slice_get sent which m m there)

  pub meant : (i : Input) (own : Store) (event : SystemEvent) → IsEventOf sent to i own event
      → IsSystemEvent event → IsStepOf sent to i mode e → IsMeant image_of sent to i store e
  meant (input.Deliver m) own event of fits is =
      let d = is (contained m of.0 of.1) in
      record {
        event = Happens (Deliver d.number to store);
        means = ap (meaning image_of) d.is
            ∙ ap (λ (x : Store). Inside (Happens (Deliver d.number to x))) same;
        is = (d.number, d.there, refl);
        fits = tt;
        sure = subst IsSure (sym d.is) sure;
      }
  meant (input.Command command) own event of fits is =
      handed (input.Command command) (λ event same. same)
      (input_fits (input.Command command) own event of fits) is
  meant (input.Expire now) own event of fits is =
      handed (input.Expire now) (λ event same. same)
      (input_fits (input.Expire now) own event of fits) is
  meant input.Remind own event of fits is =
      handed input.Remind (λ event same. same) (input_fits input.Remind own event of fits) is
  meant (input.Drop group member) own event of fits is =
      handed (input.Drop group member) (λ event same. same)
      (input_fits (input.Drop group member) own event of fits) is
  meant (input.Put values) own event of fits is =
      handed (input.Put values) (λ event same. same)
      (input_fits (input.Put values) own event of fits) is
  meant (input.Restart now) own event of fits is =
      handed (input.Restart now) (λ event same. same)
      (input_fits (input.Restart now) own event of fits) is
