-- The steps of a run as events.
use Rattle.std.specs.Prelude.{◌≡◌, ◌++◌, ℕ, List, [], ◌∷◌, Contains, slice_get, Some}
use Rattle.kx_audit.specs.Rerun.{behind_at}
use Rattle.kx_audit.specs.Told.{Told}
use Rattle.kx_audit.specs.declared.turn.Turn.{Turn}
use Rattle.kx_core.specs.declared.event.Event as happening
use Rattle.kx_core.specs.declared.event.Event.TheVariants as event
use Rattle.kx_machine.specs.declared.input.Input.{Input}
use Rattle.kx_machine.specs.declared.input.Input.TheVariants as input
use Rattle.kx_machine.specs.declared.machine.StoreMode.{StoreMode}
use Rattle.kx_message.specs.declared.message.Message.{Message}
use Rattle.kx_message.specs.declared.message.NodeId.{NodeId}
use Rattle.kx_nodes.specs.Again.{mode_for}
use Rattle.kx_nodes.specs.Replay.{Traced}
use Rattle.kx_nodes.specs.declared.trace.Step.{Step}

-- the message is delivered by its number among these
pub record IsDelivery {F : Type 0} (sent : List Message) (to : NodeId) (message : Message)
    (mode : StoreMode) (e : happening.Event F) : Type 0 where
  pub number : ℕ
  pub there : slice_get sent number ≡ Some message
  pub is : e ≡ event.Deliver number to mode

-- the node is handed the input; a message that was sent comes by its number
abbrev pub IsStepOf : {F : Type 0} → List Message → NodeId → Input → StoreMode
    → happening.Event F → Type 0
IsStepOf sent to (input.Deliver message) mode e =
    Contains sent message → IsDelivery sent to message mode e
IsStepOf sent to other mode e = e ≡ event.Hand to other mode

-- one event more, which is the step, and the messages that the step sent
pub record AddsEvent {F : Type 0} (behind : List Step) (x : Told) (before later : List Message)
    (events more : List (happening.Event F)) : Type 0 where
  pub event : happening.Event F
  pub is : IsStepOf before x.node x.step.input (mode_for x.step behind) event
  pub events_are : more ≡ events ++ event ∷ []
  pub sent : later ≡ before ++ x.taken.messages

-- the events are the steps at these turns, after these messages were sent
abbrev pub AreSteps : {B F : Type 0} → List (Traced B) → List Message → List Turn → List Told
    → List (happening.Event F) → Type 0
AreSteps traces sent [] [] [] = Unit {0}
AreSteps traces sent (turn ∷ turns) (x ∷ told) (e ∷ events) =
    IsStepOf sent x.node x.step.input (mode_for x.step (behind_at traces turn)) e
    × AreSteps traces (sent ++ x.taken.messages) turns told events
AreSteps traces sent turns told events = ⊥
