-- What an audit's yes means.
use Rattle.std.specs.Prelude.{◌≡◌, ℕ, List, slice_get, Some}
use Rattle.kx_audit.specs.Joined.{Passed}
use Rattle.kx_audit.specs.Making.{Trail, named, node_of}
use Rattle.kx_audit.specs.Nodes.{node_in}
use Rattle.kx_audit.specs.Schedule.{IsScheduleOf}
use Rattle.kx_audit.specs.Told.{Told, told_in}
use Rattle.kx_machine.specs.Meaning.{NodeState}
use Rattle.kx_message.specs.declared.message.Message.{Message}
use Rattle.kx_nodes.specs.Replay.{Replays}
use Rattle.kx_system.specs.System.{System, SystemEvent}

-- the system's node of the trace's name is one to which the trace leads, and is such
pub record EndsSo (s : System) (t : Trail) (Stands : NodeState → Type 0) : Type 0 where
  pub node : NodeState
  pub node_is : node_in s (named t.made) ≡ Some node
  pub replays : Replays (node_of t.made) t.steps node
  pub stands : Stands node

-- the steps, as they are told, are the events of a schedule, which led to the system from where
-- these messages had arrived from outside
pub record IsAudited (arrived : List Message) (trails : List Trail) (told : List Told)
    (Stands : ℕ → NodeState → Type 0) (s : System) : Type 0 where
  pub merged : List Passed
  pub events : List SystemEvent
  pub told_is : told_in merged ≡ told
  pub is : IsScheduleOf arrived trails merged events s
  pub ends : (k : ℕ) (t : Trail) → slice_get trails k ≡ Some t → EndsSo s t (Stands k)
