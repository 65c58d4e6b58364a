-- A system of nodes under a script: which of their appends are to fail, and what an event leaves.
use Rattle.std.specs.Prelude.{ℕ, List, length, drop, Bool, true, false, ◌||◌}
use Rattle.std.specs.Prelude.{Option, Some, None, replicate}
use Rattle.std.specs.Prelude.{slice_index_or, slice_set, ◌==◌, nat_lt, if◌then◌else◌}
use Rattle.kx_core.specs.World.{place_of, store_fails}
use Rattle.kx_message.specs.Ranges.{data_partitions, offsets_partition}
use Rattle.kx_message.specs.Receiver.{receiver_of}
use Rattle.kx_message.specs.declared.message.Message.{Message}
use Rattle.kx_message.specs.declared.message.NodeId.{NodeId}
use Rattle.kx_message.specs.declared.message.NodeId.TheVariants as node
use Rattle.kx_model.specs.Client.{Command}
use Rattle.kx_model.specs.Disk.{Store, Works, Fails}
use Rattle.kx_model.specs.Step.{Input, Commands, Restarts}
use Rattle.kx_model.specs.World.{World, Deliver, Hand}
use Rattle.kx_script.specs.declared.marks.Marks.{Marks}
use Rattle.kx_script.specs.declared.order.Left.{Left}
use Rattle.kx_script.specs.declared.order.Left.TheVariants.{Nothing, Whole}
use Rattle.kx_system.specs.System.{System, SystemEvent, Happens, start_system, system_step}

------ appends that are to fail

-- what a node's store does, if its next append is to fail or not
abbrev pub store_of : Option Left → Store
store_of None = Works
store_of (Some Nothing) = Fails false
store_of (Some Whole) = Fails true

abbrev pub no_marks : Marks
no_marks =
    record { coordinator = None; partitions = replicate data_partitions None; offsets = None }

-- what the next append of a node is to leave, if it is to fail
abbrev pub mark_at : Marks → NodeId → Option Left
mark_at marks node.Coordinator = marks.coordinator
mark_at marks (node.Partition number) =
    if number == offsets_partition then marks.offsets
    else slice_index_or marks.partitions number None
mark_at marks (node.Client number) = None

abbrev pub with_mark : Marks → NodeId → Option Left → Marks
with_mark marks node.Coordinator mark = record marks { coordinator = mark }
with_mark marks (node.Partition number) mark = record marks {
  offsets = if number == offsets_partition then mark else marks.offsets;
  partitions = if number == offsets_partition then marks.partitions
      else slice_set marks.partitions number mark;
}
with_mark marks (node.Client number) mark = marks

------ what a line names

abbrev pub has_partition : World → ℕ → Bool
has_partition w number = nat_lt number (length w.partitions)

-- a node that has a log
abbrev pub has_node : World → NodeId → Bool
has_node w node.Coordinator = true
has_node w (node.Partition number) = number == offsets_partition || has_partition w number
has_node w (node.Client number) = false

------ a session

pub record Session : Type 0 where
  pub system : System
  pub marks : Marks

abbrev pub opening : ℕ → Session
opening count = record { system = start_system count; marks = no_marks }

-- what a node's store does in its next step
abbrev pub store_at : Session → NodeId → Store
store_at s place = store_of (mark_at s.marks place)

-- how long a client's transactions may stay open, in milliseconds
abbrev pub timeout : ℕ
timeout = 60000

-- a node is handed an input, while its store does what its next step does
abbrev pub hands : Session → NodeId → Input → SystemEvent
hands s to input = Happens (Hand to input (store_at s to))

-- a message comes to the node that it is for
abbrev pub delivers : Session → ℕ → Message → SystemEvent
delivers s number m = Happens (Deliver number (receiver_of m) (store_at s (receiver_of m)))

-- a client is told to do something, whose node has no store
abbrev pub tells : ℕ → Command → SystemEvent
tells client command = Happens (Hand (node.Client client) (Commands command) Works)

-- a node is opened again, and no append of it fails then
abbrev pub restarts : World → NodeId → SystemEvent
restarts w place = Happens (Hand place (Restarts w.clock) Works)

-- an append that was to fail has failed
abbrev pub marks_after : Marks → NodeId → Bool → Marks
marks_after marks place true = with_mark marks place None
marks_after marks place false = marks

abbrev pub session_after : Session → SystemEvent → Session
session_after s event = record {
  system = (system_step s.system event).0;
  marks = marks_after s.marks (place_of event) (store_fails s.system event);
}

-- what an event hands out
abbrev pub handed_out : System → SystemEvent → List Message
handed_out s event = drop (length s.world.sent) (system_step s event).0.world.sent
