-- Inputs, notes and steps in the words of the definitions.
use Rattle.std.specs.Prelude.{◌≡◌, ℕ, ℤ, Bool, true, false, not, ◌&&◌}
use Rattle.std.specs.Prelude.{List, [], ◌∷◌, length, Option, Some, None, is_some}
use Rattle.kx_client.specs.declared.fault.ClientFault.{ClientFault}
use Rattle.kx_client.specs.declared.fault.ClientFault.TheVariants as fault
use Rattle.kx_machine.specs.declared.input.Command as running
use Rattle.kx_machine.specs.declared.input.Command.TheVariants as told
use Rattle.kx_machine.specs.declared.input.Input as given
use Rattle.kx_machine.specs.declared.input.Input.TheVariants as input
use Rattle.kx_machine.specs.declared.machine.Making.{Making}
use Rattle.kx_machine.specs.declared.machine.Making.TheVariants as making
use Rattle.kx_machine.specs.declared.taken.Closing.TheVariants.{Read, Write}
use Rattle.kx_machine.specs.declared.taken.Note.{Note}
use Rattle.kx_machine.specs.declared.taken.Note.TheVariants as note
use Rattle.kx_machine.specs.declared.taken.Taken.{Taken}
use Rattle.kx_message.specs.declared.code.ErrorCode.{ErrorCode}
use Rattle.kx_message.specs.declared.code.ErrorCode.TheVariants.{NoError}
use Rattle.kx_message.specs.declared.payload.PartitionOffset.{PartitionOffset}
use Rattle.kx_model.specs.Client as model
use Rattle.kx_model.specs.Client.{Client, new_client}
use Rattle.kx_model.specs.Coordinator.{TxnEntry}
use Rattle.kx_model.specs.CoordinatorNode.{Coordinator, new_coordinator}
use Rattle.kx_model.specs.Disk.{Store, Fails}
use Rattle.kx_model.specs.Log.{Stored}
use Rattle.kx_model.specs.PartitionNode.{Partition, empty_partition}
use Rattle.kx_model.specs.Step.{Input, Comes, Commands, Expires, Reminds, Drops, Puts, Restarts}
use Rattle.kx_model.specs.Step.{StepNote, Done, Declined, PutAt, Coded, Unread, Unwritten}
use Rattle.kx_model.specs.Step.{RunsOut, NodeStep, coordinator_step, partition_step, client_step}
use Rattle.kx_partition.specs.declared.answer.Produced.{Produced}
use Rattle.kx_partition.specs.declared.answer.Produced.TheVariants as produced
use Rattle.kx_system.specs.Processor.{Processor, processor_step}
use Rattle.kx_txnlog.specs.Layout.{entry_text}

------ inputs

abbrev pub command_of_offsets : List PartitionOffset → model.Command
command_of_offsets (offset ∷ more) = model.SendOffsets offset more
-- a commit of offsets has at least one
command_of_offsets [] = model.Resend

abbrev pub command_of : running.Command → model.Command
command_of told.Init = model.Init
command_of told.Begin = model.Begin
command_of (told.Send partition values) =
    model.Send partition values.first values.more
command_of (told.Join group) = model.JoinGroup group
command_of told.Leave = model.LeaveGroup
command_of (told.Offsets offsets) = command_of_offsets offsets
command_of (told.End outcome) = model.End outcome
command_of told.Resend = model.Resend
command_of told.Poll = model.Poll

abbrev pub input_of : given.Input → Input
input_of (input.Deliver message) = Comes message
input_of (input.Command command) = Commands (command_of command)
input_of (input.Expire now) = Expires now
input_of input.Remind = Reminds
input_of (input.Drop group member) = Drops group member
input_of (input.Put values) = Puts values.first values.more
input_of (input.Restart now) = Restarts now

------ notes

abbrev pub fault_of : model.Fault → ClientFault
fault_of model.NotReady = fault.NotReady
fault_of model.InFlight = fault.InFlight
fault_of model.WindowFull = fault.WindowFull
fault_of model.Failed = fault.Failed
fault_of model.NotTransactional = fault.NotTransactional
fault_of model.UsedUp = fault.UsedUp
fault_of model.MustAbort = fault.MustAbort
fault_of model.TooLarge = fault.TooLarge

-- what a batch of no producer was answered, which is never a duplicate
abbrev pub produced_of : ErrorCode → ℤ → Produced
produced_of NoError offset = produced.Appended offset
produced_of code offset = produced.Refused code

abbrev pub note_of : StepNote → Note
note_of Done = note.Done
note_of (Declined fault) = note.Refused (fault_of fault)
note_of (PutAt code offset) = note.Put (produced_of code offset)
note_of (Coded code) = note.Code code
note_of Unread = note.Closed Read
note_of Unwritten = note.Closed Write
note_of RunsOut = note.UsedUp

------ nodes

-- a node of any kind; a partition's has its number
pub data NodeState : Type 0 where
  AtCoordinator : (coordinator : Coordinator) → NodeState
  AtPartition : (number : ℕ) (partition : Partition) → NodeState
  AtClient : (client : Client) → NodeState
  AtProcessor : (processor : Processor) → NodeState

abbrev pub made_as : Making → NodeState
made_as making.Coordinator = AtCoordinator new_coordinator
made_as (making.Partition number) = AtPartition number empty_partition
made_as (making.Client number txn timeout) = AtClient (new_client number txn timeout)

abbrev pub of_kind : {State : Type 0} → (State → NodeState) → NodeStep State → NodeStep NodeState
of_kind kind s = record { state = kind s.state; messages = s.messages; note = s.note }

abbrev pub node_step : NodeState → Store → Input → NodeStep NodeState
node_step (AtCoordinator co) store input = of_kind AtCoordinator (coordinator_step co store input)
node_step (AtPartition number p) store input =
    of_kind (AtPartition number) (partition_step number p store input)
node_step (AtClient c) store input = of_kind AtClient (client_step c input)
node_step (AtProcessor p) store input = of_kind AtProcessor (processor_step p input)

------ what the store did

abbrev pub is_closed : NodeState → Bool
is_closed (AtCoordinator co) = co.disk.closed
is_closed (AtPartition number p) = p.disk.closed
is_closed (AtClient c) = false
is_closed (AtProcessor p) = false

-- the whole entry of an append that failed stands behind its log
abbrev pub hides : NodeState → Bool
hides (AtCoordinator co) = is_some co.disk.hidden
hides (AtPartition number p) = is_some p.disk.hidden
hides (AtClient c) = false
hides (AtProcessor p) = false

-- an append failed, which closes the log, or a restart did
abbrev pub fails : NodeState → NodeStep NodeState → StepNote → Bool
fails before s Unread = true
fails before s Unwritten = true
fails before s other = not (is_closed before) && is_closed s.state

abbrev pub finds_by : NodeState → StepNote → Bool
finds_by before Done = hides before
finds_by before Unwritten = hides before
finds_by before other = false

-- a restart read the log, and the entry of an append that had failed
abbrev pub finds : NodeState → Input → StepNote → Bool
finds before (Restarts now) n = finds_by before n
finds before input n = false

------ the entry that a step appends

abbrev pub batch_bytes : Option Stored → Option ℕ
batch_bytes None = None
batch_bytes (Some batch) = Some (length batch.text)

abbrev pub note_bytes : Option TxnEntry → Option ℕ
note_bytes None = None
note_bytes (Some note) = Some (length (entry_text note))

-- the length of the entry behind a log, in bytes
abbrev pub bytes_behind : NodeState → Option ℕ
bytes_behind (AtCoordinator co) = note_bytes co.disk.hidden
bytes_behind (AtPartition number p) = batch_bytes p.disk.hidden
bytes_behind (AtClient c) = None
bytes_behind (AtProcessor p) = None

-- by what stands behind a log after a failed append that left nothing, and after one that left all
abbrev pub appended_bytes : (nothing all : Option ℕ) → Option ℕ
appended_bytes None all = all
appended_bytes (Some bytes) all = None

-- the length in bytes of the entry that a node appends in a step, if it appends one: if its
-- store fails, that entry is left whole, or nothing is
abbrev pub entry_bytes : NodeState → Input → Option ℕ
entry_bytes before input =
    appended_bytes (bytes_behind (node_step before (Fails false) input).state)
    (bytes_behind (node_step before (Fails true) input).state)

------ a step

abbrev pub taken_of : NodeState → Input → NodeStep NodeState → Taken
taken_of before input s = record {
  messages = s.messages;
  note = note_of s.note;
  failed = fails before s s.note;
  found = finds before input s.note;
}

-- a node took an input by a step of the definitions, in which the store did what it may, with an
-- entry of this length
pub record IsTaken (before : NodeState) (input : Input) (Allows : Option ℕ → Store → Type 0)
    (StandsFor : NodeState → Type 0) (taken : Taken) : Type 0 where
  pub store : Store
  pub allowed : Allows (entry_bytes before input) store
  pub stands : StandsFor (node_step before store input).state
  pub answer : taken ≡ taken_of before input (node_step before store input)
