-- The running server of a partition, and the node of the definitions for which it stands.
-- What is parked begins no later than the sequence that comes next; so of one id and epoch at most
-- one request is appended when they run again, and memory runs out before anything is appended or
-- not at all.
use Rattle.std.specs.Prelude.{◌≡◌, ◌≤◌, ◌==◌, ◌&&◌, ℕ, ℤ, pos, negsuc, Bool, true, false, not}
use Rattle.std.specs.Prelude.{List, [], ◌∷◌, All, nat_lt, Option, None, is_some}
use Rattle.kx_batch.specs.Batch.{Batch, batch_of}
use Rattle.kx_batch.specs.Build.{made}
use Rattle.kx_broker.specs.declared.restart.Restarted.{Restarted}
use Rattle.kx_broker.specs.declared.restart.Restarted.TheVariants as restarted
use Rattle.kx_group.specs.Calls.{IsResumed}
use Rattle.kx_laws.specs.Grown.{IsGrown}
use Rattle.kx_log.specs.Log.{IsLog, log_in}
use Rattle.kx_log.specs.LogState.{LogState}
use Rattle.kx_log.specs.Opening.{IsRight}
use Rattle.kx_machine.specs.Meaning.{NodeState, AtCoordinator, AtPartition, AtClient}
use Rattle.kx_machine.specs.Meaning.{AtProcessor, appended_bytes, batch_bytes, produced_of}
use Rattle.kx_machine.specs.Stores.{Allows}
use Rattle.kx_message.specs.Ranges.{offsets_partition}
use Rattle.kx_message.specs.declared.message.Held.{Held}
use Rattle.kx_message.specs.declared.message.Message.{Message}
use Rattle.kx_model.specs.Client.{value_records}
use Rattle.kx_model.specs.Disk as disks
use Rattle.kx_model.specs.Disk.{Disk, Store, Fails, reopening, reread}
use Rattle.kx_model.specs.Log.{Entry, Data, Sequenced, Stored, entry_in}
use Rattle.kx_model.specs.PartitionNode.{Partition, Served, Taken, entries_of, partition_restarts}
use Rattle.kx_model.specs.Producers.{expected}
use Rattle.kx_model.specs.Step.{Done, Unread, partition_note}
use Rattle.kx_model.specs.Verification.{Parked, Request, ToPartition, reply_to}
use Rattle.kx_partition.specs.Answer.{code_of}
use Rattle.kx_partition.specs.declared.answer.Produced.{Produced}
use Rattle.kx_partition.specs.declared.answer.Produced.TheVariants as produced
use Rattle.kx_varint.specs.Text.{IsBytes}
use Rattle.kx_verify.specs.Guard.{SameParked}

-- a server: its number, the partition's log on its store, and the requests that it has parked
pub record Serving : Type 0 where
  pub number : ℕ
  pub log : LogState
  pub parked : List Parked

------ its log

-- the log on its store is a disk of the definitions: opening finds in the store what it holds
-- there, and cuts off the rest; and it is a log that such a server grows, so opening takes it
pub record IsDisk (Fits : List Stored → Type 0) (disk : Disk Stored) (log : LogState)
    : Type 0 where
  pub kept : log.batches ≡ disk.kept
  pub closed : log.closed ≡ disk.closed
  -- only an append that failed leaves an entry behind the log
  pub shown : disk.closed ≡ false → disk.hidden ≡ None
  pub found : (log_in log.store.bytes).batches ≡ reread disk
  pub tail : IsRight (log_in log.store.bytes).tail
  pub placed : IsLog (reread disk)
  pub fits : Fits (reread disk)

------ what it has parked

-- the text is a batch of this id and epoch, which begins no later than the next one of them
pub record BeginsBy (log : List Entry) (held : Held) (text : List ℕ) : Type 0 where
  pub bytes : IsBytes text
  pub batch : Sequenced
  pub entry : entry_in (batch_of text) ≡ Data batch
  pub id : batch.id ≡ held.id
  pub epoch : batch.epoch ≡ held.epoch
  pub first : batch.first ≤ expected log held.id held.epoch

-- a request of this id and epoch that goes here, and was to come next when it was parked
pub record Waits (Here : Request → Type 0) (log : List Entry) (held : Held) (parked : Parked)
    : Type 0 where
  pub held_is : parked.held ≡ held
  pub here : Here parked.request
  pub begins : BeginsBy log held parked.request.text

abbrev pub AllWait : (Request → Type 0) → List Entry → List Parked → Type 0
AllWait Here log parked = All (λ q. Waits Here log q.held q) parked

------ the node

-- a partition whose log was opened, and which has parked nothing
abbrev pub opened_partition : List Stored → Partition
opened_partition log = record { disk = disks.made log; parked = [] }

-- the server stands for the node of a partition
pub record IsServedBy (Fits : List Stored → Type 0) (Here : Request → Type 0) (number : ℕ)
    (p : Partition) (server : Serving) : Type 0 where
  pub number_is : server.number ≡ number
  pub disk : IsDisk Fits p.disk server.log
  pub parked : SameParked server.parked p.parked
  pub waits : AllWait Here (entries_of p) p.parked

-- a batch goes to this data partition
abbrev pub GoesTo : ℕ → Request → Type 0
GoesTo number r = r.target ≡ ToPartition number

-- the server of a data partition
abbrev pub IsServed : ℕ → Partition → Serving → Type 0
IsServed number = IsServedBy IsGrown (GoesTo number) number

abbrev pub StandsFor : NodeState → Serving → Type 0
StandsFor (AtCoordinator co) server = ⊥
StandsFor (AtPartition number p) server =
    ((number == offsets_partition) ≡ false) × IsServed number p server
StandsFor (AtClient c) server = ⊥
StandsFor (AtProcessor p) server = ⊥

-- what its store may do in the next step, with an entry of this length, if one is appended
abbrev pub MayDo : Serving → Option ℕ → Store → Type 0
MayDo server = Allows server.log.store.appends server.log.store.loads

------ a step

-- the length of the batch that a step appends, if it appends one
abbrev pub bytes_in : (Store → Partition) → Option ℕ
bytes_in after = appended_bytes (batch_bytes (after (Fails false)).disk.hidden)
    (batch_bytes (after (Fails true)).disk.hidden)

-- a step of the definitions that the server made, in which its store did what it may
pub record Steps (Stands : Partition → Serving → Type 0) (old new : Serving)
    (after : Store → Partition) (Answers : Store → Type 0) : Type 0 where
  pub store : Store
  pub allowed : MayDo old (bytes_in after) store
  pub stands : Stands (after store) new
  pub answers : Answers store

-- its device failed
abbrev pub has_failed : Serving → Serving → Bool
has_failed old new = nat_lt old.log.store.failures new.log.store.failures

-- which closed the log
abbrev pub closes : Partition → Partition → Bool
closes p q = not p.disk.closed && q.disk.closed

-- a step that hands out messages
abbrev pub Serves : (Partition → Serving → Type 0) → Partition → Serving → Serving
    → (Store → Served) → List Message → Type 0
Serves Stands p old new step messages =
    Steps Stands old new (λ store. (step store).0) (λ store. (messages ≡ (step store).1)
    × (has_failed old new ≡ closes p (step store).0))

-- the put of a batch of no producer
abbrev pub Puts : (Partition → Serving → Type 0) → Partition → Serving → Serving
    → (Store → Taken) → Produced → Type 0
Puts Stands p old new step answer =
    Steps Stands old new (λ store. (step store).partition)
    (λ store. (answer ≡ produced_of (step store).code (step store).offset)
    × (has_failed old new ≡ closes p (step store).partition))

-- a restart, which read the log, and maybe the entry of an append that had failed; or couldn't
abbrev pub Restarts : (Partition → Serving → Type 0) → Partition → Serving → Serving
    → Restarted → Type 0
Restarts Stands p old new (restarted.Read found) =
    Steps Stands old new (λ store. partition_restarts p (reopening store))
    (λ store. (partition_note (reopening store) ≡ Done) × (found ≡ is_some p.disk.hidden)
    × (has_failed old new ≡ closes p (partition_restarts p (reopening store))))
Restarts Stands p old new restarted.Unread =
    Steps Stands old new (λ store. partition_restarts p (reopening store))
    (λ store. (partition_note (reopening store) ≡ Unread) × (has_failed old new ≡ true))

------ replies

-- the offset of an answer, -1 if there is none
abbrev pub offset_of : Produced → ℤ
offset_of (produced.Appended offset) = offset
offset_of (produced.Duplicate offset) = offset
offset_of produced.Unverified = negsuc 0
offset_of (produced.Refused code) = negsuc 0

-- the reply to a request by what it was answered
abbrev pub told : Request → Produced → Message
told r answer = reply_to r (code_of answer) (offset_of answer)

-- the reply to each of some parked requests
abbrev pub told_each : List Parked → List Produced → List Message
told_each (parked ∷ requests) (answer ∷ answers) =
    told parked.request answer ∷ told_each requests answers
told_each [] answers = []
told_each (parked ∷ requests) [] = []

-- parked requests were run again, each in turn, and answered so
pub record RunAgain (requests : List Parked) (old new : LogState) (messages : List Message)
    : Type 0 where
  pub answers : List Produced
  pub resumed : IsResumed requests old new answers
  pub messages_are : messages ≡ told_each requests answers

------ a batch of no producer

abbrev pub plain_batch : List (List ℕ) → Batch
plain_batch values =
    made (pos 0) (negsuc 0) (negsuc 0) (negsuc 0) (value_records values)
