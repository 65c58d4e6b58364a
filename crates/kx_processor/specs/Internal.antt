-- What this crate's own functions say to one another.
use Rattle.std.specs.Prelude.{◌≡◌, ℕ, ◌-◌, Bool, true, false, List, [], ◌∷◌, filter, Option, Some}
use Rattle.std.specs.Prelude.{None, ⊤}
use Rattle.std.specs.List.{range_with_len}
use Rattle.kx_message.specs.declared.message.Message.{Message}
use Rattle.kx_message.specs.declared.message.Message.TheVariants as msg
use Rattle.kx_message.specs.declared.payload.PartitionOffset.{PartitionOffset}
use Rattle.kx_client.specs.Calls.{IsRefused}
use Rattle.kx_client.specs.declared.fault.ClientFault.{ClientFault}
use Rattle.kx_client.specs.declared.fault.ClientFault.TheVariants as fault
use Rattle.kx_client.specs.declared.values.Values.{Values}
use Rattle.kx_model.specs.Client.{Client, Command, Commanded, SendOffsets}
use Rattle.kx_processor.specs.declared.owned.Owned.{Owned}
use Rattle.kx_processor.specs.declared.stage.Sequel as declared
use Rattle.kx_processor.specs.declared.stage.Sequel.TheVariants as sequel
use Rattle.kx_processor.specs.declared.stage.Stage as running
use Rattle.kx_processor.specs.declared.stage.Stage.TheVariants as stage
use Rattle.kx_system.specs.Processor.{Sequel, Anew, Stops, Overflows, Stage, Joining, Locating}
use Rattle.kx_system.specs.Processor.{Fetching, Writing, Committing, Aborting, Overflown, Stopped}
use Rattle.kx_system.specs.Processor.{Processing, fetched, in_transaction, owns, told_all, writes}

-- the input partitions that are left
abbrev pub left_of : Owned → List ℕ
left_of o = filter (owns o.number o.count) (range_with_len o.from (o.inputs - o.from))

abbrev pub sequel_of : declared.Sequel → Sequel
sequel_of sequel.Anew = Anew
sequel_of sequel.Stops = Stops
sequel_of sequel.Overflows = Overflows

-- a stage in the words of the definitions
abbrev pub stage_of : running.Stage → Stage
stage_of stage.Joining = Joining
stage_of (stage.Locating input left) = Locating input (left_of left)
stage_of (stage.Fetching input left offset) = Fetching input (left_of left) offset
stage_of (stage.Writing input left next batches) = Writing input (left_of left) next batches
stage_of (stage.Committing left) = Committing (left_of left)
stage_of (stage.Aborting sequel) = Aborting (sequel_of sequel)
stage_of stage.Overflown = Overflown
stage_of stage.Stopped = Stopped

-- the reply may have a page
abbrev pub is_page : Message → Bool
is_page (msg.FetchReply it) = true
is_page other = false

-- what comes of a command in a transaction, which is begun if there is none
abbrev pub told_inside : Client → Command → Commanded
told_inside c what = told_all c (in_transaction c what)

-- what is written next: a batch, or where none is left the offset behind the page
abbrev pub to_write : PartitionOffset → ℕ → List Values → Command
to_write offset output [] = SendOffsets offset []
to_write offset output (values ∷ rest) = writes output values

-- a refusal of the rules, or want of memory, which may come in its place
abbrev pub IsRefusedOrUnlisted : ClientFault → Commanded → Type 0
IsRefusedOrUnlisted fault.Memory answer = ⊤
IsRefusedOrUnlisted other answer = IsRefused other answer

-- where the page of a reply leads, if it has one that is awaited
abbrev pub IsPaged : Processing → Message → Option running.Stage → Type 0
IsPaged p reply None = fetched p p.stage reply ≡ p.stage
IsPaged p reply (Some stage) =
    (is_page reply ≡ true) × (stage_of stage ≡ fetched p p.stage reply)
