-- A processor: a client that reads the committed records of input partitions, writes the image of
-- each to an output partition, and commits with the images, in one transaction, the offset up to
-- which it read (KIP-98, "Transactional Guarantees"; KIP-447).
use Rattle.std.specs.Prelude.{ℕ, ◌+◌, ◌%◌, ℤ, pos, negsuc, Bool, true, false, not, ◌&&◌, ◌||◌, List}
use Rattle.std.specs.Prelude.{[], ◌∷◌, ◌++◌, map, length, filter, fold, is_some}
use Rattle.std.specs.Prelude.{is_none, Result, Ok, Err, ◌==◌, nat_lt, int_lt, if◌then◌else◌}
use Rattle.std.specs.List.{range_with_len}
use Rattle.kx_message.specs.declared.code.ErrorCode.{ErrorCode}
use Rattle.kx_message.specs.declared.code.ErrorCode.TheVariants as code
use Rattle.kx_message.specs.declared.message.Message.{Message}
use Rattle.kx_message.specs.declared.message.Message.TheVariants as msg
use Rattle.kx_message.specs.declared.outcome.Outcome.TheVariants.{Abort, Commit}
use Rattle.kx_batch.specs.Build.{within_limit}
use Rattle.kx_batch.specs.Record.{Record}
use Rattle.kx_client.specs.declared.values.Values.{Values}
use Rattle.kx_model.specs.Client.{Client, Command, Commanded, Declines, Does, Fault, Failed}
use Rattle.kx_model.specs.Client.{NotReady, NotTransactional, TooLarge, Init, Begin, Send}
use Rattle.kx_model.specs.Client.{JoinGroup, SendOffsets, End, Resend, Poll, FetchPage}
use Rattle.kx_model.specs.Client.{FetchOffset, all_of, command, unless, value_records}
use Rattle.kx_model.specs.Page.{Fetched}
use Rattle.kx_model.specs.Reading.{committed_of}
use Rattle.kx_model.specs.Replies.{is_awaited, take_reply}
use Rattle.kx_model.specs.Step.{Input, Comes, Commands, Expires, Reminds, Drops, Puts, Restarts}
use Rattle.kx_model.specs.Step.{NodeStep, Declined, rests, serves}
use Rattle.kx_partition.specs.declared.fault.ReplyFault.{ReplyFault}
use Rattle.kx_partition.specs.Reply.{page_in}

------ images

-- what a process makes of each record
abbrev pub Images : Type 0
Images = Record → List ℕ

-- so many images make a batch
abbrev pub most_images : ℕ
most_images = 100

-- their batch is within its limit
abbrev pub fits : Values → Bool
fits values = is_some (within_limit (value_records (values.first ∷ values.more)))

abbrev pub alone : List ℕ → Values
alone image = record { first = image; more = [] }

abbrev pub with_another : Values → List ℕ → Values
with_another values image = record values { more = values.more ++ image ∷ [] }

abbrev pub takes_another : Values → List ℕ → Bool
takes_another values image =
    nat_lt (length (values.first ∷ values.more)) most_images && fits (with_another values image)

-- an image goes into the last batch, or into one of its own if that is full
abbrev pub with_image : List Values → List ℕ → List Values
with_image [] image = alone image ∷ []
with_image (last ∷ []) image =
    if takes_another last image then with_another last image ∷ [] else last ∷ alone image ∷ []
with_image (values ∷ next ∷ rest) image = values ∷ with_image (next ∷ rest) image

-- images in batches of so many, fewer if they wouldn't fit
abbrev pub batches_of : List (List ℕ) → List Values
batches_of images = fold with_image [] images

------ a pass over the input partitions that a member owns

-- what comes behind an abort: a pass anew, the end, or the news that an image fits no batch
pub data Sequel : Type 0 where
  Anew Stops Overflows : Sequel

-- what the processor is about to ask for, or waits for; `left` are the input partitions that come
-- later in the pass
-- A processor that stopped for good is at a stage of its own and its client hasn't failed, so a
-- step of a system is a run of its world.
pub data Stage : Type 0 where
  -- to be a member, as each pass begins
  Joining : Stage
  -- the offset that the group committed for the input partition
  Locating : (input : ℕ) (left : List ℕ) → Stage
  -- a page from that offset
  Fetching : (input : ℕ) (left : List ℕ) (offset : ℤ) → Stage
  -- to write these batches of images, and then the offset behind the page
  Writing : (input : ℕ) (left : List ℕ) (next : ℤ) (batches : List Values) → Stage
  Committing : (left : List ℕ) → Stage
  Aborting : (sequel : Sequel) → Stage
  -- an image fitted no batch, which was not yet told
  Overflown : Stage
  -- for good
  Stopped : Stage

-- a member of this number among so many owns the input partition
abbrev pub owns : ℕ → ℕ → ℕ → Bool
owns number count input = nat_lt 0 count && input % count == number

-- the input partitions that it owns, numbered from 0
abbrev pub owned : ℕ → ℕ → ℕ → List ℕ
owned number count inputs = filter (owns number count) (range_with_len 0 inputs)

-- the next input partition of the pass, or the next pass
abbrev pub onward : List ℕ → Stage
onward [] = Joining
onward (input ∷ left) = Locating input left

-- where to read on; a group that committed nothing begins at 0
abbrev pub from_offset : ℤ → ℕ
from_offset (pos offset) = offset
from_offset (negsuc n) = 0

------ what a processor is

-- what it is beside its client, which has this number
pub record Processing : Type 0 where
  pub number : ℕ
  pub group : List ℕ
  -- how many input partitions; the images of input partition q go to partition q + inputs
  pub inputs : ℕ
  pub image : Images
  pub stage : Stage

pub record Processor : Type 0 where
  pub client : Client
  pub processing : Processing

abbrev pub at_stage : Processing → Stage → Processing
at_stage p stage = record p { stage = stage }

abbrev pub new_processing : ℕ → List ℕ → ℕ → Images → Processing
new_processing number group inputs image = record {
  number = number;
  group = group;
  inputs = inputs;
  image = image;
  stage = Joining;
}

------ a poll

-- a transaction is begun with the first request of it
abbrev pub in_transaction : Client → Command → List Command
in_transaction c what = if c.in_transaction then what ∷ [] else Begin ∷ what ∷ []

-- a batch of images, or an abort if an image fits no batch
abbrev pub writes : ℕ → Values → Command
writes output values = if fits values then Send output values.first values.more else End Abort

-- what it asks for next
abbrev pub next_commands : Client → Processing → Stage → List Command
next_commands c p Joining = JoinGroup p.group ∷ []
next_commands c p (Locating input left) = FetchOffset p.group input ∷ []
next_commands c p (Fetching input left offset) = FetchPage input (from_offset offset) ∷ []
next_commands c p (Writing input left next []) =
    in_transaction c (SendOffsets (record { partition = input; offset = next }) [])
next_commands c p (Writing input left next (values ∷ rest)) =
    in_transaction c (writes (input + p.inputs) values)
next_commands c p (Committing left) = End Commit ∷ []
next_commands c p (Aborting sequel) = End Abort ∷ []
next_commands c p Overflown = []
next_commands c p Stopped = []

abbrev pub told_all : Client → List Command → Commanded
told_all c [] = Does c []
told_all c (what ∷ more) = all_of c what more

abbrev pub is_waiting : Client → Bool
is_waiting c = nat_lt 0 (length c.waiting)

abbrev pub is_overflown : Stage → Bool
is_overflown Overflown = true
is_overflown stage = false

abbrev pub is_stopped : Stage → Bool
is_stopped Stopped = true
is_stopped stage = false

abbrev pub has_failed : Processor → Bool
has_failed p = p.client.failed || is_stopped p.processing.stage

-- what a poll hands out: nothing while a request is unanswered, else the next one
abbrev pub polled : Processor → Commanded
polled p = unless (
    (has_failed p, Failed)
    ∷ (not (is_waiting p.client) && is_none p.client.held, NotReady)
    ∷ (not (is_waiting p.client) && is_overflown p.processing.stage, TooLarge) ∷ [])
    (if is_waiting p.client then Does p.client []
    else told_all p.client (next_commands p.client p.processing p.processing.stage))

-- a batch that doesn't fit was answered by an abort
abbrev pub stage_sent : Stage → Stage
stage_sent (Writing input left next (values ∷ rest)) =
    if fits values then Writing input left next (values ∷ rest) else Aborting Overflows
stage_sent stage = stage

abbrev pub stage_polled : Processor → Stage
stage_polled p =
    if is_waiting p.client then p.processing.stage else stage_sent p.processing.stage

-- that an image fits no batch is told once
abbrev pub stage_refused : Fault → Stage → Stage
stage_refused TooLarge Overflown = Stopped
stage_refused fault stage = stage

------ replies

abbrev pub joined : Processing → Stage → ErrorCode → ℕ → ℕ → Stage
joined p Joining code.NoError number count = onward (owned number count p.inputs)
joined p stage other number count = stage

-- an input partition for which an offset is pending is passed over
abbrev pub located : Stage → ErrorCode → ℤ → Stage
located (Locating input left) code.NoError offset = Fetching input left offset
located (Locating input left) code.UnstableOffsetCommit offset = onward left
located stage other offset = stage

-- a page that can't be read is asked for again; one with nothing new is passed over
abbrev pub paged : Images → ℕ → List ℕ → ℤ → Result Fetched ReplyFault → Stage
paged image input left offset (Err fault) = Fetching input left offset
paged image input left offset (Ok page) =
    if int_lt page.from page.next
    then Writing input left page.next
    (batches_of (map (λ s. image s.shown) (committed_of page)))
    else onward left

abbrev pub fetched : Processing → Stage → Message → Stage
fetched p (Fetching input left offset) reply =
    paged p.image input left offset (page_in (pos (from_offset offset)) reply)
fetched p stage reply = stage

abbrev pub written : Stage → ErrorCode → Stage
written (Writing input left next (values ∷ rest)) code.NoError = Writing input left next rest
written stage other = stage

abbrev pub committed : Stage → ErrorCode → Stage
committed (Writing input left next batches) code.NoError = Committing left
committed stage code.IllegalGeneration = Aborting Anew
committed stage code.UnknownMemberId = Aborting Stops
committed stage other = stage

abbrev pub behind : Sequel → Stage
behind Anew = Joining
behind Stops = Stopped
behind Overflows = Overflown

abbrev pub ended : Stage → ErrorCode → Stage
ended (Committing left) code.NoError = onward left
ended (Aborting sequel) code.NoError = behind sequel
ended stage other = stage

-- an awaited reply comes
abbrev pub stage_told : Processing → Message → Stage
stage_told p (msg.JoinReply it) = joined p p.stage it.code it.place it.count
stage_told p (msg.OffsetFetchReply it) = located p.stage it.code it.offset
stage_told p (msg.FetchReply it) = fetched p p.stage (msg.FetchReply it)
stage_told p (msg.ProduceReply it) = written p.stage it.code
stage_told p (msg.OffsetsReply it) = committed p.stage it.code
stage_told p (msg.EndReply it) = ended p.stage it.code
stage_told p m = p.stage

unfoldable pub takes : Processor → Message → Processor
takes p reply = record {
  client = take_reply p.client reply;
  processing = if is_awaited p.client reply
      then at_stage p.processing (stage_told p.processing reply) else p.processing;
}

------ commands

abbrev pub needs_transactions : Command → Bool
needs_transactions Begin = true
needs_transactions (SendOffsets offset more) = true
needs_transactions (End outcome) = true
needs_transactions what = false

-- what isn't a processor's to be told
abbrev pub foreign : Processor → Command → Commanded
foreign p what = unless (
    (has_failed p, Failed)
    ∷ (needs_transactions what && is_none p.client.txn, NotTransactional) ∷ [])
    (Declines NotReady)

-- a processor that stopped does nothing more
abbrev pub as_client : Processor → Command → Commanded
as_client p what = unless ((has_failed p, Failed) ∷ []) (command p.client what)

abbrev pub processor_command : Processor → Command → Commanded
processor_command p Poll = polled p
processor_command p Init = as_client p Init
processor_command p Resend = as_client p Resend
processor_command p what = foreign p what

-- where it then is
abbrev pub stage_commanded : Processor → Command → Stage
stage_commanded p Poll = stage_polled p
stage_commanded p what = p.processing.stage

abbrev pub obeys : Processor → Stage → Commanded → NodeStep Processor
obeys p stage (Declines fault) = record {
  state = record p {
    processing = at_stage p.processing (stage_refused fault p.processing.stage);
  };
  messages = [];
  note = Declined fault;
}
obeys p stage (Does client sent) =
    serves (record { client = client; processing = at_stage p.processing stage }) sent

unfoldable pub processor_step : Processor → Input → NodeStep Processor
processor_step p (Comes m) = rests (takes p m)
processor_step p (Commands what) =
    obeys p (stage_commanded p what) (processor_command p what)
processor_step p (Expires now) = rests p
processor_step p Reminds = rests p
processor_step p (Drops group member) = rests p
processor_step p (Puts value more) = rests p
processor_step p (Restarts now) = rests p
