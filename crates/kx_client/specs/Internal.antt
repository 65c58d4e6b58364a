-- What a client's parts say to one another.
use Rattle.std.specs.Prelude.{◌≡◌, ◌+◌, ◌≤◌, ◌<◌, ◌==◌, ◌++◌, [], ◌∷◌, ℕ, Bool, true, false}
use Rattle.std.specs.Prelude.{not, List, map, filter, length, take, drop, Some, count_by}
use Rattle.std.specs.Prelude.{slice_index}
use Rattle.std.specs.Prelude.{if◌then◌else◌, ◌^◌, pos}
use Rattle.std.specs.List.{list_any}
use Rattle.kx_message.specs.Ranges.{IsPartition, data_partitions, offsets_partition}
use Rattle.kx_batch.specs.Batch.{batch_limit}
use Rattle.kx_batch.specs.Build.{Draft, records_text}
use Rattle.kx_batch.specs.Record.{Record}
use Rattle.kx_client.specs.Calls.{IsRefused, commanded_offsets}
use Rattle.kx_client.specs.declared.begun.Before.{Before}
use Rattle.kx_client.specs.declared.client.Place as declared
use Rattle.kx_client.specs.declared.commands.CommitParts.{CommitParts}
use Rattle.kx_client.specs.declared.fault.ClientFault.{ClientFault}
use Rattle.kx_client.specs.declared.fault.ClientFault.TheVariants as fault
use Rattle.kx_client.specs.declared.values.Values.{Values}
use Rattle.kx_client.specs.declared.replies.Meaning.{Meaning}
use Rattle.kx_client.specs.declared.replies.Meaning.TheVariants as code
use Rattle.kx_message.specs.declared.message.Message.{Message}
use Rattle.kx_message.specs.Messages as the
use Rattle.kx_message.specs.declared.payload.PartitionOffset.{PartitionOffset}
use Rattle.kx_model.specs.Client.{Client, Commanded, Place, Sequence, asks, caller_of, carries_to}
use Rattle.kx_model.specs.Client.{is_init, is_window_full, sending, sequence_of, value_records}
use Rattle.kx_model.specs.Client.{window}
use Rattle.kx_model.specs.Replies as model
use Rattle.kx_model.specs.Replies.{correlation_of, is_answer_to}

-- the requests that wait, the number of the next, and whether one more can wait without asking for
-- memory
pub record Unanswered : Type 0 where
  pub messages : List Message
  pub next : ℕ
  pub has_room : Bool

-- no more than one request for an id waits
abbrev pub HasOneInit : List Message → Type 0
HasOneInit messages = length (filter is_init messages) ≤ 1

-- where a partition's count stands
abbrev pub slot_of : ℕ → ℕ
slot_of partition = if partition == offsets_partition then data_partitions else partition

abbrev pub count_in : List ℕ → ℕ → ℕ
count_in counts partition = slice_index counts (slot_of partition)

-- 1 if the request carries a batch to the partition, or offsets that become one
abbrev pub carried_to : ℕ → Message → ℕ
carried_to partition request = if carries_to partition request then 1 else 0

-- each partition's count is that of its unanswered batches, of which there are few
pub record AreCounted (counts : List ℕ) (messages : List Message) : Type 0 where
  pub each : (p : ℕ) → IsPartition p → count_in counts p ≡ count_by (carries_to p) messages
  pub few : (p : ℕ) → count_by (carries_to p) messages ≤ window

-- the numbers of requests rise, from this one on and below the next
abbrev pub AreNumbered : ℕ → List Message → ℕ → Type 0
AreNumbered low [] next = low ≤ next
AreNumbered low (m ∷ messages) next =
    (low ≤ correlation_of m) × AreNumbered (correlation_of m + 1) messages next

-- no request waits that the reply answers
pub record IsUnawaited (reply : Message) (messages : List Message) : Type 0 where
  pub none : list_any (is_answer_to reply) messages ≡ false
  pub all : filter (λ m. not (is_answer_to reply m)) messages ≡ messages

-- the request at this place is the one that it answers
pub record IsAwaitedAt (reply : Message) (messages : List Message) (place : ℕ) : Type 0 where
  pub there : place < length messages
  pub some : list_any (is_answer_to reply) messages ≡ true
  pub others : filter (λ m. not (is_answer_to reply m)) messages
      ≡ take place messages ++ drop (place + 1) messages

-- the sequences of a table, in its order
abbrev pub sequences_in : List (ℕ × ℕ) → List Sequence
sequences_in entries = map (λ e. record { partition = e.0; next = e.1 }) entries

-- a place as the rules have it
abbrev pub placed : declared.Place → Place
placed p = record {
  group = p.group;
  generation = p.generation;
  number = p.number;
  count = p.count;
}

-- what a code means, as the rules have it
abbrev pub meant : Meaning → model.Meaning
meant code.Done = model.Done
meant code.Waits = model.Waits
meant code.Aborts = model.Aborts
meant code.Fails = model.Fails

abbrev pub is_done : Meaning → Bool
is_done code.Done = true
is_done code.Waits = false
is_done code.Aborts = false
is_done code.Fails = false

-- what the reply answers waits no more
abbrev pub without : Client → Message → Client
without c reply = record c { waiting = filter (λ m. not (is_answer_to reply m)) c.waiting }

-- the records that values become
abbrev pub records_of : Values → List Record
records_of values = value_records (values.first ∷ values.more)

-- the draft has records, and is within the limit
pub record HasRecords (draft : Draft) : Type 0 where
  pub records : List Record
  pub are : draft.records ≡ Some records
  pub some : 0 < length records

-- why there is no batch of values: they don't fit one, or memory is refused
abbrev pub IsUnbuilt : Bool → ClientFault → Type 0
IsUnbuilt fit fault.NotReady = ⊥
IsUnbuilt fit fault.InFlight = ⊥
IsUnbuilt fit fault.WindowFull = ⊥
IsUnbuilt fit fault.Failed = ⊥
IsUnbuilt fit fault.NotTransactional = ⊥
IsUnbuilt fit fault.UsedUp = ⊥
IsUnbuilt fit fault.MustAbort = ⊥
IsUnbuilt fit fault.TooLarge = fit ≡ false
IsUnbuilt fit fault.Memory = fit ≡ true

-- the batch of these values has so many bytes, and is within the limit
pub record IsBatchLen (len : ℕ) (values : List (List ℕ)) : Type 0 where
  pub is : len ≡ 61 + length (records_text (value_records values))
  pub within : len ≤ batch_limit
  pub places : length values ≤ len

-- the rules refuse it for this fault, which isn't want of memory
abbrev pub IsDeclined : ClientFault → Commanded → Type 0
IsDeclined fault.Memory answer = ⊥
IsDeclined other answer = IsRefused other answer

-- the client with what was before a transaction began
abbrev pub put_back : Before → Client → Client
put_back before c = record c {
  in_transaction = before.in_transaction;
  sent_some = before.sent_some;
  must_abort = before.must_abort;
}

-- the rules have nothing against a commit of these offsets, which is sent with these parts
pub record IsCommitOf (c : Client) (offsets : List PartitionOffset) (parts : CommitParts)
    : Type 0 where
  pub asked : commanded_offsets c offsets
      ≡ asks (sending c offsets_partition (length offsets))
      (the.TxnOffsetCommit (caller_of c) parts.txn parts.place.group c.number
      parts.place.generation parts.held (pos parts.numbers.first) offsets)
  pub caller : parts.numbers.caller ≡ caller_of c
  pub left : c.correlation < 2 ^ 32
  pub window_open : is_window_full c offsets_partition ≡ false
  pub first : parts.numbers.first < 2 ^ 31
  pub next : parts.numbers.next
      ≡ sequence_of c.sequences offsets_partition + length offsets
