-- The ranges of an input partition that the transactions of a group read, one after the other
-- (KIP-98, "Transactional Guarantees"; KIP-447).
use Rattle.std.specs.Prelude.{◌≡◌, ℕ, ◌+◌, ℤ, pos, negsuc, ◌<ℤ◌, Bool, true, false, not, ◌&&◌, List}
use Rattle.std.specs.Prelude.{[], ◌∷◌, ◌++◌, map, length, filter, fold, find, Option, Some, None}
use Rattle.std.specs.Prelude.{bytes_eq, ◌==◌, nat_lt, if◌then◌else◌}
use Rattle.std.specs.List.{flat_map}
use Rattle.std.specs.Option.{option_map_or}
use Rattle.kx_message.specs.Ranges.{offsets_partition}
use Rattle.kx_message.specs.declared.code.ErrorCode.TheVariants.{NoError}
use Rattle.kx_message.specs.declared.message.Message.{Message}
use Rattle.kx_message.specs.declared.message.Message.TheVariants as msg
use Rattle.kx_message.specs.declared.outcome.Outcome.TheVariants.{Commit}
use Rattle.kx_message.specs.declared.requests.Fetch.{Fetch}
use Rattle.kx_model.specs.Coordinator.{commits, same_outcome}
use Rattle.kx_model.specs.Groups.{is_pending, offset_fetch, offsets_in}
use Rattle.kx_model.specs.Log.{Entry, Plain, Data, Control, Marker, Sequenced}
use Rattle.kx_model.specs.Transactions.{has_commit}
use Rattle.kx_model.specs.World.{World, entries_at, notes}

------ the offsets of a group and an input partition

abbrev pub has_offset : List ℕ → ℕ → Sequenced → Bool
has_offset group q batch = nat_lt 0 (length (offsets_in group q batch))

abbrev pub offset_batch : List ℕ → ℕ → Entry → List Sequenced
offset_batch group q (Plain records) = []
offset_batch group q (Data batch) = if has_offset group q batch then batch ∷ [] else []
offset_batch group q (Control marker) = []

-- the batches of a log that have an offset of the group and input partition
abbrev pub offset_batches : List ℕ → ℕ → List Entry → List Sequenced
offset_batches group q log = flat_map (offset_batch group q) log

-- the marker ends the transaction of the batch
abbrev pub is_ended_by : Marker → Sequenced → Bool
is_ended_by marker batch = batch.id == marker.id && batch.epoch + 1 == marker.epoch

-- those that a commit marker makes the group's, which stand in the log before it
abbrev pub committed_by : List ℕ → ℕ → List Entry → Entry → List Sequenced
committed_by group q before (Plain records) = []
committed_by group q before (Data batch) = []
committed_by group q before (Control marker) =
    if same_outcome marker.outcome Commit
    then filter (is_ended_by marker) (offset_batches group q before) else []

-- those of a log that stands behind another, in the order of the commit markers
abbrev pub committed_after : List ℕ → ℕ → List Entry → List Entry → List Sequenced
committed_after group q before [] = []
committed_after group q before (entry ∷ log) =
    committed_by group q before entry ++ committed_after group q (before ++ entry ∷ []) log

-- those whose transaction is decided to commit, and whose marker isn't in the log yet
abbrev pub awaiting : (ℕ → ℕ → Bool) → List ℕ → ℕ → List Entry → List Sequenced
awaiting decided group q log =
    filter (λ batch. decided batch.id batch.epoch && not (has_commit log batch.id batch.epoch))
    (offset_batches group q log)

------ what a transaction read

-- the request that became the batch
abbrev pub is_request_of : List ℕ → Sequenced → Message → Bool
is_request_of group batch (msg.TxnOffsetCommit it) =
    it.held.id == batch.id && it.held.epoch == batch.epoch && bytes_eq it.group group
is_request_of group batch m = false

abbrev pub is_later : Fetch → Option Fetch → Bool
is_later fetch found =
    option_map_or (λ f. nat_lt f.caller.correlation fetch.caller.correlation) found true

-- of what was found and another message the later fetch of the client, below a request's number
abbrev pub later_fetch : ℕ → ℕ → Option Fetch → Message → Option Fetch
later_fetch client below found (msg.Fetch it) =
    if it.caller.client == client && nat_lt it.caller.correlation below && is_later it found
    then Some it else found
later_fetch client below found m = found

-- the client's last fetch before a request
abbrev pub last_fetch : List Message → ℕ → ℕ → Option Fetch
last_fetch sent client below = fold (later_fetch client below) None sent

abbrev pub from_of : Option Fetch → ℤ
from_of None = negsuc 0
from_of (Some fetch) = fetch.from

abbrev pub read_by : List Message → Option Message → ℤ
read_by sent (Some (msg.TxnOffsetCommit it)) =
    from_of (last_fetch sent it.caller.client it.caller.correlation)
read_by sent other = negsuc 0

-- where the transaction of the batch began to read: at the offset of its client's last fetch before
-- the request that became the batch
abbrev pub read_from : List Message → List ℕ → Sequenced → ℤ
read_from sent group batch = read_by sent (find (is_request_of group batch) sent)

------ ranges

-- from an offset on, up to another
pub record Range : Type 0 where
  pub from : ℤ
  pub end : ℤ

abbrev pub ranges_of : List Message → List ℕ → ℕ → Sequenced → List Range
ranges_of sent group q batch =
    map (λ offset. record { from = read_from sent group batch; end = offset })
    (offsets_in group q batch)

-- those whose commit marker stands in the offsets partition
abbrev pub marked_ranges : World → List ℕ → ℕ → List Range
marked_ranges w group q =
    flat_map (ranges_of w.sent group q)
    (committed_after group q [] (entries_at w offsets_partition))

-- in the order of their commit markers, one that still waits for its marker last
abbrev pub chain : World → List ℕ → ℕ → List Range
chain w group q =
    marked_ranges w group q
    ++ flat_map (ranges_of w.sent group q)
    (awaiting (commits (notes w)) group q (entries_at w offsets_partition))

-- each begins where the one before ends, the first at this offset, and none is empty
abbrev pub AreLinked : ℤ → List Range → Type 0
AreLinked from [] = Unit {0}
AreLinked from (range ∷ rest) =
    (range.from ≡ from) × (from <ℤ range.end) × AreLinked range.end rest

-- the end of the last, -1 if there is none
abbrev pub last_end : List Range → ℤ
last_end [] = negsuc 0
last_end (range ∷ []) = range.end
last_end (range ∷ next ∷ rest) = last_end (next ∷ rest)

-- a group reads the input partition once, from its beginning on, and its committed offset is where
-- it has read to: the end of the last range whose marker stands, and if no offset is pending that
-- of the last range of all
pub record IsChained (w : World) (group : List ℕ) (q : ℕ) : Type 0 where
  pub linked : AreLinked (pos 0) (chain w group q)
  pub committed : offset_fetch (entries_at w offsets_partition) group q false
      ≡ record { code = NoError; offset = last_end (marked_ranges w group q) }
  pub settled : is_pending (entries_at w offsets_partition) group q ≡ false
      → offset_fetch (entries_at w offsets_partition) group q false
      ≡ record { code = NoError; offset = last_end (chain w group q) }
