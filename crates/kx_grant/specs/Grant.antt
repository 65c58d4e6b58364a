-- What a stock producer with a transactional id holds, and how its requests become the core's
-- (KIP-98; KIP-360 for a pair that is asked for anew).
use Rattle.std.specs.Prelude.{ℕ, ℤ, pos, ◌+◌, Bool, true, false, not}
use Rattle.std.specs.Prelude.{◌&&◌, ◌||◌, ◌==◌, nat_lt, if◌then◌else◌, Option, Some, None, unwrap_or}
use Rattle.std.specs.Prelude.{List, replicate, slice_index_or, slice_set, int_lt}
use Rattle.kx_message.specs.Ranges.{data_partitions, offsets_partition}
use Rattle.kx_message.specs.Codes.{outcome_byte}
use Rattle.kx_message.specs.declared.message.Held.{Held}
use Rattle.kx_message.specs.declared.outcome.Outcome.{Outcome}
use Rattle.kx_message.specs.declared.outcome.Outcome.TheVariants.{Abort, Commit}
use Rattle.kx_message.specs.declared.code.ErrorCode.{ErrorCode}
use Rattle.kx_message.specs.declared.code.ErrorCode.TheVariants as code
use Rattle.kx_grant.specs.Sequences.{after, sequence_in, sequences, since}
use Rattle.kx_grant.specs.declared.grant.Grant.{Grant}
use Rattle.kx_grant.specs.declared.grant.LastRow.{LastRow}
use Rattle.kx_grant.specs.declared.grant.LastRow.TheVariants as row
use Rattle.kx_grant.specs.declared.grant.Listed.{Listed}
use Rattle.kx_grant.specs.declared.grant.Phase.{Phase}
use Rattle.kx_grant.specs.declared.grant.Phase.TheVariants as phase
use Rattle.kx_grant.specs.declared.verdicts.InitVerdict.{InitVerdict}
use Rattle.kx_grant.specs.declared.verdicts.InitVerdict.TheVariants as init
use Rattle.kx_grant.specs.declared.verdicts.BatchVerdict.{BatchVerdict}
use Rattle.kx_grant.specs.declared.verdicts.BatchVerdict.TheVariants.{Send, Refused}
use Rattle.kx_grant.specs.declared.verdicts.EndVerdict.{EndVerdict}
use Rattle.kx_grant.specs.declared.verdicts.EndVerdict.TheVariants as end

------ a grant

abbrev pub is_held : Held → Held → Bool
is_held a b = a.id == b.id && a.epoch == b.epoch

-- what there is of a data partition; of the offsets partition there is nothing
abbrev pub at : {A : Type 0} → List (Option A) → ℕ → Option A
at list partition =
    if partition == offsets_partition then None else slice_index_or list partition None

abbrev pub with_at : {A : Type 0} → List (Option A) → ℕ → Option A → List (Option A)
with_at list partition x =
    if partition == offsets_partition then list else slice_set list partition x

-- the client's next sequence in a partition, if it is known
abbrev pub next_at : Grant → ℕ → Option ℕ
next_at g partition = at g.next partition

-- what the open transaction has of a partition, if the client listed it
abbrev pub listed_at : Grant → ℕ → Option Listed
listed_at g partition = at g.listed partition

-- a client begins each id and epoch at sequence 0
abbrev pub begun : Option Held → Held → Grant
begun before held = record {
  granted = held;
  before = before;
  core = held;
  phase = phase.Empty;
  next = replicate data_partitions (Some 0);
  listed = replicate data_partitions None;
}

-- of the phase before a restart the coordinator's last row is known
abbrev pub phase_of : LastRow → Phase
phase_of row.Empty = phase.Empty
phase_of row.Ongoing = phase.Resumed
phase_of (row.Decided outcome) = phase.Decided outcome

-- and of its sequences nothing is
abbrev pub reopened : Held → Held → LastRow → Grant
reopened granted core row = record {
  granted = granted;
  before = None;
  core = core;
  phase = phase_of row;
  next = replicate data_partitions None;
  listed = replicate data_partitions None;
}

------ InitProducerId

abbrev pub is_before : Option Held → Held → Bool
is_before None held = false
is_before (Some before) held = is_held before held

-- a producer asks anew with the pair that it holds; the answer to its last bump may be lost
abbrev pub init_verdict : Grant → Option Held → InitVerdict
init_verdict g None = init.Ask
init_verdict g (Some held) =
    if is_held g.granted held || is_before g.before held then init.Ask else init.Fenced

------ AddPartitionsToTxn

-- a transaction begins with the first partition that is listed after an end
abbrev pub opened : Phase → Phase
opened phase.Empty = phase.Empty
opened phase.Sent = phase.Sent
opened phase.Resumed = phase.Resumed
opened (phase.Ended outcome) = phase.Empty
opened (phase.Decided outcome) = phase.Empty

-- it begins in the partition at the client's next sequence
abbrev pub listing : Option ℕ → Option Listed → Option Listed
listing next None = Some (record { base = next; is_stopped = false })
listing next (Some listed) = Some listed

abbrev pub noted : ℕ → Grant → Grant
noted partition g = record g {
  phase = opened g.phase;
  listed = with_at g.listed partition (listing (next_at g partition) (listed_at g partition));
}

abbrev pub add_code : Grant → Held → ErrorCode
add_code g held =
    if is_held g.granted held then code.NoError else code.InvalidProducerEpoch

abbrev pub after_add : Grant → Held → ℕ → Grant
after_add g held partition = if is_held g.granted held then noted partition g else g

------ Produce

-- a batch that begins `at` records after the begin of the transaction in its partition, of which
-- the client's next is `sent` records after it: one from before goes again as it went, and the next
-- goes on, unless one was refused for good
abbrev pub in_turn : Held → ℕ → ℕ → ℕ → Bool → BatchVerdict
in_turn core at sent count is_stopped =
    if nat_lt at sent then Send core (pos at)
    else (if not (at == sent) || not (nat_lt (at + count) sequences)
    then Refused code.OutOfOrderSequenceNumber
    else (if is_stopped then Refused code.InvalidTxnState else Send core (pos at)))

-- if the client's next sequence isn't known, it is this one
abbrev pub listed_verdict : Held → Option ℕ → Listed → ℕ → ℕ → BatchVerdict
listed_verdict core next listed first count =
    let base = unwrap_or listed.base first in
    in_turn core (since base first) (since base (unwrap_or next first)) count listed.is_stopped

abbrev pub in_listed : Held → Option ℕ → Option Listed → ℕ → ℕ → BatchVerdict
in_listed core next None first count = Refused code.InvalidTxnState
in_listed core next (Some listed) first count = listed_verdict core next listed first count

abbrev pub at_sequence : Grant → ℕ → Option ℕ → ℕ → BatchVerdict
at_sequence g partition None count = Refused code.OutOfOrderSequenceNumber
at_sequence g partition (Some first) count =
    in_listed g.core (next_at g partition) (listed_at g partition) first count

-- of a transaction from before a restart neither the sequences nor the listed partitions are known;
-- after an end nothing is listed
abbrev pub phase_code : Phase → Option ErrorCode
phase_code phase.Empty = None
phase_code phase.Sent = None
phase_code phase.Resumed = Some code.InvalidProducerIdMapping
phase_code (phase.Ended outcome) = Some code.InvalidTxnState
phase_code (phase.Decided outcome) = Some code.InvalidProducerIdMapping

abbrev pub unless : Option ErrorCode → BatchVerdict → BatchVerdict
unless None verdict = verdict
unless (Some code) verdict = Refused code

-- the first that fits
abbrev pub batch_verdict : Grant → Held → ℕ → ℤ → ℕ → BatchVerdict
batch_verdict g held partition first count =
    if is_held g.granted held
    then unless (phase_code g.phase) (at_sequence g partition (sequence_in first) count)
    else Refused code.InvalidProducerEpoch

-- the begin is known from the first batch on
abbrev pub begun_at : ℕ → Option Listed → Option Listed
begun_at first None = None
begun_at first (Some listed) = Some (record listed { base = Some (unwrap_or listed.base first) })

abbrev pub with_sent : Grant → ℕ → Option ℕ → Grant
with_sent g partition None = g
with_sent g partition (Some first) = record g {
  phase = phase.Sent;
  next = with_at g.next partition (Some (unwrap_or (next_at g partition) first));
  listed = with_at g.listed partition (begun_at first (listed_at g partition));
}

abbrev pub after_verdict : BatchVerdict → Grant → Grant → Grant
after_verdict (Send held first) g sent = sent
after_verdict (Refused code) g sent = g

-- what is sent to the core is noted
abbrev pub after_batch : Grant → Held → ℕ → ℤ → ℕ → Grant
after_batch g held partition first count =
    after_verdict (batch_verdict g held partition first count) g
    (with_sent g partition (sequence_in first))

-- a client's batch at its next sequence
abbrev pub is_next : Option ℕ → Option ℕ → Bool
is_next (Some next) (Some first) = next == first
is_next (Some next) None = false
is_next None first = false

abbrev pub counts : Grant → Held → ℕ → ℤ → Bool
counts g held partition first =
    is_held g.granted held && is_next (next_at g partition) (sequence_in first)

-- the client's next sequence goes on, whether the batch was taken or not
abbrev pub counted : ℕ → Option ℕ → Option ℕ
counted count None = None
counted count (Some next) = Some (after next count)

abbrev pub gone_on : Grant → ℕ → ℕ → Grant
gone_on g partition count =
    record g { next = with_at g.next partition (counted count (next_at g partition)) }

-- the core's sequences don't go on over a batch that it refused
abbrev pub stopped : Option Listed → Option Listed
stopped None = None
stopped (Some listed) = Some (record listed { is_stopped = true })

abbrev pub stopped_at : Grant → ℕ → Grant
stopped_at g partition =
    record g { listed = with_at g.listed partition (stopped (listed_at g partition)) }

abbrev pub after_taken : Grant → Held → ℕ → ℤ → ℕ → Grant
after_taken g held partition first count =
    if counts g held partition first then gone_on g partition count else g

abbrev pub after_refused : Grant → Held → ℕ → ℤ → ℕ → Grant
after_refused g held partition first count =
    if counts g held partition first then stopped_at (gone_on g partition count) partition else g

------ TxnOffsetCommit

-- where offsets aren't sent to the core: a transaction from before a restart is to be aborted
abbrev pub offsets_code : Phase → Option ErrorCode
offsets_code phase.Empty = None
offsets_code phase.Sent = None
offsets_code phase.Resumed = Some code.UnknownMemberId
offsets_code (phase.Ended outcome) = Some code.InvalidTxnState
offsets_code (phase.Decided outcome) = Some code.UnknownMemberId

abbrev pub commit_code : Grant → Held → Option ErrorCode
commit_code g held =
    if is_held g.granted held then offsets_code g.phase else Some code.InvalidProducerEpoch

-- offsets are sent to the core in the transaction
abbrev pub committing : Option ErrorCode → Grant → Grant
committing None g = record g { phase = phase.Sent }
committing (Some code) g = g

abbrev pub after_commit : Grant → Held → Grant
after_commit g held = committing (commit_code g held) g

------ EndTxn

abbrev pub same_outcome : Outcome → Outcome → Bool
same_outcome a b = outcome_byte a == outcome_byte b

-- an end that is asked again, whose transaction was decided, or is another's
abbrev pub again : Outcome → Outcome → ErrorCode → EndVerdict
again last outcome other =
    end.Answer (if same_outcome last outcome then code.NoError else other)

-- after a restart an abort has nothing left to abort: each transaction is decided
abbrev pub decided_before : Outcome → Outcome → EndVerdict
decided_before last Abort = end.Answer code.NoError
decided_before last Commit = again last Commit code.InvalidProducerIdMapping

-- the core is asked if something was sent
abbrev pub end_in : Held → Phase → Outcome → EndVerdict
end_in core phase.Empty outcome = end.Answer code.NoError
end_in core phase.Sent outcome = end.Ask core outcome
end_in core phase.Resumed outcome = end.Ask core outcome
end_in core (phase.Ended last) outcome = again last outcome code.InvalidTxnState
end_in core (phase.Decided last) outcome = decided_before last outcome

abbrev pub end_verdict : Grant → Held → Outcome → EndVerdict
end_verdict g held outcome =
    if is_held g.granted held then end_in g.core g.phase outcome else end.Fenced

-- no partition is listed; the core goes on with this pair
abbrev pub ended : Outcome → Held → Grant → Grant
ended outcome core g = record g {
  core = core;
  phase = phase.Ended outcome;
  listed = replicate data_partitions None;
}

-- a transaction in which nothing was sent ends at once
abbrev pub ended_empty : Phase → Outcome → Grant → Grant
ended_empty phase.Empty outcome g = ended outcome g.core g
ended_empty phase.Sent outcome g = g
ended_empty phase.Resumed outcome g = g
ended_empty (phase.Ended last) outcome g = g
ended_empty (phase.Decided last) outcome g = g

abbrev pub after_end : Grant → Held → Outcome → Grant
after_end g held outcome = if is_held g.granted held then ended_empty g.phase outcome g else g

------ the code for a producer that is fenced (KIP-588)

abbrev pub fenced_from : ℤ → ℤ → ErrorCode
fenced_from least version =
    if int_lt version least then code.InvalidProducerEpoch else code.ProducerFenced

abbrev pub init_fenced : ℤ → ErrorCode
init_fenced version = fenced_from (pos 4) version

abbrev pub end_fenced : ℤ → ErrorCode
end_fenced version = fenced_from (pos 2) version
