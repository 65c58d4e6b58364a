-- The numbers in a partition's replies are in their ranges: the offset to fetch from next, and the
-- offset that a group committed.
use Rattle.std.proofs.Common.{ℕ, ℤ, negsuc, true, false, cond, List, []}
use Rattle.std.proofs.Common.{◌∷◌, min, All, Option, Some, None, ◌==◌, lit<, Result, Ok, Err}
use Rattle.std.specs.Int.{w64}
use Rattle.std.specs.Int.RustNames.{FitsSigned}
use Rattle.std.proofs.lemmas.Bool.{cond_both}
use Rattle.std.proofs.lemmas.List.Elements.{All-append, All-cons, All-map, All-nil}
use Rattle.kx_message.specs.Messages as the
use Rattle.kx_message.specs.Ranges.{offsets_partition}
use Rattle.kx_message.specs.declared.code.ErrorCode.{ErrorCode}
use Rattle.kx_message.specs.declared.code.ErrorCode.TheVariants as code
use Rattle.kx_message.specs.declared.message.Held.{Held}
use Rattle.kx_message.specs.declared.message.Message.{Message}
use Rattle.kx_message.specs.declared.message.Message.TheVariants as msg
use Rattle.kx_message.specs.declared.requests.Caller.{Caller}
use Rattle.kx_batch.specs.Batch.{batch_limit}
use Rattle.kx_model.specs.Disk.{Store}
use Rattle.kx_model.specs.Groups.{judge_join}
use Rattle.kx_model.specs.Log.{Entry}
use Rattle.kx_model.specs.Page.{Page, fetched}
use Rattle.kx_model.specs.PartitionNode.{Partition, Served, answers_request, changed, data_takes}
use Rattle.kx_model.specs.PartitionNode.{entries_of, fetch_reply, join_reply}
use Rattle.kx_model.specs.PartitionNode.{offsets_takes, on_add_reply, on_request, parks, passes_on}
use Rattle.kx_model.specs.PartitionNode.{partition_takes, resumes}
use Rattle.kx_model.specs.Produce.{Verdict, Next, Duplicate, Unverified, Refused}
use Rattle.kx_model.specs.Verification.{Parked, Request, Target, ToGroup, ToPartition, is_full}
use Rattle.kx_model.specs.Verification.{judge_request, pair_of, parked_for, reply_for, reply_to}
use Rattle.kx_model.specs.Verification.{request_of, without}
use Rattle.kx_model.specs.World.{World}
use Rattle.kx_headline.proofs.EventDoes.{PartitionTurn, takes, drops, puts_values, restarts}
use Rattle.kx_laws.specs.Grown.{IsGrown}
use Rattle.kx_laws.proofs.Lists.{All-from_contains}
use Rattle.kx_pipeline.proofs.GrownEnds.{NextFits, fetched_next}
use Rattle.kx_pipeline.proofs.OffsetsRead.{fetched_offset}

-- the numbers that a client reads of a reply have 64 bits
abbrev pub InRange : Message → Type 0
InRange (msg.FetchReply it) = FitsSigned w64 it.next
InRange (msg.OffsetFetchReply it) = FitsSigned w64 it.offset
InRange m = Unit {0}

one : (m : Message) → InRange m → All InRange (m ∷ [])
one m h = All-cons InRange m [] h (All-nil InRange)

reply_for_is : (r : Request) (code : ErrorCode) (offset : ℤ) (target : Target)
    → InRange (reply_for r code offset target)
reply_for_is r code offset (ToPartition partition) = tt
reply_for_is r code offset (ToGroup group member generation) = tt

reply_is : (r : Request) (code : ErrorCode) (offset : ℤ) → InRange (reply_to r code offset)
reply_is r code offset = reply_for_is r code offset r.target

parks_sends : (number : ℕ) (p : Partition) (r : Request) (txn : Option (List ℕ))
    (held : Option Held) → All InRange (parks number p r txn held).1
parks_sends number p r (Some txn) (Some held) =
    let full = reply_to r code.ConcurrentTransactions (negsuc 0) in
    one (cond (is_full p.parked held r) full (the.AddPartition txn held number))
    (cond_both (is_full p.parked held r) full (the.AddPartition txn held number) InRange
    (λ e. reply_is r code.ConcurrentTransactions (negsuc 0)) (λ e. tt))
parks_sends number p r (Some txn) None = one _ (reply_is r code.InvalidTxnState (negsuc 0))
parks_sends number p r None held = one _ (reply_is r code.InvalidTxnState (negsuc 0))

answers_send : (number : ℕ) (p : Partition) (store : Store) (r : Request) (verdict : Verdict)
    → All InRange (answers_request number p store r verdict).1
answers_send number p store r Next = one _ (reply_is r _ _)
answers_send number p store r (Duplicate offset) = one _ (reply_is r _ _)
answers_send number p store r Unverified = parks_sends number p r r.txn (pair_of r)
answers_send number p store r (Refused code) = one _ (reply_is r _ _)

request_sends : (number : ℕ) (p : Partition) (store : Store) (r : Option Request)
    → All InRange (on_request number p store r).1
request_sends number p store None = All-nil InRange
request_sends number p store (Some r) =
    answers_send number p store r (judge_request (entries_of p) false r)

resumes_send : (number : ℕ) (p : Partition) (store : Store) (parked : List Parked)
    → All InRange (resumes number p store parked).1
resumes_send number p store [] = All-nil InRange
resumes_send number p store (parked ∷ rest) =
    let r = parked.request in
    let one = answers_request number p store r (judge_request (entries_of p) true r) in
    All-append InRange one.1 (resumes number one.0 store rest).1
    (answers_send number p store r (judge_request (entries_of p) true r))
    (resumes_send number one.0 store rest)

add_reply_sends : (number : ℕ) (p : Partition) (store : Store) (held : Held) (code : ErrorCode)
    → All InRange (on_add_reply number p store held code).1
add_reply_sends number p store held code.NoError =
    resumes_send number (record p { parked = without p.parked held }) store
    (parked_for p.parked held)
add_reply_sends number p store held other =
    All-map InRange (passes_on other) (parked_for p.parked held)
    (All-from_contains (λ parked. InRange (passes_on other parked))
    (parked_for p.parked held) (λ parked c. reply_is parked.request _ _))

fetch_sends : (caller : Caller) (number : ℕ) (page : Result Page ErrorCode) → NextFits page
    → InRange (fetch_reply caller number page)
fetch_sends caller number (Err code) h = record { sfits = lit< tt }
fetch_sends caller number (Ok page) h = h

join_sends : (caller : Caller) (group : List ℕ) (log : List Entry) (code : ErrorCode)
    → InRange (join_reply caller group log code)
join_sends caller group log code.NoError = tt
join_sends caller group log other = tt

-- of a partition whose log grew
module _ (number : ℕ) (p : Partition) (store : Store) (grown : IsGrown p.disk.kept) where
  partition_sends : (m : Message) → All InRange (partition_takes number p store m).1
  partition_sends (msg.AddReply it) =
      cond_both (it.partition == number) _ _ (λ (s : Served). All InRange s.1)
      (λ e. add_reply_sends number p store it.held it.code) (λ e. All-nil InRange)
  partition_sends (msg.WriteMarker it) =
      cond_both (it.partition == number) _ _ (λ (s : Served). All InRange s.1)
      (λ e. one _ tt) (λ e. All-nil InRange)
  partition_sends (msg.Fetch it) =
      cond_both (it.partition == number) _ _ (λ (s : Served). All InRange s.1)
      (λ e. one _ (fetch_sends it.caller number
      (fetched p.disk.kept it.from (min it.max batch_limit) it.committed)
      (fetched_next p.disk.kept it.from (min it.max batch_limit) it.committed grown)))
      (λ e. one _ (record { sfits = lit< tt }))
  partition_sends m = All-nil InRange

  data_sends : (m : Message) → All InRange (data_takes number p store m).1
  data_sends (msg.Produce it) =
      cond_both (it.partition == number) _ _ (λ (s : Served). All InRange s.1)
      (λ e. request_sends number p store (request_of (msg.Produce it))) (λ e. one _ tt)
  data_sends m = partition_sends m

offsets_sends : (p : Partition) (store : Store) (m : Message) → IsGrown p.disk.kept
    → All InRange (offsets_takes p store m).1
offsets_sends p store (msg.TxnOffsetCommit it) grown =
    request_sends offsets_partition p store (request_of (msg.TxnOffsetCommit it))
offsets_sends p store (msg.Join it) grown =
    let t = changed p store (judge_join (entries_of p) it.group it.caller.client) in
    one _ (join_sends it.caller it.group (entries_of t.partition) t.code)
offsets_sends p store (msg.Leave it) grown = one _ tt
offsets_sends p store (msg.OffsetFetch it) grown =
    one _ (fetched_offset (entries_of p) it.group it.partition it.stable)
offsets_sends p store (msg.Produce it) grown =
    cond_both (it.partition == offsets_partition) _ _ (λ (s : Served). All InRange s.1)
    (λ e. All-nil InRange) (λ e. one _ tt)
offsets_sends p store m grown = partition_sends offsets_partition p store grown m

-- a partition's turn hands out numbers in their ranges
pub turn_sends : (w : World) (number : ℕ) (p : Partition) (s : Served) → IsGrown p.disk.kept
    → PartitionTurn w number p s → All InRange s.1
turn_sends w number p s grown (takes store m c) =
    cond_both (number == offsets_partition) (offsets_takes p store m)
    (data_takes number p store m) (λ (s : Served). All InRange s.1)
    (λ e. offsets_sends p store m grown) (λ e. data_sends number p store grown m)
turn_sends w number p s grown (drops group member store e a b) = All-nil InRange
turn_sends w number p s grown (puts_values value values store e fits) = All-nil InRange
turn_sends w number p s grown (restarts how) = All-nil InRange
turn_sends w number p s grown PartitionTurn.passes = All-nil InRange
