-- Which kinds of messages partitions and clients hand out, and that a client waits for replies to
-- its own kinds alone.
use Rattle.std.proofs.Common.{◌≡◌, ◌+◌, ℕ, ℤ, negsuc, Bool, true, false, not, cond, List, []}
use Rattle.std.proofs.Common.{◌∷◌}
use Rattle.std.proofs.Common.{◌++◌}
use Rattle.std.proofs.Common.{filter, Option, Some, None, ◌==◌, All}
use Rattle.std.proofs.Common.{subst}
use Rattle.std.proofs.Common.{Result, Ok, Err}
use Rattle.std.specs.List.{list_any}
use Rattle.std.proofs.lemmas.Bool.{cond_both}
use Rattle.std.proofs.lemmas.List.Elements.{All-append, All-cons, All-filter, All-nil, All-push}
use Rattle.std.proofs.lemmas.List.Elements.{All-map}
use Rattle.kx_message.specs.declared.requests.Caller.{Caller}
use Rattle.kx_model.specs.Client.{caller_of}
use Rattle.kx_message.specs.Ranges.{offsets_partition}
use Rattle.kx_message.specs.declared.code.ErrorCode.{ErrorCode}
use Rattle.kx_message.specs.declared.code.ErrorCode.TheVariants as code
use Rattle.kx_message.specs.declared.message.Held.{Held}
use Rattle.kx_message.specs.declared.message.Message.{Message}
use Rattle.kx_message.specs.declared.message.Message.TheVariants as msg
use Rattle.kx_message.specs.Messages as the
use Rattle.kx_message.specs.declared.outcome.Outcome.{Outcome}
use Rattle.kx_message.specs.declared.outcome.Outcome.TheVariants.{Abort, Commit}
use Rattle.kx_message.specs.declared.payload.AbortedTxn.{AbortedTxn}
use Rattle.kx_message.specs.declared.payload.PartitionOffset.{PartitionOffset}
use Rattle.kx_batch.specs.Record.{Record}
use Rattle.kx_model.specs.Client.{Client, Command, Commanded, Declines, Does, Fault, Place, Init}
use Rattle.kx_model.specs.Client.{Begin, Send, JoinGroup, LeaveGroup, SendOffsets, End, Resend}
use Rattle.kx_model.specs.Client.{Poll, FetchPage, FetchOffset}
use Rattle.kx_model.specs.Client.{asks, command, does, is_init, leaves, refusals}
use Rattle.kx_model.specs.Client.{sends, sends_end, sends_offsets, unless}
use Rattle.kx_model.specs.Client.{value_records}
use Rattle.kx_model.specs.Disk.{Store}
use Rattle.kx_model.specs.Groups.{judge_join}
use Rattle.kx_model.specs.Log.{Entry}
use Rattle.kx_model.specs.Open.{is_request}
use Rattle.kx_model.specs.Page.{Page}
use Rattle.kx_model.specs.PartitionNode.{Partition, Served, answers_request, changed, data_takes}
use Rattle.kx_model.specs.PartitionNode.{entries_of, fetch_reply, join_reply}
use Rattle.kx_model.specs.PartitionNode.{offsets_takes, on_add_reply, on_request, parks, passes_on}
use Rattle.kx_model.specs.PartitionNode.{partition_takes, resumes}
use Rattle.kx_model.specs.Produce.{Verdict, Next, Duplicate, Unverified, Refused}
use Rattle.kx_model.specs.Replies.{Meaning, Done, Waits, Aborts, Fails, is_answer_to, is_awaited}
use Rattle.kx_model.specs.Replies.{holding, learns, meaning, offset_meaning, offsets_meaning}
use Rattle.kx_model.specs.Replies.{take_reply, told}
use Rattle.kx_model.specs.Verification.{Parked, Request, Target, ToGroup, ToPartition, is_full}
use Rattle.kx_model.specs.Verification.{judge_request, pair_of, parked_for, reply_for, reply_to}
use Rattle.kx_model.specs.Verification.{request_of, without}
use Rattle.kx_model.specs.World.{World}
use Rattle.kx_headline.proofs.EventDoes.{PartitionTurn, takes, drops, puts_values, restarts}
use Rattle.kx_headline.proofs.EventDoes.{ClientTurn, commands, hears}
use Rattle.kx_laws.proofs.Lists.{All-from_contains}

------ partitions

-- the kinds that a partition hands out
pub data IsPartitions : Message → Type 0 where
  adding : {txn : List ℕ} {held : Held} {partition : ℕ}
      → IsPartitions (the.AddPartition txn held partition)
  marked : {partition : ℕ} {txn : List ℕ} {held : Held} {code : ErrorCode}
      → IsPartitions (the.MarkerReply partition txn held code)
  produced : {caller : Caller} {partition : ℕ} {code : ErrorCode} {offset : ℤ}
      → IsPartitions (the.ProduceReply caller partition code offset)
  fetch : {caller : Caller} {partition : ℕ} {code : ErrorCode} {next stable end : ℤ}
      {aborted : List AbortedTxn} {batches : List ℕ} → IsPartitions
      (the.FetchReply caller partition code next stable end aborted batches)
  joined : {caller : Caller} {code : ErrorCode} {generation : ℤ} {place count : ℕ}
      → IsPartitions (the.JoinReply caller code generation place count)
  left : {caller : Caller} {code : ErrorCode}
      → IsPartitions (the.LeaveReply caller code)
  offsets_stand : {caller : Caller} {code : ErrorCode}
      → IsPartitions (the.OffsetsReply caller code)
  offset_there : {caller : Caller} {code : ErrorCode} {offset : ℤ}
      → IsPartitions (the.OffsetFetchReply caller code offset)

abbrev ArePartitions : List Message → Type 0
ArePartitions ms = All IsPartitions ms

one : (m : Message) → IsPartitions m → ArePartitions (m ∷ [])
one m h = All-cons IsPartitions m [] h (All-nil IsPartitions)

reply_for_is : (r : Request) (code : ErrorCode) (offset : ℤ) (target : Target)
    → IsPartitions (reply_for r code offset target)
reply_for_is r code offset (ToPartition partition) = produced
reply_for_is r code offset (ToGroup group member generation) = offsets_stand

reply_is : (r : Request) (code : ErrorCode) (offset : ℤ) → IsPartitions (reply_to r code offset)
reply_is r code offset = reply_for_is r code offset r.target

parks_sends : (number : ℕ) (p : Partition) (r : Request) (txn : Option (List ℕ))
    (held : Option Held) → ArePartitions (parks number p r txn held).1
parks_sends number p r (Some txn) (Some held) =
    let full = reply_to r code.ConcurrentTransactions (negsuc 0) in
    one (cond (is_full p.parked held r) full (the.AddPartition txn held number))
    (cond_both (is_full p.parked held r) full (the.AddPartition txn held number) IsPartitions
    (λ e. reply_is r code.ConcurrentTransactions (negsuc 0)) (λ e. adding))
parks_sends number p r (Some txn) None = one _ (reply_is r code.InvalidTxnState (negsuc 0))
parks_sends number p r None held = one _ (reply_is r code.InvalidTxnState (negsuc 0))

answers_send : (number : ℕ) (p : Partition) (store : Store) (r : Request) (verdict : Verdict)
    → ArePartitions (answers_request number p store r verdict).1
answers_send number p store r Next = one _ (reply_is r _ _)
answers_send number p store r (Duplicate offset) = one _ (reply_is r _ _)
answers_send number p store r Unverified = parks_sends number p r r.txn (pair_of r)
answers_send number p store r (Refused code) = one _ (reply_is r _ _)

request_sends : (number : ℕ) (p : Partition) (store : Store) (r : Option Request)
    → ArePartitions (on_request number p store r).1
request_sends number p store None = All-nil IsPartitions
request_sends number p store (Some r) =
    answers_send number p store r (judge_request (entries_of p) false r)

resumes_send : (number : ℕ) (p : Partition) (store : Store) (parked : List Parked)
    → ArePartitions (resumes number p store parked).1
resumes_send number p store [] = All-nil IsPartitions
resumes_send number p store (parked ∷ rest) =
    let r = parked.request in
    let one = answers_request number p store r (judge_request (entries_of p) true r) in
    All-append IsPartitions one.1 (resumes number one.0 store rest).1
    (answers_send number p store r (judge_request (entries_of p) true r))
    (resumes_send number one.0 store rest)

add_reply_sends : (number : ℕ) (p : Partition) (store : Store) (held : Held) (code : ErrorCode)
    → ArePartitions (on_add_reply number p store held code).1
add_reply_sends number p store held code.NoError =
    resumes_send number (record p { parked = without p.parked held }) store
    (parked_for p.parked held)
add_reply_sends number p store held other =
    All-map IsPartitions (passes_on other) (parked_for p.parked held)
    (All-from_contains (λ parked. IsPartitions (passes_on other parked))
    (parked_for p.parked held) (λ parked c. reply_is parked.request _ _))

fetch_sends : (caller : Caller) (number : ℕ) (page : Result Page ErrorCode)
    → IsPartitions (fetch_reply caller number page)
fetch_sends caller number (Err code) = fetch
fetch_sends caller number (Ok page) = fetch

join_sends : (caller : Caller) (group : List ℕ) (log : List Entry) (code : ErrorCode)
    → IsPartitions (join_reply caller group log code)
join_sends caller group log code.NoError = joined
join_sends caller group log other = joined

partition_sends : (number : ℕ) (p : Partition) (store : Store) (m : Message)
    → ArePartitions (partition_takes number p store m).1
partition_sends number p store (msg.AddReply it) =
    cond_both (it.partition == number) _ _ (λ (s : Served). ArePartitions s.1)
    (λ e. add_reply_sends number p store it.held it.code) (λ e. All-nil IsPartitions)
partition_sends number p store (msg.WriteMarker it) =
    cond_both (it.partition == number) _ _ (λ (s : Served). ArePartitions s.1)
    (λ e. one _ marked) (λ e. All-nil IsPartitions)
partition_sends number p store (msg.Fetch it) =
    cond_both (it.partition == number) _ _ (λ (s : Served). ArePartitions s.1)
    (λ e. one _ (fetch_sends it.caller number _)) (λ e. one _ fetch)
partition_sends number p store m = All-nil IsPartitions

data_sends : (number : ℕ) (p : Partition) (store : Store) (m : Message)
    → ArePartitions (data_takes number p store m).1
data_sends number p store (msg.Produce it) =
    cond_both (it.partition == number) _ _ (λ (s : Served). ArePartitions s.1)
    (λ e. request_sends number p store
    (request_of (msg.Produce it)))
    (λ e. one _ produced)
data_sends number p store m = partition_sends number p store m

offsets_sends : (p : Partition) (store : Store) (m : Message)
    → ArePartitions (offsets_takes p store m).1
offsets_sends p store (msg.TxnOffsetCommit it) =
    request_sends offsets_partition p store
    (request_of
    (msg.TxnOffsetCommit it))
offsets_sends p store (msg.Join it) =
    let t = changed p store (judge_join (entries_of p) it.group it.caller.client) in
    one _ (join_sends it.caller it.group (entries_of t.partition) t.code)
offsets_sends p store (msg.Leave it) = one _ left
offsets_sends p store (msg.OffsetFetch it) =
    one _ offset_there
offsets_sends p store (msg.Produce it) =
    cond_both (it.partition == offsets_partition) _ _ (λ (s : Served). ArePartitions s.1)
    (λ e. All-nil IsPartitions) (λ e. one _ produced)
offsets_sends p store m = partition_sends offsets_partition p store m

-- a partition's turn hands out messages of its kinds
pub turn_sends : (w : World) (number : ℕ) (p : Partition) (s : Served)
    → PartitionTurn w number p s → All IsPartitions s.1
turn_sends w number p s (takes store m c) =
    cond_both (number == offsets_partition) (offsets_takes p store m)
    (data_takes number p store m) (λ (s : Served). ArePartitions s.1)
    (λ e. offsets_sends p store m) (λ e. data_sends number p store m)
turn_sends w number p s (drops group member store e a b) = All-nil IsPartitions
turn_sends w number p s (puts_values value values store e fits) = All-nil IsPartitions
turn_sends w number p s (restarts how) = All-nil IsPartitions
turn_sends w number p s PartitionTurn.passes = All-nil IsPartitions

------ clients

-- the kinds that a client hands out
pub data IsClients : Message → Type 0 where
  init : {caller : Caller} {txn : Option (List ℕ)} {timeout : ℕ}
      → IsClients (the.InitProducerId caller txn timeout)
  ends : {caller : Caller} {txn : List ℕ} {held : Held} {outcome : Outcome}
      → IsClients (the.EndTxn caller txn held outcome)
  produce : {caller : Caller} {txn : Option (List ℕ)} {partition : ℕ} {text : List ℕ}
      → IsClients (the.Produce caller txn partition text)
  commit : {caller : Caller} {txn group : List ℕ} {member : ℕ} {generation : ℤ}
      {held : Held} {first : ℤ} {offsets : List PartitionOffset} → IsClients
      (the.TxnOffsetCommit caller txn group member generation held first offsets)
  join : {caller : Caller} {group : List ℕ}
      → IsClients (the.Join caller group)
  leave : {caller : Caller} {group : List ℕ}
      → IsClients (the.Leave caller group)
  fetches : {caller : Caller} {partition : ℕ} {from : ℤ} {max : ℕ} {committed : Bool}
      → IsClients (the.Fetch caller partition from max committed)
  fetches_offset : {caller : Caller} {group : List ℕ} {partition : ℕ} {stable : Bool}
      → IsClients (the.OffsetFetch caller group partition stable)

-- what a client may send is of its kinds
pub requests_are : (m : Message) → is_request m ≡ true → IsClients m
requests_are (msg.InitProducerId it) e = init
requests_are (msg.EndTxn it) e = ends
requests_are (msg.Produce it) e = produce
requests_are (msg.Fetch it) e = fetches
requests_are (msg.Join it) e = join
requests_are (msg.Leave it) e = leave
requests_are (msg.TxnOffsetCommit it) e = commit
requests_are (msg.OffsetFetch it) e = fetches_offset
requests_are m e = absurd cc

abbrev pub WaitsForOwn : Client → Type 0
WaitsForOwn c = All IsClients c.waiting

data Sends : Commanded → Type 0 where
  none : (fault : Fault) → Sends (Declines fault)
  those : (after : Client) (messages : List Message) → WaitsForOwn after
      → All IsClients messages → Sends (Does after messages)

asks_sends : (c : Client) (m : Message) → WaitsForOwn c → IsClients m → Sends (asks c m)
asks_sends c m h i =
    those (record c { correlation = c.correlation + 1; waiting = c.waiting ++ m ∷ [] }) (m ∷ [])
    (All-push IsClients c.waiting m h i) (All-cons IsClients m [] i (All-nil IsClients))

sends_send : (c : Client) (partition : ℕ) (records : List Record) (held : Option Held)
    → WaitsForOwn c → Sends (sends c partition records held)
sends_send c partition records None h = none _
sends_send c partition records (Some held) h = asks_sends _ _ h produce

offsets_send : (c : Client) (offsets : List PartitionOffset) (txn : Option (List ℕ))
    (held : Option Held) (place : Option Place) → WaitsForOwn c
    → Sends (sends_offsets c offsets txn held place)
offsets_send c offsets (Some txn) (Some held) (Some place) h = asks_sends _ _ h commit
offsets_send c offsets (Some txn) (Some held) None h = none _
offsets_send c offsets (Some txn) None place h = none _
offsets_send c offsets None held place h = none _

end_sends : (c : Client) (outcome : Outcome) (txn : Option (List ℕ)) (held : Option Held)
    → WaitsForOwn c → Sends (sends_end c outcome txn held)
end_sends c Commit (Some txn) (Some held) h =
    cond_both c.sent_some (asks c (the.EndTxn (caller_of c) txn held Commit))
    (Does (record c { in_transaction = false }) []) Sends (λ e. asks_sends c _ h ends)
    (λ e. those _ [] h (All-nil IsClients))
end_sends c Abort (Some txn) (Some held) h =
    asks_sends (record c { waiting = [] }) _ (All-nil IsClients) ends
end_sends c Commit None held h = none _
end_sends c Commit (Some txn) None h = none _
end_sends c Abort None held h = none _
end_sends c Abort (Some txn) None h = none _

leave_sends : (c : Client) (place : Option Place) → WaitsForOwn c → Sends (leaves c place)
leave_sends c None h = none _
leave_sends c (Some place) h = asks_sends c _ h leave

does_sends : (c : Client) (what : Command) → WaitsForOwn c → Sends (does c what)
does_sends c Init h =
    cond_both (list_any is_init c.waiting) (Does c (filter is_init c.waiting)) _ Sends
    (λ e. those c (filter is_init c.waiting) h (All-filter is_init IsClients c.waiting h))
    (λ e. asks_sends c _ h init)
does_sends c Begin h = those _ [] h (All-nil IsClients)
does_sends c (Send partition value more) h =
    sends_send c partition (value_records (value ∷ more)) c.held h
does_sends c (JoinGroup group) h = asks_sends _ _ h join
does_sends c LeaveGroup h = leave_sends c c.place h
does_sends c (SendOffsets offset more) h = offsets_send c (offset ∷ more) c.txn c.held c.place h
does_sends c (End outcome) h = end_sends c outcome c.txn c.held h
does_sends c Resend h = those c c.waiting h h
does_sends c Poll h = none _
does_sends c (FetchPage partition from) h = asks_sends c _ h fetches
does_sends c (FetchOffset group partition) h = asks_sends c _ h fetches_offset

-- what a command does is what it does once nothing is against it
pub unless_does : (checks : List (Bool × Fault)) (done : Commanded) (after : Client)
    (messages : List Message) → unless checks done ≡ Does after messages
    → done ≡ Does after messages
unless_does [] done after messages e = e
unless_does (check ∷ checks) done after messages e =
    at check.0 e (unless_does checks done after messages)
  where
    at : (b : Bool) → cond b (Declines check.1) (unless checks done) ≡ Does after messages
        → (unless checks done ≡ Does after messages → done ≡ Does after messages)
        → done ≡ Does after messages
    at true e more = absurd cc
    at false e more = more e

command_sends : (c : Client) (what : Command) (after : Client) (messages : List Message)
    → WaitsForOwn c → command c what ≡ Does after messages
    → WaitsForOwn after × All IsClients messages
unfolding command
command_sends c what after messages h e =
    by (does c what) (does_sends c what h)
    (unless_does (refusals c what) (does c what) after messages e)
  where
    by : (done : Commanded) → Sends done → done ≡ Does after messages
        → WaitsForOwn after × All IsClients messages
    by done (none fault) f = absurd cc
    by done (those d ms a b) f =
        let same_client : d ≡ after = cc in
        let same_messages : ms ≡ messages = cc in
        (subst WaitsForOwn same_client a, subst (All IsClients) same_messages b)

------ what a client hears

learns_waits : (meaning : Meaning) (c answered done : Client) → WaitsForOwn c
    → WaitsForOwn answered → WaitsForOwn done → WaitsForOwn (learns meaning c answered done)
learns_waits Done c answered done a b d = d
learns_waits Waits c answered done a b d = a
learns_waits Aborts c answered done a b d = b
learns_waits Fails c answered done a b d = b

holding_waits : (c : Client) (held : Option Held) → WaitsForOwn c → WaitsForOwn (holding c held)
holding_waits c None h = h
holding_waits c (Some held) h = h

told_waits : (c answered : Client) (reply : Message) → WaitsForOwn c → WaitsForOwn answered
    → WaitsForOwn (told c answered reply)
told_waits c answered (msg.InitReply it) a b =
    learns_waits (meaning it.code) c answered (holding answered it.held) a b
    (holding_waits answered it.held b)
told_waits c answered (msg.EndReply it) a b =
    learns_waits (meaning it.code) c answered _ a b (holding_waits answered it.held b)
told_waits c answered (msg.ProduceReply it) a b =
    learns_waits (meaning it.code) c answered answered a b b
told_waits c answered (msg.JoinReply it) a b =
    learns_waits (meaning it.code) c answered _ a b b
told_waits c answered (msg.LeaveReply it) a b =
    learns_waits (meaning it.code) c answered answered a b b
told_waits c answered (msg.OffsetsReply it) a b =
    learns_waits (offsets_meaning it.code) c answered answered a b b
told_waits c answered (msg.FetchReply it) a b =
    learns_waits (meaning it.code) c answered answered a b b
told_waits c answered (msg.OffsetFetchReply it) a b =
    learns_waits (offset_meaning it.code) c answered answered a b b
told_waits c answered m a b = a

reply_waits : (c : Client) (reply : Message) → WaitsForOwn c → WaitsForOwn (take_reply c reply)
unfolding take_reply
reply_waits c reply h =
    let answered : Client =
    record c { waiting = filter (λ m. not (is_answer_to reply m)) c.waiting } in
    cond_both (is_awaited c reply) (told c answered reply) c WaitsForOwn
    (λ e. told_waits c answered reply h
    (All-filter (λ m. not (is_answer_to reply m)) IsClients c.waiting h)) (λ e. h)

-- a client's turn hands out messages of its kinds, and leaves it waiting for such
pub client_sends : (w : World) (c after : Client) (messages : List Message)
    → ClientTurn w c after messages → WaitsForOwn c → WaitsForOwn after × All IsClients messages
client_sends w c after messages (commands what d ms fits e) h =
    command_sends c what after messages h e
client_sends w c after messages (hears m there) h = (reply_waits c m h, All-nil IsClients)
client_sends w c after messages ClientTurn.passes h = (h, All-nil IsClients)
