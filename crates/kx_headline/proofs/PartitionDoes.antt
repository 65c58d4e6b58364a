-- All that a partition does with a message, a put, a drop or a restart, once and for all: what may
-- be appended and by whose request, what is parked, and what each message that goes out rests on.
-- A theorem reads this, and no handler.
use Rattle.std.proofs.Common.{◌≡◌, ℕ, ℤ, pos, negsuc, Bool, true, false, not, ◌&&◌}
use Rattle.std.proofs.Common.{List, [], ◌∷◌, ◌++◌, Option, Some, None, refl, sym, ap, ◌∙◌, subst}
use Rattle.std.proofs.Common.{◌==◌, cond, Contains, All, map, arith, slice_index_or}
use Rattle.std.proofs.Common.{append-nil, Result, Ok, Err}
use Rattle.std.specs.Bool.{⊤}
use Rattle.std.specs.Prelude.{◌≢◌, length, min, nat_lt, option_to_list}
use Rattle.std.specs.List.{list_any}
use Rattle.std.proofs.lemmas.Bool.{and_parts, cond_both}
use Rattle.std.proofs.lemmas.Bool.Decides.{nat_tests}
use Rattle.std.proofs.lemmas.List.Elements.{All-append, All-cons, All-filter, All-head, All-map}
use Rattle.std.proofs.lemmas.List.Elements.{All-nil, All-push, All-tail, All-weaker}
use Rattle.std.proofs.lemmas.List.Elements.{Contains-get_or}
use Rattle.std.proofs.lemmas.List.Elements.{filter_passes}
use Rattle.kx_message.specs.declared.replies.FetchReply.{FetchReply}
use Rattle.kx_message.specs.declared.replies.JoinReply.{JoinReply}
use Rattle.kx_message.specs.declared.replies.LeaveReply.{LeaveReply}
use Rattle.kx_message.specs.declared.replies.OffsetFetchReply.{OffsetFetchReply}
use Rattle.kx_message.specs.declared.requests.Caller.{Caller}
use Rattle.kx_message.specs.Ranges.{offsets_partition}
use Rattle.kx_message.specs.declared.code.ErrorCode.{ErrorCode}
use Rattle.kx_message.specs.declared.code.ErrorCode.TheVariants as code
use Rattle.kx_message.specs.declared.message.Held.{Held}
use Rattle.kx_message.specs.declared.message.Message.{Message}
use Rattle.kx_message.specs.declared.message.Message.TheVariants as msg
use Rattle.kx_message.specs.Messages as the
use Rattle.kx_message.specs.declared.outcome.Outcome.{Outcome}
use Rattle.kx_varint.specs.BigEndian.{signed_text, unsigned_text}
use Rattle.kx_batch.specs.Batch.{batch_limit, batch_of}
use Rattle.kx_batch.specs.Build.{batch_text, fields_text, made, whole_text}
use Rattle.kx_batch.specs.Record.{Record}
use Rattle.kx_model.specs.Disk.{GrowsTo, Reopening, Reopens, CannotRead, CannotWrite, Store, Works}
use Rattle.kx_model.specs.Disk.{Fails, CannotLoad, appended, is_written, left_behind, works}
use Rattle.kx_model.specs.Groups.{Membership, Already, Refuses, Changes, judge_join, judge_leave}
use Rattle.kx_model.specs.Groups.{OffsetAnswer, generation, members, membership_text}
use Rattle.kx_model.specs.Groups.{offset_fetch, place_of, record_of}
use Rattle.kx_model.specs.Log.{Stored, end, entries}
use Rattle.kx_model.specs.PartitionNode.{Partition, Served, answers_request, at_end}
use Rattle.kx_model.specs.PartitionNode.{changed, data_takes, entries_of, marked_with, marker_of}
use Rattle.kx_model.specs.PartitionNode.{offsets_takes, on_add_reply}
use Rattle.kx_model.specs.PartitionNode.{fetch_reply, join_reply, node_takes, on_request, parks}
use Rattle.kx_model.specs.PartitionNode.{partition_restarts, partition_takes}
use Rattle.kx_model.specs.PartitionNode.{passes_on, puts, refused_produce, reopened, resumes}
use Rattle.kx_model.specs.PartitionNode.{taken}
use Rattle.kx_model.specs.Page.{Page, fetched, page}
use Rattle.kx_model.specs.Produce.{Appends, Answers, MarkerVerdict, Verdict, Next, Duplicate}
use Rattle.kx_model.specs.Produce.{Unverified, Refused, judge_marker, judge_text, stored_at}
use Rattle.kx_model.specs.Produce.{text_of}
use Rattle.kx_model.specs.Verification.{Parked, Request, Target, ToGroup, ToPartition, is_for}
use Rattle.kx_model.specs.Verification.{is_full, judge_request, pair_of}
use Rattle.kx_model.specs.Verification.{parked_for, partition_of, passed_on, reply_to, request_of}
use Rattle.kx_model.specs.Verification.{same_request, with_parked, without}
use Rattle.kx_model.proofs.NodeSteps.{grows_on, same}
use Rattle.kx_headline.proofs.Codes.{WithNoError, with_error, with_no_error}
use Rattle.kx_headline.proofs.Verdicts.{Tells, request_tells}

-- a text, stored behind a log
abbrev pub behind : List Stored → List ℕ → Stored
behind log text = stored_at (end (entries log)) text

-- the batch is of a producer without an id
abbrev pub HasNoProducer : List ℕ → Type 0
HasNoProducer text = (batch_of text).producer_id ≡ negsuc 0

-- what a parked request waits for is its batch's id and epoch
abbrev pub IsPaired : Parked → Type 0
IsPaired parked = pair_of parked.request ≡ Some parked.held

-- a batch that is made without a producer
pub made_without_producer : (records : List Record)
    → HasNoProducer (batch_text (made (pos 0) (negsuc 0) (negsuc 0) (negsuc 0) records))
unfolding whole_text fields_text signed_text unsigned_text
made_without_producer records = refl

-- the request is a commit of offsets
abbrev pub OfGroup : Target → Type 0
OfGroup (ToPartition partition) = ⊥
OfGroup (ToGroup group member generation) = Unit {0}

-- of a partition with its number, and the message that comes, if the event is that
module _ (number : ℕ) (p : Partition) (input : Option Message) where
  -- a request that came now, or was parked before
  pub data Origin (r : Request) : Type 0 where
    came : (m : Message) → input ≡ Some m → request_of m ≡ Some r → partition_of r.target ≡ number
        → (number ≡ offsets_partition → OfGroup r.target) → Origin r
    waited : (x : Parked) → Contains p.parked x → x.request ≡ r → Origin r

  -- how a request is judged: as it comes, or on the coordinator's yes to its pair
  pub data Judged (r : Request) : Bool → Type 0 where
    at_first : Judged r false
    on_yes : (txn : List ℕ) (held : Held)
        → input ≡ Some (the.AddReply number txn held code.NoError) → pair_of r ≡ Some held
        → Judged r true

  -- the text that may be appended to a log
  pub data May (log : List Stored) : List ℕ → Type 0 where
    request : (r : Request) (verified : Bool) → Origin r → Judged r verified
        → judge_request (entries log) verified r ≡ Next → May log r.text
    marker : (txn : List ℕ) (held : Held) (coordinator : ℤ) (outcome : Outcome)
        → input ≡ Some (the.WriteMarker number txn held coordinator outcome)
        → judge_marker (entries log) (marker_of held coordinator outcome) ≡ Appends
        → May log (text_of (marker_of held coordinator outcome))
    plain : (text : List ℕ) → HasNoProducer text → judge_text (entries log) true text ≡ Next
        → May log text

  -- the log after so many appends, or as a restart finds it
  pub data Grew : List Stored → Type 0 where
    unchanged : Grew p.disk.kept
    found : (stored : Stored) → p.disk.hidden ≡ Some stored → Grew (p.disk.kept ++ stored ∷ [])
    more : (log : List Stored) (text : List ℕ) → Grew log → May log text
        → Grew (log ++ behind log text ∷ [])

  -- what the store may hold behind the log
  pub data Hidden (log : List Stored) : Option Stored → Type 0 where
    kept : log ≡ p.disk.kept → Hidden log p.disk.hidden
    left : (text : List ℕ) → May log text → Hidden log (Some (behind log text))
    gone : Hidden log None

  ------ what is read of the log, and of its members

  -- a page of the log as it was
  pub record ReadsPage (log : List Stored) (reply : FetchReply) : Type 0 where
    pub from : ℤ
    pub max : ℕ
    pub committed : Bool
    pub page : Page
    pub asked : input ≡ Some (the.Fetch reply.caller number from max committed)
    pub here : reply.partition ≡ number
    pub grown : GrowsTo p.disk.kept log
    pub read : fetched p.disk.kept from (min max batch_limit) committed ≡ Ok page
    pub is : msg.FetchReply reply ≡ fetch_reply reply.caller number (Ok page)

  -- a committed offset of the log as it was
  pub record ReadsOffset (log : List Stored) (reply : OffsetFetchReply) : Type 0 where
    pub group : List ℕ
    pub partition : ℕ
    pub stable : Bool
    pub asked : input ≡ Some (the.OffsetFetch reply.caller group partition stable)
    pub here : number ≡ offsets_partition
    pub grown : GrowsTo p.disk.kept log
    pub read : offset_fetch (entries p.disk.kept) group partition stable
        ≡ record { code = code.NoError; offset = reply.offset }

  -- the log after a batch of no producer that is answered with 0, by the verdict on it
  abbrev pub IsPut : List ℕ → Verdict → List Stored → Type 0
  IsPut text Next after = after ≡ p.disk.kept ++ behind p.disk.kept text ∷ []
  IsPut text (Duplicate offset) after = after ≡ p.disk.kept
  IsPut text Unverified after = ⊥
  IsPut text (Refused c) after = c ≡ code.NoError

  -- the log after a change of members that is answered with 0
  abbrev pub Became : Membership → List Stored → Type 0
  Became Already after = after ≡ p.disk.kept
  Became (Refuses c) after = c ≡ code.NoError
  Became (Changes fact) after =
      IsPut (membership_text fact) (judge_text (entries p.disk.kept) true (membership_text fact))
      after

  pub record Joins (log : List Stored) (reply : JoinReply) : Type 0 where
    pub group : List ℕ
    pub after : List Stored
    pub asked : input ≡ Some (the.Join reply.caller group)
    pub here : number ≡ offsets_partition
    pub grown : GrowsTo after log
    pub became : Became (judge_join (entries p.disk.kept) group reply.caller.client) after
    pub generation : reply.generation ≡ pos (generation (entries after) group)
    pub place : reply.place ≡ place_of (entries after) group reply.caller.client
    pub count : reply.count ≡ length (members (entries after) group)

  pub record Leaves (log : List Stored) (reply : LeaveReply) : Type 0 where
    pub group : List ℕ
    pub after : List Stored
    pub asked : input ≡ Some (the.Leave reply.caller group)
    pub here : number ≡ offsets_partition
    pub grown : GrowsTo after log
    pub became : Became (judge_leave (entries p.disk.kept) group reply.caller.client) after

  -- what a reply of code 0 that says nothing of a batch rests on
  abbrev pub Reads : List Stored → Message → Type 0
  Reads log (msg.FetchReply it) = WithNoError it.code (ReadsPage log it)
  Reads log (msg.JoinReply it) = WithNoError it.code (Joins log it)
  Reads log (msg.LeaveReply it) = WithNoError it.code (Leaves log it)
  Reads log (msg.OffsetFetchReply it) = WithNoError it.code (ReadsOffset log it)
  Reads log m = ⊥

  -- what a message that goes out rests on
  pub data Out (log : List Stored) : Message → Type 0 where
    done : (r : Request) (earlier : List Stored) (verified : Bool) → Origin r
        → judge_request (entries earlier) verified r ≡ Next
        → GrowsTo (earlier ++ behind earlier r.text ∷ []) log
        → Out log (reply_to r code.NoError (pos (end (entries earlier))))
    again : (r : Request) (offset : ℕ) (earlier : List Stored) (verified : Bool) → Origin r
        → Grew earlier → GrowsTo earlier log
        → judge_request (entries earlier) verified r ≡ Duplicate offset
        → Out log (reply_to r code.NoError (pos offset))
    refused : (r : Request) (c : ErrorCode) → Origin r → c ≢ code.NoError
        → Out log (reply_to r c (negsuc 0))
    elsewhere : (caller : Caller) (partition : ℕ)
        → Out log (the.ProduceReply caller partition code.UnknownTopicOrPartition
        (negsuc 0))
    asks : (m : Message) (r : Request) (txn : List ℕ) (held : Held) → input ≡ Some m
        → request_of m ≡ Some r → partition_of r.target ≡ number → r.txn ≡ Some txn
        → pair_of r ≡ Some held → Out log (the.AddPartition txn held number)
    marked : (txn : List ℕ) (held : Held) (coordinator : ℤ) (outcome : Outcome)
        → input ≡ Some (the.WriteMarker number txn held coordinator outcome)
        → judge_marker (entries p.disk.kept) (marker_of held coordinator outcome) ≡ Appends
        → GrowsTo (p.disk.kept
        ++ behind p.disk.kept (text_of (marker_of held coordinator outcome)) ∷ []) log
        → Out log (the.MarkerReply number txn held code.NoError)
    unmarked : (txn : List ℕ) (held : Held) (coordinator : ℤ) (outcome : Outcome)
        (c : ErrorCode) → input ≡ Some (the.WriteMarker number txn held coordinator outcome)
        → (c ≡ code.NoError → judge_marker (entries p.disk.kept)
        (marker_of held coordinator outcome) ≡ Answers code.NoError)
        → Out log (the.MarkerReply number txn held c)
    reads : (x : Message) → Reads log x → Out log x

  -- a parked request is one that came, with its pair
  pub record Waits (x : Parked) : Type 0 where
    pub origin : Origin x.request
    pub paired : IsPaired x

  pub record State (q : Partition) : Type 0 where
    pub log : Grew q.disk.kept
    pub hidden : Hidden q.disk.kept q.disk.hidden
    pub parked : All Waits q.parked

  pub record Does (q : Partition) (s : Served) : Type 0 where
    pub state : State s.0
    pub grows : GrowsTo q.disk.kept s.0.disk.kept
    pub out : All (Out s.0.disk.kept) s.1

  ------ what goes out

  one : (log : List Stored) (x : Message) → Out log x → All (Out log) (x ∷ [])
  one log x o = All-cons (Out log) x [] o (All-nil (Out log))

  says : (q : Partition) (x : Message) → State q → Out q.disk.kept x → Does q (q, x ∷ [])
  says q x st o = record { state = st; grows = same q.disk.kept; out = one q.disk.kept x o }

  silent : (q : Partition) → State q → Does q (q, [])
  silent q st =
      record { state = st; grows = same q.disk.kept; out = All-nil (Out q.disk.kept) }

  reads_later : (log later : List Stored) → GrowsTo log later → (x : Message) → Reads log x
      → Reads later x
  reads_later log later g (msg.FetchReply it) h = with_no_error it.code (λ r. record {
    from = r.from;
    max = r.max;
    committed = r.committed;
    page = r.page;
    asked = r.asked;
    here = r.here;
    grown = grows_on p.disk.kept log later r.grown g;
    read = r.read;
    is = r.is;
  }) h
  reads_later log later g (msg.JoinReply it) h = with_no_error it.code (λ r. record {
    group = r.group;
    after = r.after;
    asked = r.asked;
    here = r.here;
    grown = grows_on r.after log later r.grown g;
    became = r.became;
    generation = r.generation;
    place = r.place;
    count = r.count;
  }) h
  reads_later log later g (msg.LeaveReply it) h = with_no_error it.code (λ r. record {
    group = r.group;
    after = r.after;
    asked = r.asked;
    here = r.here;
    grown = grows_on r.after log later r.grown g;
    became = r.became;
  }) h
  reads_later log later g (msg.OffsetFetchReply it) h = with_no_error it.code (λ r. record {
    group = r.group;
    partition = r.partition;
    stable = r.stable;
    asked = r.asked;
    here = r.here;
    grown = grows_on p.disk.kept log later r.grown g;
    read = r.read;
  }) h
  reads_later log later g x h = absurd h

  out_later : (log later : List Stored) → GrowsTo log later → (x : Message) → Out log x
      → Out later x
  out_later log later g x (done r earlier v o j h) =
      done r earlier v o j (grows_on (earlier ++ behind earlier r.text ∷ []) log later h g)
  out_later log later g x (again r offset earlier v o was h j) =
      again r offset earlier v o was (grows_on earlier log later h g) j
  out_later log later g x (refused r c o n) = refused r c o n
  out_later log later g x (elsewhere caller partition) = elsewhere caller partition
  out_later log later g x (asks m r txn held i e n t h) = asks m r txn held i e n t h
  out_later log later g x (marked txn held coordinator outcome i j h) =
      marked txn held coordinator outcome i j
      (grows_on (p.disk.kept
      ++ behind p.disk.kept (text_of (marker_of held coordinator outcome)) ∷ []) log later h g)
  out_later log later g x (unmarked txn held coordinator outcome c i h) =
      unmarked txn held coordinator outcome c i h
  out_later log later g x (reads y h) = reads y (reads_later log later g y h)

  ------ an append

  -- the partition after an append of a text
  abbrev with_text : Partition → Store → List ℕ → Partition
  with_text q store text =
      record q { disk = appended q.disk store (behind q.disk.kept text) }

  appended_hidden : (q : Partition) (text : List ℕ) → State q → May q.disk.kept text
      → (closed : Bool) (store : Store)
      → Hidden (cond (not closed && works store) (q.disk.kept ++ behind q.disk.kept text ∷ [])
      q.disk.kept) (cond closed q.disk.hidden (left_behind store (behind q.disk.kept text)))
  appended_hidden q text st may true store = st.hidden
  appended_hidden q text st may false Works = gone
  appended_hidden q text st may false (Fails true) = left text may
  appended_hidden q text st may false (Fails false) = gone
  appended_hidden q text st may false CannotLoad = gone

  appended_state : (q : Partition) (store : Store) (text : List ℕ) → State q
      → May q.disk.kept text → State (with_text q store text)
  appended_state q store text st may = record {
    log = cond_both (is_written q.disk store) (q.disk.kept ++ behind q.disk.kept text ∷ [])
        q.disk.kept Grew (λ e. more q.disk.kept text st.log may) (λ e. st.log);
    hidden = appended_hidden q text st may q.disk.closed store;
    parked = st.parked;
  }

  appended_grows : (q : Partition) (store : Store) (text : List ℕ)
      → GrowsTo q.disk.kept (with_text q store text).disk.kept
  appended_grows q store text =
      cond_both (is_written q.disk store) (q.disk.kept ++ behind q.disk.kept text ∷ [])
      q.disk.kept (GrowsTo q.disk.kept)
      (λ e. record { more = behind q.disk.kept text ∷ []; parts = refl })
      (λ e. same q.disk.kept)

  -- the code of an append's reply, and the log after it
  by_written : (written : Bool) (log later : List Stored) (P : List Stored → ErrorCode → ℤ → Type 0)
      (offset : ℕ) → P later code.NoError (pos offset) → P log code.KafkaStorageError (negsuc 0)
      → P (cond written later log) (cond written code.NoError code.KafkaStorageError)
      (cond written (pos offset) (negsuc 0))
  by_written true log later P offset yes_is no_is = yes_is
  by_written false log later P offset yes_is no_is = no_is

  storage_fails : code.KafkaStorageError ≢ code.NoError
  storage_fails e = cc

  ------ requests

  parks_does : (q : Partition) (m : Message) (r : Request) (txn : Option (List ℕ))
      (held : Option Held) → State q → input ≡ Some m → request_of m ≡ Some r
      → partition_of r.target ≡ number → (number ≡ offsets_partition → OfGroup r.target)
      → r.txn ≡ txn → pair_of r ≡ held → Does q (parks number q r txn held)
  parks_does q m r None held st i e n g t h =
      says q (reply_to r code.InvalidTxnState (negsuc 0)) st
      (refused r code.InvalidTxnState (came m i e n g) (λ e. cc))
  parks_does q m r (Some txn) None st i e n g t h =
      says q (reply_to r code.InvalidTxnState (negsuc 0)) st
      (refused r code.InvalidTxnState (came m i e n g) (λ e. cc))
  parks_does q m r (Some txn) (Some held) st i e n g t h =
      let full = is_full q.parked held r in
      let there = list_any (λ x. same_request x.request r) q.parked in
      let x : Parked = record { held = held; request = r } in
      let one_more = All-push Waits q.parked x st.parked
      (record { origin = came m i e n g; paired = h }) in
      record {
        state = record {
          log = st.log;
          hidden = st.hidden;
          parked = cond_both full q.parked (with_parked q.parked held r) (All Waits)
              (λ b. st.parked)
              (λ b. cond_both there q.parked (q.parked ++ x ∷ []) (All Waits) (λ c. st.parked)
              (λ c. one_more));
        };
        grows = same q.disk.kept;
        out = one q.disk.kept
            (cond full (reply_to r code.ConcurrentTransactions (negsuc 0))
            (the.AddPartition txn held number))
            (cond_both full (reply_to r code.ConcurrentTransactions (negsuc 0))
            (the.AddPartition txn held number) (Out q.disk.kept)
            (λ b. refused r code.ConcurrentTransactions (came m i e n g) (λ e. cc))
            (λ b. asks m r txn held i e n t h));
      }

  -- a request judged at first, or on a yes; on a yes it is never unverified
  answers_does : (q : Partition) (store : Store) (r : Request) (verified : Bool) (v : Verdict)
      → State q → Origin r → Judged r verified → judge_request (entries_of q) verified r ≡ v
      → Tells verified v
      → (verified ≡ false → (m : Message) × (input ≡ Some m) × (request_of m ≡ Some r)
      × (partition_of r.target ≡ number) × (number ≡ offsets_partition → OfGroup r.target))
      → Does q (answers_request number q store r v)
  answers_does q store r verified Next st o j e tells here =
      let log = q.disk.kept in
      record {
        state = appended_state q store r.text st (request r verified o j e);
        grows = appended_grows q store r.text;
        out = by_written (is_written q.disk store) log (log ++ behind log r.text ∷ [])
            (λ after c offset. All (Out after) (reply_to r c offset ∷ [])) (at_end q)
            (one (log ++ behind log r.text ∷ []) (reply_to r code.NoError (pos (at_end q)))
            (done r log verified o e (same (log ++ behind log r.text ∷ []))))
            (one log (reply_to r code.KafkaStorageError (negsuc 0))
            (refused r code.KafkaStorageError o storage_fails));
      }
  answers_does q store r verified (Duplicate offset) st o j e tells here =
      says q (reply_to r code.NoError (pos offset)) st
      (again r offset q.disk.kept verified o st.log (same q.disk.kept) e)
  answers_does q store r verified Unverified st o j e tells here =
      let h = here tells in
      parks_does q h.0 r r.txn (pair_of r) st h.1 h.2 h.3 h.4 refl refl
  answers_does q store r verified (Refused c) st o j e tells here =
      says q (reply_to r c (negsuc 0)) st (refused r c o tells)

  on_request_does : (q : Partition) (store : Store) (m : Message) (r : Request) → State q
      → input ≡ Some m → request_of m ≡ Some r → partition_of r.target ≡ number
      → (number ≡ offsets_partition → OfGroup r.target)
      → Does q (on_request number q store (Some r))
  on_request_does q store m r st i e n g =
      answers_does q store r false (judge_request (entries_of q) false r) st (came m i e n g)
      at_first refl (request_tells (entries_of q) false r) (λ f. (m, i, e, n, g))

  ------ a reply of the coordinator

  -- a parked request that is judged on a yes
  record Resumes (x : Parked) : Type 0 where
    origin : Origin x.request
    judged : Judged x.request true

  resumes_does : (q : Partition) (store : Store) (xs : List Parked) → State q → All Resumes xs
      → Does q (resumes number q store xs)
  resumes_does q store [] st h = silent q st
  resumes_does q store (x ∷ rest) st h =
      let first = All-head Resumes x rest h in
      let r : Request = x.request in
      let v = judge_request (entries_of q) true r in
      let one_does = answers_does q store r true v st first.origin first.judged refl
      (request_tells (entries_of q) true r) (λ f. absurd cc) in
      let s : Served = answers_request number q store r v in
      let rest_does = resumes_does s.0 store rest one_does.state (All-tail Resumes x rest h) in
      let t : Served = resumes number s.0 store rest in
      record {
        state = rest_does.state;
        grows = grows_on q.disk.kept s.0.disk.kept t.0.disk.kept one_does.grows rest_does.grows;
        out = All-append (Out t.0.disk.kept) s.1 t.1
            (All-weaker (Out s.0.disk.kept) (Out t.0.disk.kept)
            (out_later s.0.disk.kept t.0.disk.kept rest_does.grows) s.1 one_does.out)
            rest_does.out;
      }

  same_held : (held : Held) (x : Parked) → is_for held x ≡ true → x.held ≡ held
  same_held held x h =
      let a = and_parts (x.held.id == held.id) (x.held.epoch == held.epoch) h in
      let i : x.held.id ≡ held.id = grind (arith, nat_tests, a.0) in
      let e : x.held.epoch ≡ held.epoch = grind (arith, nat_tests, a.1) in
      λ j. record { id = i j; epoch = e j }

  no_success : (c : ErrorCode) → c ≢ code.NoError → passed_on c ≢ code.NoError
  no_success code.ProducerFenced n = λ e. cc
  no_success c n = n

  others_wait : (held : Held) → State p → All Waits (without p.parked held)
  others_wait held st = All-filter (λ x. not (is_for held x)) Waits p.parked st.parked

  on_yes_does : (store : Store) (txn : List ℕ) (held : Held) → State p
      → input ≡ Some (the.AddReply number txn held code.NoError)
      → Does p (on_add_reply number p store held code.NoError)
  on_yes_does store txn held st i =
      let d = resumes_does (record p { parked = without p.parked held }) store
      (parked_for p.parked held)
      (record { log = st.log; hidden = st.hidden; parked = others_wait held st }) waiting in
      record { state = d.state; grows = d.grows; out = d.out }
    where
      resumed : (x : Parked) → Waits x → is_for held x ≡ true → Resumes x
      resumed x w h = record {
        origin = w.origin;
        judged = on_yes txn held i (w.paired ∙ ap Some (same_held held x h));
      }

      waiting : All Resumes (parked_for p.parked held)
      waiting k d lt =
          resumed (slice_index_or (parked_for p.parked held) k d)
          (All-filter (is_for held) Waits p.parked st.parked k d lt)
          (filter_passes (is_for held) p.parked k d lt)

  on_no_does : (store : Store) (held : Held) (c : ErrorCode) → State p → c ≢ code.NoError
      → Does p (
        record p { parked = without p.parked held },
        map (passes_on c) (parked_for p.parked held),
      )
  on_no_does store held c st n = record {
    state = record { log = st.log; hidden = st.hidden; parked = others_wait held st };
    grows = same p.disk.kept;
    out = All-map (Out p.disk.kept) (passes_on c) (parked_for p.parked held)
        (All-weaker Waits (λ x. Out p.disk.kept (passes_on c x))
        (λ x w. refused x.request (passed_on c) w.origin (no_success c n))
        (parked_for p.parked held) (All-filter (is_for held) Waits p.parked st.parked));
  }

  on_reply_does : (store : Store) (txn : List ℕ) (held : Held) (c : ErrorCode) → State p
      → input ≡ Some (the.AddReply number txn held c) → Does p (on_add_reply number p store held c)
  on_reply_does store txn held code.NoError st i = on_yes_does store txn held st i
  on_reply_does store txn held c st i = on_no_does store held c st (λ e. cc)

  ------ markers

  on_marker_does : (store : Store) (txn : List ℕ) (held : Held) (coordinator : ℤ)
      (outcome : Outcome) (v : MarkerVerdict) → State p
      → input ≡ Some (the.WriteMarker number txn held coordinator outcome)
      → judge_marker (entries_of p) (marker_of held coordinator outcome) ≡ v
      → Does p (
        (marked_with p store (marker_of held coordinator outcome) v).partition,
        the.MarkerReply number txn held
            (marked_with p store (marker_of held coordinator outcome) v).code ∷ [],
      )
  on_marker_does store txn held coordinator outcome (Answers c) st i j =
      says p (the.MarkerReply number txn held c) st
      (unmarked txn held coordinator outcome c i (λ e. j ∙ ap Answers e))
  on_marker_does store txn held coordinator outcome Appends st i j =
      let log = p.disk.kept in
      let text = text_of (marker_of held coordinator outcome) in
      let later = log ++ behind log text ∷ [] in
      record {
        state = appended_state p store text st (marker txn held coordinator outcome i j);
        grows = appended_grows p store text;
        out = by_written (is_written p.disk store) log later
            (λ after c offset. All (Out after) (the.MarkerReply number txn held c ∷ [])) (at_end p)
            (one later (the.MarkerReply number txn held code.NoError)
            (marked txn held coordinator outcome i j (same later)))
            (one log (the.MarkerReply number txn held code.KafkaStorageError)
            (unmarked txn held coordinator outcome code.KafkaStorageError i
            (λ e. absurd (storage_fails e))));
      }

  ------ batches of no producer

  -- the partition after a batch that isn't a producer's
  pub record Put (q after : Partition) : Type 0 where
    pub state : State after
    pub grows : GrowsTo q.disk.kept after.disk.kept

  put_by : (q : Partition) (store : Store) (text : List ℕ) (v : Verdict) → State q
      → HasNoProducer text → judge_text (entries_of q) true text ≡ v
      → Put q (taken q store text v).partition
  put_by q store text Next st h e = record {
    state = appended_state q store text st (plain text h e);
    grows = appended_grows q store text;
  }
  put_by q store text (Duplicate offset) st h e =
      record { state = st; grows = same q.disk.kept }
  put_by q store text Unverified st h e = record { state = st; grows = same q.disk.kept }
  put_by q store text (Refused c) st h e = record { state = st; grows = same q.disk.kept }

  pub puts_does : (q : Partition) (store : Store) (text : List ℕ) → State q → HasNoProducer text
      → Put q (puts q store text).partition
  puts_does q store text st h = put_by q store text (judge_text (entries_of q) true text) st h refl

  pub changed_does : (q : Partition) (store : Store) (membership : Membership) → State q
      → Put q (changed q store membership).partition
  changed_does q store Already st = record { state = st; grows = same q.disk.kept }
  changed_does q store (Refuses c) st = record { state = st; grows = same q.disk.kept }
  changed_does q store (Changes fact) st =
      puts_does q store (membership_text fact) st (made_without_producer (record_of 0 fact ∷ []))

  is_put : (store : Store) (text : List ℕ) (v : Verdict)
      → (taken p store text v).code ≡ code.NoError
      → IsPut text v (taken p store text v).partition.disk.kept
  is_put store text Next e = at (is_written p.disk store) e
    where
      at : (written : Bool)
          → cond written code.NoError code.KafkaStorageError ≡ code.NoError
          → cond written (p.disk.kept ++ behind p.disk.kept text ∷ []) p.disk.kept
          ≡ p.disk.kept ++ behind p.disk.kept text ∷ []
      at true e = refl
      at false e = absurd (storage_fails e)
  is_put store text (Duplicate offset) e = refl
  is_put store text Unverified e = cc
  is_put store text (Refused c) e = e

  pub became : (store : Store) (membership : Membership)
      → (changed p store membership).code ≡ code.NoError
      → Became membership (changed p store membership).partition.disk.kept
  became store Already e = refl
  became store (Refuses c) e = e
  became store (Changes fact) e =
      let text = membership_text fact in
      is_put store text (judge_text (entries_of p) true text) e

  tells : (q after : Partition) (x : Message) → Put q after → Reads after.disk.kept x
      → Does q (after, x ∷ [])
  tells q after x d r = record {
    state = d.state;
    grows = d.grows;
    out = one after.disk.kept x (reads x r);
  }

  ------ restarts

  found_hidden : (h : Option Stored) → p.disk.hidden ≡ h → Grew (p.disk.kept ++ option_to_list h)
  found_hidden None e = subst Grew (sym (append-nil p.disk.kept)) unchanged
  found_hidden (Some stored) e = found stored e

  reopened_does : State p → Put p (reopened p)
  reopened_does st = record {
    state = record { log = found_hidden p.disk.hidden refl; hidden = gone; parked = All-nil Waits };
    grows = record { more = option_to_list p.disk.hidden; parts = refl };
  }

  pub restarts_does : (how : Reopening) → State p → Put p (partition_restarts p how)
  restarts_does Reopens st = reopened_does st
  restarts_does CannotRead st = record {
    state = record { log = st.log; hidden = st.hidden; parked = st.parked };
    grows = same p.disk.kept;
  }
  restarts_does (CannotWrite whole) st = reopened_does st

  -- as it was before the event
  pub was : All IsPaired p.parked → State p
  was paired = record {
    log = unchanged;
    hidden = kept refl;
    parked = λ k d lt. record {
      origin = waited (slice_index_or p.parked k d) (Contains-get_or p.parked k d lt) refl;
      paired = paired k d lt;
    };
  }

------ the whole of a message

-- a refusal has a code
abbrev IsAnswer : Result Page ErrorCode → Type 0
IsAnswer (Ok page) = ⊤
IsAnswer (Err c) = c ≢ code.NoError

fetched_tells : (log : List Stored) (from : ℤ) (room : ℕ) (committed : Bool)
    → IsAnswer (fetched log from room committed)
unfolding fetched
fetched_tells log (negsuc n) room committed = λ e. cc
fetched_tells log (pos from) room committed =
    cond_both (nat_lt (end (entries log)) from) (Err code.OffsetOutOfRange)
    (Ok (page log from room committed)) IsAnswer (λ e f. cc) (λ e. tt)

module _ (number : ℕ) (p : Partition) (store : Store) (paired : All IsPaired p.parked) where
  abbrev DoesWith : Message → Served → Type 0
  DoesWith m s = Does number p (Some m) p s

  abbrev before : (m : Message) → State number p (Some m) p
  before m = was number p (Some m) paired

  is_here : (n : ℕ) → (n == number) ≡ true → n ≡ number
  is_here n e = grind (arith, nat_tests, e)

  takes_does : (m : Message) → DoesWith m (partition_takes number p store m)
  takes_does (msg.AddReply it) =
      let m = msg.AddReply it in
      cond_both (it.partition == number) _ _ (DoesWith m)
      (λ e. on_reply_does number p (Some m) store it.txn it.held it.code (before m)
      (ap (λ x. Some (the.AddReply x it.txn it.held it.code)) (is_here it.partition e)))
      (λ e. silent number p (Some m) p (before m))
  takes_does (msg.WriteMarker it) =
      let m = msg.WriteMarker it in
      cond_both (it.partition == number) _ _ (DoesWith m)
      (λ e. on_marker_does number p (Some m) store it.txn it.held it.coordinator_epoch it.outcome
      (judge_marker (entries_of p) (marker_of it.held it.coordinator_epoch it.outcome)) (before m)
      (ap (λ x. Some (the.WriteMarker x it.txn it.held it.coordinator_epoch it.outcome))
      (is_here it.partition e)) refl)
      (λ e. silent number p (Some m) p (before m))
  takes_does (msg.Fetch it) =
      let m = msg.Fetch it in
      let none = fetch_reply it.caller it.partition (Err code.UnknownTopicOrPartition) in
      cond_both (it.partition == number) _ _ (DoesWith m)
      (λ e. fetch_does m it.caller it.from it.max it.committed
      (ap (λ x. Some (the.Fetch it.caller x it.from it.max it.committed))
      (is_here it.partition e))
      (fetched p.disk.kept it.from (min it.max batch_limit) it.committed) refl
      (fetched_tells p.disk.kept it.from (min it.max batch_limit) it.committed))
      (λ e. says number p (Some m) p none (before m) (reads none tt))
    where
      fetch_does : (m : Message) (caller : Caller) (from : ℤ) (max : ℕ) (committed : Bool)
          → Some m ≡ Some (the.Fetch caller number from max committed)
          → (r : Result Page ErrorCode)
          → fetched p.disk.kept from (min max batch_limit) committed ≡ r → IsAnswer r
          → DoesWith m (p, fetch_reply caller number r ∷ [])
      fetch_does m caller from max committed asked (Ok page) e a =
          let reply = fetch_reply caller number (Ok page) in
          says number p (Some m) p reply (before m) (reads reply (record {
            from = from;
            max = max;
            committed = committed;
            page = page;
            asked = asked;
            here = refl;
            grown = same p.disk.kept;
            read = e;
            is = refl;
          }))
      fetch_does m caller from max committed asked (Err c) e a =
          let reply = fetch_reply caller number (Err c) in
          says number p (Some m) p reply (before m)
          (reads reply (with_error c (ReadsPage number p (Some m) p.disk.kept _) a))
  takes_does m = silent number p (Some m) p (before m)

  data_takes_does : number ≢ offsets_partition → (m : Message)
      → DoesWith m (data_takes number p store m)
  data_takes_does not_offsets (msg.Produce it) =
      let m = msg.Produce it in
      cond_both (it.partition == number) _ _ (DoesWith m)
      (λ e. on_request_does number p (Some m) p store m _ (before m) refl refl
      (grind (arith, nat_tests, e)) (λ same. absurd (not_offsets same)))
      (λ e. says number p (Some m) p (the.ProduceReply it.caller it.partition
      code.UnknownTopicOrPartition (negsuc 0)) (before m)
      (elsewhere it.caller it.partition))
  data_takes_does not_offsets m = takes_does m

module _ (p : Partition) (store : Store) (paired : All IsPaired p.parked) where
  abbrev OffsetsDoes : Message → Served → Type 0
  OffsetsDoes m s = Does offsets_partition p (Some m) p s

  abbrev at_offsets : (m : Message) → State offsets_partition p (Some m) p
  at_offsets m = was offsets_partition p (Some m) paired

  join_reads : (m : Message) (store : Store) (caller : Caller) (group : List ℕ)
      → m ≡ the.Join caller group → (after : List Stored) (c : ErrorCode)
      → (c ≡ code.NoError → Became offsets_partition p (Some m)
      (judge_join (entries_of p) group caller.client) after)
      → Reads offsets_partition p (Some m) after
      (join_reply caller group (entries after) c)
  join_reads m store caller group asked after code.NoError b = record {
    group = group;
    after = after;
    asked = ap Some asked;
    here = refl;
    grown = same after;
    became = b refl;
    generation = refl;
    place = refl;
    count = refl;
  }
  join_reads m store caller group asked after c b = tt

  leave_reads : (m : Message) (store : Store) (caller : Caller) (group : List ℕ)
      → m ≡ the.Leave caller group → (after : List Stored) (c : ErrorCode)
      → (c ≡ code.NoError → Became offsets_partition p (Some m)
      (judge_leave (entries_of p) group caller.client) after)
      → Reads offsets_partition p (Some m) after (the.LeaveReply caller c)
  leave_reads m store caller group asked after code.NoError b = record {
    group = group;
    after = after;
    asked = ap Some asked;
    here = refl;
    grown = same after;
    became = b refl;
  }
  leave_reads m store caller group asked after c b = tt

  offset_reads : (caller : Caller) (group : List ℕ) (partition : ℕ) (stable : Bool)
      (a : OffsetAnswer) → offset_fetch (entries_of p) group partition stable ≡ a
      → (c : ErrorCode) → a.code ≡ c
      → Reads offsets_partition p (Some (the.OffsetFetch caller group partition stable))
      p.disk.kept (the.OffsetFetchReply caller c a.offset)
  offset_reads caller group partition stable a e code.NoError f = record {
    group = group;
    partition = partition;
    stable = stable;
    asked = refl;
    here = refl;
    grown = same p.disk.kept;
    read = e ∙ (λ i. record { code = f i; offset = a.offset });
  }
  offset_reads caller group partition stable a e c f = tt

  offsets_takes_does : (m : Message) → OffsetsDoes m (offsets_takes p store m)
  offsets_takes_does (msg.TxnOffsetCommit it) =
      let m =
      msg.TxnOffsetCommit it in
      on_request_does offsets_partition p (Some m) p store m _ (at_offsets m) refl refl refl
      (λ same. tt)
  offsets_takes_does (msg.Join it) =
      let m = msg.Join it in
      let t = changed p store (judge_join (entries_of p) it.group it.caller.client) in
      let reply = join_reply it.caller it.group (entries_of t.partition) t.code in
      tells offsets_partition p (Some m) p t.partition reply
      (changed_does offsets_partition p (Some m) p store
      (judge_join (entries_of p) it.group it.caller.client)
      (at_offsets m))
      (join_reads m store it.caller it.group refl t.partition.disk.kept t.code
      (became offsets_partition p (Some m) store
      (judge_join (entries_of p) it.group it.caller.client)))
  offsets_takes_does (msg.Leave it) =
      let m = msg.Leave it in
      let t = changed p store (judge_leave (entries_of p) it.group it.caller.client) in
      tells offsets_partition p (Some m) p t.partition (the.LeaveReply it.caller t.code)
      (changed_does offsets_partition p (Some m) p store
      (judge_leave (entries_of p) it.group it.caller.client)
      (at_offsets m))
      (leave_reads m store it.caller it.group refl t.partition.disk.kept t.code
      (became offsets_partition p (Some m) store
      (judge_leave (entries_of p) it.group it.caller.client)))
  offsets_takes_does (msg.OffsetFetch it) =
      let m = msg.OffsetFetch it in
      let a = offset_fetch (entries_of p) it.group it.partition it.stable in
      let reply = the.OffsetFetchReply it.caller a.code a.offset in
      says offsets_partition p (Some m) p reply (at_offsets m)
      (reads reply (offset_reads it.caller it.group it.partition it.stable a refl a.code refl))
  offsets_takes_does (msg.Produce it) =
      let m = msg.Produce it in
      cond_both (it.partition == offsets_partition) _ _ (OffsetsDoes m)
      (λ e. silent offsets_partition p (Some m) p (at_offsets m))
      (λ e. says offsets_partition p (Some m) p (refused_produce it.caller it.partition)
      (at_offsets m) (elsewhere it.caller it.partition))
  offsets_takes_does m = takes_does offsets_partition p store paired m

-- a partition does no more than this with a message
pub node_does : (number : ℕ) (p : Partition) (store : Store) (m : Message)
    → All IsPaired p.parked → Does number p (Some m) p (node_takes number p store m)
node_does number p store m paired =
    cond_both (number == offsets_partition) (offsets_takes p store m)
    (data_takes number p store m) (Does number p (Some m) p)
    (λ e. let is : offsets_partition ≡ number = grind (arith, nat_tests, e) in
    subst (λ n. Does n p (Some m) p (offsets_takes p store m)) is
    (offsets_takes_does p store paired m))
    (λ e. data_takes_does number p store paired (λ same. grind (arith, nat_tests, e, same)) m)
