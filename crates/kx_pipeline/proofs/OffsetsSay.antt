-- What the replies of the offsets partition say of its log: how it judged a commit of offsets,
-- which members a group has, and which offset it committed.
use Rattle.std.proofs.Common.{◌≡◌, ℕ, ℤ, pos, negsuc, Bool, true, false, cond, List}
use Rattle.std.proofs.Common.{append-nil, [], ◌∷◌, ◌++◌, length, Option, Some, None, ◌==◌, Contains}
use Rattle.std.proofs.Common.{All}
use Rattle.std.proofs.Common.{refl, sym, ap, ◌∙◌, subst, Result, Ok, Err}
use Rattle.std.specs.Prelude.{min}
use Rattle.std.proofs.lemmas.Bool.{cond_both}
use Rattle.std.proofs.lemmas.List.Elements.{All-append, All-cons, All-filter, All-map}
use Rattle.std.proofs.lemmas.List.Elements.{All-head, All-nil, All-tail, All-weaker}
use Rattle.kx_message.specs.Messages as the
use Rattle.kx_message.specs.Ranges.{offsets_partition}
use Rattle.kx_message.specs.declared.code.ErrorCode.{ErrorCode}
use Rattle.kx_message.specs.declared.code.ErrorCode.TheVariants as code
use Rattle.kx_message.specs.declared.message.Held.{Held}
use Rattle.kx_message.specs.declared.message.Message.{Message}
use Rattle.kx_message.specs.declared.message.Message.TheVariants as msg
use Rattle.kx_message.specs.declared.requests.Caller.{Caller}
use Rattle.kx_message.specs.declared.requests.TxnOffsetCommit.{TxnOffsetCommit}
use Rattle.kx_batch.specs.Batch.{batch_limit}
use Rattle.kx_model.specs.Disk.{GrowsTo, Store, is_written}
use Rattle.kx_model.specs.Groups.{generation, judge_join, members}
use Rattle.kx_model.specs.Groups.{offset_fetch, offsets_batch, place_of}
use Rattle.kx_model.specs.Log.{Entry, Stored, entries}
use Rattle.kx_model.specs.Page.{Page, fetched}
use Rattle.kx_model.specs.PartitionNode.{Partition, Served, answers_request, at_end, changed}
use Rattle.kx_model.specs.PartitionNode.{data_takes, entries_of, fetch_reply, join_reply}
use Rattle.kx_model.specs.PartitionNode.{offsets_takes, on_add_reply, on_request, parks, passes_on}
use Rattle.kx_model.specs.PartitionNode.{partition_takes, resumes}
use Rattle.kx_model.specs.Produce.{Verdict, Next, Duplicate, Unverified, Refused, stored_at}
use Rattle.kx_model.specs.Verification.{Parked, Request, ToGroup, ToPartition, is_for}
use Rattle.kx_model.specs.Verification.{is_full, judge_request, pair_of, parked_for, passed_on}
use Rattle.kx_model.specs.Verification.{reply_for, reply_to, request_of, without}
use Rattle.kx_model.proofs.NodeSteps.{grows_on, same}
use Rattle.kx_headline.proofs.Codes.{OfNoGroup, WithNoError}
use Rattle.kx_headline.proofs.PartitionDoes.{OfGroup}
use Rattle.kx_headline.proofs.PartitionHolds.{WasAsked}
use Rattle.kx_pipeline.proofs.Generations.{accepts}
use Rattle.kx_pipeline.proofs.RefusedCodes.{RefusedFor, another, not_taken, offsets_refused}

------ what they say

-- what is said where the code is that of a member or a generation that isn't
abbrev pub AsRefused : ErrorCode → Type 0 → Type 0
AsRefused code.IllegalGeneration A = A
AsRefused code.UnknownMemberId A = A
AsRefused other A = Unit {0}

-- a log between two, at which the group doesn't take the commit
pub record RefusedBetween (start later : List Stored) (it : TxnOffsetCommit) : Type 0 where
  pub log : List Stored
  pub behind : GrowsTo start log
  pub before : GrowsTo log later
  pub refuses : accepts (entries log) it.group it.member it.generation ≡ false

pub record CommitAnswer (sent : List Message) (start later : List Stored) (caller : Caller)
    (c : ErrorCode) : Type 0 where
  pub commit : TxnOffsetCommit
  pub asked : Contains sent (msg.TxnOffsetCommit commit)
  pub its_caller : commit.caller ≡ caller
  pub refused : AsRefused c (RefusedBetween start later commit)

-- the group after the member joined
pub record IsGroup (log : List Entry) (group : List ℕ) (client : ℕ) (named : ℤ)
    (place count : ℕ) : Type 0 where
  pub of_generation : named ≡ pos (generation log group)
  pub at_place : place ≡ place_of log group client
  pub of_count : count ≡ length (members log group)

pub record JoinAnswer (sent : List Message) (later : List Stored) (caller : Caller)
    (c : ErrorCode) (named : ℤ) (place count : ℕ) : Type 0 where
  pub group : List ℕ
  pub asked : Contains sent (the.Join caller group)
  pub joined : WithNoError c (IsGroup (entries later) group caller.client named place count)

pub record OffsetSaid (sent : List Message) (start : List Stored) (caller : Caller)
    (c : ErrorCode) (offset : ℤ) : Type 0 where
  pub group : List ℕ
  pub partition : ℕ
  pub stable : Bool
  pub asked : Contains sent (the.OffsetFetch caller group partition stable)
  pub its_code : c ≡ (offset_fetch (entries start) group partition stable).code
  pub its_offset : offset ≡ (offset_fetch (entries start) group partition stable).offset

-- of a message that goes out in a turn, given the log before and after it
abbrev pub Says : List Message → List Stored → List Stored → Message → Type 0
Says sent start later (msg.OffsetsReply it) = CommitAnswer sent start later it.caller it.code
Says sent start later (msg.JoinReply it) =
    JoinAnswer sent later it.caller it.code it.generation it.place it.count
Says sent start later (msg.OffsetFetchReply it) =
    OffsetSaid sent start it.caller it.code it.offset
Says sent start later m = Unit {0}

-- a message that isn't a reply of the offsets partition
abbrev pub OfAnother : Message → Type 0
OfAnother (msg.OffsetsReply it) = ⊥
OfAnother (msg.JoinReply it) = ⊥
OfAnother (msg.OffsetFetchReply it) = ⊥
OfAnother m = Unit {0}

-- a reply of the coordinator to a partition, whose code says nothing of a group
abbrev pub CodeOfNone : Message → Type 0
CodeOfNone (msg.AddReply it) = OfNoGroup it.code
CodeOfNone m = Unit {0}

------ requests that are answered

no_group_passed : (c : ErrorCode) → OfNoGroup c → OfNoGroup (passed_on c)
no_group_passed code.ProducerFenced o = tt
no_group_passed code.IllegalGeneration o = absurd o
no_group_passed code.UnknownMemberId o = absurd o
no_group_passed code.NoError o = tt
no_group_passed code.OffsetOutOfRange o = tt
no_group_passed code.CorruptMessage o = tt
no_group_passed code.UnknownTopicOrPartition o = tt
no_group_passed code.MessageTooLarge o = tt
no_group_passed code.OutOfOrderSequenceNumber o = tt
no_group_passed code.InvalidProducerEpoch o = tt
no_group_passed code.InvalidTxnState o = tt
no_group_passed code.InvalidProducerIdMapping o = tt
no_group_passed code.ConcurrentTransactions o = tt
no_group_passed code.TransactionCoordinatorFenced o = tt
no_group_passed code.KafkaStorageError o = tt
no_group_passed code.UnsupportedCompressionType o = tt
no_group_passed code.InvalidRecord o = tt
no_group_passed code.UnstableOffsetCommit o = tt

-- given what is to be said of the messages that answer such requests, at the log after them
module _ (start : List Stored) (Said : List Stored → Message → Type 0)
    (stays : (log later : List Stored) (m : Message) → GrowsTo log later → Said log m
    → Said later m) (IsAsked : Request → Type 0)
    (other : (log : List Stored) (r : Request) (c : ErrorCode) (offset : ℤ) → IsAsked r
    → OfNoGroup c → Said log (reply_to r c offset))
    (refused : (log : List Stored) (r : Request) (c : ErrorCode) (verified : Bool) → IsAsked r
    → GrowsTo start log → judge_request (entries log) verified r ≡ Refused c
    → Said log (reply_to r c (negsuc 0)))
    (adding : (log : List Stored) (txn : List ℕ) (held : Held) (number : ℕ)
    → Said log (the.AddPartition txn held number)) where
  -- what a partition does, and says
  record Serves (q : Partition) (s : Served) : Type 0 where
    grows : GrowsTo q.disk.kept s.0.disk.kept
    said : All (Said s.0.disk.kept) s.1

  alone : (q : Partition) (m : Message) → Said q.disk.kept m → Serves q (q, m ∷ [])
  alone q m h = record {
    grows = same q.disk.kept;
    said = All-cons (Said q.disk.kept) m [] h (All-nil (Said q.disk.kept));
  }

  parks_say : (number : ℕ) (q : Partition) (r : Request) → IsAsked r → (txn : Option (List ℕ))
      (held : Option Held) → Serves q (parks number q r txn held)
  parks_say number q r o None held =
      alone q (reply_to r code.InvalidTxnState (negsuc 0))
      (other q.disk.kept r code.InvalidTxnState (negsuc 0) o tt)
  parks_say number q r o (Some txn) None =
      alone q (reply_to r code.InvalidTxnState (negsuc 0))
      (other q.disk.kept r code.InvalidTxnState (negsuc 0) o tt)
  parks_say number q r o (Some txn) (Some held) =
      let full = reply_to r code.ConcurrentTransactions (negsuc 0) in
      let m = cond (is_full q.parked held r) full (the.AddPartition txn held number) in
      record {
        grows = same q.disk.kept;
        said = All-cons (Said q.disk.kept) m []
            (cond_both (is_full q.parked held r) full (the.AddPartition txn held number)
            (Said q.disk.kept)
            (λ e. other q.disk.kept r code.ConcurrentTransactions (negsuc 0) o tt)
            (λ e. adding q.disk.kept txn held number)) (All-nil (Said q.disk.kept));
      }

  appends_say : (q : Partition) (store : Store) (r : Request) → IsAsked r
      → (written : Bool) → (later : List Stored) → (offset : ℕ) → GrowsTo q.disk.kept later
      → (GrowsTo q.disk.kept (cond written later q.disk.kept))
      × All (Said (cond written later q.disk.kept)) (reply_to r
      (cond written code.NoError code.KafkaStorageError)
      (cond written (pos offset) (negsuc 0)) ∷ [])
  appends_say q store r o true later offset g = (
    g,
    All-cons (Said later) _ [] (other later r code.NoError (pos offset) o tt)
        (All-nil (Said later)),
  )
  appends_say q store r o false later offset g = (
    same q.disk.kept,
    All-cons (Said q.disk.kept) _ []
        (other q.disk.kept r code.KafkaStorageError (negsuc 0) o tt)
        (All-nil (Said q.disk.kept)),
  )

  answers_say : (number : ℕ) (q : Partition) (store : Store) (r : Request) (verified : Bool)
      (v : Verdict) → IsAsked r → GrowsTo start q.disk.kept
      → judge_request (entries_of q) verified r ≡ v → Serves q (answers_request number q store r v)
  answers_say number q store r verified Next o g e =
      let stored = stored_at (at_end q) r.text in
      let s = appends_say q store r o (is_written q.disk store) (q.disk.kept ++ stored ∷ [])
      (at_end q) (record { more = stored ∷ []; parts = refl }) in
      record { grows = s.0; said = s.1 }
  answers_say number q store r verified (Duplicate offset) o g e =
      alone q (reply_to r code.NoError (pos offset))
      (other q.disk.kept r code.NoError (pos offset) o tt)
  answers_say number q store r verified Unverified o g e =
      parks_say number q r o r.txn (pair_of r)
  answers_say number q store r verified (Refused c) o g e =
      alone q (reply_to r c (negsuc 0)) (refused q.disk.kept r c verified o g e)

  resumes_say : (number : ℕ) (q : Partition) (store : Store) (xs : List Parked)
      → All (λ (x : Parked). IsAsked x.request) xs → GrowsTo start q.disk.kept
      → Serves q (resumes number q store xs)
  resumes_say number q store [] h g =
      record { grows = same q.disk.kept; said = All-nil (Said q.disk.kept) }
  resumes_say number q store (x ∷ rest) h g =
      let r : Request = x.request in
      let v = judge_request (entries_of q) true r in
      let one : Served = answers_request number q store r v in
      let first = answers_say number q store r true v
      (All-head (λ (x : Parked). IsAsked x.request) x rest h) g refl in
      let more : Served = resumes number one.0 store rest in
      let others = resumes_say number one.0 store rest
      (All-tail (λ (x : Parked). IsAsked x.request) x rest h)
      (grows_on start q.disk.kept one.0.disk.kept g first.grows) in
      record {
        grows = grows_on q.disk.kept one.0.disk.kept more.0.disk.kept first.grows others.grows;
        said = All-append (Said more.0.disk.kept) one.1 more.1
            (All-weaker (Said one.0.disk.kept) (Said more.0.disk.kept)
            (λ m s. stays one.0.disk.kept more.0.disk.kept m others.grows s) one.1 first.said)
            others.said;
      }

  add_reply_says : (number : ℕ) (q : Partition) (store : Store) (held : Held) (c : ErrorCode)
      → All (λ (x : Parked). IsAsked x.request) q.parked → GrowsTo start q.disk.kept
      → OfNoGroup c → Serves q (on_add_reply number q store held c)
  add_reply_says number q store held code.NoError h g o =
      let s = resumes_say number (record q { parked = without q.parked held }) store
      (parked_for q.parked held)
      (All-filter (is_for held) (λ (x : Parked). IsAsked x.request) q.parked h) g in
      record { grows = s.grows; said = s.said }
  add_reply_says number q store held c h g o = record {
    grows = same q.disk.kept;
    said = All-map (Said q.disk.kept) (passes_on c) (parked_for q.parked held)
        (All-weaker (λ (x : Parked). IsAsked x.request) (λ x. Said q.disk.kept (passes_on c x))
        (λ x a. other q.disk.kept x.request (passed_on c) (negsuc 0) a (no_group_passed c o))
        (parked_for q.parked held)
        (All-filter (is_for held) (λ (x : Parked). IsAsked x.request) q.parked h));
  }

------ the offsets partition

module _ (sent : List Message) (start : List Stored) where
  -- a commit that was handed out
  pub record IsCommit (r : Request) : Type 0 where
    pub commit : TxnOffsetCommit
    pub handed : Contains sent (msg.TxnOffsetCommit commit)
    pub is : request_of (msg.TxnOffsetCommit commit) ≡ Some r

  pub commit_is : (r : Request) → WasAsked sent offsets_partition r → IsCommit r
  commit_is r w = by w.message w.handed w.is (w.commits refl)
    where
      target_is : (a b : Request) → Some a ≡ Some b → a ≡ b
      target_is a b e = cc

      by : (m : Message) → Contains sent m → request_of m ≡ Some r → OfGroup r.target
          → IsCommit r
      by (msg.TxnOffsetCommit it) there e g = record { commit = it; handed = there; is = e }
      by (msg.Produce it) there e g =
          absurd (subst (λ (x : Request). OfGroup x.target) (sym (target_is _ r e)) g)
      by m there e g = absurd cc

  -- what is said of the answer to a request
  abbrev Said : List Stored → Message → Type 0
  Said later (msg.OffsetsReply it) = CommitAnswer sent start later it.caller it.code
  Said later (msg.JoinReply it) = ⊥
  Said later (msg.OffsetFetchReply it) = ⊥
  Said later m = Unit {0}

  as_refused : {A B : Type 0} (c : ErrorCode) → (A → B) → AsRefused c A → AsRefused c B
  as_refused code.IllegalGeneration f a = f a
  as_refused code.UnknownMemberId f a = f a
  as_refused c f a = tt

  none_refused : (A : Type 0) (c : ErrorCode) → OfNoGroup c → AsRefused c A
  none_refused A code.IllegalGeneration o = absurd o
  none_refused A code.UnknownMemberId o = absurd o
  none_refused A c o = tt

  all_refused : {A : Type 0} (c : ErrorCode) → A → AsRefused c A
  all_refused code.IllegalGeneration a = a
  all_refused code.UnknownMemberId a = a
  all_refused c a = tt

  said_later : (log later : List Stored) (m : Message) → GrowsTo log later → Said log m
      → Said later m
  said_later log later (msg.OffsetsReply it) g said = record {
    commit = said.commit;
    asked = said.asked;
    its_caller = said.its_caller;
    refused = as_refused it.code (λ r. record {
      log = r.log;
      behind = r.behind;
      before = grows_on r.log log later r.before g;
      refuses = r.refuses;
    }) said.refused;
  }
  said_later log later (msg.JoinReply it) g said = absurd said
  said_later log later (msg.OffsetFetchReply it) g said = absurd said
  said_later log later m g said = tt

  request_is : (a b : Request) → Some a ≡ Some b → a ≡ b
  request_is a b e = cc

  answered : (later : List Stored) (r : Request) (c : ErrorCode) (offset : ℤ) → (k : IsCommit r)
      → AsRefused c (RefusedBetween start later k.commit) → Said later (reply_to r c offset)
  answered later r c offset k h =
      subst (λ x. Said later (reply_to x c offset)) (request_is _ r k.is) (record {
        commit = k.commit;
        asked = k.handed;
        its_caller = refl;
        refused = h;
      })

  refused_says : (log : List Stored) (r : Request) (c : ErrorCode) (verified : Bool)
      → IsCommit r → GrowsTo start log → judge_request (entries log) verified r ≡ Refused c
      → Said log (reply_to r c (negsuc 0))
  refused_says log r c verified k g e =
      answered log r c (negsuc 0) k (by (offsets_refused (entries log) verified k.commit.group
      k.commit.member k.commit.generation _ c
      (ap (judge_request (entries log) verified) (request_is _ r k.is) ∙ e)))
    where
      by : RefusedFor (entries log) k.commit.group k.commit.member k.commit.generation c
          → AsRefused c (RefusedBetween start log k.commit)
      by (not_taken n) = all_refused c
          (record { log = log; behind = g; before = same log; refuses = n })
      by (another o) = none_refused _ c o

  abbrev ServesHere : Partition → Served → Type 0
  ServesHere q s = Serves start Said said_later IsCommit
      (λ log r c offset k o. answered log r c offset k (none_refused _ c o)) refused_says
      (λ log txn held number. tt) q s

  -- of all messages that it hands out
  said_is : (later : List Stored) (m : Message) → Said later m → Says sent start later m
  said_is later (msg.OffsetsReply it) h = h
  said_is later (msg.JoinReply it) h = absurd h
  said_is later (msg.OffsetFetchReply it) h = absurd h
  said_is later m h = tt

  abbrev SaysAll : Served → Type 0
  SaysAll s = All (Says sent start s.0.disk.kept) s.1

  one : (q : Partition) (m : Message) → Says sent start q.disk.kept m → SaysAll (q, m ∷ [])
  one q m h = All-cons (Says sent start q.disk.kept) m [] h (All-nil (Says sent start q.disk.kept))

  serves_all : (q : Partition) (s : Served) → ServesHere q s → SaysAll s
  serves_all q s h =
      All-weaker (Said s.0.disk.kept) (Says sent start s.0.disk.kept) (said_is s.0.disk.kept) s.1
      h.said

  -- of the partition as the turn finds it; the coordinator's replies speak of no group
  module _ (p : Partition) (store : Store) (here : p.disk.kept ≡ start)
      (parked : All (λ (x : Parked). IsCommit x.request) p.parked) where
    from_here : GrowsTo start p.disk.kept
    from_here = record { more = []; parts = here ∙ sym (append-nil start) }

    takes_say : (m : Message) → Contains sent m → CodeOfNone m
        → SaysAll (partition_takes offsets_partition p store m)
    takes_say (msg.AddReply it) there o =
        cond_both (it.partition == offsets_partition) _ _ SaysAll
        (λ e. serves_all p (on_add_reply offsets_partition p store it.held it.code)
        (add_reply_says start Said said_later IsCommit
        (λ log r c offset k n. answered log r c offset k (none_refused _ c n)) refused_says
        (λ log txn held number. tt) offsets_partition p store it.held it.code parked from_here o))
        (λ e. All-nil (Says sent start p.disk.kept))
    takes_say (msg.WriteMarker it) there o =
        cond_both (it.partition == offsets_partition) _ _ SaysAll
        (λ e. All-cons (Says sent start _) _ [] tt (All-nil (Says sent start _)))
        (λ e. All-nil (Says sent start p.disk.kept))
    takes_say (msg.Fetch it) there o =
        cond_both (it.partition == offsets_partition) _ _ SaysAll
        (λ e. one p _ (fetch_says it.caller offsets_partition
        (fetched p.disk.kept it.from (min it.max batch_limit) it.committed)))
        (λ e. one p _ tt)
      where
        fetch_says : (caller : Caller) (number : ℕ) (page : Result Page ErrorCode)
            → Says sent start p.disk.kept (fetch_reply caller number page)
        fetch_says caller number (Err c) = tt
        fetch_says caller number (Ok page) = tt
    takes_say m there o = All-nil (Says sent start p.disk.kept)

    join_says : (caller : Caller) (group : List ℕ) (log : List Stored) (c : ErrorCode)
        → Contains sent (the.Join caller group)
        → Says sent start log (join_reply caller group (entries log) c)
    join_says caller group log code.NoError there = record {
      group = group;
      asked = there;
      joined = record { of_generation = refl; at_place = refl; of_count = refl };
    }
    join_says caller group log c there = record { group = group; asked = there; joined = tt }

    pub offsets_say : (m : Message) → Contains sent m → CodeOfNone m
        → SaysAll (offsets_takes p store m)
    offsets_say (msg.TxnOffsetCommit it) there o =
        let r : Request = record {
          caller = it.caller;
          txn = Some it.txn;
          target = ToGroup it.group it.member it.generation;
          text = offsets_batch it.group it.held it.first_sequence it.offsets;
        } in
        serves_all p (on_request offsets_partition p store (Some r))
        (answers_say start Said said_later IsCommit
        (λ log r c offset k n. answered log r c offset k (none_refused _ c n)) refused_says
        (λ log txn held number. tt) offsets_partition p store r false
        (judge_request (entries_of p) false r)
        (record { commit = it; handed = there; is = refl }) from_here refl)
    offsets_say (msg.Join it) there o =
        let t = changed p store (judge_join (entries_of p) it.group it.caller.client) in
        All-cons (Says sent start t.partition.disk.kept) _ []
        (join_says it.caller it.group t.partition.disk.kept t.code there)
        (All-nil (Says sent start t.partition.disk.kept))
    offsets_say (msg.Leave it) there o =
        All-cons (Says sent start _) _ [] tt (All-nil (Says sent start _))
    offsets_say (msg.OffsetFetch it) there o =
        one p _ (record {
          group = it.group;
          partition = it.partition;
          stable = it.stable;
          asked = there;
          its_code = ap (λ log. (offset_fetch (entries log) it.group it.partition it.stable).code)
              here;
          its_offset = ap
              (λ log. (offset_fetch (entries log) it.group it.partition it.stable).offset) here;
        })
    offsets_say (msg.Produce it) there o =
        cond_both (it.partition == offsets_partition) _ _ SaysAll
        (λ e. All-nil (Says sent start p.disk.kept)) (λ e. one p _ tt)
    offsets_say m there o = takes_say m there o

------ a data partition

-- a request that is no commit of offsets
abbrev pub IsBatchRequest : Request → Type 0
IsBatchRequest r = (partition : ℕ) × (r.target ≡ ToPartition partition)

abbrev OnlyOthers : Served → Type 0
OnlyOthers s = All OfAnother s.1

batch_reply : (r : Request) (c : ErrorCode) (offset : ℤ) → IsBatchRequest r
    → OfAnother (reply_to r c offset)
batch_reply r c offset b = subst (λ t. OfAnother (reply_for r c offset t)) (sym b.1) tt

module _ (number : ℕ) (p : Partition) (store : Store)
    (parked : All (λ (x : Parked). IsBatchRequest x.request) p.parked) where
  here_another : (m : Message) → OfAnother m → OnlyOthers (p, m ∷ [])
  here_another m h = All-cons OfAnother m [] h (All-nil OfAnother)

  start_log : List Stored
  start_log = p.disk.kept

  data_partition_says : (m : Message) → CodeOfNone m
      → OnlyOthers (partition_takes number p store m)
  data_partition_says (msg.AddReply it) o =
      cond_both (it.partition == number) _ _ OnlyOthers
      (λ e. (add_reply_says p.disk.kept (λ log m. OfAnother m) (λ log later m g h. h)
      IsBatchRequest (λ log r c offset b n. batch_reply r c offset b)
      (λ log r c verified b g e. batch_reply r c (negsuc 0) b) (λ log txn held n. tt) number p
      store it.held it.code parked (same p.disk.kept) o).said)
      (λ e. All-nil OfAnother)
  data_partition_says (msg.WriteMarker it) o =
      cond_both (it.partition == number) _ _ OnlyOthers
      (λ e. All-cons OfAnother _ [] tt (All-nil OfAnother)) (λ e. All-nil OfAnother)
  data_partition_says (msg.Fetch it) o =
      cond_both (it.partition == number) _ _ OnlyOthers
      (λ e. here_another _ (fetch_says it.caller number
      (fetched p.disk.kept it.from (min it.max batch_limit) it.committed)))
      (λ e. here_another _ tt)
    where
      fetch_says : (caller : Caller) (number : ℕ) (page : Result Page ErrorCode)
          → OfAnother (fetch_reply caller number page)
      fetch_says caller number (Err c) = tt
      fetch_says caller number (Ok page) = tt
  data_partition_says m o = All-nil OfAnother

  pub data_says : (m : Message) → CodeOfNone m → OnlyOthers (data_takes number p store m)
  data_says (msg.Produce it) o =
      let r : Request = record {
        caller = it.caller;
        txn = it.txn;
        target = ToPartition it.partition;
        text = it.batch;
      } in
      cond_both (it.partition == number) _ _ OnlyOthers
      (λ e. (answers_say p.disk.kept (λ log m. OfAnother m) (λ log later m g h. h)
      IsBatchRequest (λ log r c offset b n. batch_reply r c offset b)
      (λ log r c verified b g e. batch_reply r c (negsuc 0) b) (λ log txn held n. tt) number p
      store r false (judge_request (entries_of p) false r) (it.partition, refl)
      (same p.disk.kept) refl).said)
      (λ e. here_another _ tt)
  data_says m o = data_partition_says m o
