-- What the server of the offsets partition does with each message that comes, in the words of the
-- definitions.
use Rattle.std.proofs.Common.{◌≡◌, ◌==◌, ℕ, ℤ, pos, negsuc, Bool, true, false, cond, List}
use Rattle.std.proofs.Common.{[], ◌∷◌, map, Option, Some, None, Err, refl}
use Rattle.std.proofs.Common.{sym, ap, ◌∙◌, subst, arith}
use Rattle.std.specs.Prelude.{min, ◌≤ℤ◌, ◌<ℤ◌}
use Rattle.std.specs.List.{All}
use Rattle.std.proofs.lemmas.Bool.Decides.{nat_tests}
use Rattle.std.proofs.lemmas.Int.{ints}
use Rattle.std.proofs.lemmas.Option.{same_Some}
use Rattle.kx_batch.specs.Batch.{batch_limit, batch_of}
use Rattle.kx_broker.specs.Offsets.{CommitsAt0, DropsMember, IsKept, IsOffsetsLog}
use Rattle.kx_broker.specs.Offsets.{KeepsOffsets}
use Rattle.kx_broker.specs.Serving.{BeginsBy, Serves, Serving, Waits, bytes_in, closes, offset_of}
use Rattle.kx_broker.specs.Serving.{told_each}
use Rattle.kx_broker.proofs.Disks.{with_next}
use Rattle.kx_broker.proofs.Messages.{asked_then, full_is_full, no_failure, parked_not_full}
use Rattle.kx_broker.proofs.Messages.{refused_all}
use Rattle.kx_broker.proofs.OffsetsLogs.{IsMade, changed_comes, commit_next, judged_comes}
use Rattle.kx_broker.proofs.OffsetsLogs.{marks_comes}
use Rattle.kx_broker.proofs.Parked.{each_after, each_for, each_without, same_after, same_then}
use Rattle.kx_broker.proofs.Parked.{same_full, same_without}
use Rattle.kx_broker.proofs.Resuming.{answered, request_next, resumes_as}
use Rattle.kx_broker.proofs.Served.{as_step, rests_with, served_parking, served_with, serves_by}
use Rattle.kx_broker.proofs.Served.{serving}
use Rattle.kx_broker.proofs.Stores.{any_allowed, none_appended}
use Rattle.kx_group.specs.Calls.{IsChanged, IsCommitted, IsResumed, text_of}
use Rattle.kx_group.specs.Log.{IsGroupLog}
use Rattle.kx_group.proofs.Changing.{drops_only, joins_only, leaves_only}
use Rattle.kx_group.proofs.Growing.{with_change}
use Rattle.kx_group.proofs.Unverified.{begins_at_0}
use Rattle.kx_log.specs.LogState.{LogState}
use Rattle.kx_machine.specs.Stores.{Allows}
use Rattle.kx_message.specs.Message.{IsU32}
use Rattle.kx_message.specs.Messages as the
use Rattle.kx_message.specs.Ranges.{IsName, offsets_partition}
use Rattle.kx_message.specs.declared.code.ErrorCode.{ErrorCode}
use Rattle.kx_message.specs.declared.code.ErrorCode.TheVariants as code
use Rattle.kx_message.specs.declared.message.Held.{Held}
use Rattle.kx_message.specs.declared.message.Message.{Message}
use Rattle.kx_message.specs.declared.message.Message.TheVariants as msg
use Rattle.kx_message.specs.declared.replies.AddReply.{AddReply}
use Rattle.kx_message.specs.declared.requests.Caller.{Caller}
use Rattle.kx_message.specs.declared.requests.Fetch.{Fetch}
use Rattle.kx_message.specs.declared.requests.Join.{Join}
use Rattle.kx_message.specs.declared.requests.Leave.{Leave}
use Rattle.kx_message.specs.declared.requests.OffsetFetch.{OffsetFetch}
use Rattle.kx_message.specs.declared.requests.Produce.{Produce}
use Rattle.kx_message.specs.declared.requests.TxnOffsetCommit.{TxnOffsetCommit}
use Rattle.kx_message.specs.declared.requests.WriteMarker.{WriteMarker}
use Rattle.kx_model.specs.Disk.{Store}
use Rattle.kx_model.specs.Groups.{Changes, Dropped, Fact, Joined, Left, OffsetAnswer, judge_drop}
use Rattle.kx_model.specs.Groups.{judge_join, judge_leave, judge_offsets, membership_text}
use Rattle.kx_model.specs.Groups.{offset_fetch, offset_records, offsets_batch}
use Rattle.kx_model.specs.Log.{Entry, Data, Marker, MarkerFits, Stored, entries, entry_in}
use Rattle.kx_model.specs.PartitionNode.{Partition, Served, answers_request, changed, entries_of}
use Rattle.kx_model.specs.PartitionNode.{fetch_reply, join_reply, marked_with, marker_of}
use Rattle.kx_model.specs.PartitionNode.{offsets_takes, on_add_reply, on_fetch, on_marker, parks}
use Rattle.kx_model.specs.PartitionNode.{refused_produce, resumes, taken}
use Rattle.kx_model.specs.Page.{fetched}
use Rattle.kx_model.specs.Produce.{Next, Unverified, Verdict, judge_marker, judge_text}
use Rattle.kx_model.specs.Verification.{Parked, Request, ToGroup, is_full, pair_in}
use Rattle.kx_model.specs.Verification.{pair_of, parked_for, passed_on, reply_to, without}
use Rattle.kx_offsets.specs.Facts.{CommitFits, FactFits}
use Rattle.kx_offsets.proofs.Commits.{commit_below, commit_built, commit_entry}
use Rattle.kx_offsets.proofs.Memberships.{membership_built}
use Rattle.kx_partition.specs.Answer.{IsMarked, code_of}
use Rattle.kx_partition.specs.declared.answer.Produced.{Produced}
use Rattle.kx_partition.specs.declared.answer.Produced.TheVariants as produced
use Rattle.kx_varint.specs.Text.{IsBytes}
use Rattle.kx_verify.specs.Guard.{SameParked, after, answer_to}
use Rattle.kx_verify.specs.declared.guard.Asked.TheVariants as asked
use Rattle.kx_verify.specs.Request.{IsParked}

------ steps

abbrev Step : Type 0
Step = Store → Served

module _ (p : Partition) (old : Serving) (is : KeepsOffsets p old) where
  rest : (step : Step) (messages : List Message) → ((store : Store) → step store ≡ (p, messages))
      → Serves KeepsOffsets p old old step messages
  rest step messages rests =
      rests_with IsOffsetsLog CommitsAt0 offsets_partition p old is step messages rests

------ a commit of offsets that begins at sequence 0

from_0 : (z : ℤ) → pos 0 ≤ℤ z → (n : ℕ) × (z ≡ pos n)
from_0 (pos n) h = (n, refl)
from_0 (negsuc n) h = absurd (omega (arith, ints, h))

below_0 : (z : ℤ) → z <ℤ pos 0 → (n : ℕ) × (z ≡ negsuc n)
below_0 (pos n) h = absurd (omega (arith, ints, h))
below_0 (negsuc n) h = (n, refl)

abbrev request_for : TxnOffsetCommit → Request
request_for it = record {
  caller = it.caller;
  txn = Some it.txn;
  target = ToGroup it.group it.member it.generation;
  text = text_of it;
}

abbrev judged_for : TxnOffsetCommit → List Entry → Verdict
judged_for it log = judge_offsets log false it.group it.member it.generation (text_of it)

abbrev Fits : TxnOffsetCommit → Type 0
Fits it = CommitFits it.group it.held it.first_sequence it.offsets

-- what isn't verified begins at sequence 0
commits_at_0 : (log : List Stored) (it : TxnOffsetCommit) (r : Parked) → IsOffsetsLog log
    → Fits it → judged_for it (entries log) ≡ Unverified → IsParked (msg.TxnOffsetCommit it) r
    → pos 0 ≤ℤ it.first_sequence → CommitsAt0 r.request
commits_at_0 log it r is fits asks parked above =
    let at = from_0 it.first_sequence above in
    let fits_at : CommitFits it.group it.held (pos at.0) it.offsets =
    subst (λ z. CommitFits it.group it.held z it.offsets) at.1 fits in
    let zero = begins_at_0 log it.group it.member it.generation it.held at.0 it.offsets is.grown
    is.groups fits_at (subst (λ z. judge_offsets (entries log) false it.group it.member
    it.generation (offsets_batch it.group it.held z it.offsets) ≡ Unverified) at.1 asks) in
    let first : it.first_sequence ≡ pos 0 = at.1 ∙ ap pos zero in
    subst CommitsAt0 (same_Some (request_for it) r.request parked.request) (record {
      group = it.group;
      member = it.member;
      generation = it.generation;
      held = it.held;
      offsets = it.offsets;
      target = refl;
      text = ap (λ z. offsets_batch it.group it.held z it.offsets) first;
      fits = subst (λ z. CommitFits it.group it.held z it.offsets) first fits;
    })

-- a copy of it, which is to be parked
pub parked_at_0 : (log : List Stored) (it copy : TxnOffsetCommit) (r : Parked) → IsOffsetsLog log
    → Fits it → judged_for it (entries log) ≡ Unverified → copy ≡ it
    → IsParked (msg.TxnOffsetCommit copy) r → pos 0 ≤ℤ copy.first_sequence → CommitsAt0 r.request
parked_at_0 log it copy r is fits asks same parked above =
    commits_at_0 log it r is fits asks
    (subst (λ (q : TxnOffsetCommit). IsParked (msg.TxnOffsetCommit q) r) same parked)
    (subst (λ (q : TxnOffsetCommit). pos 0 ≤ℤ q.first_sequence) same above)

-- it begins no later than the next one of its id and epoch
begins_by : (log : List Entry) (r : Parked) → CommitsAt0 r.request
    → pair_of r.request ≡ Some r.held → BeginsBy log r.held r.request.text
begins_by log r c pair =
    let entry : entry_in (batch_of r.request.text) ≡ Data (record {
      id = c.held.id;
      epoch = c.held.epoch;
      first = 0;
      transactional = true;
      records = offset_records c.group c.offsets;
    }) =
    ap (λ t. entry_in (batch_of t)) c.text ∙ commit_entry c.group c.held 0 c.offsets c.fits in
    let held : c.held ≡ r.held =
    same_Some c.held r.held (sym (ap pair_in entry) ∙ pair) in
    record {
      bytes = subst IsBytes (sym c.text)
          (commit_built c.group c.held (pos 0) c.offsets c.fits).bytes;
      batch = record {
        id = c.held.id;
        epoch = c.held.epoch;
        first = 0;
        transactional = true;
        records = offset_records c.group c.offsets;
      };
      entry = entry;
      id = ap (λ (h : Held). h.id) held;
      epoch = ap (λ (h : Held). h.epoch) held;
      first = omega arith;
    }

------ a commit of offsets that comes

module _ (p : Partition) (old : Serving) (is : KeepsOffsets p old) (it : TxnOffsetCommit) where
  abbrev step : Step
  step store = offsets_takes p store (msg.TxnOffsetCommit it)

  pub commit_answered : IsKept old.log → Fits it → (log : LogState) (answer : Produced)
      → IsCommitted it false old.log log answer → (answer ≡ produced.Unverified → ⊥)
      → Serves KeepsOffsets p old (serving old.number log old.parked) step
      (the.OffsetsReply it.caller (code_of answer) ∷ [])
  commit_answered known fits log answer h other =
      let same : judged_for it (entries old.log.batches) ≡ judged_for it (entries_of p) =
      ap (λ (b : List Stored). judged_for it (entries b)) is.disk.kept in
      let never : judged_for it (entries_of p) ≡ Unverified → ⊥ =
      λ e. other (asked_then old.log.closed (judged_for it (entries old.log.batches)) (text_of it)
      old.log log answer h (same ∙ e)) in
      let bytes = (commit_built it.group it.held it.first_sequence it.offsets fits).bytes in
      let is_next = request_next (entries old.log.batches) false (text_of it)
      (ToGroup it.group it.member it.generation) in
      serves_by IsOffsetsLog CommitsAt0 offsets_partition p old is log
      (λ store. taken p store (text_of it) (judged_for it (entries_of p))) (code_of answer)
      (offset_of answer)
      (judged_comes p old is known (judged_for it) false (text_of it) bytes is_next
      (λ next. commit_next old.log.batches false it.group it.held it.first_sequence it.offsets
      known.fits fits (is_next next)) log answer h) step
      (λ c o. the.OffsetsReply it.caller c)
      (λ store. answered offsets_partition p store (request_for it) (judged_for it (entries_of p))
      never)

  module _ (unverified : judged_for it (entries old.log.batches) ≡ Unverified) where
    unverified_here : judged_for it (entries_of p) ≡ Unverified
    unverified_here =
        sym (ap (λ (b : List Stored). judged_for it (entries b)) is.disk.kept) ∙ unverified

    parks_is : (store : Store) → step store
        ≡ parks offsets_partition p (request_for it) (Some it.txn) (pair_of (request_for it))
    parks_is store =
        ap (answers_request offsets_partition p store (request_for it)) unverified_here

    refused_here : (held : Option Held) → held ≡ None
        → parks offsets_partition p (request_for it) (Some it.txn) held
        ≡ (p, the.OffsetsReply it.caller code.InvalidTxnState ∷ [])
    refused_here None e = refl
    refused_here (Some held) e = absurd cc

    -- one that begins below 0 has no id to be asked about
    pub commit_below_0 : Fits it → it.first_sequence <ℤ pos 0
        → Serves KeepsOffsets p old old step
        (the.OffsetsReply it.caller code.InvalidTxnState ∷ [])
    commit_below_0 fits below =
        let at = below_0 it.first_sequence below in
        let none : pair_of (request_for it) ≡ None =
        ap (λ z. pair_in (entry_in (batch_of (offsets_batch it.group it.held z it.offsets)))) at.1
        ∙ ap pair_in (commit_below it.group it.held at.0 it.offsets
        (subst (λ z. CommitFits it.group it.held z it.offsets) at.1 fits)) in
        rest p old is step _ (λ store. parks_is store ∙ refused_here _ none)

    module _ (r : Parked) (parked : IsParked (msg.TxnOffsetCommit it) r)
        (commits : CommitsAt0 r.request) where
      same_request : request_for it ≡ r.request
      same_request = same_Some (request_for it) r.request parked.request

      parks_here : (store : Store)
          → step store ≡ parks offsets_partition p r.request (Some it.txn) (Some r.held)
      parks_here store =
          parks_is store
          ∙ (λ i. parks offsets_partition p (same_request i) (Some it.txn)
          (pair_of (same_request i)))
          ∙ ap (parks offsets_partition p r.request (Some it.txn)) parked.held

      waits : Waits CommitsAt0 (entries_of p) r.held r
      waits = record {
        held_is = refl;
        here = commits;
        begins = begins_by (entries_of p) r commits parked.held;
      }

      module _ (given : List Parked) (same : SameParked given (after old.parked r)) where
        now_parked : KeepsOffsets (record p { parked = after p.parked r })
            (serving old.number old.log given)
        now_parked =
            served_parking IsOffsetsLog CommitsAt0 offsets_partition p old is (after p.parked r)
            given
            (same_then given (after old.parked r) (after p.parked r) same
            (same_after r old.parked p.parked is.parked))
            (each_after CommitsAt0 (entries_of p) r p.parked is.waits waits)

        parks_by : (full : Bool) (m : Message) → is_full p.parked r.held r.request ≡ full
            → m ≡ cond full (reply_to r.request code.ConcurrentTransactions (negsuc 0))
            (the.AddPartition it.txn r.held offsets_partition)
            → Serves KeepsOffsets p old (serving old.number old.log given) step (m ∷ [])
        parks_by full m e is_it =
            let after = λ (store : Store). (step store).0 in
            let parks_to = parks offsets_partition p r.request (Some it.txn) (Some r.held) in
            let any = any_allowed old.log.store.appends old.log.store.loads (bytes_in after)
            (none_appended after parks_to.0 (λ store. ap (λ (s : Served). s.0) (parks_here store)))
            in
            let at = parks_here any.store in
            let handed : m ∷ []
            ≡ (parks offsets_partition p r.request (Some it.txn) (Some r.held)).1 =
            ap (λ (x : Message). x ∷ []) (is_it ∙ ap (λ b.
            cond b (reply_to r.request code.ConcurrentTransactions (negsuc 0))
            (the.AddPartition it.txn r.held offsets_partition)) (sym e)) in
            record {
              store = any.store;
              allowed = any.allowed;
              stands = subst (λ (s : Served).
                  KeepsOffsets s.0 (serving old.number old.log given)) (sym at) now_parked;
              answers = (
                handed ∙ ap (λ (s : Served). s.1) (sym at),
                no_failure old.log.store.failures p.disk.closed
                    ∙ ap (λ (s : Served). closes p s.0) (sym at),
              );
            }

        -- the coordinator is asked
        pub commit_parked : asked.Parked ≡ answer_to old.parked r
            → Serves KeepsOffsets p old (serving old.number old.log given) step
            (the.AddPartition it.txn r.held offsets_partition ∷ [])
        commit_parked e =
            parks_by false _
            (sym (same_full r old.parked p.parked is.parked)
            ∙ parked_not_full (is_full old.parked r.held r.request) e) refl

        -- five others wait
        pub commit_full : asked.Full ≡ answer_to old.parked r
            → Serves KeepsOffsets p old (serving old.number old.log given) step
            (the.OffsetsReply it.caller code.ConcurrentTransactions ∷ [])
        commit_full e =
            parks_by true _
            (sym (same_full r old.parked p.parked is.parked)
            ∙ full_is_full (is_full old.parked r.held r.request) e)
            (ap (λ (q : Request). reply_to q code.ConcurrentTransactions (negsuc 0)) same_request)

------ the coordinator's answer

module _ (p : Partition) (old : Serving) (is : KeepsOffsets p old) (held : Held) where
  -- without those of the id and epoch
  abbrev left : Partition
  left = record p { parked = without p.parked held }

  module _ (given : List Parked) (others : SameParked given (without old.parked held)) where
    now_left : KeepsOffsets left (serving old.number old.log given)
    now_left =
        served_parking IsOffsetsLog CommitsAt0 offsets_partition p old is (without p.parked held)
        given
        (same_then given (without old.parked held) (without p.parked held) others
        (same_without held old.parked p.parked is.parked))
        (each_without CommitsAt0 (entries_of p) held p.parked is.waits)

    -- they are answered its code
    pub commits_refused : (c : ErrorCode) (requests : List Parked) → (c ≡ code.NoError → ⊥)
        → requests ≡ parked_for old.parked held
        → Serves KeepsOffsets p old (serving old.number old.log given)
        (λ store. on_add_reply offsets_partition p store held c)
        (map (λ q. reply_to q.request (passed_on c) (negsuc 0)) requests)
    commits_refused c requests other own =
        let after = λ (store : Store). (on_add_reply offsets_partition p store held c).0 in
        let any = any_allowed old.log.store.appends old.log.store.loads (bytes_in after)
        (none_appended after left (λ store. ap (λ (s : Served). s.0)
        (refused_all offsets_partition p store held c other))) in
        let at = refused_all offsets_partition p any.store held c other in
        let same : requests ≡ parked_for p.parked held = own ∙ is.parked held in
        record {
          store = any.store;
          allowed = any.allowed;
          stands = subst (λ (s : Served). KeepsOffsets s.0 (serving old.number old.log given))
              (sym at) now_left;
          answers = (
            ap (map (λ (q : Parked). reply_to q.request (passed_on c) (negsuc 0))) same
                ∙ ap (λ (s : Served). s.1) (sym at),
            no_failure old.log.store.failures p.disk.closed
                ∙ ap (λ (s : Served). closes p s.0) (sym at),
          );
        }

    -- they run again
    pub commits_resumed : (requests : List Parked) (log : LogState) (answers : List Produced)
        → IsKept old.log → requests ≡ parked_for old.parked held
        → IsResumed requests old.log log answers
        → Serves KeepsOffsets p old (serving old.number log given)
        (λ store. on_add_reply offsets_partition p store held code.NoError)
        (told_each requests answers)
    commits_resumed requests log answers known own run =
        let same : requests ≡ parked_for p.parked held = own ∙ is.parked held in
        let waits = each_for CommitsAt0 (entries_of p) held p.parked is.waits in
        let all : All (Waits CommitsAt0 (entries old.log.batches) held) requests =
        subst (λ (b : List Stored). All (Waits CommitsAt0 (entries b) held) requests)
        (sym is.disk.kept)
        (subst (λ (l : List Parked). All (Waits CommitsAt0 (entries_of p) held) l) (sym same)
        waits) in
        let r = resumes_as IsOffsetsLog CommitsAt0 offsets_partition held requests left old.log log
        answers run is.disk all known.placed
        (λ q w next. let c = w.here in
        subst (λ t. IsOffsetsLog (with_next t old.log.batches)) (sym c.text)
        (commit_next old.log.batches true c.group c.held (pos 0) c.offsets known.fits c.fits
        (subst (λ t. judge_text (entries old.log.batches) true t ≡ Next) c.text
        (request_next (entries old.log.batches) true q.request.text q.request.target next))))
        known.holds in
        let at : resumes offsets_partition left r.store requests
        ≡ on_add_reply offsets_partition p r.store held code.NoError =
        ap (resumes offsets_partition left r.store) same in
        let stands = served_with IsOffsetsLog CommitsAt0 offsets_partition left
        (serving old.number old.log given) now_left
        (resumes offsets_partition left r.store requests).0 log r.disk r.parked r.later in
        record {
          store = r.store;
          allowed = subst (λ (l : List Parked). Allows old.log.store.appends old.log.store.loads
              (bytes_in (λ store. (resumes offsets_partition left store l).0)) r.store) same
              r.allowed;
          stands = subst (λ (s : Served). KeepsOffsets s.0 (serving old.number log given)) at
              stands;
          answers = (
            r.messages ∙ ap (λ (s : Served). s.1) at,
            r.fails ∙ ap (λ (s : Served). closes p s.0) at,
          );
        }

------ members

module _ (log : List Stored) (is : IsGroupLog log) (group : List ℕ) (member : ℕ)
    (name : IsName group) (number : IsU32 member) where
  -- a change of a member
  made_by : (fact some : Fact) → fact ≡ some → FactFits some
      → IsGroupLog (with_next (membership_text some) log) → IsMade log fact
  made_by fact some e fits groups = subst (IsMade log) (sym e) (record {
    bytes = (membership_built some fits).bytes;
    groups = groups;
  })

  pub joins : (fact : Fact) → judge_join (entries log) group member ≡ Changes fact
      → IsMade log fact
  joins fact e =
      let only = joins_only (entries log) group member fact e in
      made_by fact (Joined group member) only (name, number)
      (with_change log (Joined group member) is (name, number) (e ∙ ap Changes only))

  pub leaves : (fact : Fact) → judge_leave (entries log) group member ≡ Changes fact
      → IsMade log fact
  leaves fact e =
      let only = leaves_only (entries log) group member fact e in
      made_by fact (Left group member) only (name, number)
      (with_change log (Left group member) is (name, number) (e ∙ ap Changes only))

  pub drops : (fact : Fact) → judge_drop (entries log) group member ≡ Changes fact
      → IsMade log fact
  drops fact e =
      let only = drops_only (entries log) group member fact e in
      made_by fact (Dropped group member) only (name, number)
      (with_change log (Dropped group member) is (name, number) (e ∙ ap Changes only))

module _ (p : Partition) (old : Serving) (is : KeepsOffsets p old) (known : IsKept old.log)
    (group : List ℕ) (name : IsName group) where
  pub joined_as : (caller : Caller) (log : LogState) (given : ErrorCode) (m : Message)
      → IsU32 caller.client
      → IsChanged (judge_join (entries old.log.batches) group caller.client) old.log log given
      → m ≡ join_reply caller group (entries log.batches) given
      → Serves KeepsOffsets p old (serving old.number log old.parked)
      (λ store. offsets_takes p store (the.Join caller group)) (m ∷ [])
  joined_as caller log given m number h is_it =
      let found = changed_comes p old is known (λ l. judge_join l group caller.client)
      (joins old.log.batches known.fits.groups group caller.client name number) log given h in
      let c = found.1 in
      let t = changed p c.store (judge_join (entries_of p) group caller.client) in
      record {
        store = c.store;
        allowed = c.allowed;
        stands = served_with IsOffsetsLog CommitsAt0 offsets_partition p old is t.partition log
            c.disk c.parked c.later;
        answers = (
          ap (λ (x : Message). x ∷ []) (is_it
              ∙ λ i. join_reply caller group (entries (c.disk.kept i)) (c.code_is i)),
          c.fails,
        );
      }

  pub left_as : (caller : Caller) (log : LogState) (given : ErrorCode) → IsU32 caller.client
      → IsChanged (judge_leave (entries old.log.batches) group caller.client) old.log log given
      → Serves KeepsOffsets p old (serving old.number log old.parked)
      (λ store. offsets_takes p store (the.Leave caller group)) (the.LeaveReply caller given ∷ [])
  left_as caller log given number h =
      let c = changed_comes p old is known (λ l. judge_leave l group caller.client)
      (leaves old.log.batches known.fits.groups group caller.client name number) log given h in
      serves_by IsOffsetsLog CommitsAt0 offsets_partition p old is log
      (λ store. changed p store (judge_leave (entries_of p) group caller.client)) given c.0 c.1
      (λ store. offsets_takes p store (the.Leave caller group))
      (λ code offset. the.LeaveReply caller code) (λ store. refl)

  pub dropped_as : (member : ℕ) (log : LogState) (given : ErrorCode) → IsU32 member
      → IsChanged (judge_drop (entries old.log.batches) group member) old.log log given
      → DropsMember KeepsOffsets p old (serving old.number log old.parked)
      (λ store. changed p store (judge_drop (entries_of p) group member)) given
  dropped_as member log given number h =
      let found = changed_comes p old is known (λ l. judge_drop l group member)
      (drops old.log.batches known.fits.groups group member name number) log given h in
      let c = found.1 in
      let t = changed p c.store (judge_drop (entries_of p) group member) in
      record {
        store = c.store;
        allowed = c.allowed;
        stands = served_with IsOffsetsLog CommitsAt0 offsets_partition p old is t.partition log
            c.disk c.parked c.later;
        answers = (c.code_is, c.fails);
      }

------ offsets that are asked for

module _ (p : Partition) (old : Serving) (is : KeepsOffsets p old) where
  pub offset_fetched : (it : OffsetFetch) (a : OffsetAnswer) (messages : List Message)
      → a ≡ offset_fetch (entries old.log.batches) it.group it.partition it.stable
      → messages ≡ the.OffsetFetchReply it.caller a.code a.offset ∷ []
      → Serves KeepsOffsets p old old (λ store. offsets_takes p store (msg.OffsetFetch it))
      messages
  offset_fetched it a messages e told =
      let same : offset_fetch (entries_of p) it.group it.partition it.stable ≡ a =
      sym (e ∙ ap (λ (b : List Stored). offset_fetch (entries b) it.group it.partition it.stable)
      is.disk.kept) in
      rest p old is (λ store. offsets_takes p store (msg.OffsetFetch it)) messages
      (λ store. ap (λ (x : OffsetAnswer).
      (p, the.OffsetFetchReply it.caller x.code x.offset ∷ [])) same
      ∙ ap (λ (m : List Message). (p, m)) (sym told))

------ as any partition

module _ (p : Partition) (old : Serving) (is : KeepsOffsets p old) where
  pub marked_as : IsKept old.log → (txn : List ℕ) (held : Held) (marker : Marker)
      (log : LogState) (given : ErrorCode) → MarkerFits marker → IsMarked marker old.log log given
      → Serves KeepsOffsets p old (serving old.number log old.parked)
      (λ store. on_marker offsets_partition p store txn held marker)
      (the.MarkerReply offsets_partition txn held given ∷ [])
  marked_as known txn held marker log given fits h =
      let c = marks_comes p old is known marker log given fits h in
      serves_by IsOffsetsLog CommitsAt0 offsets_partition p old is log
      (λ store. marked_with p store marker (judge_marker (entries_of p) marker)) given c.0 c.1
      (λ store. on_marker offsets_partition p store txn held marker)
      (λ code offset. the.MarkerReply offsets_partition txn held code) (λ store. refl)

module _ (p : Partition) (old new : Serving) (messages : List Message) where
  abbrev Serve : Step → Type 0
  Serve step = Serves KeepsOffsets p old new step messages

  pub add_own : (it : AddReply) → (it.partition == offsets_partition) ≡ true
      → Serve (λ store. on_add_reply offsets_partition p store it.held it.code)
      → Serve (λ store. offsets_takes p store (msg.AddReply it))
  add_own it own s =
      let step = λ (store : Store).
      on_add_reply offsets_partition p store it.held it.code in
      as_step KeepsOffsets p old new step (λ store. offsets_takes p store (msg.AddReply it))
      messages (λ store. ap (λ b. cond b (step store) (p, [])) own) s

  pub marker_own : (it : WriteMarker) → (it.partition == offsets_partition) ≡ true
      → Serve (λ store. on_marker offsets_partition p store it.txn it.held
      (marker_of it.held it.coordinator_epoch it.outcome))
      → Serve (λ store. offsets_takes p store (msg.WriteMarker it))
  marker_own it own s =
      let step = λ (store : Store). on_marker offsets_partition p store it.txn it.held
      (marker_of it.held it.coordinator_epoch it.outcome) in
      as_step KeepsOffsets p old new step (λ store. offsets_takes p store (msg.WriteMarker it))
      messages (λ store. ap (λ b. cond b (step store) (p, [])) own) s

module _ (p : Partition) (old : Serving) (is : KeepsOffsets p old) (messages : List Message)
  where
    pub add_other : (it : AddReply) → (it.partition == offsets_partition) ≡ false → messages ≡ []
        → Serves KeepsOffsets p old old (λ store. offsets_takes p store (msg.AddReply it))
        messages
    add_other it other same =
        rest p old is (λ store. offsets_takes p store (msg.AddReply it)) messages
        (λ store. ap (λ b. cond b (on_add_reply offsets_partition p store it.held it.code) (p, []))
        other
        ∙ ap (λ (m : List Message). (p, m)) (sym same))

    pub marker_other : (it : WriteMarker) → (it.partition == offsets_partition) ≡ false
        → messages ≡ []
        → Serves KeepsOffsets p old old (λ store. offsets_takes p store (msg.WriteMarker it))
        messages
    marker_other it other same =
        rest p old is (λ store. offsets_takes p store (msg.WriteMarker it)) messages
        (λ store. ap (λ b. cond b (on_marker offsets_partition p store it.txn it.held
        (marker_of it.held it.coordinator_epoch it.outcome)) (p, [])) other
        ∙ ap (λ (m : List Message). (p, m)) (sym same))

    pub batch_own : (it : Produce) → (it.partition == offsets_partition) ≡ true → messages ≡ []
        → Serves KeepsOffsets p old old (λ store. offsets_takes p store (msg.Produce it)) messages
    batch_own it own same =
        rest p old is (λ store. offsets_takes p store (msg.Produce it)) messages
        (λ store. ap (λ b. cond b (p, []) (p, refused_produce it.caller it.partition ∷ [])) own
        ∙ ap (λ (m : List Message). (p, m)) (sym same))

    pub batch_other : (it : Produce) → (it.partition == offsets_partition) ≡ false
        → messages ≡ refused_produce it.caller it.partition ∷ []
        → Serves KeepsOffsets p old old (λ store. offsets_takes p store (msg.Produce it)) messages
    batch_other it other same =
        rest p old is (λ store. offsets_takes p store (msg.Produce it)) messages
        (λ store. ap (λ b. cond b (p, []) (p, refused_produce it.caller it.partition ∷ [])) other
        ∙ ap (λ (m : List Message). (p, m)) (sym same))

    pub fetch_own : (it : Fetch) → (it.partition == offsets_partition) ≡ true
        → messages ≡ fetch_reply it.caller it.partition
        (fetched old.log.batches it.from (min it.max batch_limit) it.committed) ∷ []
        → Serves KeepsOffsets p old old (λ store. offsets_takes p store (msg.Fetch it)) messages
    fetch_own it own same =
        let here : it.partition ≡ offsets_partition = grind (arith, nat_tests, own) in
        rest p old is (λ store. offsets_takes p store (msg.Fetch it)) messages
        (λ store. ap (λ b.
        cond b (on_fetch offsets_partition p it.caller it.from it.max it.committed)
        (p, fetch_reply it.caller it.partition (Err code.UnknownTopicOrPartition) ∷ [])) own
        ∙ (λ i. (
          p,
          fetch_reply it.caller (sym here i)
              (fetched (sym is.disk.kept i) it.from (min it.max batch_limit) it.committed) ∷ [],
        ))
        ∙ ap (λ (m : List Message). (p, m)) (sym same))

    pub fetch_other : (it : Fetch) → (it.partition == offsets_partition) ≡ false
        → messages ≡ fetch_reply it.caller it.partition (Err code.UnknownTopicOrPartition) ∷ []
        → Serves KeepsOffsets p old old (λ store. offsets_takes p store (msg.Fetch it)) messages
    fetch_other it other same =
        rest p old is (λ store. offsets_takes p store (msg.Fetch it)) messages
        (λ store. ap (λ b.
        cond b (on_fetch offsets_partition p it.caller it.from it.max it.committed)
        (p, fetch_reply it.caller it.partition (Err code.UnknownTopicOrPartition) ∷ [])) other
        ∙ ap (λ (m : List Message). (p, m)) (sym same))

------ which messages are for it

-- the messages that the server of the offsets partition takes
pub record IsNone (m : Message) : Type 0 where
  pub commit : (it : TxnOffsetCommit) → m ≡ msg.TxnOffsetCommit it → ⊥
  pub join : (it : Join) → m ≡ msg.Join it → ⊥
  pub leave : (it : Leave) → m ≡ msg.Leave it → ⊥
  pub offset : (it : OffsetFetch) → m ≡ msg.OffsetFetch it → ⊥
  pub batch : (it : Produce) → m ≡ msg.Produce it → ⊥
  pub reply : (it : AddReply) → m ≡ msg.AddReply it → ⊥
  pub marker : (it : WriteMarker) → m ≡ msg.WriteMarker it → ⊥
  pub fetch : (it : Fetch) → m ≡ msg.Fetch it → ⊥

takes_none : (p : Partition) (store : Store) (m : Message) → IsNone m
    → offsets_takes p store m ≡ (p, [])
takes_none p store (msg.InitProducerId it) none = refl
takes_none p store (msg.InitReply it) none = refl
takes_none p store (msg.EndTxn it) none = refl
takes_none p store (msg.EndReply it) none = refl
takes_none p store (msg.Produce it) none = absurd (none.batch it refl)
takes_none p store (msg.ProduceReply it) none = refl
takes_none p store (msg.AddPartition it) none = refl
takes_none p store (msg.AddReply it) none = absurd (none.reply it refl)
takes_none p store (msg.WriteMarker it) none = absurd (none.marker it refl)
takes_none p store (msg.MarkerReply it) none = refl
takes_none p store (msg.Fetch it) none = absurd (none.fetch it refl)
takes_none p store (msg.FetchReply it) none = refl
takes_none p store (msg.Join it) none = absurd (none.join it refl)
takes_none p store (msg.JoinReply it) none = refl
takes_none p store (msg.Leave it) none = absurd (none.leave it refl)
takes_none p store (msg.LeaveReply it) none = refl
takes_none p store (msg.TxnOffsetCommit it) none = absurd (none.commit it refl)
takes_none p store (msg.OffsetsReply it) none = refl
takes_none p store (msg.OffsetFetch it) none = absurd (none.offset it refl)
takes_none p store (msg.OffsetFetchReply it) none = refl

-- any other message is not for it
pub none_served : (p : Partition) (old : Serving) → KeepsOffsets p old
    → (messages : List Message) (m : Message) → IsNone m → messages ≡ []
    → Serves KeepsOffsets p old old (λ store. offsets_takes p store m) messages
none_served p old is messages m none same =
    rest p old is (λ store. offsets_takes p store m) messages
    (λ store. takes_none p store m none ∙ ap (λ (l : List Message). (p, l)) (sym same))
