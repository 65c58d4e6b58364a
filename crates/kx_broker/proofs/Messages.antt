-- What a data partition does with each message that comes, in the words of the definitions.
use Rattle.std.proofs.Common.{◌≡◌, ◌<◌, ◌+◌, ◌==◌, ℕ, negsuc, Bool, true, false, cond, List}
use Rattle.std.proofs.Common.{[], ◌∷◌, length, map, Option, Some, None, Result, Ok, Err, refl}
use Rattle.std.proofs.Common.{sym, ap, ◌∙◌, subst, arith, zero, suc, append-nil}
use Rattle.std.specs.Prelude.{◌&&◌, ◌||◌, min, nat_lt, not}
use Rattle.std.specs.List.{All}
use Rattle.std.proofs.lemmas.Bool.{le-ltb, lt-ltb}
use Rattle.std.proofs.lemmas.Bool.Decides.{nat_tests}
use Rattle.std.proofs.lemmas.Option.{same_Some}
use Rattle.kx_batch.proofs.Whole.{batch_again}
use Rattle.kx_batch.specs.Batch.{Batch, Spelled, SpellsBatch, batch_at, batch_limit, batch_of}
use Rattle.kx_batch.specs.declared.fault.BatchFault.{BatchFault}
use Rattle.kx_broker.specs.Serving.{BeginsBy, GoesTo, IsServed, Puts, RunAgain, Serves, Serving}
use Rattle.kx_broker.specs.Serving.{Waits, bytes_in, closes, offset_of, plain_batch}
use Rattle.kx_broker.proofs.Appending.{Comes, marker_comes, stays, verdict_comes}
use Rattle.kx_broker.proofs.Appending.{verdict_next}
use Rattle.kx_broker.proofs.Disks.{Grows}
use Rattle.kx_broker.proofs.Growing.{batch_grows, marker_grows}
use Rattle.kx_broker.proofs.Parked.{each_after, each_for, each_without, same_after, same_then}
use Rattle.kx_broker.proofs.Parked.{same_full, same_without}
use Rattle.kx_broker.proofs.Resuming.{answered, request_next, resumes_as}
use Rattle.kx_broker.proofs.Served.{as_step, rests_with, served_parking, served_with}
use Rattle.kx_broker.proofs.Served.{puts_by, serves_by, serving}
use Rattle.kx_broker.proofs.Stores.{any_allowed, none_appended}
use Rattle.kx_laws.specs.Grown.{IsGrown}
use Rattle.kx_laws.proofs.GrownLogs.{grown_by_batch, grown_by_marker}
use Rattle.kx_laws.proofs.LogRules.{in_order, unverified_tells}
use Rattle.kx_laws.proofs.StoredTexts.{judged_as, refused_else}
use Rattle.kx_log.specs.Log.{IsLog, texts}
use Rattle.kx_log.specs.LogState.{LogState}
use Rattle.kx_message.specs.Messages as the
use Rattle.kx_message.specs.declared.code.ErrorCode.{ErrorCode}
use Rattle.kx_message.specs.declared.code.ErrorCode.TheVariants as code
use Rattle.kx_message.specs.declared.message.Held.{Held}
use Rattle.kx_message.specs.declared.message.Message.{Message}
use Rattle.kx_message.specs.declared.message.Message.TheVariants as msg
use Rattle.kx_message.specs.declared.replies.AddReply.{AddReply}
use Rattle.kx_message.specs.declared.requests.Fetch.{Fetch}
use Rattle.kx_message.specs.declared.requests.Produce.{Produce}
use Rattle.kx_message.specs.declared.requests.WriteMarker.{WriteMarker}
use Rattle.kx_machine.specs.Meaning.{produced_of}
use Rattle.kx_machine.specs.Stores.{Allows}
use Rattle.kx_model.specs.Client.{value_records}
use Rattle.kx_model.specs.Disk.{Store}
use Rattle.kx_model.specs.Log.{Entry, Plain, Data, Control, Marker, MarkerFits, Sequenced, Stored}
use Rattle.kx_model.specs.Log.{end, entries, entry_in}
use Rattle.kx_model.specs.PartitionNode.{Partition, Served, Taken, answers_request, entries_of}
use Rattle.kx_model.specs.PartitionNode.{data_takes, fetch_reply, marked_with, marker_of}
use Rattle.kx_model.specs.PartitionNode.{on_add_reply, on_fetch, on_marker, on_request, parks}
use Rattle.kx_model.specs.PartitionNode.{passes_on, puts, refused, refused_produce}
use Rattle.kx_model.specs.PartitionNode.{resumes, taken}
use Rattle.kx_model.specs.Produce.{Verdict, Next, Duplicate, Unverified, Refused, is_plain}
use Rattle.kx_model.specs.Produce.{is_sequenced, judge, judge_batch, judge_entry, judge_read}
use Rattle.kx_model.specs.Produce.{greatest_offset, if_room, judge_marker, judge_text, text_of}
use Rattle.kx_model.specs.Step.{plain_text}
use Rattle.kx_model.specs.Page.{fetched}
use Rattle.kx_model.specs.Producers.{expected}
use Rattle.kx_model.specs.Verification.{Parked, Request, ToPartition, is_full, pair_in, pair_of}
use Rattle.kx_model.specs.Verification.{parked_for, passed_on, reply_to, request_of}
use Rattle.kx_model.specs.Verification.{without}
use Rattle.kx_model.proofs.Logs.{plain_entry}
use Rattle.kx_partition.proofs.Judging.{plain_judged}
use Rattle.kx_partition.specs.Answer.{Breaks, FollowsVerdict, IsAnswered, IsAppended, IsMarked}
use Rattle.kx_partition.specs.Answer.{IsProduced, answer_of, code_of, marker_unless_closed}
use Rattle.kx_partition.specs.Answer.{unless_closed, verdict_at}
use Rattle.kx_broker.proofs.Plain.{IsPlain}
use Rattle.std.specs.Prelude.{nat_le}
use Rattle.kx_partition.specs.declared.answer.Produced.{Produced}
use Rattle.kx_partition.specs.declared.answer.Produced.TheVariants as produced
use Rattle.kx_varint.specs.Text.{IsBytes}
use Rattle.kx_verify.specs.Guard.{SameParked, after, answer_to}
use Rattle.kx_verify.specs.declared.guard.Asked.TheVariants as asked
use Rattle.kx_verify.specs.Request.{IsParked, is_one_sequenced}

------ the verdict on a batch

asks_by : (closed : Bool) (v : Verdict)
    → answer_of (unless_closed closed v) ≡ Some produced.Unverified → v ≡ Unverified
asks_by true Next e = absurd cc
asks_by false Next e = absurd cc
asks_by closed (Duplicate offset) e = absurd cc
asks_by closed Unverified e = refl
asks_by closed (Refused code) e = absurd cc

-- if a batch isn't verified, that is its verdict, and nothing is changed
pub asks : (closed : Bool) (v : Verdict) (text : List ℕ) (old new : LogState) (answer : Produced)
    → FollowsVerdict (unless_closed closed v) text old new answer → answer ≡ produced.Unverified
    → (v ≡ Unverified) × (new ≡ old)
asks closed v text old new answer (IsAppended offset next h) e = absurd cc
asks closed v text old new answer (Breaks next h) e = absurd cc
asks closed v text old new answer (IsAnswered given told same) e =
    (asks_by closed v (told ∙ ap Some e), same)

pub asked_then : (closed : Bool) (v : Verdict) (text : List ℕ) (old new : LogState)
    (answer : Produced) → FollowsVerdict (unless_closed closed v) text old new answer
    → v ≡ Unverified
    → answer ≡ produced.Unverified
asked_then closed v text old new answer (IsAppended offset next h) e =
    let n = verdict_next closed v next in absurd (cc (n.1, e))
asked_then closed v text old new answer (Breaks next h) e =
    let n = verdict_next closed v next in absurd (cc (n.1, e))
asked_then closed v text old new answer (IsAnswered given told same) e =
    let says : Some produced.Unverified ≡ Some given =
    ap (λ w. answer_of (unless_closed closed w)) (sym e) ∙ told in
    cc says

full_or_next : (full : Bool) → cond full (Refused code.KafkaStorageError) Next ≡ Unverified → ⊥
full_or_next true e = cc
full_or_next false e = cc

-- only a batch of a producer with an id is yet to be verified
unverified_data : (log : List Entry) (entry : Entry) → judge_entry log false entry ≡ Unverified
    → (d : Sequenced) × (entry ≡ Data d) × (judge log false d ≡ Unverified)
unverified_data log (Plain records) e = absurd (full_or_next _ e)
unverified_data log (Data d) e = (d, refl, e)
unverified_data log (Control marker) e = absurd cc

plain_or_one : (log : List Entry) (batch : Batch) (plain sequenced : Bool)
    → is_plain batch ≡ plain → sequenced ≡ false
    → cond (plain || sequenced) (judge_entry log false (entry_in batch))
    (Refused code.InvalidRecord) ≡ Unverified → ⊥
plain_or_one log batch true sequenced is_it not_one e =
    full_or_next _ (ap (judge_entry log false) (sym (plain_entry batch is_it)) ∙ e)
plain_or_one log batch false true is_it not_one e = absurd cc
plain_or_one log batch false false is_it not_one e = absurd cc

one_read : (log : List Entry) (more : ℕ) (sequenced : Bool) (batch : Batch)
    → is_sequenced batch ≡ sequenced → (more == 0 && sequenced) ≡ false
    → cond (nat_lt 0 more) (Refused code.InvalidRecord) (judge_batch log false batch) ≡ Unverified
    → ⊥
one_read log zero sequenced batch is_it not_one e =
    plain_or_one log batch (is_plain batch) (is_sequenced batch) refl (is_it ∙ not_one) e
one_read log (suc more) sequenced batch is_it not_one e =
    let some : nat_lt 0 (suc more) ≡ true = grind (arith, nat_tests) in
    let refused_so : cond true (Refused code.InvalidRecord) (judge_batch log false batch)
    ≡ Unverified =
    ap (λ b. cond b (Refused code.InvalidRecord) (judge_batch log false batch)) (sym some) ∙ e in
    absurd (cc refused_so)

by_read : (log : List Entry) (r : Result (Spelled × List ℕ) BatchFault)
    → judge_read log false r ≡ Unverified → is_one_sequenced r ≡ false → ⊥
by_read log (Err fault) e not_one = absurd cc
by_read log (Ok found) e not_one =
    one_read log (length found.1) (is_sequenced found.0.batch) found.0.batch refl not_one e

pub text_is_one : (log : List Entry) (text : List ℕ) → judge_text log false text ≡ Unverified
    → is_one_sequenced (batch_at text) ≡ false → ⊥
unfolding judge_text
text_is_one log text e not_one =
    by_read log (batch_at text)
    (refused_else (nat_lt batch_limit (length text)) code.MessageTooLarge
    (judge_read log false (batch_at text)) Unverified (λ c h. cc) e).1 not_one

------ what is parked, and what isn't

pub not_not : (a b : Bool) → not a ≡ not b → a ≡ b
not_not true true e = refl
not_not true false e = absurd cc
not_not false true e = absurd cc
not_not false false e = refl

pub parked_not_full : (full : Bool) → asked.Parked ≡ cond full asked.Full asked.Parked
    → full ≡ false
parked_not_full true e = absurd cc
parked_not_full false e = refl

pub full_is_full : (full : Bool) → asked.Full ≡ cond full asked.Full asked.Parked → full ≡ true
full_is_full true e = refl
full_is_full false e = absurd cc

pub no_failure : (n : ℕ) (closed : Bool) → nat_lt n n ≡ (not closed && closed)
no_failure n true = grind (arith, nat_tests)
no_failure n false = grind (arith, nat_tests)

-- a code of the coordinator is passed on
pub refused_all : (number : ℕ) (p : Partition) (store : Store) (held : Held) (c : ErrorCode)
    → (c ≡ code.NoError → ⊥) → on_add_reply number p store held c
    ≡ (record p { parked = without p.parked held }, map (passes_on c) (parked_for p.parked held))
refused_all number p store held code.NoError other = absurd (other refl)
refused_all number p store held code.OffsetOutOfRange other = refl
refused_all number p store held code.CorruptMessage other = refl
refused_all number p store held code.UnknownTopicOrPartition other = refl
refused_all number p store held code.MessageTooLarge other = refl
refused_all number p store held code.IllegalGeneration other = refl
refused_all number p store held code.UnknownMemberId other = refl
refused_all number p store held code.OutOfOrderSequenceNumber other = refl
refused_all number p store held code.InvalidProducerEpoch other = refl
refused_all number p store held code.InvalidTxnState other = refl
refused_all number p store held code.InvalidProducerIdMapping other = refl
refused_all number p store held code.ConcurrentTransactions other = refl
refused_all number p store held code.TransactionCoordinatorFenced other = refl
refused_all number p store held code.KafkaStorageError other = refl
refused_all number p store held code.UnsupportedCompressionType other = refl
refused_all number p store held code.InvalidRecord other = refl
refused_all number p store held code.UnstableOffsetCommit other = refl
refused_all number p store held code.ProducerFenced other = refl

------ a batch that comes

-- what is known of a log that a partition has
pub record IsHeld (log : LogState) : Type 0 where
  pub placed : IsLog log.batches
  pub grown : IsGrown log.batches
  pub holds : log.closed ≡ false → log.store.bytes ≡ texts log.batches

module _ (number : ℕ) (p : Partition) (old : Serving) (is : IsServed number p old) where
  -- a batch is judged as the definitions judge it
  pub produced_comes : IsHeld old.log → (verified : Bool) (text : List ℕ) (log : LogState)
      (answer : Produced)
      → IsBytes text → IsProduced text verified old.log log answer
      → Comes IsGrown p old.log log
      (λ store. taken p store text (judge_text (entries_of p) verified text)) (code_of answer)
      (offset_of answer)
  produced_comes known verified text log answer bytes h =
      let same : judge_text (entries old.log.batches) verified text
      ≡ judge_text (entries_of p) verified text =
      ap (λ (b : List Stored). judge_text (entries b) verified text) is.disk.kept in
      verdict_comes IsGrown p old.log log is.disk text (judge_text (entries_of p) verified text)
      answer
      (λ next. subst (λ (b : List Stored). Grows IsGrown b text) is.disk.kept
      (batch_grows IsGrown old.log.batches verified text known.placed bytes (same ∙ next)
      (grown_by_batch old.log.batches verified text known.grown (same ∙ next))))
      known.holds
      (subst (λ (v : Verdict). FollowsVerdict (unless_closed old.log.closed v) text old.log log
      answer) same h)

  module _ (it : Produce) where
    abbrev request : Request
    request = record {
      caller = it.caller;
      txn = it.txn;
      target = ToPartition it.partition;
      text = it.batch;
    }

    abbrev verdict : Verdict
    verdict = judge_text (entries_of p) false it.batch

    abbrev step : Store → Served
    step store = on_request number p store (request_of (msg.Produce it))

    pub answered_as : IsHeld old.log → (log : LogState) (answer : Produced) → IsBytes it.batch
        → IsProduced it.batch false old.log log answer → (answer ≡ produced.Unverified → ⊥)
        → Serves (IsServed number) p old (serving old.number log old.parked) step
        (the.ProduceReply it.caller it.partition (code_of answer) (offset_of answer) ∷ [])
    answered_as known log answer bytes h other =
        let same : judge_text (entries old.log.batches) false it.batch ≡ verdict =
        ap (λ (b : List Stored). judge_text (entries b) false it.batch) is.disk.kept in
        let never : verdict ≡ Unverified → ⊥ =
        λ e. other (asked_then old.log.closed
        (judge_text (entries old.log.batches) false it.batch) it.batch old.log log answer h
        (same ∙ e)) in
        serves_by IsGrown (GoesTo number) number p old is log
        (λ store. taken p store it.batch verdict) (code_of answer) (offset_of answer)
        (produced_comes known false it.batch log answer bytes h) step
        (λ c o. the.ProduceReply it.caller it.partition c o)
        (λ store. answered number p store request verdict never)

    module _ (unverified : judge_text (entries old.log.batches) false it.batch ≡ Unverified) where
      unverified_here : verdict ≡ Unverified
      unverified_here =
          sym (ap (λ (b : List Stored). judge_text (entries b) false it.batch) is.disk.kept)
          ∙ unverified

      parks_is : (store : Store) → step store ≡ parks number p request it.txn (pair_of request)
      parks_is store = ap (answers_request number p store request) unverified_here

      refused_here : (txn : Option (List ℕ)) (held : Option Held) → txn ≡ None
          → parks number p request txn held
          ≡ (p, the.ProduceReply it.caller it.partition code.InvalidTxnState (negsuc 0) ∷ [])
      refused_here None (Some held) e = refl
      refused_here None None e = refl
      refused_here (Some txn) held e = absurd cc

      -- without a transactional id there is nothing to be asked
      pub without_txn : it.txn ≡ None → Serves (IsServed number) p old old step
          (the.ProduceReply it.caller it.partition code.InvalidTxnState (negsuc 0) ∷ [])
      without_txn none =
          rests_with IsGrown (GoesTo number) number p old is step _
          (λ store. parks_is store ∙ refused_here it.txn (pair_of request) none)

      -- such a batch is one of a producer with an id, an epoch and a sequence
      pub is_one : is_one_sequenced (batch_at it.batch) ≡ false → ⊥
      is_one e = text_is_one (entries old.log.batches) it.batch unverified e

      module _ (txn : List ℕ) (has_txn : it.txn ≡ Some txn) (r : Parked)
          (parked : IsParked (msg.Produce it) r) (bytes : IsBytes it.batch)
          (own : it.partition ≡ number) where
        same_request : request ≡ r.request
        same_request = same_Some request r.request parked.request

        parks_here : (store : Store)
            → step store ≡ parks number p r.request (Some txn) (Some r.held)
        parks_here store =
            parks_is store
            ∙ (λ i. parks number p (same_request i) (has_txn i) (pair_of (same_request i)))
            ∙ ap (parks number p r.request (Some txn)) parked.held

        begins : BeginsBy (entries_of p) r.held r.request.text
        begins =
            let here = judged_as (entries_of p) false it.batch Unverified (λ c h. cc)
            unverified_here in
            let d = unverified_data (entries_of p) (entry_in (batch_of it.batch)) here.judged in
            let held : record { id = d.0.id; epoch = d.0.epoch } ≡ r.held =
            same_Some (record { id = d.0.id; epoch = d.0.epoch }) r.held
            (ap pair_in (sym d.1) ∙ ap pair_of same_request ∙ parked.held) in
            let id = ap (λ (h : Held). h.id) held in
            let epoch = ap (λ (h : Held). h.epoch) held in
            let first = in_order (entries_of p) d.0
            (unverified_tells (entries_of p) false d.0 d.2).order in
            let due : expected (entries_of p) d.0.id d.0.epoch
            ≡ expected (entries_of p) r.held.id r.held.epoch =
            λ i. expected (entries_of p) (id i) (epoch i) in
            subst (λ (q : Request). BeginsBy (entries_of p) r.held q.text) same_request (record {
              bytes = bytes;
              batch = d.0;
              entry = d.1;
              id = id;
              epoch = epoch;
              first = omega (arith, first, due);
            })

        waits : Waits (GoesTo number) (entries_of p) r.held r
        waits = record {
          held_is = refl;
          here = subst (λ (q : Request). GoesTo number q) same_request (ap ToPartition own);
          begins = begins;
        }

        module _ (given : List Parked) (same : SameParked given (after old.parked r)) where
          now_parked : IsServed number (record p { parked = after p.parked r })
              (serving old.number old.log given)
          now_parked =
              served_parking IsGrown (GoesTo number) number p old is (after p.parked r) given
              (same_then given (after old.parked r) (after p.parked r) same
              (same_after r old.parked p.parked is.parked))
              (each_after (GoesTo number) (entries_of p) r p.parked is.waits waits)

          parks_by : (full : Bool) (m : Message) → is_full p.parked r.held r.request ≡ full
              → m ≡ cond full (reply_to r.request code.ConcurrentTransactions (negsuc 0))
              (the.AddPartition txn r.held number)
              → Serves (IsServed number) p old (serving old.number old.log given) step (m ∷ [])
          parks_by full m e is_it =
              let after = λ (store : Store). (step store).0 in
              let parks_to = parks number p r.request (Some txn) (Some r.held) in
              let any = any_allowed old.log.store.appends old.log.store.loads (bytes_in after)
              (none_appended after parks_to.0
              (λ store. ap (λ (s : Served). s.0) (parks_here store))) in
              let at = parks_here any.store in
              let handed : m ∷ [] ≡ (parks number p r.request (Some txn) (Some r.held)).1 =
              ap (λ (x : Message). x ∷ []) (is_it ∙ ap (λ b.
              cond b (reply_to r.request code.ConcurrentTransactions (negsuc 0))
              (the.AddPartition txn r.held number)) (sym e)) in
              record {
                store = any.store;
                allowed = any.allowed;
                stands = subst (λ (s : Served).
                    IsServed number s.0 (serving old.number old.log given)) (sym at) now_parked;
                answers = (
                  handed ∙ ap (λ (s : Served). s.1) (sym at),
                  no_failure old.log.store.failures p.disk.closed
                      ∙ ap (λ (s : Served). closes p s.0) (sym at),
                );
              }

          -- the coordinator is asked
          pub was_parked : asked.Parked ≡ answer_to old.parked r
              → Serves (IsServed number) p old (serving old.number old.log given) step
              (the.AddPartition txn r.held number ∷ [])
          was_parked e =
              parks_by false _
              (sym (same_full r old.parked p.parked is.parked)
              ∙ parked_not_full (is_full old.parked r.held r.request) e) refl

          -- five others wait
          pub was_full : asked.Full ≡ answer_to old.parked r
              → Serves (IsServed number) p old (serving old.number old.log given) step
              (the.ProduceReply it.caller it.partition code.ConcurrentTransactions (negsuc 0) ∷ [])
          was_full e =
              parks_by true _
              (sym (same_full r old.parked p.parked is.parked)
              ∙ full_is_full (is_full old.parked r.held r.request) e)
              (ap (λ (q : Request). reply_to q code.ConcurrentTransactions (negsuc 0)) same_request)

------ the coordinator's answer

module _ (number : ℕ) (p : Partition) (old : Serving) (is : IsServed number p old) (held : Held)
  where
    -- without those of the id and epoch
    abbrev left : Partition
    left = record p { parked = without p.parked held }

    module _ (given : List Parked) (others : SameParked given (without old.parked held)) where
      now_left : IsServed number left (serving old.number old.log given)
      now_left =
          served_parking IsGrown (GoesTo number) number p old is (without p.parked held) given
          (same_then given (without old.parked held) (without p.parked held) others
          (same_without held old.parked p.parked is.parked))
          (each_without (GoesTo number) (entries_of p) held p.parked is.waits)

      -- they are answered its code
      pub refused_each : (c : ErrorCode) (requests : List Parked) → (c ≡ code.NoError → ⊥)
          → requests ≡ parked_for old.parked held
          → Serves (IsServed number) p old (serving old.number old.log given)
          (λ store. on_add_reply number p store held c)
          (map (λ q. reply_to q.request (passed_on c) (negsuc 0)) requests)
      refused_each c requests other own =
          let after = λ (store : Store). (on_add_reply number p store held c).0 in
          let any = any_allowed old.log.store.appends old.log.store.loads (bytes_in after)
          (none_appended after left (λ store. ap (λ (s : Served). s.0)
          (refused_all number p store held c other))) in
          let at = refused_all number p any.store held c other in
          let same : requests ≡ parked_for p.parked held = own ∙ is.parked held in
          record {
            store = any.store;
            allowed = any.allowed;
            stands = subst (λ (s : Served).
                IsServed number s.0 (serving old.number old.log given)) (sym at) now_left;
            answers = (
              ap (map (λ (q : Parked). reply_to q.request (passed_on c) (negsuc 0))) same
                  ∙ ap (λ (s : Served). s.1) (sym at),
              no_failure old.log.store.failures p.disk.closed
                  ∙ ap (λ (s : Served). closes p s.0) (sym at),
            );
          }

      -- they run again
      pub resumed_all : (requests : List Parked) (log : LogState) (messages : List Message)
          → IsHeld old.log → requests ≡ parked_for old.parked held
          → RunAgain requests old.log log messages
          → Serves (IsServed number) p old (serving old.number log given)
          (λ store. on_add_reply number p store held code.NoError) messages
      resumed_all requests log messages known own run =
          let same : requests ≡ parked_for p.parked held = own ∙ is.parked held in
          let waits = each_for (GoesTo number) (entries_of p) held p.parked is.waits in
          let all : All (Waits (GoesTo number) (entries old.log.batches) held) requests =
          subst (λ (b : List Stored). All (Waits (GoesTo number) (entries b) held) requests)
          (sym is.disk.kept)
          (subst (λ (l : List Parked). All (Waits (GoesTo number) (entries_of p) held) l) (sym same)
          waits) in
          let r = resumes_as IsGrown (GoesTo number) number held requests left old.log log
          run.answers run.resumed is.disk all known.placed
          (λ q w next. grown_by_batch old.log.batches true q.request.text known.grown
          (request_next (entries old.log.batches) true q.request.text q.request.target next))
          known.holds in
          let at : resumes number left r.store requests
          ≡ on_add_reply number p r.store held code.NoError =
          ap (resumes number left r.store) same in
          let stands = served_with IsGrown (GoesTo number) number left
          (serving old.number old.log given) now_left (resumes number left r.store requests).0 log
          r.disk r.parked r.later in
          record {
            store = r.store;
            allowed = subst (λ (l : List Parked). Allows old.log.store.appends old.log.store.loads
                (bytes_in (λ store. (resumes number left store l).0)) r.store) same r.allowed;
            stands = subst (λ (s : Served). IsServed number s.0 (serving old.number log given)) at
                stands;
            answers = (
              run.messages_are ∙ r.messages ∙ ap (λ (s : Served). s.1) at,
              r.fails ∙ ap (λ (s : Served). closes p s.0) at,
            );
          }

    -- what the requests that run again are known to be
    pub all_wait : (requests : List Parked) → requests ≡ parked_for old.parked held
        → All (Waits (GoesTo number) (entries old.log.batches) held) requests
    all_wait requests own =
        subst (λ (b : List Stored). All (Waits (GoesTo number) (entries b) held) requests)
        (sym is.disk.kept)
        (subst (λ (l : List Parked). All (Waits (GoesTo number) (entries_of p) held) l)
        (sym (own ∙ is.parked held))
        (each_for (GoesTo number) (entries_of p) held p.parked is.waits))

------ a marker

module _ (number : ℕ) (p : Partition) (old : Serving) (is : IsServed number p old)
    (known : IsHeld old.log) where
  pub marked_as : (txn : List ℕ) (held : Held) (marker : Marker) (log : LogState)
      (given : ErrorCode) → MarkerFits marker → IsMarked marker old.log log given
      → Serves (IsServed number) p old (serving old.number log old.parked)
      (λ store. on_marker number p store txn held marker)
      (the.MarkerReply number txn held given ∷ [])
  marked_as txn held marker log given fits h =
      let same : judge_marker (entries old.log.batches) marker
      ≡ judge_marker (entries_of p) marker =
      ap (λ (b : List Stored). judge_marker (entries b) marker) is.disk.kept in
      let verdict = judge_marker (entries_of p) marker in
      let c = marker_comes IsGrown p old.log log is.disk marker verdict given
      (ap (marker_unless_closed old.log.closed) (sym same))
      (λ next. subst (λ (b : List Stored). Grows IsGrown b (text_of marker)) is.disk.kept
      (marker_grows IsGrown old.log.batches marker known.placed fits (same ∙ next)
      (grown_by_marker old.log.batches marker known.grown fits (same ∙ next))))
      known.holds h in
      serves_by IsGrown (GoesTo number) number p old is log
      (λ store. marked_with p store marker verdict) given c.0 c.1
      (λ store. on_marker number p store txn held marker)
      (λ code offset. the.MarkerReply number txn held code) (λ store. refl)

------ which messages are for it

takes_none : (number : ℕ) (p : Partition) (store : Store) (m : Message)
    → ((it : Produce) → m ≡ msg.Produce it → ⊥) → ((it : Fetch) → m ≡ msg.Fetch it → ⊥)
    → ((it : AddReply) → m ≡ msg.AddReply it → ⊥)
    → ((it : WriteMarker) → m ≡ msg.WriteMarker it → ⊥) → data_takes number p store m ≡ (p, [])
takes_none number p store (msg.InitProducerId it) a b c d = refl
takes_none number p store (msg.InitReply it) a b c d = refl
takes_none number p store (msg.EndTxn it) a b c d = refl
takes_none number p store (msg.EndReply it) a b c d = refl
takes_none number p store (msg.Produce it) a b c d = absurd (a it refl)
takes_none number p store (msg.ProduceReply it) a b c d = refl
takes_none number p store (msg.AddPartition it) a b c d = refl
takes_none number p store (msg.AddReply it) a b c d = absurd (c it refl)
takes_none number p store (msg.WriteMarker it) a b c d = absurd (d it refl)
takes_none number p store (msg.MarkerReply it) a b c d = refl
takes_none number p store (msg.Fetch it) a b c d = absurd (b it refl)
takes_none number p store (msg.FetchReply it) a b c d = refl
takes_none number p store (msg.Join it) a b c d = refl
takes_none number p store (msg.JoinReply it) a b c d = refl
takes_none number p store (msg.Leave it) a b c d = refl
takes_none number p store (msg.LeaveReply it) a b c d = refl
takes_none number p store (msg.TxnOffsetCommit it) a b c d = refl
takes_none number p store (msg.OffsetsReply it) a b c d = refl
takes_none number p store (msg.OffsetFetch it) a b c d = refl
takes_none number p store (msg.OffsetFetchReply it) a b c d = refl

module _ (number : ℕ) (p : Partition) (old new : Serving) (messages : List Message) where
  abbrev Serve : (Store → Served) → Type 0
  Serve step = Serves (IsServed number) p old new step messages

  pub produce_own : (it : Produce) → (it.partition == number) ≡ true
      → Serve (λ store. on_request number p store (request_of (msg.Produce it)))
      → Serve (λ store. data_takes number p store (msg.Produce it))
  produce_own it own s =
      as_step (IsServed number) p old new
      (λ store. on_request number p store (request_of (msg.Produce it)))
      (λ store. data_takes number p store (msg.Produce it)) messages
      (λ store. ap (λ b. cond b (on_request number p store (request_of (msg.Produce it)))
      (p, refused_produce it.caller it.partition ∷ [])) own) s

  pub add_own : (it : AddReply) → (it.partition == number) ≡ true
      → Serve (λ store. on_add_reply number p store it.held it.code)
      → Serve (λ store. data_takes number p store (msg.AddReply it))
  add_own it own s =
      as_step (IsServed number) p old new (λ store. on_add_reply number p store it.held it.code)
      (λ store. data_takes number p store (msg.AddReply it)) messages
      (λ store. ap (λ b. cond b (on_add_reply number p store it.held it.code) (p, [])) own) s

  pub marker_own : (it : WriteMarker) → (it.partition == number) ≡ true
      → Serve (λ store. on_marker number p store it.txn it.held
      (marker_of it.held it.coordinator_epoch it.outcome))
      → Serve (λ store. data_takes number p store (msg.WriteMarker it))
  marker_own it own s =
      let step = λ (store : Store). on_marker number p store it.txn it.held
      (marker_of it.held it.coordinator_epoch it.outcome) in
      as_step (IsServed number) p old new step
      (λ store. data_takes number p store (msg.WriteMarker it)) messages
      (λ store. ap (λ b. cond b (step store) (p, [])) own) s

module _ (number : ℕ) (p : Partition) (old : Serving) (is : IsServed number p old)
    (messages : List Message) where
  rest : (step : Store → Served) → ((store : Store) → step store ≡ (p, messages))
      → Serves (IsServed number) p old old step messages
  rest step rests = rests_with IsGrown (GoesTo number) number p old is step messages rests

  pub produce_other : (it : Produce) → (it.partition == number) ≡ false
      → messages ≡ refused_produce it.caller it.partition ∷ []
      → Serves (IsServed number) p old old (λ store. data_takes number p store (msg.Produce it))
      messages
  produce_other it other same =
      rest (λ store. data_takes number p store (msg.Produce it))
      (λ store. ap (λ b. cond b (on_request number p store (request_of (msg.Produce it)))
      (p, refused_produce it.caller it.partition ∷ [])) other
      ∙ ap (λ (m : List Message). (p, m)) (sym same))

  pub add_other : (it : AddReply) → (it.partition == number) ≡ false → messages ≡ []
      → Serves (IsServed number) p old old (λ store. data_takes number p store (msg.AddReply it))
      messages
  add_other it other same =
      rest (λ store. data_takes number p store (msg.AddReply it))
      (λ store. ap (λ b. cond b (on_add_reply number p store it.held it.code) (p, [])) other
      ∙ ap (λ (m : List Message). (p, m)) (sym same))

  pub marker_other : (it : WriteMarker) → (it.partition == number) ≡ false → messages ≡ []
      → Serves (IsServed number) p old old (λ store. data_takes number p store (msg.WriteMarker it))
      messages
  marker_other it other same =
      rest (λ store. data_takes number p store (msg.WriteMarker it))
      (λ store. ap (λ b. cond b (on_marker number p store it.txn it.held
      (marker_of it.held it.coordinator_epoch it.outcome)) (p, [])) other
      ∙ ap (λ (m : List Message). (p, m)) (sym same))

  fetch_by : (it : Fetch) (own : Bool) → (it.partition == number) ≡ own
      → messages ≡ fetch_reply it.caller it.partition
      (cond own (fetched p.disk.kept it.from (min it.max batch_limit) it.committed)
      (Err code.UnknownTopicOrPartition)) ∷ []
      → (store : Store) → data_takes number p store (msg.Fetch it) ≡ (p, messages)
  fetch_by it true e same store =
      let here : it.partition ≡ number = grind (arith, nat_tests, e) in
      ap (λ b. cond b (on_fetch number p it.caller it.from it.max it.committed)
      (p, fetch_reply it.caller it.partition (Err code.UnknownTopicOrPartition) ∷ [])) e
      ∙ ap (λ n. (
        p,
        fetch_reply it.caller n
            (fetched p.disk.kept it.from (min it.max batch_limit) it.committed) ∷ [],
      )) (sym here)
      ∙ ap (λ (m : List Message). (p, m)) (sym same)
  fetch_by it false e same store =
      ap (λ b. cond b (on_fetch number p it.caller it.from it.max it.committed)
      (p, fetch_reply it.caller it.partition (Err code.UnknownTopicOrPartition) ∷ [])) e
      ∙ ap (λ (m : List Message). (p, m)) (sym same)

  pub fetch_served : (it : Fetch) → messages ≡ fetch_reply it.caller it.partition
      (cond (it.partition == old.number)
      (fetched old.log.batches it.from (min it.max batch_limit) it.committed)
      (Err code.UnknownTopicOrPartition)) ∷ []
      → Serves (IsServed number) p old old (λ store. data_takes number p store (msg.Fetch it))
      messages
  fetch_served it same =
      rest (λ store. data_takes number p store (msg.Fetch it))
      (fetch_by it (it.partition == number) refl (same
      ∙ λ i. fetch_reply it.caller it.partition
      (cond (it.partition == is.number_is i)
      (fetched (is.disk.kept i) it.from (min it.max batch_limit) it.committed)
      (Err code.UnknownTopicOrPartition)) ∷ []))

  -- any other message is not for a data partition
  pub none_served : (m : Message) → ((it : Produce) → m ≡ msg.Produce it → ⊥)
      → ((it : Fetch) → m ≡ msg.Fetch it → ⊥) → ((it : AddReply) → m ≡ msg.AddReply it → ⊥)
      → ((it : WriteMarker) → m ≡ msg.WriteMarker it → ⊥) → messages ≡ []
      → Serves (IsServed number) p old old (λ store. data_takes number p store m) messages
  none_served m a b c d same =
      rest (λ store. data_takes number p store m)
      (λ store. takes_none number p store m a b c d ∙ ap (λ (l : List Message). (p, l)) (sym same))

------ a batch of no producer

-- the plain batch of some values comes next, if there is an offset for it
plain_verdict : (log : List Entry) (values : List (List ℕ)) (text : List ℕ) → IsBytes text
    → SpellsBatch (plain_batch values) text
    → judge_text log true text ≡ if_room log (length (value_records values))
unfolding judge_text
plain_verdict log values text bytes spells =
    let batch = plain_batch values in
    let whole : batch_at text ≡ Ok (record { batch = batch; text = text }, []) =
    ap batch_at (sym (append-nil text)) ∙ batch_again batch text [] bytes spells in
    rw (le-ltb batch_limit (length text) spells.limit)
    (ap (judge_read log true) whole ∙ plain_judged log true batch refl)

abbrev IsTold : Produced → Type 0
IsTold answer = answer ≡ produced_of (code_of answer) (offset_of answer)

-- it is neither a duplicate nor unverified
put_told : (closed full : Bool) (text : List ℕ) (old new : LogState) (answer : Produced)
    → FollowsVerdict (unless_closed closed (cond full (Refused code.KafkaStorageError) Next)) text
    old new answer → IsTold answer
put_told closed full text old new answer (IsAppended offset next h) = refl
put_told closed full text old new answer (Breaks next h) = refl
put_told true true text old new answer (IsAnswered given says same) =
    let is_it : produced.Refused code.KafkaStorageError ≡ given = cc in subst IsTold is_it refl
put_told true false text old new answer (IsAnswered given says same) =
    let is_it : produced.Refused code.KafkaStorageError ≡ given = cc in subst IsTold is_it refl
put_told false true text old new answer (IsAnswered given says same) =
    let is_it : produced.Refused code.KafkaStorageError ≡ given = cc in subst IsTold is_it refl
put_told false false text old new answer (IsAnswered given says same) = absurd cc

no_room : (closed : Bool) (n : ℕ) → (not closed && nat_le n greatest_offset) ≡ false
    → answer_of (unless_closed closed (cond (nat_lt greatest_offset n)
    (Refused code.KafkaStorageError) Next)) ≡ Some (produced.Refused code.KafkaStorageError)
no_room true n none = by (nat_lt greatest_offset n)
  where
    by : (full : Bool) → answer_of (unless_closed true (cond full
        (Refused code.KafkaStorageError) Next)) ≡ Some (produced.Refused code.KafkaStorageError)
    by true = refl
    by false = refl
no_room false n none =
    let full : nat_lt greatest_offset n ≡ true = grind (arith, nat_tests, none) in
    ap (λ b. answer_of (unless_closed false (cond b (Refused code.KafkaStorageError) Next))) full

has_room : (closed : Bool) (n : ℕ) → (not closed && nat_le n greatest_offset) ≡ true
    → unless_closed closed (cond (nat_lt greatest_offset n) (Refused code.KafkaStorageError) Next)
    ≡ Next
has_room true n some = absurd cc
has_room false n some =
    let room : nat_lt greatest_offset n ≡ false = grind (arith, nat_tests, some) in
    ap (λ b. unless_closed false (cond b (Refused code.KafkaStorageError) Next)) room

-- the batch of values that fit is to be appended, if there is room
pub put_next : (log : LogState) (values : List (List ℕ)) → IsPlain values
    → (not log.closed && nat_le (end (entries log.batches) + length (value_records values))
    greatest_offset) ≡ true → verdict_at log true (plain_text values) ≡ Next
put_next log values plain room =
    ap (unless_closed log.closed)
    (plain_verdict (entries log.batches) values (plain_text values) plain.bytes plain.spells)
    ∙ has_room log.closed (end (entries log.batches) + length (value_records values)) room

-- one that would pass the limit is refused
too_large : (log : List Entry) (text : List ℕ) → batch_limit < length text
    → judge_text log true text ≡ Refused code.MessageTooLarge
unfolding judge_text
too_large log text over = rw (lt-ltb batch_limit (length text) over) refl

module _ (number : ℕ) (p : Partition) (old : Serving) (is : IsServed number p old)
    (values : List (List ℕ)) where
  abbrev put_step : Store → Taken
  put_step store = puts p store (plain_text values)

  pub put_served : (text : List ℕ) (log : LogState) (answer : Produced) → IsHeld old.log
      → IsBytes text → text ≡ plain_text values → SpellsBatch (plain_batch values) text
      → IsProduced text true old.log log answer
      → Puts (IsServed number) p old (serving old.number log old.parked) put_step answer
  put_served text log answer known bytes same spells h =
      let verdict = plain_verdict (entries old.log.batches) values text bytes spells in
      let full = nat_lt greatest_offset
      (end (entries old.log.batches) + length (value_records values)) in
      let told = put_told old.log.closed full text old.log log answer
      (subst (λ (v : Verdict). FollowsVerdict (unless_closed old.log.closed v) text old.log log
      answer) verdict h) in
      let c = produced_comes number p old is known true text log answer bytes h in
      subst (λ (t : List ℕ). Puts (IsServed number) p old (serving old.number log old.parked)
      (λ store. puts p store t) answer) same
      (puts_by IsGrown (GoesTo number) number p old is log (λ store. puts p store text)
      (code_of answer) (offset_of answer) c answer told)

  -- a log that is closed, or has no offset left
  pub put_full : IsHeld old.log → IsPlain values
      → (not old.log.closed && nat_le (end (entries old.log.batches)
      + length (value_records values)) greatest_offset) ≡ false
      → Puts (IsServed number) p old (serving old.number old.log old.parked) put_step
      (produced.Refused code.KafkaStorageError)
  put_full known plain none =
      let log = entries old.log.batches in
      let text = plain_text values in
      let verdict = plain_verdict log values text plain.bytes plain.spells in
      put_served text old.log (produced.Refused code.KafkaStorageError) known plain.bytes refl
      plain.spells
      (IsAnswered (produced.Refused code.KafkaStorageError)
      (ap (λ (v : Verdict). answer_of (unless_closed old.log.closed v)) verdict
      ∙ no_room old.log.closed (end log + length (value_records values)) none) refl)

  pub put_refused : batch_limit < length (plain_text values)
      → Puts (IsServed number) p old old put_step (produced.Refused code.MessageTooLarge)
  put_refused over =
      let verdict = too_large (entries_of p) (plain_text values) over in
      let refuses : (store : Store) → put_step store ≡ refused p code.MessageTooLarge =
      λ store. ap (taken p store (plain_text values)) verdict in
      puts_by IsGrown (GoesTo number) number p old is old.log put_step code.MessageTooLarge
      (negsuc 0)
      (stays IsGrown p old.log old.log is.disk put_step code.MessageTooLarge (negsuc 0) refl
      (λ store. ap (λ (t : Taken). t.partition) (refuses store))
      (λ store. ap (λ (t : Taken). t.code) (sym (refuses store)))
      (λ store. ap (λ (t : Taken). t.offset) (sym (refuses store))))
      (produced.Refused code.MessageTooLarge) refl
