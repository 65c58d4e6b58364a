-- Parked batches that run again: at most one of an id and epoch is appended, and what they are
-- answered is what the definitions say.
use Rattle.std.proofs.Common.{◌≡◌, ◌⊎◌, inl, inr, ⊎_elim, ◌≤◌, ◌<◌, ◌+◌, ◌==◌, ℕ, pos, negsuc, Bool}
use Rattle.std.proofs.Common.{true, false, cond, List, [], ◌∷◌, ◌++◌, length, take, get_or}
use Rattle.std.proofs.Common.{Option, Some, None, refl, sym}
use Rattle.std.proofs.Common.{ap, ◌∙◌, subst, arith}
use Rattle.std.specs.Prelude.{not, ◌&&◌, nat_lt}
use Rattle.std.specs.List.{All}
use Rattle.std.specs.Ordering.{int_eq}
use Rattle.std.proofs.lemmas.Bool.{and_from, eq-eqb}
use Rattle.std.proofs.lemmas.List.Elements.{All-get_or, All-head, All-tail}
use Rattle.std.proofs.lemmas.List.{take_all, take_more}
use Rattle.kx_batch.specs.Batch.{batch_of}
use Rattle.kx_broker.specs.Serving.{BeginsBy, IsDisk, RunAgain, Waits, bytes_in, offset_of, told}
use Rattle.kx_broker.specs.Serving.{told_each}
use Rattle.kx_broker.proofs.Appending.{Comes, quiet, stays, verdict_comes, verdict_next}
use Rattle.kx_broker.proofs.Disks.{Grows, appended_closed, appended_fails, next_in, with_next}
use Rattle.kx_broker.proofs.Growing.{batch_grows}
use Rattle.kx_broker.proofs.Stores.{any_allowed, as_allowed, none_appended}
use Rattle.kx_group.specs.Calls.{IsResumed, NoneLeft, OneMore, verdict_again}
use Rattle.kx_laws.proofs.GrownLogs.{batch_is}
use Rattle.kx_laws.proofs.LogRules.{batch_tells, in_order, unverified_tells}
use Rattle.kx_laws.proofs.StoredTexts.{judged_as, judged_text, refused_else, refused_next}
use Rattle.kx_log.specs.Log.{IsLog, texts}
use Rattle.kx_log.specs.LogState.{LogState}
use Rattle.kx_machine.specs.Meaning.{appended_bytes, batch_bytes}
use Rattle.kx_machine.specs.Stores.{Allows}
use Rattle.kx_message.specs.declared.code.ErrorCode.TheVariants as code
use Rattle.kx_message.specs.declared.message.Held.{Held}
use Rattle.kx_message.specs.declared.message.Message.{Message}
use Rattle.kx_model.specs.Disk.{Disk, Store, Fails}
use Rattle.kx_model.specs.Groups.{generation, is_member}
use Rattle.kx_model.specs.Log.{Entry, Plain, Data, Control, Sequenced, Stored, entries}
use Rattle.kx_model.specs.Log.{entry_in, last_sequence, width}
use Rattle.kx_model.specs.PartitionNode.{Partition, Served, answers_request, entries_of}
use Rattle.kx_model.specs.PartitionNode.{parks, refused, replied, resumes, taken}
use Rattle.kx_model.specs.Produce.{Verdict, Next, Duplicate, Unverified, Refused, if_room, judge}
use Rattle.kx_model.specs.Produce.{judge_entry, judge_text, opens}
use Rattle.kx_model.specs.Producers.{expected, is_of}
use Rattle.kx_model.specs.Verification.{Parked, Request, Target, ToGroup, ToPartition}
use Rattle.kx_model.specs.Verification.{judge_request, judge_target, pair_of, reply_to}
use Rattle.kx_model.proofs.Growth.{expected-push}
use Rattle.kx_model.proofs.Logs.{entries-push, width-entry_in}
use Rattle.kx_partition.specs.Answer.{Breaks, FollowsVerdict, IsAnswered, IsAppended, answer_of}
use Rattle.kx_partition.specs.Answer.{code_of, unless_closed}
use Rattle.kx_partition.specs.declared.answer.Produced.{Produced}

------ what is verified is never asked for

full_or_next : (full : Bool) → cond full (Refused code.KafkaStorageError) Next ≡ Unverified → ⊥
full_or_next true e = cc
full_or_next false e = cc

none_asked : (opens : Bool) (log : List Entry) (count : ℕ)
    → cond (opens && not true) Unverified (if_room log count) ≡ Unverified → ⊥
none_asked true log count e = full_or_next _ e
none_asked false log count e = full_or_next _ e

entry_verified : (log : List Entry) (entry : Entry) → judge_entry log true entry ≡ Unverified → ⊥
entry_verified log (Plain records) e = full_or_next _ e
entry_verified log (Data d) e =
    none_asked (opens log d) log (length d.records) (unverified_tells log true d e).asks
entry_verified log (Control marker) e = cc

pub text_verified : (log : List Entry) (text : List ℕ) → judge_text log true text ≡ Unverified → ⊥
text_verified log text e =
    entry_verified log _ (judged_as log true text Unverified (λ c h. cc) e).judged

-- every check of a request comes before that of its batch
pub request_next : (log : List Entry) (verified : Bool) (text : List ℕ) (target : Target)
    → judge_target log verified text target ≡ Next → judge_text log verified text ≡ Next
request_next log verified text (ToPartition partition) e = e
request_next log verified text (ToGroup group member named) e =
    let other = not (int_eq named (pos (generation log group))) in
    let verdict = judge_text log verified text in
    (refused_next other code.IllegalGeneration verdict
    (refused_next (not (is_member log group member)) code.UnknownMemberId
    (cond other (Refused code.IllegalGeneration) verdict) e).1).1

pub request_verified : (log : List Entry) (text : List ℕ) (target : Target)
    → judge_target log true text target ≡ Unverified → ⊥
request_verified log text (ToPartition partition) e = text_verified log text e
request_verified log text (ToGroup group member named) e =
    let other = not (int_eq named (pos (generation log group))) in
    let verdict = judge_text log true text in
    let member_is = refused_else (not (is_member log group member)) code.UnknownMemberId
    (cond other (Refused code.IllegalGeneration) verdict) Unverified (λ c h. cc) e in
    text_verified log text
    (refused_else other code.IllegalGeneration verdict Unverified (λ c h. cc) member_is.1).1

-- if nothing is to be asked for, a request is answered as a batch is
pub answered : (number : ℕ) (p : Partition) (store : Store) (r : Request) (v : Verdict)
    → (v ≡ Unverified → ⊥) → answers_request number p store r v ≡ replied r (taken p store r.text v)
answered number p store r Next other = refl
answered number p store r (Duplicate offset) other = refl
answered number p store r Unverified other = absurd (other refl)
answered number p store r (Refused code) other = refl

------ at most one comes next

-- no batch that begins by this sequence comes next
abbrev IsOver : Held → ℕ → LogState → Type 0
IsOver held n log =
    (log.closed ≡ true) ⊎ (n < expected (entries log.batches) held.id held.epoch)

is_batch : (entry : Entry) (d : Sequenced) → entry ≡ Data d → (log : List Entry)
    → judge_entry log true entry ≡ Next → judge log true d ≡ Next
is_batch entry d e log next = ap (judge_entry log true) (sym e) ∙ next

module _ (log : List Entry) (held : Held) (text : List ℕ) (begins : BeginsBy log held text) where
  abbrev batch : Sequenced
  batch = begins.batch

  -- a batch that comes next begins if its id and epoch have come to
  comes_next : (now : List Entry) → judge_text now true text ≡ Next
      → batch.first ≡ expected now held.id held.epoch
  comes_next now next =
      let judged = judged_text now true text next in
      let own = is_batch (entry_in (batch_of text)) batch begins.entry now judged.judged in
      in_order now batch (batch_tells now true batch own).order
      ∙ λ i. expected now (begins.id i) (begins.epoch i)

  pub never_next : (now : LogState) (target : Target)
      → IsOver held (expected log held.id held.epoch) now
      → unless_closed now.closed (judge_target (entries now.batches) true text target) ≡ Next → ⊥
  never_next now target over e =
      let next = verdict_next now.closed (judge_target (entries now.batches) true text target) e in
      let at = comes_next (entries now.batches)
      (request_next (entries now.batches) true text target next.1) in
      ⊎_elim (λ closed. absurd (cc (closed, next.0)))
      (λ more. omega (arith, more, at, begins.first)) over

  -- behind one that was appended none does
  pub over_after : (old : List Stored) → expected (entries old) held.id held.epoch
      ≡ expected log held.id held.epoch → judge_text (entries old) true text ≡ Next
      → expected log held.id held.epoch
      < expected (entries (with_next text old)) held.id held.epoch
  over_after old same next =
      let judged = judged_text (entries old) true text next in
      let entry = entry_in (batch_of text) in
      let some : 1 ≤ length batch.records =
      omega (arith, judged.some, width-entry_in (batch_of text), ap width begins.entry) in
      let first = comes_next (entries old) next in
      let pushed : entries (with_next text old) ≡ entries old ++ Data batch ∷ [] =
      entries-push old (next_in text old) (Data batch) (batch_is old true text next ∙ begins.entry)
      in
      let its : is_of held.id held.epoch batch ≡ true =
      and_from (batch.id == held.id) (batch.epoch == held.epoch)
      (eq-eqb batch.id held.id begins.id) (eq-eqb batch.epoch held.epoch begins.epoch) in
      let now : expected (entries (with_next text old)) held.id held.epoch
      ≡ last_sequence batch + 1 =
      ap (λ (l : List Entry). expected l held.id held.epoch) pushed
      ∙ expected-push (entries old) batch held.id held.epoch
      ∙ ap (λ b. cond b (last_sequence batch + 1)
      (expected (entries old) held.id held.epoch)) its in
      omega (arith, now, some, first, same)

------ one after another

-- one more behind those that were run
resumed_more : (requests : List Parked) (old between new : LogState) (answers : List Produced)
    (parked : Parked) (answer : Produced) → IsResumed requests old between answers
    → FollowsVerdict (verdict_again between parked) parked.request.text between new answer
    → IsResumed (requests ++ parked ∷ []) old new (answers ++ answer ∷ [])
resumed_more requests old between new answers parked answer (NoneLeft log) follows =
    OneMore parked [] log new new answer [] follows (NoneLeft new)
resumed_more requests old between new answers parked answer
    (OneMore first rest start middle last told others one more) follows =
    OneMore first (rest ++ parked ∷ []) start middle new told (others ++ answer ∷ []) one
    (resumed_more rest middle last new others parked answer more follows)

module _ (Here : Request → Type 0) (held : Held) (requests : List Parked) (start : LogState) where
  abbrev Wait : Parked → Type 0
  Wait parked = Waits Here (entries start.batches) held parked

  abbrev due : ℕ
  due = expected (entries start.batches) held.id held.epoch

  -- so many of the requests were run again; as long as none came next all is as at the start, and
  -- then none does
  pub record IsRun (now : LogState) (answers : List Produced) (count : ℕ) : Type 0 where
    pub resumed : IsResumed (take count requests) start now answers
    pub stage : (now ≡ start) ⊎ IsOver held due now

  pub none_run : IsRun start [] 0
  none_run = record { resumed = NoneLeft start; stage = inl refl }

  module _ (all : All Wait requests) (now : LogState) (answers : List Produced) (count : ℕ)
      (run : IsRun now answers count) where
    pub all_run : length requests ≤ count → IsResumed requests start now answers
    all_run le =
        subst (λ (l : List Parked). IsResumed l start now answers) (take_all count requests le)
        run.resumed

    module _ (parked : Parked) (at : parked ≡ get_or requests count parked)
        (within : count < length requests) where
      pub waits_here : Wait parked
      waits_here = subst Wait (sym at) (All-get_or Wait requests count parked within all)

      -- if it comes next, all is as at the start
      pub at_start : verdict_again now parked ≡ Next → now ≡ start
      at_start next =
          ⊎_elim (λ same. same)
          (λ over. absurd (never_next (entries start.batches) held parked.request.text
          waits_here.begins now parked.request.target over next)) run.stage

      over_then : (new : LogState) (answer : Produced)
          → FollowsVerdict (verdict_again now parked) parked.request.text now new answer
          → (new ≡ now) ⊎ IsOver held due new
      over_then new answer (IsAppended offset next h) =
          let same = at_start next in
          let judged = verdict_next now.closed
          (judge_request (entries now.batches) true parked.request) next in
          let text_next = request_next (entries now.batches) true parked.request.text
          parked.request.target judged.1 in
          let here = over_after (entries start.batches) held parked.request.text waits_here.begins
          now.batches
          (ap (λ (l : LogState). expected (entries l.batches) held.id held.epoch) same) text_next in
          inr (inr (subst (λ (b : List Stored). due < expected (entries b) held.id held.epoch)
          (sym (ap (λ (l : LogState). l.batches) h.rest)) here))
      over_then new answer (IsAnswered given says same) = inl same
      over_then new answer (Breaks next h) = inr (inl (ap (λ (l : LogState). l.closed) h.rest))

      pub run_more : (new : LogState) (answer : Produced)
          → FollowsVerdict (verdict_again now parked) parked.request.text now new answer
          → IsRun new (answers ++ answer ∷ []) (count + 1)
      run_more new answer follows =
          let longer : take (count + 1) requests ≡ take count requests ++ parked ∷ [] =
          take_more requests count parked within
          ∙ ap (λ (q : Parked). take count requests ++ q ∷ []) (sym at) in
          record {
            resumed = subst
                (λ (l : List Parked). IsResumed l start new (answers ++ answer ∷ [])) (sym longer)
                (resumed_more (take count requests) start now new answers parked answer run.resumed
                follows);
            stage = ⊎_elim
                (λ same. ⊎_elim (λ begun. inl (same ∙ begun))
                (λ over. inr (subst (IsOver held due) (sym same) over)) run.stage)
                (λ over. inr over) (over_then new answer follows);
          }

pub resumed_each : (requests : List Parked) (old new : LogState) (answers : List Produced)
    → IsResumed requests old new answers → length answers ≡ length requests
resumed_each requests old new answers (NoneLeft log) = refl
resumed_each requests old new answers (OneMore q rest o b n a others one more) =
    omega (arith, resumed_each rest b n others more)

pub told_more : (requests : List Parked) (answers : List Produced) (q : Parked) (a : Produced)
    → length answers ≡ length requests
    → told_each (requests ++ q ∷ []) (answers ++ a ∷ [])
    ≡ told_each requests answers ++ told q.request a ∷ []
told_more [] [] q a same = refl
told_more [] (b ∷ answers) q a same = absurd (omega arith)
told_more (r ∷ requests) [] q a same = absurd (omega arith)
told_more (r ∷ requests) (b ∷ answers) q a same =
    ap (λ (l : List Message). told r.request b ∷ l)
    (told_more requests answers q a (omega arith))

module _ (Here : Request → Type 0) (held : Held) (requests : List Parked) (start : LogState) where
  -- so many of the requests were run again, and answered so
  pub record HasRun (now : LogState) (replies : List Message) (count : ℕ) : Type 0 where
    pub answers : List Produced
    pub run : IsRun Here held requests start now answers count
    pub replies_are : replies ≡ told_each (take count requests) answers

  pub begins : (replies : List Message) → replies ≡ [] → HasRun start replies 0
  begins replies none = record {
    answers = [];
    run = none_run Here held requests start;
    replies_are = none;
  }

  module _ (all : All (Waits Here (entries start.batches) held) requests) (now : LogState)
      (replies : List Message) (count : ℕ) (has : HasRun now replies count) where
    pub ends : length requests ≤ count → RunAgain requests start now replies
    ends le = record {
      answers = has.answers;
      resumed = all_run Here held requests start all now has.answers count has.run le;
      messages_are = has.replies_are
          ∙ ap (λ (l : List Parked). told_each l has.answers) (take_all count requests le);
    }

    module _ (q : Parked) (at : q ≡ get_or requests count q) (within : count < length requests)
      where
        pub here : Here q.request
        here = (waits_here Here held requests start all now has.answers count has.run q at
            within).here

        pub begun : verdict_again now q ≡ Next → now ≡ start
        begun next = at_start Here held requests start all now has.answers count has.run q at within
            next

        pub goes_on : (new : LogState) (a : Produced) (longer : List Message)
            → FollowsVerdict (verdict_again now q) q.request.text now new a
            → longer ≡ replies ++ told q.request a ∷ [] → HasRun new longer (count + 1)
        goes_on new a longer follows pushed =
            let each = resumed_each (take count requests) start now has.answers has.run.resumed in
            record {
              answers = has.answers ++ a ∷ [];
              run = run_more Here held requests start all now has.answers count has.run q at within
                  new a follows;
              replies_are = pushed
                  ∙ ap (λ (l : List Message). l ++ told q.request a ∷ []) has.replies_are
                  ∙ sym (told_more (take count requests) has.answers q a each)
                  ∙ ap (λ (l : List Parked). told_each l (has.answers ++ a ∷ []))
                  (sym (take_more requests count q within
                  ∙ ap (λ (r : Parked). take count requests ++ r ∷ []) (sym at)));
            }

------ as the definitions have it

parks_disk : (number : ℕ) (p : Partition) (r : Request) (txn : Option (List ℕ))
    (held : Option Held) → (parks number p r txn held).0.disk ≡ p.disk
parks_disk number p r None held = refl
parks_disk number p r (Some txn) None = refl
parks_disk number p r (Some txn) (Some held) = refl

-- a log that is closed stays as it is
answer_closed : (number : ℕ) (p : Partition) (store : Store) (r : Request) (v : Verdict)
    → p.disk.closed ≡ true → (answers_request number p store r v).0.disk ≡ p.disk
answer_closed number p store r Next closed =
    appended_closed p.disk (next_in r.text p.disk.kept) store closed
answer_closed number p store r (Duplicate offset) closed = refl
answer_closed number p store r Unverified closed = parks_disk number p r r.txn (pair_of r)
answer_closed number p store r (Refused code) closed = refl

resumes_closed : (number : ℕ) (requests : List Parked) (p : Partition) (store : Store)
    → p.disk.closed ≡ true → (resumes number p store requests).0.disk ≡ p.disk
resumes_closed number [] p store closed = refl
resumes_closed number (q ∷ rest) p store closed =
    let r = q.request in
    let verdict = judge_request (entries_of p) true r in
    let one = (answers_request number p store r verdict).0 in
    let same = answer_closed number p store r verdict closed in
    resumes_closed number rest one store (ap (λ (d : Disk Stored). d.closed) same ∙ closed) ∙ same

taken_closes : (p : Partition) (text : List ℕ) (v : Verdict) (whole : Bool) → v ≡ Next
    → p.disk.closed ≡ false → (taken p (Fails whole) text v).partition.disk.closed ≡ true
taken_closes p text v whole next still =
    ap (λ (w : Verdict). (taken p (Fails whole) text w).partition.disk.closed) next
    ∙ ap (λ (d : Disk Stored). d.closed)
    (appended_fails p.disk (next_in text p.disk.kept) whole still)

-- by some store that is allowed, running the requests again leads to the log, and has these replies
pub record Resumed (Fits : List Stored → Type 0) (number : ℕ) (p : Partition) (old new : LogState)
    (requests : List Parked) (answers : List Produced) : Type 0 where
  pub store : Store
  pub allowed : Allows old.store.appends old.store.loads
      (bytes_in (λ at. (resumes number p at requests).0)) store
  pub disk : IsDisk Fits (resumes number p store requests).0.disk new
  pub parked : (resumes number p store requests).0.parked ≡ p.parked
  pub messages : told_each requests answers ≡ (resumes number p store requests).1
  pub fails : nat_lt old.store.failures new.store.failures
      ≡ (not p.disk.closed && (resumes number p store requests).0.disk.closed)
  pub later : (id epoch : ℕ) → expected (entries p.disk.kept) id epoch
      ≤ expected (entries (resumes number p store requests).0.disk.kept) id epoch

module _ (Fits : List Stored → Type 0) (Here : Request → Type 0) (number : ℕ) (log : List Entry)
    (held : Held) where
  abbrev Waiting : Parked → Type 0
  Waiting parked = Waits Here log held parked

  module _ (p : Partition) (old : LogState) (is : IsDisk Fits p.disk old) (q : Parked) where
    abbrev verdict : Verdict
    verdict = judge_request (entries_of p) true q.request

    abbrev answer_at : Store → Served
    answer_at store = answers_request number p store q.request verdict

    same_verdict : verdict_again old q ≡ unless_closed old.closed verdict
    same_verdict = ap (λ (b : List Stored).
        unless_closed old.closed (judge_request (entries b) true q.request)) is.kept

    as_batch : (store : Store)
        → answer_at store ≡ replied q.request (taken p store q.request.text verdict)
    as_batch store =
        answered number p store q.request verdict
        (request_verified (entries_of p) q.request.text q.request.target)

    -- an answer that changes nothing
    quiet_step : (a : Produced) → answer_of (verdict_again old q) ≡ Some a → (store : Store)
        → answer_at store ≡ (p, told q.request a ∷ [])
    quiet_step a says store =
        let at = quiet Fits p old old is q.request.text verdict old.closed a (sym is.closed)
        (ap answer_of (sym same_verdict) ∙ says) store in
        as_batch store
        ∙ λ i. (at.partition i, reply_to q.request (sym at.code_is i) (sym at.offset_is i) ∷ [])

    -- one that changes the log
    change_step : (new : LogState) (a : Produced) → Grows Fits p.disk.kept q.request.text
        → (old.closed ≡ false → old.store.bytes ≡ texts old.batches)
        → FollowsVerdict (verdict_again old q) q.request.text old new a
        → Comes Fits p old new (λ store. taken p store q.request.text verdict) (code_of a)
        (offset_of a)
    change_step new a grows holds follows =
        verdict_comes Fits p old new is q.request.text verdict a (λ e. grows) holds
        (subst (λ (v : Verdict). FollowsVerdict v q.request.text old new a) same_verdict follows)

  -- if none comes next, nothing changes
  record Rests (p : Partition) (old new : LogState) (requests : List Parked)
      (answers : List Produced) : Type 0 where
    same : new ≡ old
    all : (store : Store) → resumes number p store requests ≡ (p, told_each requests answers)

  rest_step : (p : Partition) (q : Parked) (rest : List Parked) (a : Produced)
      (others : List Produced) (store : Store)
      → answers_request number p store q.request (judge_request (entries_of p) true q.request)
      ≡ (p, told q.request a ∷ [])
      → resumes number p store rest ≡ (p, told_each rest others)
      → resumes number p store (q ∷ rest) ≡ (p, told_each (q ∷ rest) (a ∷ others))
  rest_step p q rest a others store one more =
      ap (λ (s : Served). (
        (resumes number s.0 store rest).0,
        s.1 ++ (resumes number s.0 store rest).1,
      )) one
      ∙ ap (λ (s : Served). (s.0, told q.request a ∷ s.1)) more

  -- one that doesn't come next, before others none of which does
  first_quiet : (p : Partition) (old between new : LogState) (q : Parked) (rest : List Parked)
      (a : Produced) (others : List Produced) → IsDisk Fits p.disk old
      → (verdict_again old q ≡ Next → ⊥)
      → FollowsVerdict (verdict_again old q) q.request.text old between a
      → (between ≡ old → Rests p between new rest others) → Rests p old new (q ∷ rest) (a ∷ others)
  first_quiet p old between new q rest a others is never (IsAppended offset next h) behind =
      absurd (never next)
  first_quiet p old between new q rest a others is never (Breaks next h) behind =
      absurd (never next)
  first_quiet p old between new q rest a others is never (IsAnswered given says same) behind =
      let more = behind same in
      record {
        same = more.same ∙ same;
        all = λ store. rest_step p q rest a others store
            (quiet_step p old is q a says store) (more.all store);
      }

  none_next : (requests : List Parked) (p : Partition) (old new : LogState)
      (answers : List Produced) → IsResumed requests old new answers → IsDisk Fits p.disk old
      → All Waiting requests → IsOver held (expected log held.id held.epoch) old
      → Rests p old new requests answers
  none_next requests p old new answers (NoneLeft same) is all over =
      record { same = refl; all = λ store. refl }
  none_next requests p old new answers (OneMore q rest o b n a others one more) is all over =
      first_quiet p old b new q rest a others is
      (λ next. never_next log held q.request.text (All-head Waiting q rest all).begins old
      q.request.target over next) one
      (λ same. none_next rest p b n others more (subst (IsDisk Fits p.disk) (sym same) is)
      (All-tail Waiting q rest all)
      (subst (IsOver held (expected log held.id held.epoch)) (sym same) over))

-- the requests run again, as the definitions have it
pub resumes_as : (Fits : List Stored → Type 0) (Here : Request → Type 0) (number : ℕ) (held : Held)
    (requests : List Parked) (p : Partition) (old new : LogState) (answers : List Produced)
    → IsResumed requests old new answers → IsDisk Fits p.disk old
    → All (Waits Here (entries old.batches) held) requests → IsLog old.batches
    → ((q : Parked) → Waits Here (entries old.batches) held q
    → judge_request (entries old.batches) true q.request ≡ Next
    → Fits (with_next q.request.text old.batches))
    → (old.closed ≡ false → old.store.bytes ≡ texts old.batches)
    → Resumed Fits number p old new requests answers
resumes_as Fits Here number held requests p old new answers (NoneLeft same) is all placed grown
    holds =
    let any = any_allowed old.store.appends old.store.loads
    (bytes_in (λ store. (resumes number p store []).0))
    (none_appended (λ store. (resumes number p store []).0) p (λ store. refl)) in
    let stay = stays Fits p old old is (λ store. refused p code.NoError) code.NoError (negsuc 0)
    refl
    (λ store. refl) (λ store. refl) (λ store. refl) in
    record {
      store = any.store;
      allowed = any.allowed;
      disk = is;
      parked = refl;
      messages = refl;
      fails = stay.fails;
      later = λ id epoch. omega arith;
    }
resumes_as Fits Here number held requests p old new answers
    (OneMore q rest o b n a others one more) is all placed grown holds =
    by_answer a one
    (λ same. resumes_as Fits Here number held rest p b n others more
    (subst (IsDisk Fits p.disk) (sym same) is)
    (subst (λ (l : LogState). All (Waits Here (entries l.batches) held) rest) (sym same)
    (All-tail (Waits Here (entries old.batches) held) q rest all))
    (subst (λ (l : LogState). IsLog l.batches) (sym same) placed)
    (subst (λ (l : LogState). (r : Parked) → Waits Here (entries l.batches) held r
    → judge_request (entries l.batches) true r.request ≡ Next
    → Fits (with_next r.request.text l.batches)) (sym same) grown)
    (subst (λ (l : LogState). l.closed ≡ false → l.store.bytes ≡ texts l.batches) (sym same)
    holds))
  where
    log : List Entry
    log = entries old.batches

    waits : Waits Here log held q
    waits = All-head (Waits Here log held) q rest all

    others_wait : All (Waits Here log held) rest
    others_wait = All-tail (Waits Here log held) q rest all

    here_next : verdict_again old q ≡ Next → judge_request log true q.request ≡ Next
    here_next next = (verdict_next old.closed (judge_request log true q.request) next).1

    text_next : verdict_again old q ≡ Next → judge_text log true q.request.text ≡ Next
    text_next next =
        request_next log true q.request.text q.request.target (here_next next)

    grows : verdict_again old q ≡ Next → Grows Fits p.disk.kept q.request.text
    grows next =
        subst (λ (l : List Stored). Grows Fits l q.request.text) is.kept
        (batch_grows Fits old.batches true q.request.text placed waits.begins.bytes
        (text_next next) (grown q waits (here_next next)))

    -- behind one that changed the log
    changed : (a : Produced) → verdict_again old q ≡ Next
        → FollowsVerdict (verdict_again old q) q.request.text old b a
        → IsOver held (expected log held.id held.epoch) b
        → Resumed Fits number p old n (q ∷ rest) (a ∷ others)
    changed a next follows over =
        let c = change_step Fits Here number log held p old is q b a (grows next) holds follows in
        let t = taken p c.store q.request.text (judge_request (entries_of p) true q.request) in
        let behind = none_next Fits Here number log held rest t.partition b n others more
        c.disk others_wait
        over in
        let first = as_batch Fits Here number log held p old is q c.store
        ∙ λ i. (t.partition, reply_to q.request (sym c.code_is i) (sym c.offset_is i) ∷ []) in
        let whole : resumes number p c.store (q ∷ rest)
        ≡ (t.partition, told_each (q ∷ rest) (a ∷ others)) =
        ap (λ (s : Served). (
          (resumes number s.0 c.store rest).0,
          s.1 ++ (resumes number s.0 c.store rest).1,
        )) first
        ∙ ap (λ (s : Served). (s.0, told q.request a ∷ s.1)) (behind.all c.store) in
        let r = q.request in
        let now = judge_request (entries_of p) true r in
        let ready = verdict_next old.closed now
        (sym (same_verdict Fits Here number log held p old is q) ∙ next) in
        let still : p.disk.closed ≡ false = sym is.closed ∙ ready.0 in
        let fails_as : (w : Bool) → (resumes number p (Fails w) (q ∷ rest)).0.disk
        ≡ (taken p (Fails w) r.text now).partition.disk =
        λ w. let first_is = as_batch Fits Here number log held p old is q (Fails w) in
        resumes_closed number rest (answers_request number p (Fails w) r now).0 (Fails w)
        (ap (λ (s : Served). s.0.disk.closed) first_is
        ∙ taken_closes p r.text now w ready.1 still)
        ∙ ap (λ (s : Served). s.0.disk) first_is in
        let entry_is : bytes_in (λ store. (resumes number p store (q ∷ rest)).0)
        ≡ bytes_in (λ store. (taken p store r.text now).partition) =
        λ i. appended_bytes (batch_bytes (fails_as false i).hidden)
        (batch_bytes (fails_as true i).hidden) in
        record {
          store = c.store;
          allowed = subst (λ (z : Option ℕ). Allows old.store.appends old.store.loads z c.store)
              (sym entry_is) c.allowed;
          disk = subst (λ (s : Served). IsDisk Fits s.0.disk n) (sym whole)
              (subst (IsDisk Fits t.partition.disk) (sym behind.same) c.disk);
          parked = ap (λ (s : Served). s.0.parked) whole ∙ c.parked;
          messages = ap (λ (s : Served). s.1) (sym whole);
          fails = ap (λ (l : LogState). nat_lt old.store.failures l.store.failures) behind.same
              ∙ c.fails
              ∙ ap (λ (s : Served). not p.disk.closed && s.0.disk.closed) (sym whole);
          later = λ id epoch. subst (λ (s : Served). expected (entries p.disk.kept) id epoch
              ≤ expected (entries s.0.disk.kept) id epoch) (sym whole) (c.later id epoch);
        }

    by_answer : (a : Produced) → FollowsVerdict (verdict_again old q) q.request.text old b a
        → (b ≡ old → Resumed Fits number p b n rest others)
        → Resumed Fits number p old n (q ∷ rest) (a ∷ others)
    by_answer a (IsAppended offset next h) more_of =
        changed a next (IsAppended offset next h)
        (inr (subst (λ (l : List Stored). expected log held.id held.epoch
        < expected (entries l) held.id held.epoch) (sym (ap (λ (l : LogState). l.batches) h.rest))
        (over_after log held q.request.text waits.begins old.batches refl (text_next next))))
    by_answer a (Breaks next h) more_of =
        changed a next (Breaks next h) (inl (ap (λ (l : LogState). l.closed) h.rest))
    by_answer a (IsAnswered given says same) more_of =
        let behind = more_of same in
        let each : (store : Store) → resumes number p store (q ∷ rest)
        ≡ (
          (resumes number p store rest).0,
          told q.request a ∷ (resumes number p store rest).1,
        ) =
        λ store. ap (λ (s : Served). (
          (resumes number s.0 store rest).0,
          s.1 ++ (resumes number s.0 store rest).1,
        )) (quiet_step Fits Here number log held p old is q a says store) in
        let whole = each behind.store in
        record {
          store = behind.store;
          allowed = as_allowed old.store.appends old.store.loads behind.store
              (λ store. (resumes number p store rest).0)
              (λ store. (resumes number p store (q ∷ rest)).0)
              (λ store. ap (λ (s : Served). s.0) (each store))
              (subst (λ (l : LogState). Allows l.store.appends l.store.loads
              (bytes_in (λ store. (resumes number p store rest).0)) behind.store) same
              behind.allowed);
          disk = subst (λ (s : Served). IsDisk Fits s.0.disk n) (sym whole) behind.disk;
          parked = ap (λ (s : Served). s.0.parked) whole ∙ behind.parked;
          messages = ap (λ (l : List Message). told q.request a ∷ l) behind.messages
              ∙ ap (λ (s : Served). s.1) (sym whole);
          fails = ap (λ (l : LogState). nat_lt l.store.failures n.store.failures) (sym same)
              ∙ behind.fails
              ∙ ap (λ (s : Served). not p.disk.closed && s.0.disk.closed) (sym whole);
          later = λ id epoch. subst (λ (s : Served). expected (entries p.disk.kept) id epoch
              ≤ expected (entries s.0.disk.kept) id epoch) (sym whole) (behind.later id epoch);
        }
