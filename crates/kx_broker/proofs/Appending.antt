-- What a batch or a marker that comes is answered, and the log after it, as the definitions have
-- them.
use Rattle.std.proofs.Common.{◌≡◌, ◌≤◌, ℕ, ℤ, pos, negsuc, Bool, true, false, cond}
use Rattle.std.proofs.Common.{List, length, Some, refl, sym, ap, ◌∙◌}
use Rattle.std.proofs.Common.{subst, arith}
use Rattle.std.specs.Prelude.{nat_le, nat_lt, not, ◌&&◌}
use Rattle.std.proofs.lemmas.Bool.Decides.{nat_tests}
use Rattle.kx_broker.specs.Serving.{IsDisk, offset_of}
use Rattle.kx_broker.proofs.Disks.{Grows, appended_closed, appended_disk, appended_fails}
use Rattle.kx_broker.proofs.Disks.{appended_works, broken_disk, next_in}
use Rattle.kx_broker.proofs.Stores.{any_allowed, failing, none_appended, working}
use Rattle.kx_broker.specs.Serving.{bytes_in}
use Rattle.kx_log.proofs.Segments.{long}
use Rattle.kx_log.specs.Log.{texts}
use Rattle.kx_log.specs.LogState.{AppendBreaks, IsAppendedTo, LogState, placed_text}
use Rattle.kx_log.specs.Store.{MayLeave, StoreState}
use Rattle.kx_machine.specs.Meaning.{appended_bytes, batch_bytes}
use Rattle.kx_machine.specs.Stores.{Allows}
use Rattle.kx_message.specs.declared.code.ErrorCode.{ErrorCode}
use Rattle.kx_message.specs.declared.code.ErrorCode.TheVariants as code
use Rattle.kx_model.specs.Disk.{Disk, Store, Fails, is_written}
use Rattle.kx_model.specs.Disk.{works}
use Rattle.kx_model.specs.Log.{Marker, Stored, end, entries}
use Rattle.kx_model.specs.PartitionNode.{Partition, Taken, appends, entries_of, marked_with}
use Rattle.kx_model.specs.PartitionNode.{taken}
use Rattle.kx_model.specs.Produce.{Verdict, Next, Duplicate, Unverified, Refused, MarkerVerdict}
use Rattle.kx_model.specs.Produce.{Appends, Answers, text_of}
use Rattle.kx_model.specs.Producers.{expected}
use Rattle.kx_partition.specs.Answer.{Breaks, FollowsVerdict, IsAnswered, IsAppended, IsMarked}
use Rattle.kx_partition.specs.Answer.{MarkerAnswered, MarkerAppended, MarkerBreaks, answer_of}
use Rattle.kx_partition.specs.Answer.{code_of, marker_unless_closed, marker_verdict_at}
use Rattle.kx_partition.specs.Answer.{unless_closed}
use Rattle.kx_partition.specs.declared.answer.Produced.{Produced}
use Rattle.kx_partition.specs.declared.answer.Produced.TheVariants as produced

-- by some store that is allowed, a step of the definitions leads to the log, and has this code and
-- offset
pub record Comes (Fits : List Stored → Type 0) (p : Partition) (old new : LogState)
    (step : Store → Taken) (code : ErrorCode) (offset : ℤ) : Type 0 where
  pub store : Store
  pub allowed : Allows old.store.appends old.store.loads
      (bytes_in (λ at. (step at).partition)) store
  pub disk : IsDisk Fits (step store).partition.disk new
  pub parked : (step store).partition.parked ≡ p.parked
  pub code_is : code ≡ (step store).code
  pub offset_is : offset ≡ (step store).offset
  pub fails : nat_lt old.store.failures new.store.failures
      ≡ (not p.disk.closed && (step store).partition.disk.closed)
  pub later : (id epoch : ℕ) → expected (entries p.disk.kept) id epoch
      ≤ expected (entries (step store).partition.disk.kept) id epoch

pub verdict_next : (closed : Bool) (v : Verdict) → unless_closed closed v ≡ Next
    → (closed ≡ false) × (v ≡ Next)
verdict_next true Next e = absurd cc
verdict_next false Next e = (refl, refl)
verdict_next closed (Duplicate offset) e = absurd cc
verdict_next closed Unverified e = absurd cc
verdict_next closed (Refused code) e = absurd cc

marker_next : (closed : Bool) (v : MarkerVerdict) → marker_unless_closed closed v ≡ Appends
    → (closed ≡ false) × (v ≡ Appends)
marker_next true Appends e = absurd cc
marker_next false Appends e = (refl, refl)
marker_next closed (Answers code) e = absurd cc

not_above : (n : ℕ) → nat_lt n n ≡ false
not_above n = grind (arith, nat_tests)

no_change : (closed : Bool) → false ≡ (not closed && closed)
no_change true = refl
no_change false = refl

same_failures : (old new : LogState) → new ≡ old
    → nat_lt old.store.failures new.store.failures ≡ false
same_failures old new same =
    ap (λ (l : LogState). nat_lt old.store.failures l.store.failures) same
    ∙ not_above old.store.failures

module _ (Fits : List Stored → Type 0) (p : Partition) (old new : LogState)
    (is : IsDisk Fits p.disk old) where
  -- if nothing changes, whatever the store does
  pub stays : (step : Store → Taken) (code : ErrorCode) (offset : ℤ) → new ≡ old
      → ((store : Store) → (step store).partition ≡ p)
      → ((store : Store) → code ≡ (step store).code)
      → ((store : Store) → offset ≡ (step store).offset) → Comes Fits p old new step code offset
  stays step code offset same rests codes offsets =
      let after = λ (store : Store). (step store).partition in
      let any = any_allowed old.store.appends old.store.loads (bytes_in after)
      (none_appended after p rests) in
      let at = rests any.store in
      record {
        store = any.store;
        allowed = any.allowed;
        disk = subst (λ (q : Partition). IsDisk Fits q.disk new) (sym at)
            (subst (IsDisk Fits p.disk) (sym same) is);
        parked = ap (λ (q : Partition). q.parked) at;
        code_is = codes any.store;
        offset_is = offsets any.store;
        fails = same_failures old new same ∙ no_change p.disk.closed
            ∙ ap (λ (q : Partition). not p.disk.closed && q.disk.closed) (sym at);
        later = λ id epoch. subst (λ (q : Partition). expected (entries p.disk.kept) id epoch
            ≤ expected (entries q.disk.kept) id epoch) (sym at) (omega arith);
      }

  module _ (text : List ℕ) where
    abbrev step : Store → Taken
    step store = appends p store text

    -- the entry of an append that fails
    entry_is : p.disk.closed ≡ false → bytes_in (λ store. (step store).partition)
        ≡ Some (length (next_in text p.disk.kept).text)
    entry_is still =
        let item = next_in text p.disk.kept in
        λ i. appended_bytes (batch_bytes (appended_fails p.disk item false still i).hidden)
        (batch_bytes (appended_fails p.disk item true still i).hidden)

    -- a closed log appends nothing
    pub closed_comes : p.disk.closed ≡ true → new ≡ old
        → Comes Fits p old new step code.KafkaStorageError (negsuc 0)
    closed_comes closed same =
        let written : (store : Store) → is_written p.disk store ≡ false =
        λ store. ap (λ b. not b && works store) closed in
        stays step code.KafkaStorageError (negsuc 0) same
        (λ store. ap (λ (d : Disk Stored). record p { disk = d })
        (appended_closed p.disk (next_in text p.disk.kept) store closed))
        (λ store. ap (λ b. cond b code.NoError code.KafkaStorageError) (sym (written store)))
        (λ store. ap (λ b. cond b (pos (end (entries_of p))) (negsuc 0)) (sym (written store)))

    module _ (grows : Grows Fits p.disk.kept text)
        (holds : old.store.bytes ≡ texts old.batches) where
      pub appended_comes : (offset : ℤ) → IsAppendedTo text old new offset
          → Comes Fits p old new step code.NoError offset
      appended_comes offset h =
          let w = working old.store.appends old.store.loads
          (bytes_in (λ store. (step store).partition)) h.store.may in
          let still : p.disk.closed ≡ false = sym is.closed ∙ h.not_closed in
          let written : is_written p.disk w.store ≡ true =
          ap (λ b. not b && works w.store) still ∙ w.is in
          let disk = appended_works p.disk (next_in text p.disk.kept) w.store still w.is in
          record {
            store = w.store;
            allowed = w.allowed;
            disk = appended_disk Fits p.disk old new text is grows holds offset w.store w.is h;
            parked = refl;
            code_is = ap (λ b. cond b code.NoError code.KafkaStorageError) (sym written);
            offset_is = h.offset_is ∙ ap (λ (b : List Stored). pos (end (entries b))) is.kept
                ∙ ap (λ b. cond b (pos (end (entries_of p))) (negsuc 0)) (sym written);
            fails = ap (λ (s : StoreState). nat_lt old.store.failures s.failures) h.store.is
                ∙ not_above old.store.failures
                ∙ sym (ap (λ (d : Disk Stored). not p.disk.closed && d.closed) disk
                ∙ ap (λ b. not b && false) still);
            later = λ id epoch. subst (λ (d : Disk Stored). expected (entries p.disk.kept) id epoch
                ≤ expected (entries d.kept) id epoch) (sym disk) (grows.later id epoch);
          }

      pub broken_comes : AppendBreaks text old new
          → Comes Fits p old new step code.KafkaStorageError (negsuc 0)
      broken_comes h =
          let item = next_in text p.disk.kept in
          let whole = nat_le (length item.text) h.store.kept in
          let store = Fails whole in
          let still : p.disk.closed ≡ false = sym is.closed ∙ h.not_closed in
          let written : is_written p.disk store ≡ false =
          ap (λ b. not b && works store) still in
          let disk = appended_fails p.disk item whole still in
          let rose : nat_lt old.store.failures new.store.failures ≡ true =
          grind (arith, nat_tests, h.store.rose) in
          let size = ap (λ (b : List Stored). length (placed_text b text)) is.kept in
          let leaves : MayLeave old.store.appends (length item.text) h.store.kept =
          subst (λ (n : ℕ). MayLeave old.store.appends n h.store.kept) size h.store.may in
          record {
            store = store;
            allowed = failing old.store.appends old.store.loads
                (bytes_in (λ at. (step at).partition)) (length item.text) h.store.kept
                (entry_is still) (omega (arith, long item grows.stored)) grows.stored.spells.limit
                leaves;
            disk = broken_disk Fits p.disk old new text is grows holds h;
            parked = refl;
            code_is = ap (λ b. cond b code.NoError code.KafkaStorageError) (sym written);
            offset_is = ap (λ b. cond b (pos (end (entries_of p))) (negsuc 0)) (sym written);
            fails = rose ∙ sym (ap (λ (d : Disk Stored). not p.disk.closed && d.closed) disk
                ∙ ap (λ b. not b && true) still);
            later = λ id epoch. subst (λ (d : Disk Stored). expected (entries p.disk.kept) id epoch
                ≤ expected (entries d.kept) id epoch) (sym disk) (omega arith);
          }

    ------ a batch

    -- an answer that changes nothing, whatever the store does
    pub record IsQuiet (v : Verdict) (answer : Produced) (store : Store) : Type 0 where
      pub partition : (taken p store text v).partition ≡ p
      pub code_is : code_of answer ≡ (taken p store text v).code
      pub offset_is : offset_of answer ≡ (taken p store text v).offset

    closed_quiet : p.disk.closed ≡ true → (store : Store)
        → IsQuiet Next (produced.Refused code.KafkaStorageError) store
    closed_quiet closed store =
        let written : is_written p.disk store ≡ false =
        ap (λ b. not b && works store) closed in
        record {
          partition = ap (λ (d : Disk Stored). record p { disk = d })
              (appended_closed p.disk (next_in text p.disk.kept) store closed);
          code_is = ap (λ b. cond b code.NoError code.KafkaStorageError) (sym written);
          offset_is = ap (λ b. cond b (pos (end (entries_of p))) (negsuc 0)) (sym written);
        }

    quiet_by : (v : Verdict) (answer given : Produced) → given ≡ answer
        → ((store : Store) → IsQuiet v given store) → (store : Store) → IsQuiet v answer store
    quiet_by v answer given e quiet store =
        subst (λ (a : Produced). IsQuiet v a store) e (quiet store)

    pub quiet : (v : Verdict) (closed : Bool) (answer : Produced) → p.disk.closed ≡ closed
        → answer_of (unless_closed closed v) ≡ Some answer → (store : Store)
        → IsQuiet v answer store
    quiet Next true answer e told =
        let same : produced.Refused code.KafkaStorageError ≡ answer = cc in
        quiet_by Next answer (produced.Refused code.KafkaStorageError) same (closed_quiet e)
    quiet Next false answer e told = absurd cc
    quiet (Duplicate offset) closed answer e told =
        let same : produced.Duplicate (pos offset) ≡ answer = cc in
        quiet_by (Duplicate offset) answer (produced.Duplicate (pos offset)) same
        (λ store. record { partition = refl; code_is = refl; offset_is = refl })
    quiet Unverified closed answer e told =
        let same : produced.Unverified ≡ answer = cc in
        quiet_by Unverified answer produced.Unverified same
        (λ store. record { partition = refl; code_is = refl; offset_is = refl })
    quiet (Refused code) closed answer e told =
        let same : produced.Refused code ≡ answer = cc in
        quiet_by (Refused code) answer (produced.Refused code) same
        (λ store. record { partition = refl; code_is = refl; offset_is = refl })

    pub verdict_comes : (v : Verdict) (answer : Produced) → (v ≡ Next → Grows Fits p.disk.kept text)
        → (old.closed ≡ false → old.store.bytes ≡ texts old.batches)
        → FollowsVerdict (unless_closed old.closed v) text old new answer
        → Comes Fits p old new (λ store. taken p store text v) (code_of answer) (offset_of answer)
    verdict_comes v answer grows holds (IsAppended offset e h) =
        let next = verdict_next old.closed v e in
        subst (λ (w : Verdict). Comes Fits p old new (λ store. taken p store text w) code.NoError
        offset)
        (sym next.1) (appended_comes (grows next.1) (holds next.0) offset h)
    verdict_comes v answer grows holds (IsAnswered given told same) =
        let quietly = quiet v old.closed given (sym is.closed) told in
        stays (λ store. taken p store text v) (code_of given) (offset_of given) same
        (λ store. (quietly store).partition) (λ store. (quietly store).code_is)
        (λ store. (quietly store).offset_is)
    verdict_comes v answer grows holds (Breaks e h) =
        let next = verdict_next old.closed v e in
        subst (λ (w : Verdict). Comes Fits p old new (λ store. taken p store text w)
        code.KafkaStorageError (negsuc 0))
        (sym next.1) (broken_comes (grows next.1) (holds next.0) h)

  ------ a marker

  module _ (marker : Marker) where
    answered_comes : (v : MarkerVerdict) (closed : Bool) (given : ErrorCode)
        → p.disk.closed ≡ closed → marker_unless_closed closed v ≡ Answers given → new ≡ old
        → Comes Fits p old new (λ store. marked_with p store marker v) given (negsuc 0)
    answered_comes Appends true given e told same =
        let is_it : code.KafkaStorageError ≡ given = cc in
        subst (λ (c : ErrorCode). Comes Fits p old new
        (λ store. marked_with p store marker Appends) c
        (negsuc 0)) is_it (closed_comes (text_of marker) e same)
    answered_comes Appends false given e told same = absurd cc
    answered_comes (Answers code) closed given e told same =
        let is_it : code ≡ given = cc in
        stays (λ store. marked_with p store marker (Answers code)) given (negsuc 0) same
        (λ store. refl) (λ store. sym is_it) (λ store. refl)

    pub marker_comes : (v : MarkerVerdict) (given : ErrorCode)
        → marker_unless_closed old.closed v ≡ marker_verdict_at old marker
        → (v ≡ Appends → Grows Fits p.disk.kept (text_of marker))
        → (old.closed ≡ false → old.store.bytes ≡ texts old.batches)
        → IsMarked marker old new given
        → (offset : ℤ) × Comes Fits p old new (λ store. marked_with p store marker v) given offset
    marker_comes v given seen grows holds (MarkerAppended offset e h) =
        let next = marker_next old.closed v (seen ∙ e) in
        let comes = appended_comes (text_of marker) (grows next.1) (holds next.0) offset h in (
          offset,
          subst (λ (w : MarkerVerdict). Comes Fits p old new (λ store. marked_with p store marker w)
              code.NoError offset) (sym next.1) comes,
        )
    marker_comes v given seen grows holds (MarkerAnswered said e same) = (
      negsuc 0,
      answered_comes v old.closed given (sym is.closed) (seen ∙ e) same,
    )
    marker_comes v given seen grows holds (MarkerBreaks e h) =
        let next = marker_next old.closed v (seen ∙ e) in
        let comes = broken_comes (text_of marker) (grows next.1) (holds next.0) h in (
          negsuc 0,
          subst (λ (w : MarkerVerdict). Comes Fits p old new (λ store. marked_with p store marker w)
              code.KafkaStorageError (negsuc 0)) (sym next.1) comes,
        )
