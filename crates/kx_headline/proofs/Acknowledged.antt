-- What was acknowledged is kept, whatever arrives: it stands once, for ever, and readers of
-- committed records are shown it exactly if it stands for good. So all promises that need no trust
-- in clients are kept.
use Rattle.std.proofs.Common.{◌≡◌, ◌≢◌, ⊎_elim, Option, Some, ℕ, ℤ, pos, ◌+◌, ◌≤◌, Bool, true}
use Rattle.std.proofs.Common.{cond}
use Rattle.std.proofs.Common.{List, [], ◌∷◌, ◌++◌}
use Rattle.std.proofs.Common.{filter, Contains, refl, sym, ap, ◌∙◌, subst, arith}
use Rattle.std.specs.Prelude.{count_by}
use Rattle.std.proofs.lemmas.List.{map-append}
use Rattle.std.proofs.lemmas.List.Elements.{All-append}
use Rattle.std.proofs.lemmas.List.Sums.{sum_by-cons}
use Rattle.kx_message.specs.Messages as the
use Rattle.kx_message.specs.declared.code.ErrorCode.TheVariants.{NoError}
use Rattle.kx_message.specs.Ranges.{offsets_partition}
use Rattle.kx_message.specs.declared.message.Message.{Message}
use Rattle.kx_message.specs.declared.message.Message.TheVariants as msg
use Rattle.kx_message.specs.declared.requests.Caller.{Caller}
use Rattle.kx_batch.specs.Batch.{batch_of}
use Rattle.kx_model.specs.Answers.{IsStoredFor, StandsIn}
use Rattle.kx_model.specs.Coordinator.{commits}
use Rattle.kx_model.specs.Headline.{IsStoredOnce, is_stored_as}
use Rattle.kx_model.specs.Log.{Entry, Plain, Data, Control, Sequenced, Stored, end, entries}
use Rattle.kx_model.specs.Log.{entry_in, entry_of}
use Rattle.kx_model.specs.Log.{stored_width, width}
use Rattle.kx_model.specs.Open.{AlwaysOpen, IsOpenEvent, open_run}
use Rattle.kx_model.specs.OpenHeadline.{AcknowledgedAsSent, AcknowledgedIsKept, IsKept, IsShown}
use Rattle.kx_model.specs.OpenHeadline.{KeepsOpenPromises, is_between}
use Rattle.kx_model.specs.Page.{page}
use Rattle.kx_model.specs.Produce.{stored_at}
use Rattle.kx_model.specs.Reading.{standing, visible}
use Rattle.kx_model.specs.Transactions.{last_stable_offset}
use Rattle.kx_model.specs.Verification.{Request, ToPartition, partition_of, request_of}
use Rattle.kx_model.specs.World.{World, log_at, notes, run, start}
use Rattle.kx_model.proofs.Logs.{width-entry_in}
use Rattle.kx_model.proofs.Schedules.{closed_from_open, open_partitions_grow, open_run-append}
use Rattle.kx_laws.proofs.CommittedRecords.{in_page, wide_batches}
use Rattle.kx_laws.proofs.GrownLogs.{each_stands}
use Rattle.kx_laws.proofs.Membership.{cons_cases, in_the_middle, no_element}
use Rattle.kx_laws.proofs.Places.{place_stays}
use Rattle.kx_laws.proofs.ShownEntries.{entry_shown, page_reaches}
use Rattle.kx_headline.proofs.AnswersAlways.{AnswersStand, answers_hold, answers_stand_open}
use Rattle.kx_headline.proofs.ClientsKeep.{each_stands_once}
use Rattle.kx_headline.specs.Sent.{StoredWereSent, WasSent}
use Rattle.kx_headline.proofs.Loads.{same_request}
use Rattle.kx_headline.proofs.MarkersFit.{markers_fit}
use Rattle.kx_headline.proofs.OverSchedules.{at_most_once, fenced_commit_never, offsets_do_follow}
use Rattle.kx_headline.proofs.OverSchedules.{one_outcome, open_owed_at, readers_get}
use Rattle.kx_headline.proofs.PartitionsAlways.{PartitionsStand, partitions_stand_open}
use Rattle.kx_headline.proofs.StoredRequests.{stands_in, stored_as}
use Rattle.kx_headline.proofs.StoredRequests as requests
use Rattle.kx_headline.proofs.WorldReaders.{gives_visible, grown_at}

------ one stored batch, in a world

-- an element counts if it passes
abbrev one_if : Bool → ℕ
one_if passes = cond passes 1 0

counted : (test : Entry → Bool) (log : List Entry) (x : Entry) → Contains log x → test x ≡ true
    → 1 ≤ count_by test log
counted test [] x c e = absurd (no_element x c)
counted test (y ∷ log) x c e =
    let sum = sum_by-cons (λ z. one_if (test z)) y log in
    ⊎_elim
    (λ same. let one : one_if (test y) ≡ 1 = ap (λ z. one_if (test z)) same ∙ ap one_if e in
    omega (arith, sum, one))
    (λ c. let rest = counted test log x c e in omega (arith, sum, rest)) (cons_cases y x log c)

module _ (w : World) (h : PartitionsStand w) (q offset : ℕ) (stored : Stored)
    (there : StandsIn w q offset stored) where
  abbrev log : List Stored
  log = log_at w q

  place : requests.StandsIn 0 log (record { offset = offset; item = stored })
  place = stands_in 0 log (record { offset = offset; item = stored }) there

  at : end (entries place.before) ≡ offset
  at = omega (arith, place.offset)

  parts : entries log ≡ entries place.before ++ entry_of stored ∷ entries place.after
  parts = ap entries place.parts ∙ map-append entry_of place.before (stored ∷ place.after)

  some : 1 ≤ stored_width stored
  some =
      wide_batches log (each_stands log (grown_at w q h.holds (markers_fit w h.coordinator))) stored
      (subst (λ l. Contains l stored) (sym place.parts)
      (in_the_middle place.before place.after stored))

  wide : width (entry_of stored) ≡ stored_width stored
  wide = width-entry_in stored.batch

  stands_once : (batch : Sequenced) → entry_of stored ≡ Data batch
      → count_by (is_stored_as batch) (entries log) ≡ 1
  stands_once batch is =
      let most = at_most_once w h q batch in
      let least = counted (is_stored_as batch) (entries log) (Data batch)
      (subst (Contains (entries log)) is
      (subst (λ l. Contains l (entry_of stored)) (sym parts)
      (in_the_middle (entries place.before) (entries place.after) (entry_of stored))))
      (stored_as batch batch refl refl refl) in
      omega (arith, most, least)

  shown : offset + stored_width stored ≤ last_stable_offset (entries log)
      → IsShown w q offset stored
  unfolding page
  shown stable = record {
    by_pages = λ from room starts reaches.
        let next = (page log from room true).next in
        let decided = commits (notes w) in
        ap (filter (is_between offset (offset + stored_width stored)))
        (gives_visible w h.holds (markers_fit w h.coordinator) (one_outcome w h) q from room)
        ∙ subst (λ k. filter (is_between offset (offset + k))
        (filter (in_page from next) (visible (entries log) decided))
        ≡ standing decided offset (entry_of stored)) wide
        (entry_shown decided (entries log) (entries place.before) (entries place.after)
        (entry_of stored) offset from next parts at (omega (arith, stable, wide)) starts
        (omega (arith, reaches, wide)));
    reached = λ room. subst
        (λ n. n + stored_width stored ≤ (page log n room true).next) at
        (page_reaches log place.before place.after stored place.parts some room
        (omega (arith, at, stable, some)));
  }

  pub is_kept : IsKept w q offset stored
  is_kept = record { there = there; once = stands_once; shown = shown }

------ over every open schedule

pub acknowledged_is_kept : AcknowledgedIsKept
acknowledged_is_kept count events fits caller q answered c =
    let w = open_run events (start count) in
    let a = (answers_hold w (answers_stand_open count events fits)).produced caller q answered c in
    let stored = a.stands.stored in
    record {
      txn = a.txn;
      batch = a.batch;
      sent = a.sent;
      offset = a.offset;
      is = a.is;
      stored = stored;
      as_sent = a.stands.as_sent;
      kept = λ more fit. is_kept (open_run more w)
          (subst PartitionsStand (open_run-append events more (start count))
          (partitions_stand_open count (events ++ more)
          (All-append IsOpenEvent events more fits fit)))
          q a.offset stored
          (place_stays (log_at w q) (log_at (open_run more w) q) (open_partitions_grow more w q)
          (record { offset = a.offset; item = stored }) a.stands.there);
    }

-- the request of a batch that stands in a data partition's log
sent_as : (w : World) (q : ℕ) → q ≢ offsets_partition → (offset : ℕ) (stored : Stored)
    (r : Request) (m : Message) → Contains w.sent m → request_of m ≡ Some r
    → partition_of r.target ≡ q → stored ≡ stored_at offset r.text → WasSent w q offset stored
sent_as w q apart offset stored r (msg.Produce it) c e here is =
    let same = same_request _ r e in
    let to : it.partition ≡ q = ap (λ (s : Request). partition_of s.target) same ∙ here in
    record {
      caller = it.caller;
      txn = it.txn;
      batch = it.batch;
      sent = subst (λ n. Contains w.sent (the.Produce it.caller it.txn n it.batch)) to c;
      is = is ∙ ap (stored_at offset) (sym (ap (λ (s : Request). s.text) same));
    }
sent_as w q apart offset stored r (msg.TxnOffsetCommit it) c e here is =
    let same = same_request _ r e in
    absurd (apart (sym here ∙ sym (ap (λ (s : Request). partition_of s.target) same)))
sent_as w q apart offset stored r other c e here is = absurd cc

pub stored_were_sent : StoredWereSent
stored_were_sent count events fits q apart offset stored batch there is =
    let w = open_run events (start count) in
    let h = partitions_stand_open count events fits in
    let s = requests.stored_request w h.holds (markers_fit w h.coordinator) q offset stored batch
    there is in
    sent_as w q apart offset stored s.request s.asked_for.message s.asked_for.handed s.asked_for.is
    s.asked_for.here s.is

-- all promises that need no trust in clients
keeps : (w : World) → AnswersStand w → KeepsOpenPromises w
keeps w h = record {
  markers_agree = one_outcome w h.stand;
  readers = readers_get w h.stand;
  stands_once = at_most_once w h.stand;
  nothing_commits = fenced_commit_never w h.stand;
  offsets_follow = offsets_do_follow w h.stand;
  open_is_owed = open_owed_at w h.stand;
  answers_hold = answers_hold w h;
}

pub promises_kept_open : AlwaysOpen KeepsOpenPromises
promises_kept_open count events fits =
    keeps (open_run events (start count)) (answers_stand_open count events fits)

------ where every client follows the core

-- an acknowledged batch is the very one that was sent
as_it_was_sent : (w : World) → AnswersStand w
    → ((m : Message) (r : Request) (batch : Sequenced) → Contains w.sent m
    → request_of m ≡ Some r → entry_in (batch_of r.text) ≡ Data batch → IsStoredOnce w r batch)
    → (caller : Caller) (q : ℕ) (answered : ℤ)
    → Contains w.sent (the.ProduceReply caller q NoError answered)
    → (txn : Option (List ℕ)) × (batch : List ℕ) × (offset : ℕ)
    × Contains w.sent (the.Produce caller txn q batch) × (answered ≡ pos offset)
    × StandsIn w q offset (stored_at offset batch)
as_it_was_sent w h once caller q answered c =
    let a = (answers_hold w h).produced caller q answered c in
    let stored = a.stands.stored in
    let same = by a.txn a.batch a.offset a.sent stored a.stands.there
    (entry_in (batch_of a.batch)) refl a.stands.as_sent in (
      a.txn,
      a.batch,
      a.offset,
      a.sent,
      a.is,
      subst (StandsIn w q a.offset) {y = stored_at a.offset a.batch} same a.stands.there,
    )
  where
    by : (txn : Option (List ℕ)) (text : List ℕ) (offset : ℕ)
        → Contains w.sent (the.Produce caller txn q text) → (stored : Stored)
        → StandsIn w q offset stored → (e : Entry) → entry_in (batch_of text) ≡ e
        → IsStoredFor e text offset stored → stored ≡ stored_at offset text
    by txn text offset sent stored there (Plain records) reads same = same
    by txn text offset sent stored there (Control marker) reads none = absurd none
    by txn text offset sent stored there (Data batch) reads (other, is, like) =
        (once (the.Produce caller txn q text) (record {
          caller = caller;
          txn = txn;
          target = ToPartition q;
          text = text;
        }) batch sent refl reads).itself offset stored there
        (ap (is_stored_as batch) is ∙ stored_as batch other like.id like.epoch like.first)

pub acknowledged_as_sent : AcknowledgedAsSent
acknowledged_as_sent count events fits =
    as_it_was_sent (run events (start count))
    (closed_from_open AnswersStand answers_stand_open count events fits)
    (each_stands_once count events fits)
