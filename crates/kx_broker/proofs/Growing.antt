-- A batch or a marker that is to be appended makes a log that a partition grows.
use Rattle.std.proofs.Common.{◌≡◌, ◌≤◌, ◌+◌, ◌==◌, ℕ, pos, Bool}
use Rattle.std.proofs.Common.{List, [], ◌∷◌, ◌++◌, filter, refl, sym, ap, ◌∙◌, subst, arith}
use Rattle.std.proofs.Common.{append-nil}
use Rattle.std.proofs.lemmas.Bool.{and_parts, cond_both}
use Rattle.std.proofs.lemmas.Bool.Decides.{nat_tests}
use Rattle.std.proofs.lemmas.List.Elements.{All-push}
use Rattle.std.proofs.lemmas.List.Sums.{sum_by_push}
use Rattle.kx_batch.specs.Batch.{IsBatch, batch_of}
use Rattle.kx_broker.proofs.Disks.{Grows, next_in, with_next}
use Rattle.kx_laws.proofs.GrownLogs.{batch_is, marker_is}
use Rattle.kx_laws.proofs.LogRules.{batch_tells, in_order}
use Rattle.kx_laws.proofs.StoredTexts.{judged_text}
use Rattle.kx_log.specs.Internal.Content.{stored_end}
use Rattle.kx_log.specs.Log.{IsLog, IsStored}
use Rattle.kx_log.proofs.Contents.{at_end, stand_push}
use Rattle.kx_model.specs.Log.{Entry, Plain, Data, Control, Marker, MarkerFits, Placed, Sequenced}
use Rattle.kx_model.specs.Log.{Stored, end, entries, entry_in, last_sequence, stored_width}
use Rattle.kx_model.specs.Log.{width}
use Rattle.kx_model.specs.Produce.{Appends, Next, greatest_offset, judge_entry, judge_marker}
use Rattle.kx_model.specs.Produce.{judge_text, stored_at, text_of}
use Rattle.kx_model.specs.Producers.{batches_of, data_at, expected, is_of, sequence_after}
use Rattle.kx_model.proofs.Growth.{batches_of-push, expected-push}
use Rattle.kx_model.proofs.Logs.{appended, end_is, entries-push, next_has_room, width-entry_in}
use Rattle.kx_model.proofs.Markers.{marker_has_room, marker_spells}
use Rattle.kx_varint.specs.Text.{IsBytes}

------ sequences go on

same_expected : (log : List Entry) (entry : Entry) (id epoch : ℕ)
    → ((n : ℕ) → data_at n entry ≡ [])
    → expected (log ++ entry ∷ []) id epoch ≡ expected log id epoch
same_expected log entry id epoch none =
    ap sequence_after (batches_of-push log entry id epoch
    ∙ ap (λ (l : List (Placed Sequenced)). batches_of log id epoch
    ++ filter (λ p. is_of id epoch p.item) l) (none (end log))
    ∙ append-nil (batches_of log id epoch))

-- an entry that comes next takes no sequence back
entry_later : (log : List Entry) (verified : Bool) (entry : Entry)
    → judge_entry log verified entry ≡ Next → (id epoch : ℕ)
    → expected log id epoch ≤ expected (log ++ entry ∷ []) id epoch
entry_later log verified (Plain records) e id epoch =
    omega (arith, same_expected log (Plain records) id epoch (λ n. refl))
entry_later log verified (Control marker) e id epoch =
    omega (arith, same_expected log (Control marker) id epoch (λ n. refl))
entry_later log verified (Data d) e id epoch =
    let first = in_order log d (batch_tells log verified d e).order in
    subst (λ n. expected log id epoch ≤ n) (sym (expected-push log d id epoch))
    (cond_both (is_of id epoch d) (last_sequence d + 1) (expected log id epoch)
    (λ n. expected log id epoch ≤ n)
    (λ its. let same = and_parts (d.id == id) (d.epoch == epoch) its in
    let own : d.id ≡ id = grind (arith, nat_tests, same.0) in
    let at : d.epoch ≡ epoch = grind (arith, nat_tests, same.1) in
    let here : expected log d.id d.epoch ≡ expected log id epoch =
    λ i. expected log (own i) (at i) in
    omega (arith, first, here))
    (λ other. omega arith))

------ the log with one more

more : (log : List Stored) (text : List ℕ) → IsLog log → IsBytes text → IsBatch text
    → end (entries log) + stored_width (next_in text log) ≤ greatest_offset
    → IsLog (with_next text log)
more log text h bytes batch room =
    let n = end (entries log) in
    let at = at_end n text bytes batch h.room in
    let next = stored_at n text in
    let sum : 0 + stored_end log ≡ n = omega (arith, end_is log) in
    record {
      stored = All-push IsStored log next h.stored at.stored;
      stand = stand_push 0 log next h.stand (at.base ∙ ap pos (sym sum));
      room = omega (
        arith,
        room,
        end_is log,
        end_is (log ++ next ∷ []),
        sum_by_push stored_width log next,
      );
    }

-- with a batch that was to come next, if it is a log that such a server grows
pub batch_grows : (Fits : List Stored → Type 0) (log : List Stored) (verified : Bool)
    (text : List ℕ) → IsLog log → IsBytes text → judge_text (entries log) verified text ≡ Next
    → Fits (with_next text log) → Grows Fits log text
batch_grows Fits log verified text placed bytes next fits =
    let judged = judged_text (entries log) verified text next in
    let entry = entry_in (batch_of text) in
    let is = batch_is log verified text next in
    let room = next_has_room (entries log) verified entry judged.judged in
    let a = appended log verified text bytes next in
    let batch : IsBatch text = (a.0, a.1) in
    let wide : stored_width (next_in text log) ≡ width entry =
    sym (width-entry_in (next_in text log).batch) ∙ ap width is in
    let here = at_end (end (entries log)) text bytes batch placed.room in
    let pushed = entries-push log (next_in text log) entry is in
    record {
      stored = here.stored;
      placed = more log text placed bytes batch (omega (arith, room, wide));
      fits = fits;
      later = λ id epoch. subst (λ (l : List Entry). expected (entries log) id epoch
          ≤ expected l id epoch) (sym pushed)
          (entry_later (entries log) verified entry judged.judged id epoch);
    }

-- the same of a marker
pub marker_grows : (Fits : List Stored → Type 0) (log : List Stored) (marker : Marker) → IsLog log
    → MarkerFits marker → judge_marker (entries log) marker ≡ Appends
    → Fits (with_next (text_of marker) log) → Grows Fits log (text_of marker)
marker_grows Fits log marker placed fits next grown =
    let text = text_of marker in
    let spells = marker_spells marker fits in
    let batch : IsBatch text = (_, spells.0) in
    let is = marker_is log marker fits next in
    let room = marker_has_room (entries log) marker next in
    let wide : stored_width (next_in text log) ≡ 1 =
    sym (width-entry_in (next_in text log).batch) ∙ ap width is in
    let here = at_end (end (entries log)) text spells.1 batch placed.room in
    let pushed = entries-push log (next_in text log) (Control marker) is in
    record {
      stored = here.stored;
      placed = more log text placed spells.1 batch (omega (arith, room, wide));
      fits = grown;
      later = λ id epoch. subst (λ (l : List Entry). expected (entries log) id epoch
          ≤ expected l id epoch) (sym pushed)
          (omega (arith, same_expected (entries log) (Control marker) id epoch (λ n. refl)));
    }
