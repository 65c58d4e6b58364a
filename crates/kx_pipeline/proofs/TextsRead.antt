-- The texts of a log's batches, one behind the other, read as those batches, whatever their bytes
-- are: each was read whole before it was appended, and its place in the log changes nothing of
-- what is read.
use Rattle.std.proofs.Common.{◌≡◌, ◌≤◌, ◌<◌, ◌-◌, ℕ, zero, suc, ℤ, pos, ◌≤ℤ◌, Bool}
use Rattle.std.proofs.Common.{true, false, cond, ltb, List, [], ◌∷◌, ◌++◌}
use Rattle.std.proofs.Common.{length, All, Ok, Err, refl, sym, ap, ◌∙◌, arith}
use Rattle.std.proofs.Common.{append-nil, length-append}
use Rattle.std.specs.Prelude.{int_le}
use Rattle.std.proofs.lemmas.Bool.{ltb-false}
use Rattle.std.proofs.lemmas.Int.{ints}
use Rattle.std.proofs.lemmas.List.{nil_from_length}
use Rattle.std.proofs.lemmas.List.Elements.{All-head, All-nil, All-push, All-tail}
use Rattle.std.proofs.lemmas.List.Sums.{sum_by-append, sum_by-cons}
use Rattle.kx_message.specs.declared.code.ErrorCode.TheVariants.{InvalidRecord, MessageTooLarge}
use Rattle.kx_message.specs.declared.message.Message.{Message}
use Rattle.kx_batch.specs.Batch.{batch_at, batch_limit}
use Rattle.kx_batch.specs.Batch.{spelled}
use Rattle.kx_batch.specs.Marker.{marker_batch}
use Rattle.kx_batch.specs.declared.fault.BatchFault.TheVariants.{Records}
use Rattle.kx_batch.proofs.Whole.{batch_again}
use Rattle.kx_model.specs.Log.{Entry, Marker, MarkerFits, Stored, end, entries, stored_width}
use Rattle.kx_model.specs.PartitionNode.{marker_of}
use Rattle.kx_model.specs.Produce.{Next, greatest_offset, judge_batch, judge_read, judge_text}
use Rattle.kx_model.specs.Produce.{text_of}
use Rattle.kx_model.specs.Reading.{last_offset}
use Rattle.kx_model.proofs.Logs.{end_is}
use Rattle.kx_model.proofs.Markers.{marker_spells}
use Rattle.kx_laws.specs.Grown.{IsGrown}
use Rattle.kx_laws.proofs.GrownLogs.{each_stands}
use Rattle.kx_laws.proofs.StoredTexts.{refused_next}
use Rattle.kx_laws.proofs.WholeTexts.{IsWhole, Read, done, moved_whole, reads_whole, whole_again}
use Rattle.kx_headline.proofs.PartitionDoes.{behind}
use Rattle.kx_headline.proofs.PartitionHolds.{Built, Justified, MarkersFit, built_grown, text_next}
use Rattle.kx_headline.proofs.PartitionHolds as holds
use Rattle.kx_log.specs.Log.{texts}
use Rattle.kx_log.specs.Row.{in_front, row_by, row_from, row_in}
use Rattle.kx_pipeline.proofs.GrownEnds.{grown_end}

------ what is appended

whole_read : (log : List Entry) (verified : Bool) (text : List ℕ) (r : Read) → batch_at text ≡ r
    → judge_read log verified r ≡ Next → IsWhole text
whole_read log verified text (Err fault) is e = absurd cc
whole_read log verified text (Ok found) is e =
    let none = (refused_next (ltb 0 (length found.1)) InvalidRecord
    (judge_batch log verified found.0.batch) e).0 in
    (reads_whole text found is
    (nil_from_length found.1 (omega (arith, ltb-false 0 (length found.1) none)))).whole

judged_whole : (log : List Entry) (verified : Bool) (text : List ℕ)
    → judge_text log verified text ≡ Next → IsWhole text
unfolding judge_text
judged_whole log verified text e =
    whole_read log verified text (batch_at text) refl
    (refused_next (ltb batch_limit (length text)) MessageTooLarge
    (judge_read log verified (batch_at text)) e).1

marker_whole : (m : Marker) → MarkerFits m → IsWhole (text_of m)
marker_whole m fits =
    let s = marker_spells m fits in
    let v = marker_batch m.id m.epoch m.outcome m.coordinator in
    (reads_whole (text_of m) (record { batch = v; text = text_of m }, [])
    (ap batch_at (sym (append-nil (text_of m))) ∙ batch_again v (text_of m) [] s.1 s.0) refl).whole

------ the batches of a log

-- what a batch's text reads as is the batch, with offsets for all its records
pub record IsRead (s : Stored) : Type 0 where
  whole : IsWhole s.text
  is : spelled s.text ≡ s
  offsets : last_offset s ≤ℤ pos greatest_offset

-- the offsets of a batch that is appended
has_offsets : (log : List Stored) (s : Stored) → s.batch.base_offset ≡ pos (end (entries log))
    → IsGrown (log ++ s ∷ []) → last_offset s ≤ℤ pos greatest_offset
has_offsets log s base grown =
    omega (
      arith,
      ints,
      base,
      grown_end (log ++ s ∷ []) grown,
      end_is log,
      end_is (log ++ s ∷ []),
      sum_by-append stored_width log (s ∷ []),
      sum_by-cons stored_width s [],
    )

-- given the messages, of the partition of this number
module _ (sent : List Message) (number : ℕ) (fit : MarkersFit sent) where
  text_whole : (log : List Stored) (text : List ℕ) → Justified sent number log text → IsWhole text
  text_whole log text (holds.asked r verified w l j) =
      judged_whole (entries log) verified r.text
      (text_next (entries log) verified r.text r.target j)
  text_whole log text (holds.ended txn held coordinator outcome c j) =
      marker_whole (marker_of held coordinator outcome) (fit number txn held coordinator outcome c)
  text_whole log text (holds.unowned text' n j) = judged_whole (entries log) true text' j

  pub log_read : (log : List Stored) → Built sent number log → All IsRead log
  log_read log holds.start = All-nil IsRead
  log_read log (holds.next earlier text b why) =
      let s = behind earlier text in
      let grown = built_grown sent number (earlier ++ s ∷ []) fit (holds.next earlier text b why) in
      let stands = each_stands (earlier ++ s ∷ []) grown earlier s [] refl in
      All-push IsRead earlier s (log_read earlier b) (record {
        whole = moved_whole (pos (end (entries earlier))) text (text_whole earlier text why);
        is = refl;
        offsets = has_offsets earlier s stands.offset grown;
      })

------ batches in a row

is_within : (a b : ℤ) (test : Bool) → a ≤ℤ b → int_le a b ≡ test → test ≡ true
is_within a b true within is = refl
is_within a b false within is = absurd (omega (arith, ints, within, is))

row_step : (most : ℕ) (bytes : List ℕ) → 0 < length bytes → 0 < most
    → row_from most bytes ≡ row_by (batch_at bytes) (row_from (most - 1))
unfolding row_from
row_step most [] some room = absurd (omega arith)
row_step zero (byte ∷ bytes) some room = absurd (omega arith)
row_step (suc most) (byte ∷ bytes) some room =
    let same : most ≡ suc most - 1 = omega arith in
    ap (λ (n : ℕ). row_by (batch_at (byte ∷ bytes)) (row_from n)) same

row_none : (most : ℕ) → row_from most [] ≡ Ok []
unfolding row_from
row_none zero = refl
row_none (suc most) = refl

row_reads : (most : ℕ) (log : List Stored) → All IsRead log → length (texts log) ≤ most
    → row_from most (texts log) ≡ Ok log
row_reads most [] all enough = row_none most
row_reads most (s ∷ log) all enough =
    let head = All-head IsRead s log all in
    let sizes = length-append s.text (texts log) in
    let read : batch_at (s.text ++ texts log) ≡ Ok (s, texts log) =
    whole_again s.text (texts log) head.whole
    ∙ ap (λ (x : Stored). done (x, texts log)) head.is in
    let more = row_reads (most - 1) log (All-tail IsRead s log all)
    (omega (arith, enough, sizes, head.whole.long)) in
    row_step most (texts (s ∷ log)) (omega (arith, sizes, head.whole.long))
    (omega (arith, enough, sizes, head.whole.long))
    ∙ ap (λ (r : Read). row_by r (row_from (most - 1))) read
    ∙ ap (λ (b : Bool). cond b (in_front s (row_from (most - 1) (texts log))) (Err Records))
    (is_within (last_offset s) (pos greatest_offset) _ head.offsets refl)
    ∙ ap (in_front s) more

-- the texts of such batches, one behind the other, read as the batches
pub row_again : (log : List Stored) → All IsRead log → row_in (texts log) ≡ Ok log
row_again log all = row_reads (length (texts log)) log all (omega arith)
