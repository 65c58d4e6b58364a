-- What groups append makes a log that the server of the offsets partition grows.
use Rattle.std.proofs.Common.{◌≡◌, ℕ, ℤ, negsuc, Bool, true, false, List}
use Rattle.std.proofs.Common.{refl, sym, ap, ◌∙◌, subst}
use Rattle.kx_broker.specs.Offsets.{IsKept, IsOffsetsLog, KeepsOffsets}
use Rattle.kx_broker.specs.Serving.{Serving, offset_of}
use Rattle.kx_broker.proofs.Appending.{Comes, marker_comes, stays, verdict_comes}
use Rattle.kx_broker.proofs.Disks.{Grows, with_next}
use Rattle.kx_broker.proofs.Growing.{batch_grows, marker_grows}
use Rattle.kx_group.specs.Calls.{IsChanged}
use Rattle.kx_group.specs.Log.{IsGroupLog}
use Rattle.kx_group.proofs.Committing.{begins_at}
use Rattle.kx_group.proofs.Growing.{with_commit, with_marker}
use Rattle.kx_laws.specs.Grown.{IsGrown}
use Rattle.kx_laws.proofs.GrownLogs.{grown_by_batch, grown_by_marker}
use Rattle.kx_log.specs.Log.{IsLog, texts}
use Rattle.kx_log.specs.LogState.{LogState}
use Rattle.kx_message.specs.declared.code.ErrorCode.{ErrorCode}
use Rattle.kx_message.specs.declared.message.Held.{Held}
use Rattle.kx_message.specs.declared.payload.PartitionOffset.{PartitionOffset}
use Rattle.kx_model.specs.Groups.{Already, Changes, Fact, Membership, Refuses}
use Rattle.kx_model.specs.Groups.{membership_text, offsets_batch}
use Rattle.kx_model.specs.Log.{Entry, Marker, MarkerFits, Stored, entries}
use Rattle.kx_model.specs.PartitionNode.{Partition, changed, entries_of, marked_with}
use Rattle.kx_model.specs.PartitionNode.{taken}
use Rattle.kx_model.specs.Produce.{Next, Verdict, judge_marker, judge_text, text_of}
use Rattle.kx_offsets.specs.Facts.{CommitFits}
use Rattle.kx_partition.specs.Answer.{FollowsVerdict, IsMarked, code_of, marker_unless_closed}
use Rattle.kx_partition.specs.Answer.{unless_closed}
use Rattle.kx_partition.specs.declared.answer.Produced.{Produced}
use Rattle.kx_varint.specs.Text.{IsBytes}

-- what is known of the log of a partition that is lent
pub known_of : (given log : LogState) → given ≡ log → IsLog given.batches → IsGrown given.batches
    → IsGroupLog log.batches → (given.closed ≡ false → given.store.bytes ≡ texts given.batches)
    → IsKept log
known_of given log same placed grown groups holds =
    let here = subst (λ (l : LogState). IsGroupLog l.batches) (sym same) groups in
    subst IsKept same (record {
      placed = placed;
      fits = record { grown = grown; groups = here };
      holds = holds;
    })

-- with a commit of offsets that comes next
pub commit_next : (log : List Stored) (verified : Bool) (group : List ℕ) (held : Held) (first : ℤ)
    (offsets : List PartitionOffset) → IsOffsetsLog log → CommitFits group held first offsets
    → judge_text (entries log) verified (offsets_batch group held first offsets) ≡ Next
    → IsOffsetsLog (with_next (offsets_batch group held first offsets) log)
commit_next log verified group held first offsets is fits next =
    let at = begins_at (entries log) verified group held first offsets fits next in
    record {
      grown = grown_by_batch log verified (offsets_batch group held first offsets) is.grown next;
      groups = subst (λ z. IsGroupLog (with_next (offsets_batch group held z offsets) log))
          (sym at.1)
          (with_commit log group held at.0 offsets is.groups
          (subst (λ z. CommitFits group held z offsets) at.1 fits));
    }

-- a change that is made makes a log of groups
pub record IsMade (log : List Stored) (fact : Fact) : Type 0 where
  pub bytes : IsBytes (membership_text fact)
  pub groups : IsGroupLog (with_next (membership_text fact) log)

module _ (p : Partition) (old : Serving) (is : KeepsOffsets p old) (known : IsKept old.log) where
  abbrev log_now : List Entry
  log_now = entries old.log.batches

  -- what becomes of a text by a verdict on it
  pub judged_comes : (judged : List Entry → Verdict) (verified : Bool) (text : List ℕ)
      → IsBytes text → (judged log_now ≡ Next → judge_text log_now verified text ≡ Next)
      → (judged log_now ≡ Next → IsOffsetsLog (with_next text old.log.batches))
      → (log : LogState) (answer : Produced)
      → FollowsVerdict (unless_closed old.log.closed (judged log_now)) text old.log log answer
      → Comes IsOffsetsLog p old.log log (λ store. taken p store text (judged (entries_of p)))
      (code_of answer) (offset_of answer)
  judged_comes judged verified text bytes is_next fits log answer h =
      let same : judged log_now ≡ judged (entries_of p) =
      ap (λ (b : List Stored). judged (entries b)) is.disk.kept in
      verdict_comes IsOffsetsLog p old.log log is.disk text (judged (entries_of p)) answer
      (λ next. subst (λ (b : List Stored). Grows IsOffsetsLog b text) is.disk.kept
      (batch_grows IsOffsetsLog old.log.batches verified text known.placed bytes
      (is_next (same ∙ next)) (fits (same ∙ next))))
      known.holds
      (subst (λ (v : Verdict). FollowsVerdict (unless_closed old.log.closed v) text old.log log
      answer) same h)

  ------ a change of members

  pub change_comes : (m : Membership)
      → ((fact : Fact) → m ≡ Changes fact → IsMade old.log.batches fact)
      → (log : LogState) (given : ErrorCode) → IsChanged m old.log log given
      → (offset : ℤ) × Comes IsOffsetsLog p old.log log (λ store. changed p store m) given offset
  change_comes Already made log given h = (
    negsuc 0,
    stays IsOffsetsLog p old.log log is.disk (λ store. changed p store Already) given (negsuc 0)
        h.1 (λ store. refl) (λ store. h.0) (λ store. refl),
  )
  change_comes (Refuses c) made log given h = (
    negsuc 0,
    stays IsOffsetsLog p old.log log is.disk (λ store. changed p store (Refuses c)) given
        (negsuc 0) h.1 (λ store. refl) (λ store. h.0) (λ store. refl),
  )
  change_comes (Changes fact) made log given h =
      let text = membership_text fact in
      let is_made = made fact refl in
      let c = judged_comes (λ l. judge_text l true text) true text is_made.bytes (λ next. next)
      (λ next. record {
        grown = grown_by_batch old.log.batches true text known.fits.grown next;
        groups = is_made.groups;
      }) log h.answer h.produced in (
        offset_of h.answer,
        subst (λ (e : ErrorCode). Comes IsOffsetsLog p old.log log
            (λ store. changed p store (Changes fact)) e (offset_of h.answer)) (sym h.code_is) c,
      )

  -- as the definitions judge it
  pub changed_comes : (judged : List Entry → Membership)
      → ((fact : Fact) → judged log_now ≡ Changes fact → IsMade old.log.batches fact)
      → (log : LogState) (given : ErrorCode) → IsChanged (judged log_now) old.log log given
      → (offset : ℤ) × Comes IsOffsetsLog p old.log log
      (λ store. changed p store (judged (entries_of p))) given offset
  changed_comes judged made log given h =
      let same : judged log_now ≡ judged (entries_of p) =
      ap (λ (b : List Stored). judged (entries b)) is.disk.kept in
      let c = change_comes (judged log_now) made log given h in (
        c.0,
        subst (λ (m : Membership). Comes IsOffsetsLog p old.log log (λ store. changed p store m)
            given c.0) same c.1,
      )

  ------ a marker

  pub marks_comes : (marker : Marker) (log : LogState) (given : ErrorCode) → MarkerFits marker
      → IsMarked marker old.log log given
      → (offset : ℤ) × Comes IsOffsetsLog p old.log log
      (λ store. marked_with p store marker (judge_marker (entries_of p) marker)) given offset
  marks_comes marker log given fits h =
      let same : judge_marker log_now marker ≡ judge_marker (entries_of p) marker =
      ap (λ (b : List Stored). judge_marker (entries b) marker) is.disk.kept in
      marker_comes IsOffsetsLog p old.log log is.disk marker (judge_marker (entries_of p) marker)
      given (ap (marker_unless_closed old.log.closed) (sym same))
      (λ next. subst (λ (b : List Stored). Grows IsOffsetsLog b (text_of marker)) is.disk.kept
      (marker_grows IsOffsetsLog old.log.batches marker known.placed fits (same ∙ next) (record {
        grown = grown_by_marker old.log.batches marker known.fits.grown fits (same ∙ next);
        groups = with_marker old.log.batches marker known.fits.groups fits;
      })))
      known.holds h
