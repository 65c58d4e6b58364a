-- Offsets that are committed in a transaction: the batch that is appended, and what is kept after
-- it.
use Rattle.std.proofs.Common.{◌≡◌, ◌+◌, ℕ, ℤ, pos, negsuc, Bool, true, false, cond, Some}
use Rattle.std.proofs.Common.{List, [], ◌∷◌, ◌++◌, length, map, refl, sym, ap, ◌∙◌, subst, arith}
use Rattle.std.proofs.Common.{◌&&◌, ⊎_elim}
use Rattle.std.specs.Prelude.{not, None, Option, ◌||◌, int_le, int_lt}
use Rattle.std.proofs.lemmas.Bool.Decides.{nat_tests}
use Rattle.std.proofs.lemmas.Bool.{and_parts, or_cases}
use Rattle.std.specs.List.{enumerate_from}
use Rattle.std.specs.Ordering.{int_eq}
use Rattle.std.proofs.lemmas.Bool.{le-leb, le-ltb}
use Rattle.kx_batch.specs.Batch.{Batch, batch_limit, batch_of, is_control}
use Rattle.kx_batch.specs.Record.{Record}
use Rattle.kx_commits.specs.Kept.{SameKept, noted_all}
use Rattle.kx_commits.specs.Table.{Table, kept_of}
use Rattle.kx_commits.proofs.Reading.{pending_within}
use Rattle.kx_laws.proofs.StoredTexts.{judged_text}
use Rattle.kx_members.specs.Follows.{standing as standing_by_log}
use Rattle.kx_members.specs.Standing.{Standing}
use Rattle.kx_members.specs.Table.{standing_in}
use Rattle.kx_message.specs.declared.code.ErrorCode.{ErrorCode}
use Rattle.kx_message.specs.declared.code.ErrorCode.TheVariants.{IllegalGeneration, InvalidRecord}
use Rattle.kx_message.specs.declared.code.ErrorCode.TheVariants.{UnknownMemberId}
use Rattle.kx_message.specs.declared.message.Held.{Held}
use Rattle.kx_message.specs.declared.payload.PartitionOffset.{PartitionOffset}
use Rattle.kx_model.specs.Groups.{generation, is_member, judge_offsets, offset_records}
use Rattle.kx_model.specs.Groups.{offsets_batch}
use Rattle.kx_model.specs.Log.{Data, Entry, Sequenced, Stored, end, entries, entry_in}
use Rattle.kx_model.specs.Produce.{Next, Refused, Verdict, is_plain, is_sequenced, judge}
use Rattle.kx_model.specs.Produce.{judge_batch, judge_entry, judge_read, judge_text, stored_at}
use Rattle.kx_model.proofs.Logs.{entries-push, next_has_room}
use Rattle.kx_offsets.specs.Facts.{CommitFits, commit_batch}
use Rattle.kx_offsets.proofs.Commits.{commit_built, commit_entry}
use Rattle.kx_log.specs.LogState.{LogState}
use Rattle.kx_message.specs.declared.requests.TxnOffsetCommit.{TxnOffsetCommit}
use Rattle.kx_partition.specs.Answer.{IsAnswered, IsForeseen, IsOfTransaction, answer_of}
use Rattle.kx_partition.specs.Answer.{unless_closed}
use Rattle.kx_partition.specs.declared.answer.Produced.{Produced}
use Rattle.kx_partition.specs.Answer.{verdict_at}
use Rattle.kx_partition.proofs.Judging.{neither_judged}
use Rattle.kx_partition.specs.declared.answer.Produced.TheVariants as produced
use Rattle.kx_group.specs.Calls.{IsCommitted, text_of, verdict_on}
use Rattle.kx_group.specs.Follows.{Follows}
use Rattle.kx_group.specs.Internal.Commits.{MayWait, said_of}
use Rattle.kx_group.specs.Internal.Kept.{IsKept, refusal_by}
use Rattle.kx_group.specs.declared.notes.Notes.{Notes}
use Rattle.kx_group.proofs.Batches.{not_plain}
use Rattle.kx_group.proofs.Following.{offsets_follow}
use Rattle.kx_group.proofs.Growing.{with_commit}
use Rattle.kx_group.proofs.Same.{same_follows}
use Rattle.kx_group.proofs.Texts.{commit_of, commit_says_offsets, stored_commit}

------ records

records_from : (n : ℕ) (offsets : List PartitionOffset) (f : ℕ × PartitionOffset → Record)
    → length (map f (enumerate_from n offsets)) ≡ length offsets
records_from n [] f = refl
records_from n (o ∷ offsets) f =
    let more = records_from (n + 1) offsets f in omega (arith, more)

-- a batch has a record for each offset
pub records_of_text : (group : List ℕ) (held : Held) (first : ℤ) (offsets : List PartitionOffset)
    → CommitFits group held first offsets
    → (batch_of (offsets_batch group held first offsets)).records ≡ offset_records group offsets
records_of_text group held first offsets fits =
    ap (λ (b : Batch). b.records) (commit_built group held first offsets fits).read

pub count_of_text : (group : List ℕ) (held : Held) (first : ℤ) (offsets : List PartitionOffset)
    → CommitFits group held first offsets
    → length (batch_of (offsets_batch group held first offsets)).records ≡ length offsets
count_of_text group held first offsets fits =
    ap length (records_of_text group held first offsets fits) ∙ records_from 0 offsets _

------ a batch that comes next

below_0 : (n : ℕ) → int_le (pos 0) (negsuc n) ≡ true → ⊥
below_0 n e = cc

-- it begins at a sequence
begins : (group : List ℕ) (held : Held) (first : ℤ) (offsets : List PartitionOffset)
    → (is_plain (commit_batch group held first offsets)
    || is_sequenced (commit_batch group held first offsets)) ≡ true
    → (n : ℕ) × (first ≡ pos n)
begins group held (pos n) offsets kind = (n, refl)
begins group held (negsuc n) offsets kind =
    let b = commit_batch group held (negsuc n) offsets in
    absurd (⊎_elim (not_plain b held.id refl) (λ sequenced.
    let two = int_le (pos 0) b.producer_id && int_le (pos 0) b.producer_epoch in
    let bits = and_parts (two && int_le (pos 0) b.base_sequence) (not (is_control b)) sequenced in
    let last = and_parts two (int_le (pos 0) b.base_sequence) bits.0 in
    below_0 n last.1) (or_cases (is_plain b) (is_sequenced b) kind))

module _ (log : List Entry) (verified : Bool) (group : List ℕ) (held : Held) (first : ℤ)
    (offsets : List PartitionOffset) (fits : CommitFits group held first offsets)
    (next : judge_text log verified (offsets_batch group held first offsets) ≡ Next) where
  pub begins_at : (n : ℕ) × (first ≡ pos n)
  begins_at =
      begins group held first offsets
      (subst (λ b. (is_plain b || is_sequenced b) ≡ true)
      (commit_built group held first offsets fits).read
      (judged_text log verified (offsets_batch group held first offsets) next).kind)

module _ (log : List Entry) (verified : Bool) (group : List ℕ) (held : Held) (n : ℕ)
    (offsets : List PartitionOffset) (fits : CommitFits group held (pos n) offsets)
    (next : judge_text log verified (offsets_batch group held (pos n) offsets) ≡ Next) where
  pub next_here : judge log verified (commit_of group held n offsets) ≡ Next
  next_here =
      ap (judge_entry log verified) (sym (commit_entry group held n offsets fits))
      ∙ (judged_text log verified (offsets_batch group held (pos n) offsets) next).judged

  -- so many more offsets may wait
  pub may_wait_here : (notes : Notes) (standing : List ℕ → Standing)
      → Follows log standing (kept_of notes.commits)
      → MayWait (kept_of notes.commits)
      (length (batch_of (offsets_batch group held (pos n) offsets)).records)
  may_wait_here notes standing follows =
      let room = next_has_room log verified (Data (commit_of group held n offsets)) next_here in
      let count = ap length (records_of_text group held (pos n) offsets fits) in
      record {
        few = λ g p. omega (
          arith,
          room,
          count,
          pending_within g p (kept_of notes.commits) log follows.offsets,
        );
      }

-- with the offsets noted, what is kept is that of the log with their batch
pub appended_commit : (log : List Stored) (verified : Bool) (old : Notes) (group : List ℕ)
    (held : Held) (n : ℕ) (offsets : List PartitionOffset)
    → CommitFits group held (pos n) offsets
    → judge_text (entries log) verified (offsets_batch group held (pos n) offsets) ≡ Next
    → IsKept log old → (commits : Table) (at : ℕ) (records : List Record)
    → at ≡ end (entries log)
    → records ≡ (batch_of (offsets_batch group held (pos n) offsets)).records
    → SameKept (kept_of commits) (noted_all held.id (said_of at records) (kept_of old.commits))
    → IsKept (log ++ stored_at (end (entries log)) (offsets_batch group held (pos n) offsets) ∷ [])
    (record { members = old.members; commits = commits })
appended_commit log verified old group held n offsets fits next kept commits at records place are
    same =
    let stored = stored_at (end (entries log)) (offsets_batch group held (pos n) offsets) in
    let batch = commit_of group held n offsets in
    let is = stored_commit group held n offsets fits (end (entries log)) in
    record {
      groups = with_commit log group held n offsets kept.groups fits;
      follows = subst (λ l. Follows l (standing_in old.members) (kept_of commits))
          (sym (entries-push log stored (Data batch) is))
          (same_follows (entries log ++ Data batch ∷ []) (standing_in old.members)
          (standing_in old.members)
          (noted_all held.id (said_of (end (entries log)) (offset_records group offsets))
          (kept_of old.commits)) (kept_of commits)
          (offsets_follow (entries log) (standing_in old.members) (kept_of old.commits) verified
          batch kept.follows (next_here (entries log) verified group held n offsets fits next) refl
          (commit_says_offsets group held n offsets fits)) (λ group. refl)
          (subst (SameKept (kept_of commits)) (λ i. noted_all held.id
          (said_of (place i) ((are ∙ records_of_text group held (pos n) offsets fits) i))
          (kept_of old.commits)) same));
    }

------ whose offsets are looked at

abbrev or_judged : Option ErrorCode → Verdict → Verdict
or_judged None verdict = verdict
or_judged (Some code) verdict = Refused code

-- by how the group stands, the member's offsets are refused or judged as a batch
pub judged_by : (log : List Entry) (standing : List ℕ → Standing) (group : List ℕ) (member : ℕ)
    (named : ℤ) (verified : Bool) (text : List ℕ)
    → standing group ≡ standing_by_log log group
    → judge_offsets log verified group member named text
    ≡ or_judged (refusal_by (standing group) member named) (judge_text log verified text)
judged_by log standing group member named verified text stands =
    by (is_member log group member) (int_eq named (pos (generation log group)))
    ∙ ap (λ (s : Standing). or_judged (refusal_by s member named) (judge_text log verified text))
    (sym stands)
  where
    by : (here current : Bool)
        → cond (not here) (Refused UnknownMemberId)
        (cond (not current) (Refused IllegalGeneration) (judge_text log verified text))
        ≡ or_judged (cond (not here) (Some UnknownMemberId)
        (cond (not current) (Some IllegalGeneration) None)) (judge_text log verified text)
    by true true = refl
    by true false = refl
    by false current = refl

------ at whatever sequence a batch begins that comes next

module _ (log : List Stored) (verified : Bool) (group : List ℕ) (held : Held) (first : ℤ)
    (offsets : List PartitionOffset) (fits : CommitFits group held first offsets)
    (next : judge_text (entries log) verified (offsets_batch group held first offsets) ≡ Next)
    (old : Notes) (kept : IsKept log old) where
  at : (n : ℕ) × (first ≡ pos n)
  at = begins_at (entries log) verified group held first offsets fits next

  fits_at : CommitFits group held (pos at.0) offsets
  fits_at = subst (λ z. CommitFits group held z offsets) at.1 fits

  next_at : judge_text (entries log) verified (offsets_batch group held (pos at.0) offsets) ≡ Next
  next_at =
      subst (λ z. judge_text (entries log) verified (offsets_batch group held z offsets) ≡ Next)
      at.1 next

  pub may_wait_next : MayWait (kept_of old.commits)
      (length (batch_of (offsets_batch group held first offsets)).records)
  may_wait_next =
      subst (λ z. MayWait (kept_of old.commits)
      (length (batch_of (offsets_batch group held z offsets)).records)) (sym at.1)
      (may_wait_here (entries log) verified group held at.0 offsets fits_at next_at old
      (standing_in old.members) kept.follows)

  pub kept_next : (commits : Table) (place : ℕ) (records : List Record)
      → place ≡ end (entries log)
      → records ≡ (batch_of (offsets_batch group held first offsets)).records
      → SameKept (kept_of commits)
      (noted_all held.id (said_of place records) (kept_of old.commits))
      → IsKept (log ++ stored_at (end (entries log)) (offsets_batch group held first offsets) ∷ [])
      (record { members = old.members; commits = commits })
  kept_next commits place records is are same =
      subst (λ z. IsKept (log ++ stored_at (end (entries log))
      (offsets_batch group held z offsets) ∷ [])
      (record { members = old.members; commits = commits })) (sym at.1)
      (appended_commit log verified old group held at.0 offsets fits_at next_at kept commits place
      records is
      (are ∙ ap (λ z. (batch_of (offsets_batch group held z offsets)).records) at.1) same)

-- a member that isn't looked at is refused
pub refused_commit : (old : LogState) (notes : Notes) (commit : TxnOffsetCommit) (verified : Bool)
    (code : ErrorCode) → IsKept old.batches notes
    → refusal_by (standing_in notes.members commit.group) commit.member commit.generation
    ≡ Some code → IsCommitted commit verified old old (produced.Refused code)
refused_commit old notes commit verified code kept refuses =
    let is = judged_by (entries old.batches) (standing_in notes.members) commit.group commit.member
    commit.generation verified (text_of commit) (kept.follows.members.stands commit.group)
    ∙ ap (λ o. or_judged o (judge_text (entries old.batches) verified (text_of commit))) refuses in
    IsAnswered (produced.Refused code) (ap (λ v. answer_of (unless_closed old.closed v)) is) refl

-- one that is looked at is judged as a partition judges the batch
pub looked_at : (old : LogState) (notes : Notes) (commit : TxnOffsetCommit) (verified : Bool)
    → IsKept old.batches notes
    → refusal_by (standing_in notes.members commit.group) commit.member commit.generation ≡ None
    → verdict_at old verified (text_of commit) ≡ verdict_on old verified commit
looked_at old notes commit verified kept refuses =
    let is = judged_by (entries old.batches) (standing_in notes.members) commit.group commit.member
    commit.generation verified (text_of commit) (kept.follows.members.stands commit.group)
    ∙ ap (λ o. or_judged o (judge_text (entries old.batches) verified (text_of commit))) refuses in
    sym (ap (unless_closed old.closed) is)

------ a commit that is judged before its batch is built

sequenced : (group : List ℕ) (held : Held) (n : ℕ) (offsets : List PartitionOffset)
    → is_sequenced (commit_batch group held (pos n) offsets) ≡ true
sequenced group held n offsets =
    rw (
      le-leb 0 held.id (omega arith),
      le-leb 0 held.epoch (omega arith),
      le-leb 0 n (omega arith),
    ) refl

and_none : (b : Bool) → ((b && false) && true) ≡ false
and_none true = refl
and_none false = refl

or_true : (b : Bool) → (b || true) ≡ true
or_true true = refl
or_true false = refl

-- the batch is all of the text, and is judged as such
judged_whole : (log : List Entry) (verified : Bool) (group : List ℕ) (held : Held) (first : ℤ)
    (offsets : List PartitionOffset) → CommitFits group held first offsets
    → judge_text log verified (offsets_batch group held first offsets)
    ≡ judge_batch log verified (commit_batch group held first offsets)
unfolding judge_text
judged_whole log verified group held first offsets fits =
    let b = commit_built group held first offsets fits in
    rw (le-ltb batch_limit (length (offsets_batch group held first offsets)) b.spells.limit)
    (ap (judge_read log verified) b.whole ∙ ap (judge_batch log verified) b.read)

-- by what the tables look at
pub judged_commit : (log : List Entry) (verified : Bool) (group : List ℕ) (held : Held) (n : ℕ)
    (offsets : List PartitionOffset) → CommitFits group held (pos n) offsets
    → judge_text log verified (offsets_batch group held (pos n) offsets)
    ≡ judge log verified (commit_of group held n offsets)
judged_commit log verified group held n offsets fits =
    let batch = commit_batch group held (pos n) offsets in
    judged_whole log verified group held (pos n) offsets fits
    ∙ ap (λ b. cond (is_plain batch || b) (judge_entry log verified (entry_in batch))
    (Refused InvalidRecord)) (sequenced group held n offsets)
    ∙ ap (λ b. cond b (judge_entry log verified (entry_in batch)) (Refused InvalidRecord))
    (or_true (is_plain batch))
    ∙ ap (judge_entry log verified) (sym (ap entry_in (commit_built group held (pos n) offsets
    fits).read) ∙ commit_entry group held n offsets fits)

-- below the first sequence 0 it is no batch that is appended
pub judged_below : (log : List Entry) (verified : Bool) (group : List ℕ) (held : Held) (n : ℕ)
    (offsets : List PartitionOffset) → CommitFits group held (negsuc n) offsets
    → judge_text log verified (offsets_batch group held (negsuc n) offsets)
    ≡ Refused InvalidRecord
judged_below log verified group held n offsets fits =
    judged_whole log verified group held (negsuc n) offsets fits
    ∙ neither_judged log verified (commit_batch group held (negsuc n) offsets)
    (and_none (int_le (pos 0) (pos held.id) && int_le (pos 0) (pos held.epoch)))

pub of_transaction : (group : List ℕ) (held : Held) (n count : ℕ) (first : ℤ)
    (offsets : List PartitionOffset) → first ≡ pos n → count ≡ length offsets
    → IsOfTransaction held first count (commit_of group held n offsets)
of_transaction group held n count first offsets begins are = record {
  id_is = refl;
  epoch_is = refl;
  first_is = begins;
  count_is = records_from 0 offsets _ ∙ sym are;
  transactional_is = refl;
}

-- what a batch is answered that isn't built
module _ (old : LogState) (verified : Bool) (group : List ℕ) (held : Held) where
  pub foreseen_below : (first : ℤ) (offsets : List PartitionOffset)
      → CommitFits group held first offsets → int_lt first (pos 0) ≡ true
      → answer_of (verdict_at old verified (offsets_batch group held first offsets))
      ≡ Some (produced.Refused InvalidRecord)
  foreseen_below (pos n) offsets fits below = absurd (grind (arith, nat_tests, below))
  foreseen_below (negsuc n) offsets fits below =
      ap (λ v. answer_of (unless_closed old.closed v))
      (judged_below (entries old.batches) verified group held n offsets fits)

  pub foreseen_by : (first from : ℤ) (offsets : List PartitionOffset) (count : ℕ)
      (answer : Option Produced) → CommitFits group held first offsets
      → int_lt first (pos 0) ≡ false → from ≡ first → count ≡ length offsets
      → ((batch : Sequenced) → IsOfTransaction held from count batch
      → IsForeseen (unless_closed old.closed (judge (entries old.batches) verified batch)) answer)
      → IsForeseen (verdict_at old verified (offsets_batch group held first offsets)) answer
  foreseen_by (pos n) from offsets count answer fits above same are judged =
      subst (λ v. IsForeseen (unless_closed old.closed v) answer)
      (sym (judged_commit (entries old.batches) verified group held n offsets fits))
      (judged (commit_of group held n offsets)
      (of_transaction group held n count from offsets same are))
  foreseen_by (negsuc n) from offsets count answer fits above same are judged = absurd cc

module _ (old : LogState) (notes : Notes) (commit : TxnOffsetCommit) (verified : Bool)
    (kept : IsKept old.batches notes)
    (looked : refusal_by (standing_in notes.members commit.group) commit.member commit.generation
    ≡ None) where
  -- what the batch is answered is what the commit is
  pub answered_commit : (answer : Produced)
      → answer_of (verdict_at old verified (text_of commit)) ≡ Some answer
      → IsCommitted commit verified old old answer
  answered_commit answer told =
      IsAnswered answer
      (ap answer_of (sym (looked_at old notes commit verified kept looked)) ∙ told) refl
