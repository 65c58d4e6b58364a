-- Which batches of a log that is read groups append, and what is kept once one is noted.
use Rattle.std.proofs.Common.{◌≡◌, ℕ, true, false, Some, None}
use Rattle.std.proofs.Common.{List, [], ◌∷◌, ◌++◌, length, refl, sym, ap, ◌∙◌, subst, arith}
use Rattle.std.specs.List.{AllByRecursion}
use Rattle.kx_batch.specs.Batch.{is_transactional}
use Rattle.kx_batch.specs.Record.{Record}
use Rattle.kx_commits.specs.Kept.{Kept, SameKept, ended, noted_all}
use Rattle.kx_commits.specs.Table.{Table, kept_of}
use Rattle.kx_commits.proofs.Reading.{pending_within}
use Rattle.kx_members.specs.Follows.{Makes}
use Rattle.kx_members.specs.Standing.{Standing, after}
use Rattle.kx_members.specs.Table.{Table as Groups, group_in, standing_in}
use Rattle.kx_members.proofs.Standings.{drop_same, join_same, leave_same}
use Rattle.kx_message.specs.declared.outcome.Outcome.{Outcome}
use Rattle.kx_model.specs.Groups.{Fact, Offset, Joined, Left, Dropped, fact_of}
use Rattle.kx_model.specs.Log.{Control, Data, Entry, Plain, Sequenced, Stored, end, entries}
use Rattle.kx_model.specs.Log.{entry_of}
use Rattle.kx_model.proofs.Logs.{entries-push}
use Rattle.kx_group.specs.Follows.{Follows}
use Rattle.kx_group.specs.Internal.Commits.{MayWait, said_of}
use Rattle.kx_group.specs.Internal.Kept.{IsKept, MakesBy}
use Rattle.kx_group.specs.Internal.Reading.{ComesNext, IsDataOf, IsPlain, only_fact}
use Rattle.kx_group.specs.Log.{FitsChange, FitsMarker, FitsOffsets, IsFitting, WithBatch, is_offset}
use Rattle.kx_group.specs.declared.notes.Notes.{Notes}
use Rattle.kx_group.proofs.Batches.{IsEndOf}
use Rattle.kx_group.proofs.Following.{change_follows, marker_follows, offsets_follow}
use Rattle.kx_group.proofs.Same.{kept_is, same_again, same_follows}

------ a change of members

module _ (log : List Entry) (standing : List ℕ → Standing) (kept : Kept)
    (follows : Follows log standing kept) where
  pub makes_here : (fact : Fact) → MakesBy (standing (group_in fact)) fact → Makes log fact
  makes_here (Offset group partition offset) by = absurd by
  makes_here (Joined group member) by =
      join_same standing log group member follows.members ∙ by
  makes_here (Left group member) by =
      leave_same standing log group member follows.members ∙ by
  makes_here (Dropped group member) by =
      drop_same standing log group member follows.members ∙ by

  pub made_by : (fact : Fact) → Makes log fact → MakesBy (standing (group_in fact)) fact
  made_by (Offset group partition offset) makes = absurd makes
  made_by (Joined group member) makes =
      sym (join_same standing log group member follows.members) ∙ makes
  made_by (Left group member) makes =
      sym (leave_same standing log group member follows.members) ∙ makes
  made_by (Dropped group member) makes =
      sym (drop_same standing log group member follows.members) ∙ makes

-- the one record of a batch, and what it says
record IsOne (records : List Record) (fact : Fact) : Type 0 where
  record_is : Record
  one : records ≡ record_is ∷ []
  says : fact_of record_is ≡ Some fact

only_one : (records : List Record) (fact : Fact) → only_fact records ≡ Some fact
    → IsOne records fact
only_one [] fact e = absurd cc
only_one (r ∷ []) fact e = record { record_is = r; one = refl; says = e }
only_one (r ∷ other ∷ records) fact e = absurd cc

-- a batch of no producer that groups append
record IsChange (log : List Entry) (records : List Record) : Type 0 where
  fact : Fact
  says : only_fact records ≡ Some fact
  makes : Makes log fact

change_in : (log : List Entry) (entry : Entry) (records : List Record) → IsFitting log entry
    → entry ≡ Plain records → IsChange log records
change_in log entry records (FitsChange r fact says makes) is =
    let same : records ≡ r ∷ [] = cc in
    record { fact = fact; says = ap only_fact same ∙ says; makes = makes }
change_in log entry records (FitsOffsets batch transactional says) is = absurd cc
change_in log entry records (FitsMarker marker) is = absurd cc

module _ (log : List Stored) (old : Notes) (stored : Stored) (next : ComesNext log old stored)
    (plain : IsPlain stored) where
  pub says_nothing : None ≡ only_fact stored.batch.records
      → IsFitting (entries log) (entry_of stored) → ⊥
  says_nothing none fits =
      let c = change_in (entries log) (entry_of stored) stored.batch.records fits plain in
      let h : None ≡ Some c.fact = none ∙ c.says in cc

  module _ (fact : Fact) (says : Some fact ≡ only_fact stored.batch.records) where
    one : IsOne stored.batch.records fact
    one = only_one stored.batch.records fact (sym says)

    pub makes_nothing : (MakesBy (standing_in old.members (group_in fact)) fact → ⊥)
        → IsFitting (entries log) (entry_of stored) → ⊥
    makes_nothing never fits =
        let c = change_in (entries log) (entry_of stored) stored.batch.records fits plain in
        let h : Some fact ≡ Some c.fact = says ∙ c.says in
        let same : c.fact ≡ fact = cc in
        never (made_by (entries log) (standing_in old.members) (kept_of old.commits)
        next.kept.follows fact (subst (Makes (entries log)) same c.makes))

    module _ (by : MakesBy (standing_in old.members (group_in fact)) fact) where
      pub makes : Makes (entries log) fact
      makes =
          makes_here (entries log) (standing_in old.members) (kept_of old.commits)
          next.kept.follows fact by

      entry_is : entry_of stored ≡ Plain (one.record_is ∷ [])
      entry_is = plain ∙ ap Plain one.one

      pub change_fits : IsFitting (entries log) (entry_of stored)
      change_fits =
          subst (IsFitting (entries log)) (sym entry_is)
          (FitsChange one.record_is fact one.says makes)

      pub change_kept : (members : Groups)
          → ((group : List ℕ) → standing_in members group
          ≡ after fact group (standing_in old.members group))
          → IsKept (log ++ stored ∷ []) (record { members = members; commits = old.commits })
      change_kept members noted = record {
        groups = WithBatch log stored next.kept.groups change_fits;
        follows = subst (λ l. Follows l (standing_in members) (kept_of old.commits))
            (sym (entries-push log stored (Plain (one.record_is ∷ [])) entry_is))
            (same_follows (entries log ++ Plain (one.record_is ∷ []) ∷ [])
            (λ group. after fact group (standing_in old.members group)) (standing_in members)
            (kept_of old.commits) (kept_of old.commits)
            (change_follows (entries log) (standing_in old.members) (kept_of old.commits)
            one.record_is fact next.kept.follows one.says makes) noted
            (same_again (kept_of old.commits)));
      }

------ offsets

offsets_in : (log : List Entry) (entry : Entry) (batch : Sequenced) → IsFitting log entry
    → entry ≡ Data batch
    → (batch.transactional ≡ true)
    × AllByRecursion (λ r. is_offset (fact_of r) ≡ true) batch.records
offsets_in log entry batch (FitsChange r fact says makes) is = absurd cc
offsets_in log entry batch (FitsOffsets other transactional says) is =
    let same : other ≡ batch = cc in (
      ap (λ (b : Sequenced). b.transactional) (sym same) ∙ transactional,
      subst (λ (b : Sequenced). AllByRecursion (λ r. is_offset (fact_of r) ≡ true) b.records) same
          says,
    )
offsets_in log entry batch (FitsMarker marker) is = absurd cc

module _ (log : List Stored) (old : Notes) (stored : Stored) (next : ComesNext log old stored)
    (id : ℕ) (data_of : IsDataOf log id stored) where
  pub outside : is_transactional stored.batch ≡ false
      → IsFitting (entries log) (entry_of stored) → ⊥
  outside e fits =
      let o = offsets_in (entries log) (entry_of stored) data_of.batch fits data_of.entry_is in
      let h : true ≡ false = sym o.0 ∙ data_of.transactional_is ∙ e in cc

  pub no_offsets : (AllByRecursion (λ r. is_offset (fact_of r) ≡ true) stored.batch.records → ⊥)
      → IsFitting (entries log) (entry_of stored) → ⊥
  no_offsets never fits =
      let o = offsets_in (entries log) (entry_of stored) data_of.batch fits data_of.entry_is in
      never (subst (λ records. AllByRecursion (λ r. is_offset (fact_of r) ≡ true) records)
      data_of.records_are o.1)

  -- so many more offsets may wait
  pub may_wait : (reserved : Table) → SameKept (kept_of reserved) (kept_of old.commits)
      → MayWait (kept_of reserved) (length stored.batch.records)
  may_wait reserved same =
      subst (λ kept. MayWait kept (length stored.batch.records))
      (sym (kept_is (kept_of reserved) (kept_of old.commits) same)) (record {
        few = λ group partition. omega (
          arith,
          next.room,
          pending_within group partition (kept_of old.commits) (entries log)
              next.kept.follows.offsets,
        );
      })

  module _ (transactional : is_transactional stored.batch ≡ true)
      (says : AllByRecursion (λ r. is_offset (fact_of r) ≡ true) stored.batch.records) where
    own_says : AllByRecursion (λ r. is_offset (fact_of r) ≡ true) data_of.batch.records
    own_says = subst (λ records. AllByRecursion (λ r. is_offset (fact_of r) ≡ true) records)
        (sym data_of.records_are) says

    pub offsets_fit : IsFitting (entries log) (entry_of stored)
    offsets_fit =
        subst (IsFitting (entries log)) (sym data_of.entry_is)
        (FitsOffsets data_of.batch (data_of.transactional_is ∙ transactional) own_says)

    pub offsets_kept : (commits : Table) (at : ℕ) (records : List Record)
        → at ≡ end (entries log) → records ≡ stored.batch.records
        → SameKept (kept_of commits) (noted_all id (said_of at records) (kept_of old.commits))
        → IsKept (log ++ stored ∷ []) (record { members = old.members; commits = commits })
    offsets_kept commits at records place are same = record {
      groups = WithBatch log stored next.kept.groups offsets_fit;
      follows = subst (λ l. Follows l (standing_in old.members) (kept_of commits))
          (sym (entries-push log stored (Data data_of.batch) data_of.entry_is))
          (same_follows (entries log ++ Data data_of.batch ∷ []) (standing_in old.members)
          (standing_in old.members)
          (noted_all data_of.batch.id (said_of (end (entries log)) data_of.batch.records)
          (kept_of old.commits)) (kept_of commits)
          (offsets_follow (entries log) (standing_in old.members) (kept_of old.commits) true
          data_of.batch next.kept.follows data_of.next (data_of.transactional_is ∙ transactional)
          own_says) (λ group. refl)
          (subst (SameKept (kept_of commits)) (λ i. noted_all (sym data_of.id_is i)
          (said_of (place i) ((are ∙ sym data_of.records_are) i)) (kept_of old.commits)) same));
    }

------ the end of a transaction

module _ (log : List Stored) (old : Notes) (stored : Stored) (next : ComesNext log old stored)
    (id : ℕ) (outcome : Outcome) (end_of : IsEndOf log id outcome stored) where
  pub end_kept : (commits : Table)
      → SameKept (kept_of commits) (ended id outcome (kept_of old.commits))
      → IsKept (log ++ stored ∷ []) (record { members = old.members; commits = commits })
  end_kept commits same = record {
    groups = WithBatch log stored next.kept.groups
        (subst (IsFitting (entries log)) (sym end_of.entry_is) (FitsMarker end_of.marker));
    follows = subst (λ l. Follows l (standing_in old.members) (kept_of commits))
        (sym (entries-push log stored (Control end_of.marker) end_of.entry_is))
        (same_follows (entries log ++ Control end_of.marker ∷ []) (standing_in old.members)
        (standing_in old.members)
        (ended end_of.marker.id end_of.marker.outcome (kept_of old.commits)) (kept_of commits)
        (marker_follows log (standing_in old.members) (kept_of old.commits) end_of.marker
        next.kept.groups next.kept.follows next.grown end_of.next) (λ group. refl)
        (subst (SameKept (kept_of commits)) (λ i. ended (sym end_of.id_is i)
        (sym end_of.outcome_is i) (kept_of old.commits)) same));
  }
