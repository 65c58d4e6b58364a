-- What is kept of groups follows their log, batch by batch.
use Rattle.std.proofs.Common.{◌≡◌, ℕ, pos, Bool, true, Option, Some, None, List, [], ◌∷◌, ◌++◌, map}
use Rattle.std.proofs.Common.{refl, sym, ap, ◌∙◌, subst}
use Rattle.std.specs.Prelude.{filter_map}
use Rattle.std.specs.List.{AllByRecursion, cons_option}
use Rattle.kx_batch.specs.Record.{Record}
use Rattle.kx_message.specs.declared.message.Held.{Held}
use Rattle.kx_message.specs.declared.payload.PartitionOffset.{PartitionOffset}
use Rattle.kx_commits.specs.Follows.{said_by, said_in}
use Rattle.kx_commits.specs.Kept.{Kept, Said, ended, noted_all, nothing}
use Rattle.kx_commits.proofs.Ending.{marker_stands}
use Rattle.kx_commits.proofs.Growing as commits
use Rattle.kx_laws.specs.Grown.{IsGrown}
use Rattle.kx_laws.proofs.StoredTexts.{judged_text}
use Rattle.kx_members.specs.Follows.{Makes, SaysOffset}
use Rattle.kx_members.specs.Standing.{Standing, after, unknown}
use Rattle.kx_members.proofs.Standings as members
use Rattle.kx_model.specs.Groups.{Fact, Offset, Joined, Left, Dropped, fact_of, membership_text}
use Rattle.kx_model.specs.Groups.{offsets_batch, record_of}
use Rattle.kx_model.specs.Log.{Control, Data, Entry, Marker, MarkerFits, Plain, Sequenced, Stored}
use Rattle.kx_model.specs.Log.{end, entries, entry_of}
use Rattle.kx_model.specs.Produce.{Appends, Next, judge, judge_entry, judge_marker, judge_text}
use Rattle.kx_model.specs.Produce.{stored_at, text_of}
use Rattle.kx_model.proofs.Logs.{entries-push}
use Rattle.kx_offsets.specs.Facts.{CommitFits, FactFits, offset_said}
use Rattle.kx_offsets.proofs.Commits.{commit_entry, commit_says}
use Rattle.kx_offsets.proofs.Saying.{said_again}
use Rattle.kx_group.specs.Follows.{Follows, said_at}
use Rattle.kx_group.specs.Log.{IsGroupLog, is_offset}
use Rattle.kx_group.proofs.Growing.{all_in_transactions}
use Rattle.kx_group.proofs.Texts.{commit_of, commit_says_offsets, stored_change, stored_commit}
use Rattle.kx_group.proofs.Texts.{stored_end}

------ what a batch says of members

offset_only : (said : Option Fact) (facts : List Fact) → is_offset said ≡ true
    → AllByRecursion SaysOffset facts → AllByRecursion SaysOffset (cons_option said facts)
offset_only None facts is all = absurd cc
offset_only (Some (Offset group partition offset)) facts is all = (tt, all)
offset_only (Some (Joined group member)) facts is all = absurd cc
offset_only (Some (Left group member)) facts is all = absurd cc
offset_only (Some (Dropped group member)) facts is all = absurd cc

pub offsets_only : (records : List Record)
    → AllByRecursion (λ r. is_offset (fact_of r) ≡ true) records
    → AllByRecursion SaysOffset (filter_map fact_of records)
offsets_only [] all = tt
offsets_only (r ∷ records) all =
    offset_only (fact_of r) (filter_map fact_of records) all.0 (offsets_only records all.1)

------ what a commit says of offsets

facts_said : (at : ℕ) (group : List ℕ) (offsets : List PartitionOffset)
    → filter_map (said_in at) (map (offset_said group) offsets) ≡ said_at at group offsets
facts_said at group [] = refl
facts_said at group (o ∷ offsets) =
    ap (λ (said : List Said).
    record { group = group; partition = o.partition; offset = o.offset; at = at } ∷ said)
    (facts_said at group offsets)

commit_said : (at : ℕ) (group : List ℕ) (held : Held) (first : ℕ) (offsets : List PartitionOffset)
    → CommitFits group held (pos first) offsets
    → said_by (record { offset = at; item = commit_of group held first offsets })
    ≡ said_at at group offsets
commit_said at group held first offsets fits =
    ap (filter_map (said_in at)) (commit_says group held (pos first) offsets fits)
    ∙ facts_said at group offsets

------ the empty log, and an entry that is read

pub nothing_follows : Follows [] (λ group. unknown) nothing
nothing_follows = record { members = members.nothing_stands; offsets = commits.nothing_stands }

pub change_follows : (log : List Entry) (standing : List ℕ → Standing) (kept : Kept)
    (r : Record) (fact : Fact) → Follows log standing kept → fact_of r ≡ Some fact
    → Makes log fact
    → Follows (log ++ Plain (r ∷ []) ∷ []) (λ group. after fact group (standing group)) kept
change_follows log standing kept r fact follows says makes = record {
  members = members.change_stands standing log (Plain (r ∷ [])) fact follows.members makes
      (ap (λ said. cons_option said []) says);
  offsets = commits.plain_stands kept log (r ∷ []) follows.offsets;
}

pub offsets_follow : (log : List Entry) (standing : List ℕ → Standing) (kept : Kept)
    (verified : Bool) (batch : Sequenced) → Follows log standing kept
    → judge log verified batch ≡ Next → batch.transactional ≡ true
    → AllByRecursion (λ r. is_offset (fact_of r) ≡ true) batch.records
    → Follows (log ++ Data batch ∷ []) standing
    (noted_all batch.id (said_by (record { offset = end log; item = batch })) kept)
offsets_follow log standing kept verified batch follows next transactional says = record {
  members = members.others_stand standing log (Data batch) follows.members
      (offsets_only batch.records says);
  offsets = commits.batch_stands kept log verified batch next transactional follows.offsets;
}

pub marker_follows : (log : List Stored) (standing : List ℕ → Standing) (kept : Kept)
    (marker : Marker) → IsGroupLog log → Follows (entries log) standing kept → IsGrown log
    → judge_marker (entries log) marker ≡ Appends
    → Follows (entries log ++ Control marker ∷ []) standing (ended marker.id marker.outcome kept)
marker_follows log standing kept marker groups follows grown appends = record {
  members = members.others_stand standing (entries log) (Control marker) follows.members tt;
  offsets = marker_stands kept log marker follows.offsets grown (all_in_transactions log groups)
      appends;
}

------ a batch that is appended

follows_stored : (log : List Stored) (stored : Stored) (entry : Entry)
    (standing : List ℕ → Standing) (kept : Kept) → entry_of stored ≡ entry
    → Follows (entries log ++ entry ∷ []) standing kept
    → Follows (entries (log ++ stored ∷ [])) standing kept
follows_stored log stored entry standing kept is follows =
    subst (λ l. Follows l standing kept) (sym (entries-push log stored entry is)) follows

pub stored_change_follows : (log : List Stored) (standing : List ℕ → Standing) (kept : Kept)
    (fact : Fact) → Follows (entries log) standing kept → FactFits fact → Makes (entries log) fact
    → Follows (entries (log ++ stored_at (end (entries log)) (membership_text fact) ∷ []))
    (λ group. after fact group (standing group)) kept
stored_change_follows log standing kept fact follows fits makes =
    follows_stored log _ _ (λ group. after fact group (standing group)) kept
    (stored_change (end (entries log)) fact fits)
    (change_follows (entries log) standing kept (record_of 0 fact) fact follows
    (said_again 0 fact fits) makes)

pub stored_commit_follows : (log : List Stored) (standing : List ℕ → Standing) (kept : Kept)
    (verified : Bool) (group : List ℕ) (held : Held) (first : ℕ) (offsets : List PartitionOffset)
    → Follows (entries log) standing kept → CommitFits group held (pos first) offsets
    → judge_text (entries log) verified (offsets_batch group held (pos first) offsets) ≡ Next
    → Follows (entries (log ++ stored_at (end (entries log))
    (offsets_batch group held (pos first) offsets) ∷ [])) standing
    (noted_all held.id (said_at (end (entries log)) group offsets) kept)
stored_commit_follows log standing kept verified group held first offsets follows fits next =
    let batch = commit_of group held first offsets in
    let text = offsets_batch group held (pos first) offsets in
    let judged : judge (entries log) verified batch ≡ Next =
    ap (judge_entry (entries log) verified) (sym (commit_entry group held first offsets fits))
    ∙ (judged_text (entries log) verified text next).judged in
    let is = stored_commit group held first offsets fits (end (entries log)) in
    follows_stored log _ _ standing _ is
    (subst (λ said. Follows (entries log ++ Data batch ∷ []) standing (noted_all held.id said kept))
    (commit_said (end (entries log)) group held first offsets fits)
    (offsets_follow (entries log) standing kept verified batch follows judged refl
    (commit_says_offsets group held first offsets fits)))

pub stored_marker_follows : (log : List Stored) (standing : List ℕ → Standing) (kept : Kept)
    (marker : Marker) → IsGroupLog log → Follows (entries log) standing kept → IsGrown log
    → MarkerFits marker → judge_marker (entries log) marker ≡ Appends
    → Follows (entries (log ++ stored_at (end (entries log)) (text_of marker) ∷ [])) standing
    (ended marker.id marker.outcome kept)
stored_marker_follows log standing kept marker groups follows grown fits appends =
    follows_stored log _ _ standing _ (stored_end (end (entries log)) marker fits)
    (marker_follows log standing kept marker groups follows grown appends)
