-- A change of members that is appended.
use Rattle.std.proofs.Common.{◌≡◌, ℕ, Bool, true, false, cond, List, [], ◌∷◌, ◌++◌}
use Rattle.std.proofs.Common.{refl, sym, ap, ◌∙◌, subst}
use Rattle.kx_commits.specs.Kept.{Kept}
use Rattle.kx_commits.specs.Table.{kept_of}
use Rattle.kx_members.specs.Follows.{Makes}
use Rattle.kx_members.specs.Standing.{Standing, after, drop_verdict, join_verdict, leave_verdict}
use Rattle.kx_members.specs.Table.{Table, group_in, standing_in, verdict_of}
use Rattle.kx_members.specs.declared.membership.Membership.{Membership as Answer}
use Rattle.kx_members.proofs.Standings.{drop_same, join_same, leave_same}
use Rattle.kx_message.specs.declared.code.ErrorCode.TheVariants.{KafkaStorageError, UnknownMemberId}
use Rattle.kx_model.specs.Groups.{Fact, Joined, Left, Dropped, Already, Changes, Membership}
use Rattle.kx_model.specs.Groups.{Refuses, changes, generation, greatest_generation, has_gone}
use Rattle.kx_model.specs.Groups.{is_member, judge_drop, judge_join, judge_leave, member_limit}
use Rattle.kx_model.specs.Groups.{members, membership_text}
use Rattle.kx_model.specs.Log.{Entry, Stored, end, entries}
use Rattle.kx_model.specs.Produce.{stored_at}
use Rattle.kx_offsets.specs.Facts.{FactFits}
use Rattle.std.specs.Prelude.{nat_le, nat_lt, length}
use Rattle.kx_group.specs.Follows.{Follows}
use Rattle.kx_group.specs.Internal.Kept.{IsAsked, IsKept}
use Rattle.kx_group.specs.declared.notes.Notes.{Notes}
use Rattle.kx_group.proofs.Following.{stored_change_follows}
use Rattle.kx_group.proofs.Growing.{with_change}
use Rattle.kx_group.proofs.Same.{same_again, same_follows}

-- with the change noted, what is kept is that of the log with its batch
pub appended_change : (log : List Stored) (old : Notes) (fact : Fact) (members : Table)
    → IsKept log old → FactFits fact → Makes (entries log) fact
    → ((group : List ℕ) → standing_in members group
    ≡ after fact group (standing_in old.members group))
    → IsKept (log ++ stored_at (end (entries log)) (membership_text fact) ∷ [])
    (record { members = members; commits = old.commits })
appended_change log old fact members kept fits makes noted = record {
  groups = with_change log fact kept.groups fits makes;
  follows = same_follows
      (entries (log ++ stored_at (end (entries log)) (membership_text fact) ∷ []))
      (λ group. after fact group (standing_in old.members group)) (standing_in members)
      (kept_of old.commits) (kept_of old.commits)
      (stored_change_follows log (standing_in old.members) (kept_of old.commits) fact
      kept.follows fits makes) noted (same_again (kept_of old.commits));
}

------ which change a verdict makes

only_changes : (log : List Entry) (group : List ℕ) (some fact : Fact)
    → changes log group some ≡ Changes fact → fact ≡ some
only_changes log group some fact e = by (nat_lt (generation log group) greatest_generation) e
  where
    by : (has : Bool) → cond has (Changes some) (Refuses KafkaStorageError) ≡ Changes fact
        → fact ≡ some
    by true e = cc
    by false e = absurd cc

module _ (log : List Entry) (group : List ℕ) (member : ℕ) (fact : Fact) where
  pub joins_only : judge_join log group member ≡ Changes fact → fact ≡ Joined group member
  joins_only e =
      by (is_member log group member) (has_gone log group member)
      (nat_le member_limit (length (members log group))) e
    where
      by : (already gone full : Bool)
          → cond already Already (cond gone (Refuses UnknownMemberId)
          (cond full (Refuses UnknownMemberId) (changes log group (Joined group member))))
          ≡ Changes fact → fact ≡ Joined group member
      by true gone full e = absurd cc
      by false true full e = absurd cc
      by false false true e = absurd cc
      by false false false e = only_changes log group (Joined group member) fact e

  pub leaves_only : judge_leave log group member ≡ Changes fact → fact ≡ Left group member
  leaves_only e = by (is_member log group member) e
    where
      by : (here : Bool)
          → cond here (changes log group (Left group member)) (Refuses UnknownMemberId)
          ≡ Changes fact → fact ≡ Left group member
      by true e = only_changes log group (Left group member) fact e
      by false e = absurd cc

  pub drops_only : judge_drop log group member ≡ Changes fact → fact ≡ Dropped group member
  drops_only e = by (is_member log group member) e
    where
      by : (here : Bool)
          → cond here (changes log group (Dropped group member)) (Refuses UnknownMemberId)
          ≡ Changes fact → fact ≡ Dropped group member
      by true e = only_changes log group (Dropped group member) fact e
      by false e = absurd cc

------ a change that is asked for

module _ (log : List Entry) (standing : List ℕ → Standing) (kept : Kept)
    (follows : Follows log standing kept) (change : Answer) (group : List ℕ)
    (member : ℕ) where
  -- what it comes to can be but one change
  of_one : (judged : Membership) (one : Fact) → (judged ≡ Changes one → Makes log one)
      → group_in one ≡ group → ((fact : Fact) → judged ≡ Changes fact → fact ≡ one)
      → judged ≡ verdict_of change → IsAsked log change group
  of_one judged one made own only same = record {
    makes = λ fact e.
        let is = only fact (same ∙ e) in
        subst (Makes log) (sym is) (made (same ∙ e ∙ ap Changes is));
    of_group = λ fact e. ap group_in (only fact (same ∙ e)) ∙ own;
  }

  pub join_asked : verdict_of change ≡ join_verdict (standing group) group member
      → IsAsked log change group
  join_asked v =
      of_one (judge_join log group member) (Joined group member) (λ e. e) refl
      (joins_only log group member)
      (join_same standing log group member follows.members ∙ sym v)

  pub leave_asked : verdict_of change ≡ leave_verdict (standing group) group member
      → IsAsked log change group
  leave_asked v =
      of_one (judge_leave log group member) (Left group member) (λ e. e) refl
      (leaves_only log group member)
      (leave_same standing log group member follows.members ∙ sym v)

  pub drop_asked : verdict_of change ≡ drop_verdict (standing group) group member
      → IsAsked log change group
  drop_asked v =
      of_one (judge_drop log group member) (Dropped group member) (λ e. e) refl
      (drops_only log group member)
      (drop_same standing log group member follows.members ∙ sym v)
