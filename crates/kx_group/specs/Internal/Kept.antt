-- What is kept of groups beside the offsets partition's log, and by what a change of members is
-- judged.
use Rattle.std.specs.Prelude.{◌≡◌, ℕ, ℤ, pos, not, List, Option, Some, None, if◌then◌else◌}
use Rattle.std.specs.Ordering.{int_eq}
use Rattle.kx_commits.specs.Kept.{SameKept}
use Rattle.kx_commits.specs.Table.{kept_of}
use Rattle.kx_members.specs.Follows.{Makes}
use Rattle.kx_members.specs.Standing.{Standing, drop_verdict, is_among, join_verdict}
use Rattle.kx_members.specs.Standing.{leave_verdict}
use Rattle.kx_members.specs.Table.{group_in, standing_in, verdict_of}
use Rattle.kx_members.specs.declared.membership.Membership.{Membership}
use Rattle.kx_message.specs.declared.code.ErrorCode.{ErrorCode}
use Rattle.kx_message.specs.declared.code.ErrorCode.TheVariants.{IllegalGeneration}
use Rattle.kx_message.specs.declared.code.ErrorCode.TheVariants.{UnknownMemberId}
use Rattle.kx_model.specs.Groups.{Fact, Offset, Joined, Left, Dropped, Changes}
use Rattle.kx_model.specs.Log.{Entry, Stored, entries}
use Rattle.kx_group.specs.Follows.{Follows}
use Rattle.kx_group.specs.Log.{IsGroupLog}
use Rattle.kx_group.specs.declared.notes.Notes.{Notes}

-- a log as groups grew it, and what is kept beside it
pub record IsKept (log : List Stored) (notes : Notes) : Type 0 where
  pub groups : IsGroupLog log
  pub follows : Follows (entries log) (standing_in notes.members) (kept_of notes.commits)

-- but for the room that is made, the same is kept
pub record SameNotes (old new : Notes) : Type 0 where
  pub members : (group : List ℕ)
      → standing_in new.members group ≡ standing_in old.members group
  pub commits : SameKept (kept_of new.commits) (kept_of old.commits)

-- a change that is asked for is of this group's members, and is made behind this log if it is to
-- be appended
pub record IsAsked (log : List Entry) (change : Membership) (group : List ℕ) : Type 0 where
  pub makes : (fact : Fact) → verdict_of change ≡ Changes fact → Makes log fact
  pub of_group : (fact : Fact) → verdict_of change ≡ Changes fact → group_in fact ≡ group

-- a change of members is made, by how its group stands
abbrev pub MakesBy : Standing → Fact → Type 0
MakesBy standing (Offset group partition offset) = ⊥
MakesBy standing (Joined group member) =
    join_verdict standing group member ≡ Changes (Joined group member)
MakesBy standing (Left group member) =
    leave_verdict standing group member ≡ Changes (Left group member)
MakesBy standing (Dropped group member) =
    drop_verdict standing group member ≡ Changes (Dropped group member)

-- why a client's offsets aren't looked at, by how its group stands
abbrev pub refusal_by : Standing → ℕ → ℤ → Option ErrorCode
refusal_by standing member named =
    if not (is_among member standing.members) then Some UnknownMemberId
    else if not (int_eq named (pos standing.generation)) then Some IllegalGeneration
    else None
