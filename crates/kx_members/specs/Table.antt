-- What is kept of consumer groups in a table, and what a change of members comes to.
use Rattle.std.specs.Prelude.{◌≡◌, ◌<◌, ℕ, Bool, false, List, bytes_eq, unwrap_or}
use Rattle.std.specs.Map.{lookup}
use Rattle.kx_members.specs.Standing.{Standing, is_among, unknown}
use Rattle.kx_members.specs.declared.membership.Membership.{Membership}
use Rattle.kx_members.specs.declared.membership.Membership.TheVariants as answer
use Rattle.kx_model.specs.Groups as model
use Rattle.kx_model.specs.Groups.{Fact, Offset, Joined, Left, Dropped, greatest_generation}
use Rattle.kx_offsets.specs.Facts.{defined}

-- a group's standing, and whether one more change can be noted without asking for memory
pub record GroupState : Type 0 where
  pub standing : Standing
  pub has_room : Bool

abbrev pub unknown_group : GroupState
unknown_group = record { standing = unknown; has_room = false }

-- each group by its name
abbrev pub Table : Type 0
Table = List (List ℕ × GroupState)

abbrev pub state_in : Table → List ℕ → GroupState
state_in table group = unwrap_or (lookup (bytes_eq group) table) unknown_group

abbrev pub standing_in : Table → List ℕ → Standing
standing_in table group = (state_in table group).standing

abbrev pub has_room : Table → List ℕ → Bool
has_room table group = (state_in table group).has_room

-- the answer as the rules have it
abbrev pub verdict_of : Membership → model.Membership
verdict_of answer.Already = model.Already
verdict_of (answer.Refused code) = model.Refuses code
verdict_of (answer.Changes change) = model.Changes (defined change)

-- the group that a fact speaks of
abbrev pub group_in : Fact → List ℕ
group_in (Offset group partition offset) = group
group_in (Joined group member) = group
group_in (Left group member) = group
group_in (Dropped group member) = group

-- a change of a group's members can be noted: there is a generation for it, and its client hasn't
-- gone before
abbrev pub CanNote : Standing → Fact → Type 0
CanNote standing (Offset group partition offset) = Unit {0}
CanNote standing (Joined group member) = standing.generation < greatest_generation
CanNote standing (Left group member) =
    (standing.generation < greatest_generation) × (is_among member standing.gone ≡ false)
CanNote standing (Dropped group member) =
    (standing.generation < greatest_generation) × (is_among member standing.gone ≡ false)
