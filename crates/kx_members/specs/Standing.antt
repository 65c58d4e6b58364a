-- What is kept of consumer groups (Kafka's protocol guide, "JoinGroup", "LeaveGroup"), what one
-- more record of a group's membership changes, and what becomes of a request by it.
use Rattle.std.specs.Prelude.{ℕ, ◌+◌, Bool, not, List, [], ◌∷◌, ◌++◌, filter, ◌==◌, bytes_eq}
use Rattle.std.specs.Prelude.{if◌then◌else◌, length, nat_le, nat_lt}
use Rattle.std.specs.List.{list_any}
use Rattle.kx_message.specs.declared.code.ErrorCode.TheVariants.{KafkaStorageError}
use Rattle.kx_message.specs.declared.code.ErrorCode.TheVariants.{UnknownMemberId}
use Rattle.kx_model.specs.Groups.{Fact, Offset, Joined, Left, Dropped, Membership, Already}
use Rattle.kx_model.specs.Groups.{Refuses, Changes, greatest_generation, member_limit}

-- how often a group's membership has changed, its members in joining order, and those that left or
-- were dropped, in the order in which they went
pub record Standing : Type 0 where
  pub generation : ℕ
  pub members : List ℕ
  pub gone : List ℕ

-- of a group of which nothing is known
abbrev pub unknown : Standing
unknown = record { generation = 0; members = []; gone = [] }

-- with one more member
abbrev pub joined : ℕ → Standing → Standing
joined member standing = record {
  generation = standing.generation + 1;
  members = standing.members ++ member ∷ [];
  gone = standing.gone;
}

-- with a member that left, or was dropped
abbrev pub went : ℕ → Standing → Standing
went member standing = record {
  generation = standing.generation + 1;
  members = filter (λ m. not (m == member)) standing.members;
  gone = standing.gone ++ member ∷ [];
}

-- how a group stands after one more fact
abbrev pub after : Fact → List ℕ → Standing → Standing
after (Offset g partition offset) group standing = standing
after (Joined g member) group standing =
    if bytes_eq g group then joined member standing else standing
after (Left g member) group standing =
    if bytes_eq g group then went member standing else standing
after (Dropped g member) group standing =
    if bytes_eq g group then went member standing else standing

------ what becomes of a request

abbrev pub is_among : ℕ → List ℕ → Bool
is_among member members = list_any (λ m. m == member) members

-- the membership changes, if there is a generation for it
abbrev pub changes_by : Standing → Fact → Membership
changes_by standing fact =
    if nat_lt standing.generation greatest_generation then Changes fact
    else Refuses KafkaStorageError

abbrev pub join_verdict : Standing → List ℕ → ℕ → Membership
join_verdict standing group member =
    if is_among member standing.members then Already
    else if is_among member standing.gone then Refuses UnknownMemberId
    else if nat_le member_limit (length standing.members) then Refuses UnknownMemberId
    else changes_by standing (Joined group member)

abbrev pub leave_verdict : Standing → List ℕ → ℕ → Membership
leave_verdict standing group member =
    if is_among member standing.members then changes_by standing (Left group member)
    else Refuses UnknownMemberId

abbrev pub drop_verdict : Standing → List ℕ → ℕ → Membership
drop_verdict standing group member =
    if is_among member standing.members then changes_by standing (Dropped group member)
    else Refuses UnknownMemberId
