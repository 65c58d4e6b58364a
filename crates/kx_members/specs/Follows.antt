-- How what is kept of consumer groups follows the offsets partition's log.
use Rattle.std.specs.Prelude.{◌≡◌, ℕ, List, Option, None, filter_map, bytes_eq}
use Rattle.kx_message.specs.Values.{where_true}
use Rattle.kx_model.specs.Groups.{Fact, Offset, Joined, Left, Dropped, Changes}
use Rattle.kx_model.specs.Groups.{facts, generation, judge_drop, judge_join, judge_leave, members}
use Rattle.kx_model.specs.Log.{Entry}
use Rattle.kx_members.specs.Standing.{Standing}

-- a member that leaves this group, or is dropped
abbrev pub gone_from : List ℕ → Fact → Option ℕ
gone_from group (Offset g partition offset) = None
gone_from group (Joined g member) = None
gone_from group (Left g member) = where_true (bytes_eq g group) member
gone_from group (Dropped g member) = where_true (bytes_eq g group) member

-- how a group stands by the log
abbrev pub standing : List Entry → List ℕ → Standing
standing log group = record {
  generation = generation log group;
  members = members log group;
  gone = filter_map (gone_from group) (facts log);
}

-- what is kept of each group is how it stands by the log
pub record StandsFor (kept : List ℕ → Standing) (log : List Entry) : Type 0 where
  pub stands : (group : List ℕ) → kept group ≡ standing log group

-- a change of membership that is made behind this log
abbrev pub Makes : List Entry → Fact → Type 0
Makes log (Offset group partition offset) = ⊥
Makes log (Joined group member) = judge_join log group member ≡ Changes (Joined group member)
Makes log (Left group member) = judge_leave log group member ≡ Changes (Left group member)
Makes log (Dropped group member) = judge_drop log group member ≡ Changes (Dropped group member)

-- it says nothing of a membership
abbrev pub SaysOffset : Fact → Type 0
SaysOffset (Offset group partition offset) = Unit {0}
SaysOffset (Joined group member) = ⊥
SaysOffset (Left group member) = ⊥
SaysOffset (Dropped group member) = ⊥
