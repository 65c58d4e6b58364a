-- How what is kept of consumer groups, their members and their offsets, follows the offsets
-- partition's log.
use Rattle.std.specs.Prelude.{ℕ, List, map}
use Rattle.kx_message.specs.declared.payload.PartitionOffset.{PartitionOffset}
use Rattle.kx_commits.specs.Follows as commits
use Rattle.kx_commits.specs.Kept.{Kept, Said}
use Rattle.kx_members.specs.Follows as members
use Rattle.kx_members.specs.Standing.{Standing}
use Rattle.kx_model.specs.Log.{Entry}

-- what is kept of each group's members, and of the offsets, is that of the log
pub record Follows (log : List Entry) (standing : List ℕ → Standing) (kept : Kept) : Type 0 where
  pub members : members.StandsFor standing log
  pub offsets : commits.StandsFor kept log

-- the offsets that a commit of a group says, in a batch at this offset of the log
abbrev pub said_at : ℕ → List ℕ → List PartitionOffset → List Said
said_at at group offsets = map (λ o. record {
  group = group;
  partition = o.partition;
  offset = o.offset;
  at = at;
}) offsets
