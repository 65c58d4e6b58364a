-- What the steps that were made say of the whole system.
use Rattle.std.specs.Prelude.{◌≡◌, ℕ, List, slice_get, Some}
use Rattle.kx_audit.specs.Joined.{Passed}
use Rattle.kx_audit.specs.Making.{NodeMaking}
use Rattle.kx_audit.specs.Nodes.{node_in}
use Rattle.kx_audit.specs.Run.{IsOpenSchedule}
use Rattle.kx_follow.specs.Following.{Followed, Following, arrived_in, name_of, trails_in}
use Rattle.kx_machine.specs.Meaning.{NodeState}
use Rattle.kx_system.specs.System.{System}

-- the system's node of this one's name is one for which its machine stands
pub record EndsSo {B M : Type 0} (making : B → NodeMaking) (stands : NodeState → M → Type 0)
    (s : System) (n : Followed B M) : Type 0 where
  pub node : NodeState
  pub there : node_in s (name_of making n) ≡ Some node
  pub stands_so : stands node n.machine

-- the requests that the steps take in arrive, and then the steps happen: an open schedule, which
-- keeps the promises that need no trust in clients, and leads to the nodes for which the machines
-- stand
pub record IsWholeRun {B M : Type 0} (making : B → NodeMaking) (stands : NodeState → M → Type 0)
    (history : List Passed) (f : Following B M) (s : System) : Type 0 where
  pub schedule : IsOpenSchedule (arrived_in history) (trails_in making history f.nodes) history s
  pub ends : (k : ℕ) (n : Followed B M) → slice_get f.nodes k ≡ Some n → EndsSo making stands s n
