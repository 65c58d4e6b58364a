-- Names of nodes as keys of hash tables, and traces that are found by them.
use Rattle.std.specs.Prelude.{◌≡◌, ℕ, Bool, List, slice_get, Some}
use Rattle.std.specs.Map.{lookup}
use Rattle.kx_audit.specs.Making.{NodeMaking}
use Rattle.kx_audit.specs.Replayed.{Progress, name_at}
use Rattle.kx_audit.specs.contracts.key.NodeKeyPartialEq.TheImpl as compared
use Rattle.kx_audit.specs.declared.key.NodeKey.{NodeKey}
use Rattle.kx_audit.specs.declared.key.NodeKey.TheVariants as key
use Rattle.kx_message.specs.declared.message.NodeId.{NodeId}
use Rattle.kx_message.specs.declared.message.NodeId.TheVariants as node

abbrev pub key_of : NodeId → NodeKey
key_of node.Coordinator = key.Coordinator
key_of (node.Partition number) = key.Partition number
key_of (node.Client number) = key.Client number

-- what `==` answers
abbrev pub same_key : NodeKey → NodeKey → Bool
same_key = (compared.ghosts).eq

-- by its node's name each trace is found
abbrev pub AreIndexed : {B M : Type 0} → (B → NodeMaking) → List (NodeKey × ℕ)
    → List (Progress B M) → Type 0
AreIndexed {B} {M} making places nodes = (k : ℕ) (p : Progress B M) → slice_get nodes k ≡ Some p
    → lookup (same_key (key_of (name_at making p))) places ≡ Some k
