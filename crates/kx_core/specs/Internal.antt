-- What the world's parts say to one another.
use Rattle.std.specs.Prelude.{◌≡◌, ◌+◌, ℕ, Bool, true, false, List, [], ◌∷◌}
use Rattle.std.specs.Prelude.{length, slice_get, Some}
use Rattle.kx_broker.specs.Serving.{Serving, StandsFor}
use Rattle.kx_core.specs.declared.sent.Handed.{Handed}
use Rattle.kx_machine.specs.Meaning.{AtPartition}
use Rattle.kx_machine.specs.declared.input.Input.{Input}
use Rattle.kx_machine.specs.declared.input.Input.TheVariants as input
use Rattle.kx_model.specs.PartitionNode.{empty_partition}

-- each step has the number of its first message, from this one on, and this comes next
abbrev pub AreNumbered : ℕ → List Handed → ℕ → Type 0
AreNumbered low [] next = low ≡ next
AreNumbered low (step ∷ steps) next =
    (step.first ≡ low) × AreNumbered (low + length step.messages) steps next

-- a message comes
abbrev pub is_message : Input → Bool
is_message (input.Deliver message) = true
is_message other = false

-- servers of data partitions in the order of their numbers, with empty logs
pub record AreServers (servers : List Serving) : Type 0 where
  pub each : (number : ℕ) (server : Serving) → slice_get servers number ≡ Some server
      → StandsFor (AtPartition number empty_partition) server
