-- The steps that are recorded of a server whose clients are outside.
use Rattle.std.specs.Prelude.{◌≡◌, ℕ, Bool, false, List, ◌++◌, length, if◌then◌else◌}
use Rattle.kx_machine.specs.declared.input.Input.{Input}
use Rattle.kx_machine.specs.declared.input.Input.TheVariants.{Deliver}
use Rattle.kx_outside.specs.Requests.{arrives}
use Rattle.kx_page.specs.declared.run.Step.{Step}

-- so many more steps
abbrev pub AddsSteps : ℕ → List Step → List Step → Type 0
AddsSteps count old new = (steps : List Step) × (length steps ≡ count) × (new ≡ old ++ steps)

-- a client outside sends what the node takes
abbrev pub is_outside : Input → Bool
is_outside (Deliver message) = arrives message
is_outside _ = false

-- the step of the node, and before it that of a client outside, if it sends what the node takes
abbrev pub steps_of : Input → ℕ
steps_of input = if is_outside input then 2 else 1
