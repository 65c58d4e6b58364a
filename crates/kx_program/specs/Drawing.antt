-- The rows of a page of a server.
use Rattle.std.specs.Prelude.{ℕ, List}
use Rattle.std.specs.List.{sum_by}
use Rattle.kx_trace_audit.specs.declared.peek.ToldStep.{ToldStep}
use Rattle.kx_watch.specs.Steps.{steps_of}

-- one for each step of a node, and one for each request that a client outside sent
abbrev pub rows_of : List ToldStep → ℕ
rows_of steps = sum_by (λ s. steps_of s.input) steps
