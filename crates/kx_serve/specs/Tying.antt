-- How traces go with logs.
use Rattle.std.specs.Prelude.{ℕ, Bool, ◌||◌, ◌==◌, List, bytes_eq, if◌then◌else◌, length, not}
use Rattle.kx_serve.specs.declared.tying.Tie.{Tie}
use Rattle.kx_serve.specs.declared.tying.Tie.TheVariants as tie

-- by whether there are traces, and by the marks of both, of which an empty one is none
abbrev pub tie_of : Bool → List ℕ → List ℕ → Tie
tie_of has_traces traces logs =
    if not has_traces || length logs == 0 then tie.Untied
    else if bytes_eq traces logs then tie.Same
    else tie.Other
