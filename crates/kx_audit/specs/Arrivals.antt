-- The requests of clients outside, which have arrived before all steps of the traces.
use Rattle.std.specs.Prelude.{List, [], ◌∷◌, if◌then◌else◌}
use Rattle.std.specs.List.{flat_map}
use Rattle.kx_audit.specs.declared.clients.Clients.{Clients}
use Rattle.kx_audit.specs.declared.clients.Clients.TheVariants as clients
use Rattle.kx_machine.specs.declared.input.Input.{Input}
use Rattle.kx_machine.specs.declared.input.Input.TheVariants as input
use Rattle.kx_message.specs.declared.message.Message.{Message}
use Rattle.kx_nodes.specs.Replay.{Traced}
use Rattle.kx_nodes.specs.declared.trace.Step.{Step}
use Rattle.kx_outside.specs.Requests.{arrives}

-- the request that is taken in, if one can arrive from outside
abbrev pub requested : Input → List Message
requested (input.Deliver message) = if arrives message then message ∷ [] else []
requested other = []

abbrev pub requests_in : List Step → List Message
requests_in steps = flat_map (λ step. requested step.input) steps

-- all that the traces take in
abbrev pub requests_of : {B : Type 0} → List (Traced B) → List Message
requests_of traces = flat_map (λ t. requests_in t.steps) traces

-- what has arrived, by whose the clients are
abbrev pub arrivals : {B : Type 0} → Clients → List (Traced B) → List Message
arrivals clients.Inside traces = []
arrivals clients.Outside traces = requests_of traces
