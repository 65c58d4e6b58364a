use Rattle.std.proofs.Common.{◌∙◌, ap}
use Rattle.kx_client_node.specs.Clients.{state_of}
use Rattle.kx_client_node.proofs.any_client.AnyClientMachine.take.Goals as goal

pub returns-in-Plain : goal.returns-in-Plain
returns-in-Plain g c = λ state is.
    c.take.ensures state (is ∙ ap (state_of g.F.Process.image_of) c.in-Plain.is)

pub returns-in-Processor : goal.returns-in-Processor
returns-in-Processor g c = λ state is.
    c.take-in-Processor.ensures state
    (is ∙ ap (state_of g.F.Process.image_of) c.in-Processor.is)
