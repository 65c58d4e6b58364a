use Rattle.std.proofs.Common.{◌≡◌, sym, subst}
use Rattle.kx_machine.specs.Meaning.{AtProcessor, IsTaken, input_of}
use Rattle.kx_processor.specs.Running.{processor_of}
use Rattle.kx_client_node.specs.Clients.{any_store}
use Rattle.kx_client_node.proofs.Turns.{answered, delivered, rests}
use Rattle.kx_client_node.proofs.processor.ProcessorMachine.take.Goals as goal

pub returns-in_ok-deliver-in-Deliver-clause-answer : goal.returns-in_ok-deliver-in-Deliver-clause-answer
returns-in_ok-deliver-in-Deliver-clause-answer g c =
    let of = processor_of g.P.Process.image_of in
    subst (λ given. IsTaken (AtProcessor (of c.args.self.now)) (input_of given) any_store
    (λ state. state ≡ AtProcessor (of c.deliver.new.self)) c.answer-in-Deliver.result)
    (sym c.in-Deliver.is)
    (delivered (of c.args.self.now) (of c.deliver.new.self) c.in-Deliver.message
    c.answer-in-Deliver.result c.in_ok-deliver-in-Deliver.ensures.answer
    (answered c.none-none-in-Deliver.result c.answer-in-Deliver.result
    c.none-none-in-Deliver.ensures c.answer-in-Deliver.ensures))

pub returns-in-Expire-clause-answer : goal.returns-in-Expire-clause-answer
returns-in-Expire-clause-answer g c =
    rests (processor_of g.P.Process.image_of c.args.self.now) c.args.input.now
    c.answer-in-Expire.result c.in-Expire.is
    (answered c.none-none-in-Expire.result c.answer-in-Expire.result
    c.none-none-in-Expire.ensures c.answer-in-Expire.ensures)
