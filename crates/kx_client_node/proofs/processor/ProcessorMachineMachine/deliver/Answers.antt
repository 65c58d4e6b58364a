use Rattle.std.proofs.Common.{◌≡◌, sym, subst}
use Rattle.kx_machine.specs.Meaning.{AtProcessor, IsTaken}
use Rattle.kx_model.specs.Step.{Comes}
use Rattle.kx_processor.specs.Running.{processor_of}
use Rattle.kx_client_node.specs.Clients.{any_store}
use Rattle.kx_client_node.proofs.Turns.{answered, delivered}
use Rattle.kx_client_node.proofs.processor.ProcessorMachineMachine.deliver.Goals as goal

pub returns : goal.returns
returns g c =
    let of = processor_of g.P.Process.image_of in
    λ state stands.
    subst (λ s. IsTaken s (Comes c.args.message.now) any_store
    (λ after. after ≡ AtProcessor (of c.deliver.new.self)) c.answer.result) (sym stands)
    (delivered (of c.args.self.now) (of c.deliver.new.self) c.args.message.now c.answer.result
    c.in_ok-deliver.ensures.answer
    (answered c.none-none.result c.answer.result c.none-none.ensures c.answer.ensures))
