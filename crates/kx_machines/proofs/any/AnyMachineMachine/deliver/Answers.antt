use Rattle.kx_machines.proofs.Allowing.{broker_takes_so, takes_so}
use Rattle.kx_model.specs.Step.{Comes}
use Rattle.kx_machines.proofs.any.AnyMachineMachine.deliver.Goals as goal

pub returns-in-Client : goal.returns-in-Client
returns-in-Client g c = λ state.
    takes_so c.args.self.now c.in-Client.machine c.deliver-in-Client.new.self c.in-Client.is
    g.F.Process.image_of state (Comes c.args.message.now) c.deliver-in-Client.result
    (c.deliver-in-Client.ensures state)

pub returns-in-Broker : goal.returns-in-Broker
returns-in-Broker g c = λ state.
    broker_takes_so c.args.self.now c.in-Broker.machine c.deliver.new.self c.in-Broker.is
    g.F.Process.image_of state (Comes c.args.message.now) c.deliver.result (c.deliver.ensures state)
