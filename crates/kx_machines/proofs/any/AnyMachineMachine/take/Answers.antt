use Rattle.kx_machines.proofs.Allowing.{broker_takes_so, takes_so}
use Rattle.kx_machine.specs.Meaning.{input_of}
use Rattle.kx_machines.proofs.any.AnyMachineMachine.take.Goals as goal

pub returns-in-Client : goal.returns-in-Client
returns-in-Client g c = λ state.
    takes_so c.args.self.now c.in-Client.machine c.take-in-Client.new.self c.in-Client.is
    g.F.Process.image_of state (input_of c.args.input.now) c.take-in-Client.result
    (c.take-in-Client.ensures state)

pub returns-in-Broker : goal.returns-in-Broker
returns-in-Broker g c = λ state.
    broker_takes_so c.args.self.now c.in-Broker.machine c.take.new.self c.in-Broker.is
    g.F.Process.image_of state (input_of c.args.input.now) c.take.result (c.take.ensures state)
