use Rattle.std.proofs.Common.{subst}
use Rattle.kx_machine.specs.Meaning.{node_step}
use Rattle.kx_machines.specs.Brokers.{broker_stands}
use Rattle.kx_model.specs.Disk.{Store}
use Rattle.kx_model.specs.Step.{Restarts}
use Rattle.kx_server_audit.proofs.logs.restart.Goals as goal

pub returns-in-Ok : goal.returns-in-Ok
returns-in-Ok c = λ state stands.
    let taken = c.in-Ok.ensures state (c.prepare.ensures.stands state stands) in
    subst (λ (s : Store). broker_stands (node_step state s (Restarts 0)).state c.take-taken.new.self)
    (c.prepare.ensures.allows _ taken.store taken.allowed) taken.stands
