use Rattle.kx_serve.proofs.Coordinators.{stepped}
use Rattle.kx_serve.proofs.tracing.restarted.Goals as goal

pub returns-in-Ok-clause-stands : goal.returns-in-Ok-clause-stands
returns-in-Ok-clause-stands g c = λ it.
    stepped c.args.machine c.record-taken.new.self _ c.in-Ok.taken c.in-Ok.ensures.step it
