use Rattle.kx_serve.proofs.Named.{on_ok}
use Rattle.kx_serve.proofs.kafka.serve_kafka.Goals as goal

pub returns-clause-named : goal.returns-clause-named
returns-clause-named g c = on_ok _ _ c.in_ok-locks.ensures
