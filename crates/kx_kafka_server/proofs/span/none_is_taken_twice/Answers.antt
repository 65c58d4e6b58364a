use Rattle.kx_kafka_server.proofs.Unused.{none_twice}
use Rattle.kx_kafka_server.proofs.span.none_is_taken_twice.Goals as goal

pub returns : goal.returns
returns c = none_twice
