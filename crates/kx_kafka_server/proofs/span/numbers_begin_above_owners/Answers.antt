use Rattle.kx_kafka_server.proofs.Above.{begin_above}
use Rattle.kx_kafka_server.proofs.span.numbers_begin_above_owners.Goals as goal

pub returns : goal.returns
returns c = begin_above
