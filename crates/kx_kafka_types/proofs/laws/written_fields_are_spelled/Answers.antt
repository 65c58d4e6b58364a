use Rattle.kx_kafka_types.proofs.Onto.{onto_is}
use Rattle.kx_kafka_types.proofs.Written.{written}
use Rattle.kx_kafka_types.proofs.laws.written_fields_are_spelled.Goals as goal

pub returns-clause-spelled : goal.returns-clause-spelled
returns-clause-spelled c = written

pub returns-clause-appended : goal.returns-clause-appended
returns-clause-appended c = onto_is
