-- The numbers of the faults of requests and responses.
use Rattle.std.specs.Prelude.{ℕ}
use Rattle.kx_kafka_types.specs.declared.fault.KafkaFault.{KafkaFault}
use Rattle.kx_kafka_types.specs.declared.fault.KafkaFault.TheVariants as fault

abbrev pub number_of : KafkaFault → ℕ
number_of fault.Short = 1
number_of fault.TooLong = 2
number_of fault.Key = 3
number_of fault.Version = 4
number_of fault.Field = 5
number_of fault.Memory = 6
