-- The numbers of the faults (the Kafka protocol guide, "Error Codes").
use Rattle.std.specs.Prelude.{ℕ}
use Rattle.kx_membership.specs.declared.fault.GroupFault.{GroupFault}
use Rattle.kx_membership.specs.declared.fault.GroupFault.TheVariants as fault

abbrev pub number_of : GroupFault → ℕ
number_of fault.Memory = 15
number_of fault.IllegalGeneration = 22
number_of fault.InconsistentProtocol = 23
number_of fault.UnknownMember = 25
number_of fault.InvalidSessionTimeout = 26
number_of fault.RebalanceInProgress = 27
number_of fault.GroupFull = 81
