-- The numbers of faults.
use Rattle.std.specs.Prelude.{ℕ}
use Rattle.kx_publishing.specs.declared.fault.PublishFault.{PublishFault}
use Rattle.kx_publishing.specs.declared.fault.PublishFault.TheVariants as fault

abbrev pub publish_number : PublishFault → ℕ
publish_number fault.Memory = 1
publish_number fault.NoReader = 3
