-- The numbers of faults.
use Rattle.std.specs.Prelude.{ℕ}
use Rattle.kx_server.specs.declared.fault.ServerFault.{ServerFault}
use Rattle.kx_server.specs.declared.fault.ServerFault.TheVariants as fault

abbrev pub server_fault_number : ServerFault → ℕ
server_fault_number (fault.Net port why) = 1
server_fault_number fault.Write = 2
server_fault_number fault.Memory = 4
