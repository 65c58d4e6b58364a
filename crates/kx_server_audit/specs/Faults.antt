-- The numbers of faults.
use Rattle.std.specs.Prelude.{ℕ}
use Rattle.kx_server_audit.specs.declared.fault.AuditFault.{AuditFault}
use Rattle.kx_server_audit.specs.declared.fault.AuditFault.TheVariants as fault

abbrev pub fault_number : AuditFault → ℕ
fault_number fault.NoTraces = 1
fault_number (fault.Read file) = 2
fault_number (fault.NoTrace file) = 3
fault_number (fault.Version file) = 4
fault_number fault.Write = 5
fault_number fault.Memory = 6
fault_number (fault.Later file) = 7
