use Rattle.kx_server_audit.specs.Denials.{IsLogDenied}
use Rattle.kx_server_audit.specs.Telling.{HaveLogs}
use Rattle.kx_server_audit.specs.declared.denial.Denial.{Denial}
use Rattle.kx_server_audit.proofs.folder.compare_logs.Given as goal

-- if the logs of the machines that are left are found too, all are; and one of these that is denied
-- is one of all
abbrev pub invariant-loop-machine : goal.invariant-loop-machine
invariant-loop-machine g l = record {
  found : HaveLogs (g.F.ServerFiles.left l.files) l.left l.machine-iterator.rest.items
      → HaveLogs (g.F.ServerFiles.left l.files) l.fn.of l.fn.machines.items;
  denied : (d : Denial) → IsLogDenied (g.F.ServerFiles.left l.files) l.machine-iterator.rest.items l.left d
      → IsLogDenied (g.F.ServerFiles.left l.files) l.fn.machines.items l.fn.of d;
}
