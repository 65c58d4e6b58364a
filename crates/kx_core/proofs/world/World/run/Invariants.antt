use Rattle.std.proofs.Common.{◌≡◌, false}
use Rattle.std.specs.Prelude.{take}
use Rattle.std.specs.List.{list_any}
use Rattle.kx_core.specs.World.{IsRun, Runs, is_arrival}
use Rattle.kx_system.specs.System.{System}
use Rattle.kx_core.proofs.world.World.run.Given as goal

abbrev pub invariant-loop-at : goal.invariant-loop-at
invariant-loop-at g l =
    record {
      runs : (s : System)
          → IsRun g.C.Machine.stands g.P.Machine.stands g.O.Machine.stands g.F.Process.image_of
          l.initial.self s
          → Runs g.F.Process.image_of (IsRun g.C.Machine.stands g.P.Machine.stands
          g.O.Machine.stands g.F.Process.image_of l.self) s (take l.at l.events);
      arrived : list_any is_arrival (take l.at l.events) ≡ false
          → l.self.arrived ≡ l.initial.self.arrived;
    }
