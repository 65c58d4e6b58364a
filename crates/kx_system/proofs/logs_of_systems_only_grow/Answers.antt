use Rattle.std.proofs.Common.{subst}
use Rattle.kx_model.specs.Disk.{GrowsTo}
use Rattle.kx_model.specs.World.{World, log_at, notes}
use Rattle.kx_model.proofs.Schedules.{notes_grow, partitions_grow}
use Rattle.kx_system.specs.Events.{schedule_of}
use Rattle.kx_system.proofs.SystemWorlds.{schedule_follows}
use Rattle.kx_system.proofs.logs_of_systems_only_grow.Goals as goal

pub returns-clause-notes : goal.returns-clause-notes
returns-clause-notes c = λ events s.
    subst (λ (w : World). GrowsTo (notes s.world) (notes w)) (schedule_follows events s)
    (notes_grow (schedule_of events s) s.world)

pub returns-clause-partitions : goal.returns-clause-partitions
returns-clause-partitions c = λ events s q.
    subst (λ (w : World). GrowsTo (log_at s.world q) (log_at w q)) (schedule_follows events s)
    (partitions_grow (schedule_of events s) s.world q)
