use Rattle.std.proofs.Common.{List, subst, sym}
use Rattle.kx_core.specs.Local.{IsLocal}
use Rattle.kx_core.specs.World.{Runs}
use Rattle.kx_core.specs.declared.event.Event.{Event}
use Rattle.kx_message.specs.Ranges.{data_partitions}
use Rattle.kx_rerun.proofs.Happening.{runs_to}
use Rattle.kx_rerun.proofs.world.world_of.Goals as goal
use Rattle.kx_system.specs.System.{System, start_system}

pub returns-in-Ok : goal.returns-in-Ok
returns-in-Ok g c = λ given s yes.
    let image_of = g.F.Process.image_of in
    let lead = c.in_ok-events.ensures given s yes in
    let begun = start_system data_partitions in
    let Is : System → Type 0 = λ t. IsLocal image_of c.run.new.self t in
    subst Is (sym lead.is_run)
    (runs_to image_of Is begun c.in_ok-events.events.items lead.sure
    (subst (λ (l : List (Event _)). Runs image_of Is begun l) c.as_slice.ensures.value
    (c.in-Ok.ensures.run begun c.in_ok-world.ensures.stands)))
