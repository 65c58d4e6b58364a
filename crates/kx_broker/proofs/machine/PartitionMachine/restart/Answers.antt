use Rattle.kx_broker.specs.Serving.{GoesTo, IsServed, Restarts, Serving}
use Rattle.kx_broker.specs.declared.restart.Restarted.TheVariants as restarted
use Rattle.std.proofs.Common.{subst, sym}
use Rattle.std.specs.Int.{w64}
use Rattle.std.specs.Prelude.{MatchResult}
use lib.Signed.{lt_z}
use mir.Val.{of_z, to_z}
use Rattle.kx_broker.proofs.Opening.{found_by, restarts, unread_by}
use Rattle.kx_broker.proofs.Served.{restarts_seen, serving}
use Rattle.kx_laws.specs.Grown.{IsGrown}
use Rattle.kx_broker.proofs.machine.PartitionMachine.restart.Goals as goal

pub returns-in-Ok : goal.returns-in-Ok
returns-in-Ok g c = λ number p is.
    let inside = c.self.inside in
    let old = serving inside.number inside.partition inside.guard in
    let new = serving inside.number c.install-before.new.self c.new.result in
    let content = c.in-Ok.content in
    let longer = lt_z (to_z w64 (of_z w64 c.end-end.result)) (to_z w64 (of_z w64 c.end.result)) in
    let found = found_by c.end-end.result c.end.result inside.partition.batches content
    c.end-end.ensures.log c.end.ensures.log c.end-end.ensures.value c.end.ensures.value in
    restarts_seen (IsServed number) p old c.args.self.now new (restarted.Read longer)
    c.self.view_is
    (λ stands. subst (λ parked. Restarts (IsServed number) p old
    (serving inside.number c.install-before.new.self parked) (restarted.Read longer))
    (sym c.new.ensures)
    (restarts IsGrown (λ log grown. grown) (GoesTo number) number p old stands content
    c.reload.new.self c.install-before.new.self longer c.in-Ok.ensures c.install-before.ensures.new
    found)) is

pub returns-in-Err : goal.returns-in-Err
returns-in-Err g c = λ number p is.
    let inside = c.self.inside in
    let old = serving inside.number inside.partition inside.guard in
    let new = serving inside.number c.reload.new.self inside.guard in
    let stands : IsServed number p old =
    subst (λ (o : Serving). IsServed number p o) (sym c.self.view_is) is in
    subst (λ (o : Serving). MatchResult c.unread_after.result
    (Restarts (IsServed number) p o new) (λ refused. IsServed number p new)) c.self.view_is
    (unread_by IsGrown (λ log grown. grown) (GoesTo number) number p old stands
    c.reload.new.self c.in-Err.fault c.unread_after.result c.unread_after.ensures c.in-Err.ensures)
