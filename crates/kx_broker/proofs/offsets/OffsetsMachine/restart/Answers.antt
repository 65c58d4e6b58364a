use Rattle.std.proofs.Common.{◌∙◌, ap, subst, sym}
use Rattle.std.specs.Int.{w64}
use Rattle.std.specs.Prelude.{MatchResult, nat_lt}
use lib.Signed.{lt_z}
use mir.Val.{of_z, to_z}
use Rattle.kx_broker.specs.Offsets.{CommitsAt0, IsOffsetsLog, KeepsOffsets}
use Rattle.kx_broker.specs.Serving.{Restarts, Serving}
use Rattle.kx_broker.specs.declared.restart.Restarted.TheVariants as restarted
use Rattle.kx_broker.proofs.Opening.{found_by, restarts}
use Rattle.kx_broker.proofs.OffsetsOpening.{closed_by}
use Rattle.kx_broker.proofs.Served.{restarts_seen, serving}
use Rattle.kx_log.specs.LogState.{LogState}
use Rattle.kx_message.specs.Ranges.{offsets_partition}
use Rattle.kx_model.specs.Log.{end, entries}
use Rattle.kx_broker.proofs.offsets.OffsetsMachine.restart.Goals as goal

pub returns-in-Err : goal.returns-in-Err
returns-in-Err g c = λ p is.
    let inside = c.self.inside in
    let old = serving offsets_partition inside.groups inside.parked in
    let new = serving offsets_partition c.reload.new.self inside.parked in
    let stands = subst (λ (o : Serving). KeepsOffsets p o) (sym c.self.view_is) is in
    subst (λ (o : Serving). MatchResult c.unread_after.result
    (Restarts KeepsOffsets p o new) (λ refused. KeepsOffsets p new)) c.self.view_is
    (closed_by p old stands c.reload.new.self c.in-Err.fault c.unread_after.result
    c.unread_after.ensures c.in-Err.ensures)

pub returns-in-Ok : goal.returns-in-Ok
returns-in-Ok g c = λ p is.
    let inside = c.self.inside in
    let between = c.reload.new.self in
    let after = c.install-before.new.self in
    let old = serving offsets_partition inside.groups inside.parked in
    let new = serving offsets_partition after c.new.result in
    let content = c.in-Ok.content in
    let longer = lt_z (to_z w64 (of_z w64 c.end_of-before.result))
    (to_z w64 (of_z w64 c.end_of.result)) in
    let installed = c.install-before.ensures.new in
    let found = found_by c.end_of-before.result c.end_of.result inside.groups.batches after.batches
    c.end_of-before.ensures.kept.placed c.end_of.ensures.kept.placed c.end_of-before.ensures.value
    c.end_of.ensures.value
    ∙ ap (λ (l : LogState). nat_lt (end (entries inside.groups.batches)) (end (entries l.batches)))
    installed in
    restarts_seen KeepsOffsets p old c.args.self.now new (restarted.Read longer) c.self.view_is
    (λ stands. subst (λ parked. Restarts KeepsOffsets p old
    (serving offsets_partition after parked) (restarted.Read longer)) (sym c.new.ensures)
    (restarts IsOffsetsLog (λ log fits. fits.grown) CommitsAt0 offsets_partition p old stands
    content between after longer c.in-Ok.ensures.reloads installed found)) is
