use Rattle.std.proofs.Common.{◌∷◌, [], subst, rules}
use Rattle.std.specs.Int.{w32}
use Rattle.std.specs.Int.RustNames.{FitsSigned}
use Rattle.std.proofs.lemmas.Int.{to_z-of_z}
use Rattle.kx_broker.specs.Offsets.{KeepsOffsets}
use Rattle.kx_broker.proofs.OffsetsMessages.{marked_as}
use Rattle.kx_broker.proofs.Served.{as_seen, serving}
use Rattle.kx_message.specs.Messages as the
use Rattle.kx_message.specs.Ranges.{offsets_partition}
use Rattle.kx_model.specs.Log.{MarkerFits}
use Rattle.kx_model.specs.PartitionNode.{marker_of, on_marker}
use Rattle.kx_partition.specs.Answer.{IsMarked}
use Rattle.kx_broker.proofs.offsets.OffsetsMachine.mark.Goals as goal

pub returns-clause-ok : goal.returns-clause-ok
returns-clause-ok g c = λ p is.
    let inside = c.self.inside in
    let it = c.args.it.now in
    let m = marker_of it.held it.coordinator_epoch it.outcome in
    let fits : MarkerFits m = search rules in
    let epoch : FitsSigned w32 it.coordinator_epoch = search rules in
    let answer = subst (λ z. IsMarked (marker_of it.held z it.outcome) inside.groups
    c.marker.new.self c.in_ok-code.code) (to_z-of_z w32 it.coordinator_epoch epoch)
    c.in_ok-code.ensures.answer in
    let old = serving offsets_partition inside.groups inside.parked in
    let new = serving offsets_partition c.marker.new.self inside.parked in
    as_seen KeepsOffsets p old c.args.self.now new
    (λ store. on_marker offsets_partition p store it.txn it.held m)
    (the.MarkerReply offsets_partition it.txn it.held c.in_ok-code.code ∷ []) c.one.result
    c.self.view_is c.one.ensures
    (λ stands. marked_as p old stands c.end_of-end.ensures.kept it.txn it.held m c.marker.new.self
    c.in_ok-code.code fits answer) is
