use Rattle.std.proofs.Common.{◌∷◌, []}
use Rattle.kx_broker.specs.Offsets.{KeepsOffsets}
use Rattle.kx_broker.proofs.OffsetsMessages.{left_as}
use Rattle.kx_broker.proofs.Served.{as_seen, serving}
use Rattle.kx_message.specs.Messages as the
use Rattle.kx_message.specs.Ranges.{offsets_partition}
use Rattle.kx_message.specs.declared.message.Message.TheVariants as msg
use Rattle.kx_model.specs.PartitionNode.{offsets_takes}
use Rattle.kx_broker.proofs.offsets.OffsetsMachine.leave.Goals as goal

pub returns-clause-ok : goal.returns-clause-ok
returns-clause-ok g c = λ p is.
    let inside = c.self.inside in
    let it = c.args.it.now in
    let old = serving offsets_partition inside.groups inside.parked in
    let new = serving offsets_partition c.leave.new.self inside.parked in
    as_seen KeepsOffsets p old c.args.self.now new
    (λ store. offsets_takes p store (msg.Leave it))
    (the.LeaveReply it.caller c.in_ok-code.code ∷ []) c.one.result c.self.view_is c.one.ensures
    (λ stands. left_as p old stands c.end_of-end.ensures.kept it.group c.member_fits.ensures.name
    it.caller c.leave.new.self c.in_ok-code.code c.member_fits.ensures.number
    c.in_ok-code.ensures.answer) is
