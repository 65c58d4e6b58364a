use Rattle.std.proofs.Common.{subst, sym}
use Rattle.kx_broker.specs.Offsets.{DropsMember, KeepsOffsets}
use Rattle.kx_broker.specs.Serving.{Serving}
use Rattle.kx_broker.proofs.OffsetsMessages.{dropped_as}
use Rattle.kx_broker.proofs.Served.{serving}
use Rattle.kx_group.proofs.Answers.{if_ok}
use Rattle.kx_message.specs.Ranges.{offsets_partition}
use Rattle.kx_model.specs.Groups.{judge_drop}
use Rattle.kx_model.specs.PartitionNode.{changed, entries_of}
use Rattle.kx_broker.proofs.offsets.OffsetsMachine.drop_member.Goals as goal

pub returns-clause-ok : goal.returns-clause-ok
returns-clause-ok g c = λ p is.
    let inside = c.self.inside in
    let group = c.args.group in
    let member = c.args.member in
    let old = serving offsets_partition inside.groups inside.parked in
    let new = serving offsets_partition c.drop_member.new.self inside.parked in
    let stands = subst (λ (o : Serving). KeepsOffsets p o) (sym c.self.view_is) is in
    if_ok c.drop_member.result c.drop_member.ensures.answer
    (λ code h. subst (λ (o : Serving). DropsMember KeepsOffsets p o new
    (λ store. changed p store (judge_drop (entries_of p) group member)) code) c.self.view_is
    (dropped_as p old stands c.end_of-end.ensures.kept group c.member_fits.ensures.name member
    c.drop_member.new.self code c.member_fits.ensures.number h))
