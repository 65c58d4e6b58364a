use Rattle.std.proofs.Common.{◌∙◌}
use Rattle.kx_broker.specs.Offsets.{KeepsOffsets}
use Rattle.kx_broker.proofs.OffsetsMessages.{commits_refused}
use Rattle.kx_broker.proofs.Served.{as_seen, serving}
use Rattle.kx_message.specs.Ranges.{offsets_partition}
use Rattle.kx_model.specs.PartitionNode.{on_add_reply}
use Rattle.kx_broker.proofs.offsets.OffsetsMachine.refuse_parked.Goals as goal

pub returns-clause-ok : goal.returns-clause-ok
returns-clause-ok g c = λ p is.
    let inside = c.self.inside in
    let old = serving offsets_partition inside.groups inside.parked in
    let new = serving offsets_partition inside.groups c.forget.new.self in
    let held = c.args.held.now in
    as_seen KeepsOffsets p old c.args.self.now new
    (λ store. on_add_reply offsets_partition p store held c.args.code) _ c.from_vec.result
    c.self.view_is (c.from_vec.ensures ∙ c.pass_on-replies.ensures)
    (λ stands. commits_refused p old stands held c.forget.new.self c.forget.ensures c.args.code
    c.of_held-requests.result.now c.requires c.of_held-requests.ensures.value) is
