use Rattle.std.proofs.Common.{◌∙◌, ap, length}
use Rattle.kx_broker.specs.Offsets.{KeepsOffsets}
use Rattle.kx_broker.specs.Serving.{told_each}
use Rattle.kx_broker.proofs.OffsetsMessages.{commits_resumed}
use Rattle.kx_broker.proofs.OffsetsParked.{resumed_as}
use Rattle.kx_broker.proofs.Resuming.{resumed_each}
use Rattle.kx_broker.proofs.Served.{as_seen, serving}
use Rattle.kx_message.specs.Ranges.{offsets_partition}
use Rattle.kx_message.specs.declared.code.ErrorCode.TheVariants.{NoError}
use Rattle.kx_model.specs.PartitionNode.{on_add_reply}
use Rattle.kx_broker.proofs.offsets.OffsetsMachine.resume.Goals as goal

pub tell-replies-requires-clause-same : goal.tell-replies-requires-clause-same
tell-replies-requires-clause-same g c =
    ap length c.as_slice.ensures.value
    ∙ resumed_each c.of_held-requests.result.now c.self.inside.groups c.resume.new.self
    c.in_ok-answers.answers.items
    (resumed_as c.of_held-requests.result.now c.self.inside.groups c.resume.new.self
    c.in_ok-answers.answers.items c.of_held-requests.ensures.alike
    c.in_ok-answers.ensures.answers)

pub returns-clause-ok : goal.returns-clause-ok
returns-clause-ok g c = λ p is.
    let inside = c.self.inside in
    let old = serving offsets_partition inside.groups inside.parked in
    let new = serving offsets_partition c.resume.new.self c.forget.new.self in
    let held = c.args.held.now in
    let requests = c.of_held-requests.result.now in
    let answers = c.in_ok-answers.answers.items in
    as_seen KeepsOffsets p old c.args.self.now new
    (λ store. on_add_reply offsets_partition p store held NoError) (told_each requests answers)
    c.from_vec.result c.self.view_is
    (c.from_vec.ensures ∙ c.tell-replies.ensures
    ∙ ap (told_each requests) c.as_slice.ensures.value)
    (λ stands. commits_resumed p old stands held c.forget.new.self c.forget.ensures requests
    c.resume.new.self answers c.end_of-end.ensures.kept c.of_held-requests.ensures.value
    (resumed_as requests inside.groups c.resume.new.self answers c.of_held-requests.ensures.alike
    c.in_ok-answers.ensures.answers)) is
