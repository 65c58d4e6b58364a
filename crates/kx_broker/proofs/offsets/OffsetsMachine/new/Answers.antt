use Rattle.std.proofs.Common.{subst, sym}
use Rattle.kx_broker.specs.Offsets.{CommitsAt0, IsOffsetsLog, KeepsOffsets}
use Rattle.kx_broker.proofs.Opening.{made_server, opened_server}
use Rattle.kx_broker.proofs.Served.{serving}
use Rattle.kx_log.specs.LogState.{LogState, Opens}
use Rattle.kx_message.specs.Ranges.{offsets_partition}
use Rattle.kx_broker.proofs.offsets.OffsetsMachine.new.Goals as goal

pub returns-in-Ok-open-clause-opened : goal.returns-in-Ok-open-clause-opened
returns-in-Ok-open-clause-opened g c =
    let store = g.S.Store.state c.args.store in
    let groups = c.in-Ok-open.groups in
    let kept = c.end_of-end.ensures.kept in
    opened_server IsOffsetsLog CommitsAt0 offsets_partition store groups c.new.result
    (subst (λ (l : LogState). Opens store l) (sym c.in-Ok-open.ensures.same) c.in-Ok.ensures.opens)
    kept.placed kept.fits c.new.ensures

pub returns-in-Ok-open-clause-made : goal.returns-in-Ok-open-clause-made
returns-in-Ok-open-clause-made g c = λ empty.
    let store = g.S.Store.state c.args.store in
    let groups = c.in-Ok-open.groups in
    made_server KeepsOffsets store groups (serving offsets_partition groups c.new.result)
    (subst (λ (l : LogState). Opens store l) (sym c.in-Ok-open.ensures.same) c.in-Ok.ensures.opens)
    empty (returns-in-Ok-open-clause-opened g c)
