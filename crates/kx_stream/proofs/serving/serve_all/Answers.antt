use Rattle.std.proofs.Common.{◌∙◌, ap, subst, sym, List, Err}
use Rattle.std.proofs.Common.{Result}
use Rattle.std.specs.Prelude.{take}
use Rattle.std.proofs.lemmas.Result.{err_from_is_err_and}
use Rattle.kx_message.specs.declared.message.Message.{Message}
use Rattle.kx_stream.specs.Stream.{AllServed}
use Rattle.kx_stream.specs.declared.fault.StreamFault.{StreamFault}
use Rattle.kx_stream.proofs.Rows.{Far, far_all, far_fails, far_more, far_none, split_at, taken_all}
use Rattle.kx_stream.proofs.serving.serve_all.Goals as goal

pub loop-at-init : goal.loop-at-init
loop-at-init g c =
    far_none g.M.Machine.stands g.M.Machine.allows c.args.machine.now
    (g.W.Write.contents c.args.writer.now)

pub returns-in_err-serve_one : goal.returns-in_err-serve_one
returns-in_err-serve_one g c =
    let all = c.args.messages.now in
    let old = g.W.Write.contents c.args.writer.now in
    let new = g.W.Write.contents c.serve_one.new.writer in
    let p = err_from_is_err_and c.from_residual.result c.from_residual.ensures.1 in
    let parts = split_at all c.loop-at.at c.index-messages-at.result c.loop-at-test.true
    c.index-messages-at.is in
    subst (λ (r : Result (Unit {0}) StreamFault). AllServed g.M.Machine.stands g.M.Machine.allows
    all c.args.machine.now c.serve_one.new.machine old new r) (sym (p.1 ∙ ap Err p.2))
    (far_fails g.M.Machine.stands g.M.Machine.allows c.args.machine.now c.loop-at.machine
    c.serve_one.new.machine old (g.W.Write.contents c.loop-at.writer) new all
    (take c.loop-at.at all) c.index-messages-at.result _ c.in_err-serve_one.field-0.0
    c.loop-at.invariant c.in_err-serve_one.ensures parts.1)

pub loop-at-preserved : goal.loop-at-preserved
loop-at-preserved g c =
    let all = c.args.messages.now in
    let old = g.W.Write.contents c.args.writer.now in
    let new = g.W.Write.contents c.serve_one.new.writer in
    let parts = split_at all c.loop-at.at c.index-messages-at.result c.loop-at-test.true
    c.index-messages-at.is in
    subst (λ (l : List Message). Far g.M.Machine.stands g.M.Machine.allows l c.args.machine.now
    c.serve_one.new.machine old new) (sym parts.0)
    (far_more g.M.Machine.stands g.M.Machine.allows c.args.machine.now c.loop-at.machine
    c.serve_one.new.machine old (g.W.Write.contents c.loop-at.writer) new
    (take c.loop-at.at all) c.index-messages-at.result c.loop-at.invariant
    c.in_ok-serve_one.ensures)

pub returns : goal.returns
returns g c =
    let all = c.args.messages.now in
    let old = g.W.Write.contents c.args.writer.now in
    let new = g.W.Write.contents c.loop-at.writer in
    far_all g.M.Machine.stands g.M.Machine.allows c.args.machine.now c.loop-at.machine old new all
    (subst (λ (l : List Message). Far g.M.Machine.stands g.M.Machine.allows l c.args.machine.now
    c.loop-at.machine old new) (taken_all all c.loop-at.at c.loop-at-test.false)
    c.loop-at.invariant)
