use Rattle.std.proofs.Common.{◌∙◌, ap, subst, sym, Err}
use Rattle.std.proofs.Common.{Result}
use Rattle.std.specs.Prelude.{take}
use Rattle.std.proofs.lemmas.Result.{err_from_is_err_and}
use Rattle.kx_stream.specs.Sending.{Written}
use Rattle.kx_stream.specs.declared.fault.StreamFault.{StreamFault}
use Rattle.kx_stream.proofs.Rows.{split_at}
use Rattle.kx_stream.proofs.Writing.{sends_fail}
use Rattle.kx_stream.proofs.sending.send_all.Goals as goal

pub returns-in_err-send : goal.returns-in_err-send
returns-in_err-send g c =
    let all = c.args.messages.now in
    let old = g.W.Write.contents c.args.writer.now in
    let new = g.W.Write.contents c.send.new.writer in
    let p = err_from_is_err_and c.from_residual.result c.from_residual.ensures.1 in
    let parts = split_at all c.loop-at.at c.index-messages-at.result c.loop-at-test.true
    c.index-messages-at.is in
    subst (λ (r : Result (Unit {0}) StreamFault). Written all old new r) (sym (p.1 ∙ ap Err p.2))
    (sends_fail old (g.W.Write.contents c.loop-at.writer) new all (take c.loop-at.at all)
    c.index-messages-at.result _ c.in_err-send.field-0.0 c.loop-at.invariant c.in_err-send.ensures
    parts.1)
