use Rattle.std.proofs.Common.{ap, ◌∙◌, ◌++◌}
use Rattle.kx_stream.proofs.Writing.{sends_by}
use Rattle.kx_stream.proofs.sending.send.Goals as goal

pub returns : goal.returns
returns g c =
    let whole = ap (λ l. l ++ c.record_batches.result.now) c.as_slice.ensures.value
    ∙ ap (λ l. c.in_ok-head.head.items ++ l) c.record_batches.ensures
    ∙ c.in_ok-head.ensures.text in
    sends_by c.args.message.now (g.W.Write.contents c.args.writer.now)
    (g.W.Write.contents c.write_whole.new.writer) (g.W.Write.contents c.write_whole-2.new.writer)
    c.as_slice.result.now c.record_batches.result.now c.write_whole-2.result whole
    c.in_ok-write_whole.ensures c.write_whole-2.ensures
