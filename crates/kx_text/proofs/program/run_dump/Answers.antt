use Rattle.std.proofs.Common.{◌∙◌, Err, ap, inr}
use Rattle.std.proofs.lemmas.Result.{err_from_is_err_and}
use Rattle.std.specs.Io.Buffered.{writer_contents}
use Rattle.kx_text.proofs.Dumping.{dumps_kept}
use Rattle.kx_text.proofs.program.run_dump.Goals as goal

-- the flush failed
pub returns-in_err-flush-clause-written : goal.returns-in_err-flush-clause-written
returns-in_err-flush-clause-written g c =
    let contents = writer_contents g.W.Write.contents in
    let p = err_from_is_err_and c.from_residual.result c.from_residual.ensures.1 in
    inr (
      p.1 ∙ ap Err p.2,
      c.dump_batches-dumped.result,
      dumps_kept c.args.bytes.now (contents c.args.writer.now)
          (contents c.dump_batches-dumped.new.writer) (contents c.flush.new.self)
          c.dump_batches-dumped.result c.in_err-flush.ensures.bytes
          c.dump_batches-dumped.ensures.written,
    )
