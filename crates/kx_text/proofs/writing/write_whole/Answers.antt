use Rattle.kx_text.proofs.Writes.{part_more}
use Rattle.kx_text.proofs.writing.write_whole.Goals as goal

pub loop-written-preserved : goal.loop-written-preserved
loop-written-preserved g c =
    part_more c.args.bytes.now c.loop-written.written c.in_ok-count.count
    (g.W.Write.contents c.args.writer.now) (g.W.Write.contents c.loop-written.writer)
    (g.W.Write.contents c.write_front.new.writer) c.loop-written.invariant
    c.in_ok-count.ensures.within c.in_ok-count.ensures.bytes
