use Rattle.std.proofs.Common.{◌≡◌}
use Rattle.std.specs.Slice.Iter.{chunks_rest, chunks_size}
use Rattle.kx_text.specs.Dump.{hex_of}
use Rattle.kx_text.proofs.Writes.{IsBegun}
use Rattle.kx_text.proofs.dump.write_hex.Given as goal

abbrev pub invariant-loop-part : goal.invariant-loop-part
invariant-loop-part g l =
    (chunks_size l.part-iterator ≡ 64) × (goal.iterator-loop-part g).is_finite l.part-iterator
    × IsBegun (g.W.Write.contents l.fn.writer) (g.W.Write.contents l.writer)
    (hex_of (chunks_rest l.part-iterator)) (hex_of l.bytes)
