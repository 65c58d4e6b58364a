use Rattle.std.proofs.Common.{Err, inl}
use Rattle.kx_program.proofs.streams.dump.Goals as goal

pub returns-in-Err : goal.returns-in-Err
returns-in-Err g c = record {
  ends = (Err c.in-Err.fault, c.in-Err.ensures.written, c.dump_fault.ensures);
  flushed = inl c.dump_fault.ensures;
}
