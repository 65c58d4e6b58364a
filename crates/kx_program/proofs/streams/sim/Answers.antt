use Rattle.std.proofs.Common.{Err, inl}
use Rattle.std.specs.Io.Buffered.{writer_contents}
use Rattle.kx_script.specs.Script.{EndsFlushed}
use Rattle.kx_program.proofs.Ending.{ran_so}
use Rattle.kx_program.proofs.streams.sim.Goals as goal

pub returns-in-Err : goal.returns-in-Err
returns-in-Err g c =
    let old = writer_contents g.O.Write.contents c.args.out.now in
    let new = writer_contents g.O.Write.contents c.run_told-ran.new.out in
    record {
      ends = ran_so _ (λ script r. EndsFlushed script old new r) (Err c.in-Err.fault) _
          c.in-Err.ensures.ends c.failed.ensures;
      flushed = inl c.failed.ensures;
    }

pub returns-in-Ok-clause-ends : goal.returns-in-Ok-clause-ends
returns-in-Ok-clause-ends g c =
    let old = writer_contents g.O.Write.contents c.args.out.now in
    let new = writer_contents g.O.Write.contents c.run_told-ran.new.out in
    ran_so _ (λ script r. EndsFlushed script old new r) c.run_told-ran.result _
    c.run_told-ran.ensures.ends c.of.ensures
