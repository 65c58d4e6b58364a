use Rattle.std.proofs.Common.{ℕ, List, subst}
use Rattle.std.specs.Io.Buffered.{writer_contents}
use Rattle.kx_program.specs.Program.{DumpsBytes}
use Rattle.kx_program.proofs.streams.dump_read.Goals as goal

pub returns-in-Ok-clause-ends : goal.returns-in-Ok-clause-ends
returns-in-Ok-clause-ends g c =
    let old = writer_contents g.O.Write.contents c.args.out.now in
    let new = writer_contents g.O.Write.contents c.dump.new.out in
    rw c.in-Ok.is (subst (λ (bytes : List ℕ). DumpsBytes bytes old new c.dump.result)
    c.as_slice.ensures.value c.dump.ensures.ends)
