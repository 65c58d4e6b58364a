use Rattle.std.proofs.Common.{map, string_bytes, subst}
use Rattle.std.specs.Io.Buffered.{writer_contents}
use Rattle.kx_program.specs.Program.{DoesWords}
use Rattle.kx_program.proofs.program.run.Goals as goal

pub returns-in-Ok : goal.returns-in-Ok
returns-in-Ok g c =
    let old = writer_contents g.O.Write.contents c.args.out.now in
    let new = writer_contents g.O.Write.contents c.do_words.new.out in
    rw c.in-Ok.is (subst (λ words. DoesWords (map string_bytes words) c.args.is_watched
    (g.I.Read.remaining c.args.input.now) old new c.do_words.result) c.as_slice.ensures.value
    c.do_words.ensures)
