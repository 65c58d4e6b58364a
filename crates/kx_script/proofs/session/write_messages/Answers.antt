use Rattle.std.proofs.Common.{◌<◌, ℕ, List, length, sym, subst, arith}
use Rattle.std.specs.Prelude.{OnOk}
use Rattle.std.specs.Io.KnownBytes.{Appends}
use Rattle.kx_script.proofs.Lines.{some_more}
use Rattle.kx_script.proofs.session.write_messages.Goals as goal

pub returns : goal.returns
returns g c = λ s st.
    let old = g.W.Write.contents c.args.writer.now in
    let new = g.W.Write.contents c.write_lines.new.writer in
    let first = c.args.first in
    let some : first < length s.world.sent = omega (arith, c.sent.ensures s st) in
    subst (λ (t : List ℕ). OnOk c.write_lines.result (Appends old new t))
    (sym (some_more first first c.args.from.now s.world.sent some)) (c.write_lines.ensures s st)
