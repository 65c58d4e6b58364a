use Rattle.std.proofs.Common.{◌∙◌}
use Rattle.kx_text.proofs.Performing.{holds_at_ok}
use Rattle.kx_script.proofs.Carrying.{happens_so, lost_so}
use Rattle.kx_script.proofs.session.happen.Goals as goal

pub returns-in-Err : goal.returns-in-Err
returns-in-Err g c = λ s st event m.
    lost_so s _ _ (g.W.Write.contents c.args.writer.now) (g.W.Write.contents c.lose.new.writer)
    (c.in-Err.ensures.step s.system st.0, c.happen.ensures.marks ∙ st.1)
    c.in_ok-lose-in-Err.ensures

pub returns : goal.returns
returns g c = λ s st event m.
    happens_so s event c.args.read.now _ c.happen.new.self.marks c.in-Ok.happened
    c.sent-first.result (g.W.Write.contents c.args.writer.now)
    (g.W.Write.contents c.write_step.new.writer) m (c.in-Ok.ensures.step s.system st.0)
    (c.happen.ensures.marks ∙ st.1) c.settle.ensures (c.sent-first.ensures s.system st.0)
    (λ w k. holds_at_ok c.write_step.result c.in_ok-written.ensures (c.write_step.ensures w k))
