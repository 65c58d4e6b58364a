use Rattle.std.proofs.Common.{Option, None, Ok, true, sym, ◌∙◌, subst}
use Rattle.kx_text.proofs.Performing.{holds_at_ok}
use Rattle.kx_script.specs.Running.{StandsIn}
use Rattle.kx_script.specs.Script.{Answered, begun}
use Rattle.kx_script.specs.declared.world.Running.{Running}
use Rattle.kx_script.proofs.Performing.{begins}
use Rattle.kx_script.proofs.script.begin.Goals as goal

pub returns : goal.returns
returns g c = λ state st.
    let old = g.W.Write.contents c.args.writer.now in
    let new = g.W.Write.contents c.write_dash.new.writer in
    subst (λ (kept : Option Running).
    Answered (StandsIn kept) (begun state c.args.count) None old new (Ok true))
    (sym c.replace.ensures.after)
    (begins c.args.running.now _ c.args.count old new
    (sym c.is_some.ensures ∙ c.if-is_some.false) c.in-Ok.ensures
    (holds_at_ok c.write_dash.result c.in_ok-written.ensures c.write_dash.ensures) state st)
