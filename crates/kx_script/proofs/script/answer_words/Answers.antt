use Rattle.std.proofs.Common.{Option, Some, subst}
use Rattle.kx_script.specs.Running.{StandsIn}
use Rattle.kx_script.specs.declared.world.Running.{Running}
use Rattle.kx_script.proofs.Answering.{in_a_world}
use Rattle.kx_script.proofs.script.answer_words.Goals as goal

pub returns-in-Some : goal.returns-in-Some
returns-in-Some g c = λ state st.
    in_a_world (StandsIn (Some c.answer_in.new.running)) c.in-Some.running c.args.line.now
    (g.W.Write.contents c.args.writer.now) (g.W.Write.contents c.answer_in.new.writer)
    c.answer_in.result c.answer_in.ensures state
    (subst (λ (before : Option Running). StandsIn before state) c.in-Some.is st)
