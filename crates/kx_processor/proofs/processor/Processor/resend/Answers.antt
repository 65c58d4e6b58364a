use Rattle.std.proofs.Common.{◌≡◌, ◌∙◌, sym, subst, false}
use Rattle.std.specs.Prelude.{MatchResult}
use Rattle.kx_model.specs.Client.{Resend}
use Rattle.kx_model.specs.Step.{Commands, serves}
use Rattle.kx_processor.specs.Calls.{IsRefused, MaySend}
use Rattle.kx_processor.specs.Internal.{stage_of}
use Rattle.kx_processor.specs.Running.{processor_of}
use Rattle.kx_processor.proofs.Steps.{resend_failed, resend_answers, resend_memory, running}
use Rattle.kx_system.specs.Processor.{has_failed, processor_step}
use Rattle.kx_processor.proofs.processor.Processor.resend.Goals as goal

pub returns-then-has_failed-clause-answer : goal.returns-then-has_failed-clause-answer
returns-then-has_failed-clause-answer g c =
    resend_failed (processor_of g.P.Process.image_of c.args.self.now)
    (sym c.has_failed.ensures ∙ c.if-has_failed.true)

pub returns-clause-answer : goal.returns-clause-answer
returns-clause-answer g c =
    let of = processor_of g.P.Process.image_of in
    let inside = c.self.inside in
    let here = running inside.group inside.inputs inside.process (stage_of inside.stage)
    inside.client in
    subst (λ r. MatchResult c.resend.result
    (λ sent. processor_step (of r) (Commands Resend) ≡ serves (of r) sent.items)
    (λ f. IsRefused (of r) Resend f (of r))) c.self.view_is
    (resend_answers g.P.Process.image_of here (λ sent. sent.items) c.resend.result
    (subst (λ r. has_failed (of r) ≡ false) (sym c.self.view_is)
    (sym c.has_failed.ensures ∙ c.if-has_failed.false)) c.resend.ensures)

pub returns-clause-memory : goal.returns-clause-memory
returns-clause-memory g c = λ is.
    let of = processor_of g.P.Process.image_of in
    let inside = c.self.inside in
    let here = running inside.group inside.inputs inside.process (stage_of inside.stage)
    inside.client in
    subst (λ r. MaySend (of r) Resend) c.self.view_is
    (resend_memory g.P.Process.image_of here (λ sent. sent.items) c.resend.result
    (subst (λ r. has_failed (of r) ≡ false) (sym c.self.view_is)
    (sym c.has_failed.ensures ∙ c.if-has_failed.false)) c.resend.ensures is)
