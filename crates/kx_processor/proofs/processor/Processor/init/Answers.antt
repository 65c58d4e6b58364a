use Rattle.std.proofs.Common.{◌≡◌, ◌∙◌, ◌∷◌, [], sym, subst, refl, false}
use Rattle.std.specs.Prelude.{MatchResult}
use Rattle.kx_model.specs.Client.{Init}
use Rattle.kx_model.specs.Step.{Commands, serves}
use Rattle.kx_processor.specs.Calls.{IsRefused, MaySend}
use Rattle.kx_processor.specs.Internal.{stage_of}
use Rattle.kx_processor.specs.Running.{processor_of}
use Rattle.kx_processor.proofs.Steps.{init_failed, init_answers, init_memory, running}
use Rattle.kx_system.specs.Processor.{has_failed, processor_step}
use Rattle.kx_processor.proofs.processor.Processor.init.Goals as goal

pub returns-then-has_failed-clause-answer : goal.returns-then-has_failed-clause-answer
returns-then-has_failed-clause-answer g c = (
  init_failed (processor_of g.P.Process.image_of c.args.self.now)
      (sym c.has_failed.ensures ∙ c.if-has_failed.true),
  refl,
)

pub returns-clause-answer : goal.returns-clause-answer
returns-clause-answer g c =
    let of = processor_of g.P.Process.image_of in
    let inside = c.self.inside in
    let with_client = running inside.group inside.inputs inside.process (stage_of inside.stage) in
    let after = with_client c.init.new.self in
    subst (λ r. MatchResult c.init.result
    (λ sent. processor_step (of r) (Commands Init) ≡ serves (of after) (sent ∷ []))
    (λ f. IsRefused (of r) Init f (of after) × (after ≡ r))) c.self.view_is
    (init_answers g.P.Process.image_of (with_client inside.client) c.init.new.self c.init.result
    (subst (λ r. has_failed (of r) ≡ false) (sym c.self.view_is)
    (sym c.has_failed.ensures ∙ c.if-has_failed.false)) c.init.ensures)

pub returns-clause-memory : goal.returns-clause-memory
returns-clause-memory g c = λ is.
    let of = processor_of g.P.Process.image_of in
    let inside = c.self.inside in
    let with_client = running inside.group inside.inputs inside.process (stage_of inside.stage) in
    subst (λ r. MaySend (of r) Init) c.self.view_is
    (init_memory g.P.Process.image_of (with_client inside.client) c.init.new.self c.init.result
    (subst (λ r. has_failed (of r) ≡ false) (sym c.self.view_is)
    (sym c.has_failed.ensures ∙ c.if-has_failed.false)) c.init.ensures is)
