use Rattle.std.proofs.Common.{◌≡◌, ◌∙◌, ap, sym, subst, refl}
use Rattle.kx_processor.specs.Internal.{IsPaged, stage_of}
use Rattle.kx_processor.specs.Running.{processing_of, processor_of}
use Rattle.kx_processor.proofs.Steps.{awaited, not_awaited, running}
use Rattle.kx_system.specs.Processor.{stage_told, takes}
use Rattle.kx_processor.proofs.processor.Processor.take.Goals as goal

pub returns-then-not-awaits-clause-taken : goal.returns-then-not-awaits-clause-taken
returns-then-not-awaits-clause-taken g c =
    let of = processor_of g.P.Process.image_of in
    let inside = c.self.inside in
    let here = running inside.group inside.inputs inside.process (stage_of inside.stage)
    inside.client in
    subst (λ r. of r ≡ takes (of r) c.args.reply.now) c.self.view_is
    (not_awaited g.P.Process.image_of here c.args.reply.now
    (sym c.awaits.ensures ∙ c.if-not-awaits.true))

pub returns-clause-taken : goal.returns-clause-taken
returns-clause-taken g c =
    let image_of = g.P.Process.image_of in
    let reply = c.args.reply.now in
    let inside = c.self.inside in
    let here = running inside.group inside.inputs inside.process (stage_of inside.stage)
    inside.client in
    let after = running inside.group inside.inputs inside.process (stage_of c.led.result)
    c.take.new.self in
    let leads : stage_of c.led.result ≡ stage_told (processing_of image_of here) reply =
    c.led.ensures (processing_of image_of here) refl
    (ap stage_of (sym c.replace-stage.ensures.value))
    (subst (λ r. IsPaged (processing_of image_of r) reply c.in_ok-paged.paged)
    (sym c.self.view_is) c.in_ok-paged.ensures.ok) in
    subst (λ r. processor_of image_of after ≡ takes (processor_of image_of r) reply)
    c.self.view_is
    (awaited image_of here reply c.take.new.self (stage_of c.led.result)
    (sym c.awaits.ensures ∙ c.if-not-awaits.false) c.take.ensures leads)
