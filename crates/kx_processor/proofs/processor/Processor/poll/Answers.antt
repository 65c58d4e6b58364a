use Rattle.std.proofs.Common.{◌≡◌, ◌∙◌, ap, sym, subst, true, false, is_none}
use Rattle.kx_model.specs.Client as model
use Rattle.kx_model.specs.Client.{Poll}
use Rattle.kx_model.specs.Step.{serves}
use Rattle.kx_processor.specs.Calls as call
use Rattle.kx_processor.specs.Internal.{stage_of}
use Rattle.kx_processor.specs.Running.{processor_of}
use Rattle.kx_processor.proofs.Steps.{poll_failed, poll_waits, poll_not_ready, poll_overflown}
use Rattle.kx_processor.proofs.Steps.{poll_answers, running, no_id, an_id, overflown}
use Rattle.kx_system.specs.Processor.{Stopped, has_failed, is_overflown, is_waiting}
use Rattle.kx_processor.proofs.processor.Processor.poll.Goals as goal

pub returns-then-has_failed-clause-polled : goal.returns-then-has_failed-clause-polled
returns-then-has_failed-clause-polled g c =
    poll_failed (processor_of g.P.Process.image_of c.args.self.now)
    (sym c.has_failed.ensures ∙ c.if-has_failed.true)

pub returns-then-is_waiting-clause-polled : goal.returns-then-is_waiting-clause-polled
returns-then-is_waiting-clause-polled g c =
    let of = processor_of g.P.Process.image_of in
    poll_waits (of c.args.self.now) (sym c.has_failed.ensures ∙ c.if-has_failed.false)
    (subst (λ r. is_waiting r.client ≡ true) c.self.view_is
    (sym c.is_waiting.ensures ∙ c.if-is_waiting.true))
    ∙ ap (serves (of c.args.self.now)) (sym c.new.ensures.items)

pub returns-then-not-has_id-clause-polled : goal.returns-then-not-has_id-clause-polled
returns-then-not-has_id-clause-polled g c =
    poll_not_ready (processor_of g.P.Process.image_of c.args.self.now)
    (sym c.has_failed.ensures ∙ c.if-has_failed.false)
    (subst (λ r. is_waiting r.client ≡ false) c.self.view_is
    (sym c.is_waiting.ensures ∙ c.if-is_waiting.false))
    (subst (λ r. is_none r.client.held ≡ true) c.self.view_is
    (no_id c.self.inside.client.held (sym c.has_id.ensures ∙ c.if-not-has_id.true)))

pub returns-then-is_overflown-clause-polled : goal.returns-then-is_overflown-clause-polled
returns-then-is_overflown-clause-polled g c =
    let of = processor_of g.P.Process.image_of in
    let inside = c.self.inside in
    let here = running inside.group inside.inputs inside.process (stage_of inside.stage)
    inside.client in
    let after = running inside.group inside.inputs inside.process Stopped inside.client in
    subst (λ r. call.Declines (of r) Poll model.TooLarge (of after)) c.self.view_is
    (poll_overflown (of here)
    (subst (λ r. has_failed (of r) ≡ false) (sym c.self.view_is)
    (sym c.has_failed.ensures ∙ c.if-has_failed.false))
    (sym c.is_waiting.ensures ∙ c.if-is_waiting.false)
    (an_id inside.client.held (sym c.has_id.ensures ∙ c.if-not-has_id.false))
    (overflown (stage_of inside.stage)
    (sym c.is_overflown.ensures ∙ c.if-is_overflown.true)))

pub returns-clause-polled : goal.returns-clause-polled
returns-clause-polled g c =
    let of = processor_of g.P.Process.image_of in
    let view_is = c.self.view_is in
    poll_answers g.P.Process.image_of c.args.self.now c.next.new.self
    (sym c.has_failed.ensures ∙ c.if-has_failed.false)
    (subst (λ r. is_waiting r.client ≡ false) view_is
    (sym c.is_waiting.ensures ∙ c.if-is_waiting.false))
    (subst (λ r. is_none r.client.held ≡ false) view_is
    (an_id c.self.inside.client.held (sym c.has_id.ensures ∙ c.if-not-has_id.false)))
    (subst (λ r. is_overflown r.stage ≡ false) view_is
    (sym c.is_overflown.ensures ∙ c.if-is_overflown.false))
    (λ sent. sent.items) c.next.result c.next.ensures
