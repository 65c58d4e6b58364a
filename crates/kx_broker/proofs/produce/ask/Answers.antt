use Rattle.std.proofs.Common.{◌≡◌, ◌∙◌, ◌++◌, ◌∷◌, [], refl, rules, subst, sym}
use Rattle.std.specs.Prelude.{MatchResult}
use Rattle.kx_broker.proofs.Adding.{match_err, now_added, now_full, now_waits, one_parked}
use Rattle.kx_message.specs.declared.message.Message.TheVariants as msg
use Rattle.kx_message.specs.declared.requests.Produce.{Produce}
use Rattle.kx_model.specs.Verification.{Parked}
use Rattle.kx_verify.specs.Guard.{SameParked, after, answer_to}
use Rattle.kx_verify.specs.Request.{IsParked}
use Rattle.kx_broker.proofs.produce.ask.Goals as goal

pub returns-then-has_batch : goal.returns-then-has_batch
returns-then-has_batch c = λ p is own.
    now_waits (msg.Produce c.args.it.now) p c.args.guard.now c.parked-parked.result.now
    c.args.held.now is own c.parked-parked.ensures.value c.parked-parked.ensures.few
    c.parked-parked.ensures.own (sym c.has_batch.ensures ∙ c.if-has_batch.true)

pub returns-then-parked-eq-PARKED_LIMIT : goal.returns-then-parked-eq-PARKED_LIMIT
returns-then-parked-eq-PARKED_LIMIT c = λ p is own.
    now_full (msg.Produce c.args.it.now) p c.args.guard.now c.parked-parked.result.now
    c.args.held.now is own c.parked-parked.ensures.value c.parked-parked.ensures.few
    c.parked-parked.ensures.own (sym c.has_batch.ensures ∙ c.if-has_batch.false)
    c.if-parked-eq-PARKED_LIMIT.true

pub returns-in_err-clone : goal.returns-in_err-clone
returns-in_err-clone c = λ p is own.
    match_err c.from_residual.result _ c.from_residual.ensures.0 (
      refl,
      now_added (msg.Produce c.args.it.now) p c.args.guard.now c.parked-parked.result.now
          c.args.held.now is own c.parked-parked.ensures.value c.parked-parked.ensures.few
          c.parked-parked.ensures.own (sym c.has_batch.ensures ∙ c.if-has_batch.false)
          c.if-parked-eq-PARKED_LIMIT.false,
    )

pub returns : goal.returns
returns c = λ p is own.
    let old = c.args.guard.now in
    let new = c.ask.new.self in
    let same : c.in_ok-clone.field-0 ≡ c.args.it.now = search rules in
    let request = c.in-Ok.request in
    let parked = subst (λ (q : Produce). IsParked (msg.Produce q) request) same
    c.in-Ok.ensures.0 in
    subst (λ (q : Parked). MatchResult c.ask.result
    (λ asked. (asked ≡ answer_to old q) × SameParked new (after old q))
    (λ refused. (new ≡ old) × (after old q ≡ old ++ q ∷ [])))
    (one_parked (msg.Produce c.args.it.now) request p parked is) c.ask.ensures.answer
