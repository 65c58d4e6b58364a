use Rattle.std.proofs.Common.{◌≡◌, ◌∙◌, List, ap, arith, length, sym}
use Rattle.kx_message.specs.declared.message.Held.{Held}
use Rattle.kx_model.specs.Verification.{Parked, parked_for, parked_limit}
use Rattle.kx_verify.proofs.Asking.{again_after, again_answer, again_full, full_after}
use Rattle.kx_verify.proofs.Asking.{full_answer, full_is}
use Rattle.kx_verify.proofs.guard.Guard.ask.Goals as goal

pub returns-then-has-clause-answer : goal.returns-then-has-clause-answer
returns-then-has-clause-answer c =
    let old = c.args.self.now in
    let p = c.args.request in
    let room = again_full p old (sym c.has.ensures.of_held ∙ c.if-has.true) c.has.ensures.few in
    let same = again_after p old room (sym c.has.ensures.value ∙ c.if-has.true) in
    (again_answer p old room, λ held. ap (λ (l : List Parked). parked_for l held) same)

pub returns-then-parked-eq-PARKED_LIMIT-clause-answer :
    goal.returns-then-parked-eq-PARKED_LIMIT-clause-answer
returns-then-parked-eq-PARKED_LIMIT-clause-answer c =
    let old = c.args.self.now in
    let p = c.args.request in
    let five : length (parked_for old p.held) ≡ parked_limit =
    omega (
      arith,
      c.if-parked-eq-PARKED_LIMIT.true,
      ap length c.parked.ensures.value,
      ap (λ (h : Held). length (parked_for old h)) c.held.ensures.value,
    ) in
    let full = full_is p old (sym c.has.ensures.of_held ∙ c.if-has.false) five in
    let same = full_after p old full in
    (full_answer p old full, λ held. ap (λ (l : List Parked). parked_for l held) same)
