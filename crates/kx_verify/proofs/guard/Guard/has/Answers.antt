use Rattle.std.proofs.Common.{◌≡◌, ◌∙◌, ◌≤◌, List, Some, ap, length, subst}
use Rattle.kx_message.specs.declared.message.Held.{Held}
use Rattle.kx_model.specs.Verification.{Parked, parked_for, parked_limit}
use Rattle.kx_verify.specs.Guard.{waits}
use Rattle.kx_verify.proofs.Asking.{waits_there}
use Rattle.kx_verify.proofs.guard.Guard.has.Goals as goal

pub returns : goal.returns
returns c =
    let parked = c.args.self.now in
    let request = c.args.request.now in
    let there : c.contains.result ≡ waits (parked_for parked request.held) request =
    c.contains.ensures.value
    ∙ ap (λ (l : List Parked). waits l request) c.parked.ensures.value
    ∙ ap (λ (h : Held). waits (parked_for parked h) request) c.held.ensures.value in
    record {
      of_held = there;
      value = there
          ∙ waits_there request parked
          (c.held.ensures.own ∙ ap (λ (h : Held). Some h) c.held.ensures.value)
          c.parked.ensures.own;
      few = subst (λ (h : Held). length (parked_for parked h) ≤ parked_limit)
          c.held.ensures.value c.parked.ensures.few;
    }
