use Rattle.std.proofs.Common.{◌≡◌, ◌-◌, List, Some, length, subst, sym, ap, ◌∙◌, rules}
use Rattle.std.specs.Prelude.{slice_get, nat_lt}
use Rattle.kx_core.specs.Clients.{clients_in}
use Rattle.kx_client_node.specs.Clients.{client_of}
use Rattle.kx_client_node.specs.declared.any_client.AnyClient.{AnyClient}
use Rattle.kx_core.proofs.Rising.{last_decides}
use Rattle.kx_model.specs.World.{is_new}
use Rattle.kx_core.proofs.clients.Clients.is_new.Goals as goal

pub returns-in-Some : goal.returns-in-Some
returns-in-Some g c =
    let all = c.self.inside.clients.items in
    let n = c.args.number in
    let is : slice_get all (length all - 1) ≡ Some c.in-Some.last.now =
    sym (subst (λ (xs : List (AnyClient _)).
    Some c.in-Some.last.now ≡ slice_get xs (length xs - 1)) c.deref.ensures.value
    c.in-Some.ensures.value) in
    let lower : c.lt.result ≡ nat_lt c.number.result n = search rules in
    lower ∙ ap (λ m. nat_lt m n) c.number.ensures
    ∙ sym (last_decides client_of n all c.in-Some.last.now c.self.invariant is)
    ∙ ap (λ (xs : List (AnyClient _)). is_new n (clients_in xs)) c.self.view_is
