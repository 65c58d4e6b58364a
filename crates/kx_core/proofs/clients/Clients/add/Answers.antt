use Rattle.std.proofs.Common.{◌≡◌, List, true, subst, sym, ap, ◌∙◌}
use Rattle.kx_core.proofs.Rising.{Rising, rising_push}
use Rattle.kx_core.specs.Clients.{clients_in}
use Rattle.kx_client_node.specs.Clients.{client_of}
use Rattle.kx_client_node.specs.declared.any_client.AnyClient.{AnyClient}
use Rattle.kx_model.specs.World.{is_new}
use Rattle.kx_core.proofs.clients.Clients.add.Goals as goal

pub invariant_of-self-2 : goal.invariant_of-self-2
invariant_of-self-2 g c =
    let all = c.self.inside.clients.items in
    let one : AnyClient _ = c.args.one in
    let new : is_new (client_of one).number (clients_in all) ≡ true =
    ap (λ (xs : List (AnyClient _)). is_new (client_of one).number (clients_in xs))
    c.self.view_is ∙ c.requires in
    subst (Rising client_of) (sym c.in_ok-push.ensures.items)
    (rising_push client_of all one c.self.invariant new)
