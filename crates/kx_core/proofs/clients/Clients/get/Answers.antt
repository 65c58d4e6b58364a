use Rattle.std.proofs.Common.{◌≡◌, List, Some, subst, sym}
use Rattle.std.specs.Prelude.{slice_get}
use Rattle.kx_core.specs.Clients.{client_in, clients_in}
use Rattle.kx_client_node.specs.Clients.{client_of}
use Rattle.kx_client_node.specs.declared.any_client.AnyClient.{AnyClient}
use Rattle.kx_core.proofs.Turns.{looked_up}
use Rattle.kx_core.proofs.clients.Clients.get.Goals as goal

pub returns : goal.returns
returns g c =
    let place = c.in_ok-place.place in
    let found = c.in_ok-place.ensures in
    let there = subst (λ (xs : List (AnyClient _)). slice_get xs place ≡ Some found.0)
    (sym c.self.view_is) found.1 in
    subst (λ (xs : List (AnyClient _)). client_in (clients_in xs) c.args.number
    ≡ Some (client_of c.index.result.now)) c.self.view_is
    (looked_up g.F.Process.image_of c.self.inside.clients.items place c.args.number
    c.index.result.now found.0 c.self.invariant there found.2 c.index.ensures)
