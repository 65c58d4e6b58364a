use Rattle.std.proofs.Common.{◌∙◌, List, ap, subst, sym}
use Rattle.kx_core.specs.Clients.{clients_in}
use Rattle.kx_core.specs.World.{StandForAll}
use Rattle.kx_client_node.specs.declared.any_client.AnyClient.{AnyClient}
use Rattle.kx_core.proofs.Happening.{client_made, no_client_made}
use Rattle.kx_core.proofs.Standing.{matched}
use Rattle.kx_model.specs.World.{is_new}
use Rattle.kx_core.proofs.nodes.Nodes.make.Goals as goal

pub returns-then-not-is_new : goal.returns-then-not-is_new
returns-then-not-is_new g c = λ s h.
    let C = g.C.Machine.stands in
    let P = g.P.Machine.stands in
    let O = g.O.Machine.stands in
    let image_of = g.F.Process.image_of in
    no_client_made C P O image_of c.args.self.now s c.args.number c.args.txn c.args.timeout h
    (ap (λ nodes. is_new c.args.number (clients_in nodes.clients)) (sym c.self.view_is)
    ∙ sym c.is_new.ensures ∙ c.if-not-is_new.true)

pub returns : goal.returns
returns g c = λ s h.
    let C = g.C.Machine.stands in
    let P = g.P.Machine.stands in
    let O = g.O.Machine.stands in
    let image_of = g.F.Process.image_of in
    let stand = subst (λ nodes. StandForAll C P O image_of nodes s) (sym c.self.view_is) h in
    matched c.add.result c.add.ensures
    (λ done e. client_made C P O image_of _ s c.args.number c.args.txn c.args.timeout stand
    c.add.new.self c.new-client.result (sym c.is_new.ensures ∙ c.if-not-is_new.false) e
    c.new-client.ensures)
    (λ refused e. subst (λ (clients : List (AnyClient _)). StandForAll C P O image_of (record {
      coordinator = c.self.inside.coordinator;
      partitions = c.self.inside.partitions.items;
      offsets = c.self.inside.offsets;
      clients = clients;
      clock = c.self.inside.clock;
    }) s) (sym e) stand)
