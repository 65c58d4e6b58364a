use Rattle.std.proofs.Common.{Option, ap, subst, sym}
use Rattle.kx_core.specs.Clients.{TakesAt, all_of}
use Rattle.kx_core.specs.World.{StandForAll, given}
use Rattle.kx_core.proofs.Systems.{by_client_of, by_no_client_of}
use Rattle.kx_machine.specs.declared.taken.Taken.{Taken}
use Rattle.kx_core.proofs.nodes.Nodes.hand_client.Goals as goal

pub returns-in_default : goal.returns-in_default
returns-in_default g c = λ mode s h.
    let C = g.C.Machine.stands in
    let P = g.P.Machine.stands in
    let O = g.O.Machine.stands in
    let image_of = g.F.Process.image_of in
    by_no_client_of C P O image_of _ s c.args.number mode (given c.args.handed) c.take.new.self
    c.nothing.result (subst (λ nodes. StandForAll C P O image_of nodes s) (sym c.self.view_is) h)
    (subst (λ (taken : Option Taken). TakesAt (all_of image_of c.self.inside.clients)
    (all_of image_of c.take.new.self) c.args.number (given c.args.handed) taken)
    c.in_default.is c.in_ok-taken.ensures)
    (ap (λ (t : Taken). t.messages) c.nothing.ensures)
    (ap (λ (t : Taken). t.note) c.nothing.ensures)
    (ap (λ (t : Taken). t.failed) c.nothing.ensures)

pub returns : goal.returns
returns g c = λ mode s h.
    let C = g.C.Machine.stands in
    let P = g.P.Machine.stands in
    let O = g.O.Machine.stands in
    let image_of = g.F.Process.image_of in
    by_client_of C P O image_of _ s c.args.number mode (given c.args.handed) c.take.new.self
    c.in-Some.taken (subst (λ nodes. StandForAll C P O image_of nodes s) (sym c.self.view_is) h)
    (subst (λ (taken : Option Taken). TakesAt (all_of image_of c.self.inside.clients)
    (all_of image_of c.take.new.self) c.args.number (given c.args.handed) taken)
    c.in-Some.is c.in_ok-taken.ensures)
