use Rattle.std.proofs.Common.{ap, refl, subst, sym}
use Rattle.kx_core.specs.Clients.{processors_in}
use Rattle.kx_core.specs.World.{IsHandedIn, StandForAll, given}
use Rattle.kx_core.proofs.Standing.{matched}
use Rattle.kx_core.proofs.Systems.{no_turn, still}
use Rattle.kx_message.specs.declared.message.NodeId.{NodeId}
use Rattle.kx_message.specs.declared.message.NodeId.TheVariants as node
use Rattle.kx_core.proofs.nodes.Nodes.hand.Goals as goal

pub returns-in-Partition-2 : goal.returns-in-Partition-2
returns-in-Partition-2 g c = λ s h.
    let C = g.C.Machine.stands in
    let P = g.P.Machine.stands in
    let O = g.O.Machine.stands in
    let image_of = g.F.Process.image_of in
    let place = node.Partition c.in-Partition-2.number in
    let after = c.hand_partition.new.self in
    let same = c.hand_partition.ensures.clients in
    matched c.hand_partition.result (c.hand_partition.ensures.stand s.world h.world)
    (λ taken t. subst (λ (to : NodeId). IsHandedIn s to c.args.mode (given c.args.handed)
    (StandForAll C P O image_of after) taken) (sym c.in-Partition-2.is)
    (no_turn C P O image_of c.args.self.now after s place c.args.mode (given c.args.handed) taken
    h refl (ap (processors_in image_of) same) t))
    (λ refused stand. still C P O image_of c.args.self.now after s h stand same)
