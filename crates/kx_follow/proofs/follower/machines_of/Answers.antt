use Rattle.std.proofs.Common.{◌∙◌, sym}
use Rattle.std.proofs.lemmas.List.{nil_from_length}
use Rattle.kx_follow.proofs.Lists.{moved_all, moved_on}
use Rattle.kx_follow.proofs.follower.machines_of.Goals as goal

pub loop-node-preserved : goal.loop-node-preserved
loop-node-preserved g c =
    moved_on (λ n. n.machine) c.loop-node.machines.items c.push.new.self.items
    c.loop-node.node-iterator.rest.items c.next.new.self.rest.items c.args.nodes.items
    c.in-Some.node c.into_machine.result c.loop-node.invariant c.in-Some.ensures.steps.0
    c.into_machine.ensures c.in_ok-push.ensures.items

pub returns : goal.returns
returns g c =
    let left = c.loop-node.node-iterator.rest in
    moved_all (λ n. n.machine) c.loop-node.machines.items left.items c.args.nodes.items
    c.loop-node.invariant (nil_from_length left.items (sym left.ok.0 ∙ c.in-None.ensures.steps.0))
