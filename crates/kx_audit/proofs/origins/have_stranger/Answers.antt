use Rattle.std.proofs.Common.{◌≡◌, ◌++◌, Some, length, refl, arith, rules}
use Rattle.std.specs.Prelude.{slice_get}
use Rattle.std.proofs.lemmas.Option.{slice_get_read, slice_get_within}
use Rattle.kx_audit.specs.Origins.{sent_by}
use Rattle.kx_audit.specs.Refused.{TakesStranger}
use Rattle.kx_audit.proofs.Places.{more_places}
use Rattle.kx_audit.proofs.origins.have_stranger.Goals as goal

pub returns-then-branch-clause-some : goal.returns-then-branch-clause-some
returns-then-branch-clause-some g c = λ _.
    let nodes = c.args.nodes.now in
    let n = c.loop-node.node-index in
    let p = c.node-item.result in
    record {
      number = n;
      node = p;
      there = slice_get_read nodes (length nodes) n p refl (omega arith) c.node-item.is;
      takes = rw c.in_ok-gather.ensures at c.in_ok-takes_stranger.ensures.some (search rules);
    }

pub loop-node-preserved : goal.loop-node-preserved
loop-node-preserved g c =
    let nodes = c.args.nodes.now in
    let n = c.loop-node.node-index in
    let p = c.node-item.result in
    let at : slice_get nodes n ≡ Some p =
    slice_get_read nodes (length nodes) n p refl (omega arith) c.node-item.is in
    let none = rw c.in_ok-gather.ensures at c.in_ok-takes_stranger.ensures.none (search rules) in
    more_places nodes n p
    (λ k q. TakesStranger (c.args.arrived ++ sent_by nodes) q.trace.steps → ⊥) at
    c.loop-node.invariant none

pub returns-clause-none : goal.returns-clause-none
returns-clause-none g c = λ _ has.
    let lt = slice_get_within c.args.nodes.now has.number has.node has.there in
    c.loop-node.invariant has.number has.node (omega (arith, lt)) has.there has.takes
