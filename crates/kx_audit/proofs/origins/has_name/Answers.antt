use Rattle.std.proofs.Common.{◌≡◌, Some, length, refl, sym, ◌∙◌, arith, rules}
use Rattle.std.specs.Prelude.{slice_get}
use Rattle.std.proofs.lemmas.Option.{slice_get_read, slice_get_within}
use Rattle.kx_audit.specs.Replayed.{name_at}
use Rattle.kx_audit.proofs.Places.{more_places}
use Rattle.kx_audit.proofs.origins.has_name.Goals as goal

pub returns-then-eq-clause-some : goal.returns-then-eq-clause-some
returns-then-eq-clause-some g c = λ _.
    let nodes = c.args.nodes.now in
    let n = c.loop-node.node-index in
    let p = c.node-item.result in
    let same : c.node.result ≡ c.args.name = search rules in
    record {
      number = n;
      node = p;
      there = slice_get_read nodes (length nodes) n p refl (omega arith) c.node-item.is;
      named_so = sym c.node.ensures ∙ same;
    }

pub loop-node-preserved : goal.loop-node-preserved
loop-node-preserved g c =
    let nodes = c.args.nodes.now in
    let n = c.loop-node.node-index in
    let p = c.node-item.result in
    let at : slice_get nodes n ≡ Some p =
    slice_get_read nodes (length nodes) n p refl (omega arith) c.node-item.is in
    let other : c.node.result ≡ c.args.name → ⊥ = search rules in
    more_places nodes n p (λ k q. name_at g.B.Tells.making q ≡ c.args.name → ⊥) at
    c.loop-node.invariant (λ e. other (c.node.ensures ∙ e))

pub returns-clause-none : goal.returns-clause-none
returns-clause-none g c = λ _ has.
    let nodes = c.args.nodes.now in
    let lt = slice_get_within nodes has.number has.node has.there in
    c.loop-node.invariant has.number has.node (omega (arith, lt)) has.there has.named_so
