use Rattle.std.proofs.Common.{◌≡◌, Some, length, refl, arith}
use Rattle.std.specs.Prelude.{slice_get}
use Rattle.std.proofs.lemmas.Option.{slice_get_read, slice_get_within}
use Rattle.kx_audit.proofs.Keys.{index_more}
use Rattle.kx_audit.proofs.receipts.places_of.Goals as goal

pub loop-k-preserved : goal.loop-k-preserved
loop-k-preserved g c =
    let nodes = c.args.nodes.now in
    let n = c.loop-k.k in
    let p = c.index-nodes-k.result in
    let at : slice_get nodes n ≡ Some p =
    slice_get_read nodes (length nodes) n p refl (omega arith) c.index-nodes-k.is in
    index_more g.B.Tells.making nodes c.loop-k.places.entries c.insert.new.self.entries n p
    c.requires c.loop-k.invariant at
    (rw (c.from.ensures, c.node.ensures) at c.in_ok-insert.ensures.updates.0)

pub returns : goal.returns
returns g c = λ k p at.
    let lt = slice_get_within c.args.nodes.now k p at in
    c.loop-k.invariant k p (omega (arith, lt)) at
