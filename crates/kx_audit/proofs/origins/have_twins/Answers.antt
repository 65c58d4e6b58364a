use Rattle.std.proofs.Common.{◌≡◌, Some, length, refl, arith, rules}
use Rattle.std.specs.Prelude.{slice_get, take}
use Rattle.std.proofs.lemmas.Option.{slice_get_read}
use Rattle.kx_audit.specs.Origins.{HasName}
use Rattle.kx_audit.specs.Replayed.{name_at}
use Rattle.kx_audit.proofs.Sources.{all_apart, twins}
use Rattle.kx_audit.proofs.Places.{more_places}
use Rattle.kx_audit.proofs.origins.have_twins.Goals as goal

pub returns-then-has_name-clause-twins : goal.returns-then-has_name-clause-twins
returns-then-has_name-clause-twins g c = λ _.
    let nodes = c.args.nodes.now in
    let q = c.index-nodes-k.result in
    let at : slice_get nodes c.loop-k.k ≡ Some q =
    slice_get_read nodes (length nodes) c.loop-k.k q refl (omega arith) c.index-nodes-k.is in
    let has = rw c.node.ensures at c.has_name.ensures.some (search rules) in
    twins g.B.Tells.making nodes c.loop-k.k q at has

pub loop-k-preserved : goal.loop-k-preserved
loop-k-preserved g c =
    let nodes = c.args.nodes.now in
    let q = c.index-nodes-k.result in
    let at : slice_get nodes c.loop-k.k ≡ Some q =
    slice_get_read nodes (length nodes) c.loop-k.k q refl (omega arith) c.index-nodes-k.is in
    let no = rw c.node.ensures at c.has_name.ensures.none (search rules) in
    more_places nodes c.loop-k.k q
    (λ k p. HasName g.B.Tells.making (take k nodes) (name_at g.B.Tells.making p) → ⊥) at
    c.loop-k.invariant no

pub returns-clause-apart : goal.returns-clause-apart
returns-clause-apart g c = λ _.
    all_apart g.B.Tells.making c.args.nodes.now
    (λ k q lt. c.loop-k.invariant k q (omega (arith, lt)))
