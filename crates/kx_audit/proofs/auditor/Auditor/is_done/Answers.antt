use Rattle.std.proofs.Common.{◌≡◌, ◌<◌, Some, List, length, refl, sym, subst, ap, ◌∙◌, arith, rules}
use Rattle.std.specs.Prelude.{slice_get}
use Rattle.std.proofs.lemmas.Option.{slice_get_read, slice_get_within}
use Rattle.kx_audit.specs.Merged.{Merged}
use Rattle.kx_audit.specs.Replayed.{Progress}
use Rattle.kx_audit.proofs.Places.{more_places}
use Rattle.kx_audit.proofs.auditor.Auditor.is_done.Goals as goal

pub returns-then-not-is_done-clause-undone : goal.returns-then-not-is_done-clause-undone
returns-then-not-is_done-clause-undone g c = λ _.
    let nodes = c.deref-node-items.result.now in
    let n = c.loop-node.node-index in
    let p = c.node-item.result in
    let at : slice_get nodes n ≡ Some p =
    slice_get_read nodes (length nodes) n p refl (omega arith) c.node-item.is in
    let undone : p.done ≡ length p.trace.steps → ⊥ = search rules in
    let within = c.is_done.ensures.within in
    let is = c.deref-node-items.ensures.value ∙ ap (λ (m : Merged _ _). m.nodes) c.self.view_is in
    record {
      place = n;
      node = p;
      there = subst (λ (l : List (Progress _ _)). slice_get l n ≡ Some p) is at;
      less = (let r : p.done < length p.trace.steps = omega (arith, undone, within) in r);
    }

pub loop-node-preserved : goal.loop-node-preserved
loop-node-preserved g c = λ k lt p at.
    let nodes = c.deref-node-items.result.now in
    let n = c.loop-node.node-index in
    let q = c.node-item.result in
    let there : slice_get nodes n ≡ Some q =
    slice_get_read nodes (length nodes) n q refl (omega arith) c.node-item.is in
    let done : q.done ≡ length q.trace.steps = search rules in
    more_places nodes n q (λ j r. r.done ≡ length r.trace.steps) there
    (λ j r less. λ is. c.loop-node.invariant j less r is) done k p lt at

pub returns-clause-done : goal.returns-clause-done
returns-clause-done g c = λ _ k p at.
    let nodes = c.deref-node-items.result.now in
    let is = c.deref-node-items.ensures.value ∙ ap (λ (m : Merged _ _). m.nodes) c.self.view_is in
    let there = subst (λ (l : List (Progress _ _)). slice_get l k ≡ Some p) (sym is) at in
    let lt = slice_get_within nodes k p there in
    c.loop-node.invariant k (omega (arith, lt)) p there
