use Rattle.std.proofs.Common.{◌≡◌, Some, length, refl, subst, arith, rules}
use Rattle.std.specs.Prelude.{IsFalse, slice_get}
use Rattle.std.proofs.lemmas.Option.{slice_get_read, slice_get_within}
use Rattle.kx_audit.specs.Merged.{MayGo, Merged, NoneMayGo}
use Rattle.kx_audit.proofs.Places.{more_places}
use Rattle.kx_audit.proofs.auditor.Auditor.pick.Goals as goal

pub loop-k-preserved : goal.loop-k-preserved
loop-k-preserved g c = λ k lt p at.
    let nodes = c.self.inside.nodes.items in
    let n = c.loop-k.k in
    let q = c.index-in-loop-k.result.now in
    let there : slice_get nodes n ≡ Some q =
    slice_get_read nodes (length nodes) n q refl (omega arith) c.index-in-loop-k.ensures in
    let no : IsFalse c.in_ok-may_go-2.field-0 = search rules in
    more_places nodes n q (λ j r. MayGo c.self.inside.sent r → ⊥) there
    (λ j r less. λ is. c.loop-k.invariant j less r is) (c.in_ok-may_go-2.ensures.no no) k p lt at

pub returns-clause-none : goal.returns-clause-none
returns-clause-none g c =
    let inside = c.self.inside in
    let all : NoneMayGo inside.sent inside.nodes.items = λ k p at.
    let lt = slice_get_within inside.nodes.items k p at in
    c.loop-k.invariant k (omega (arith, lt)) p at in
    subst (λ (m : Merged _ _). NoneMayGo m.sent m.nodes) c.self.view_is all
