use Rattle.std.proofs.Common.{◌≡◌, ap, ◌∙◌, sym, arith, Some}
use Rattle.std.specs.Prelude.{◌==◌}
use Rattle.std.specs.List.{find}
use Rattle.kx_membership.specs.Protocols.{assigned_to}
use Rattle.kx_membership.specs.declared.ask.Assignment.{Assignment}
use Rattle.kx_membership.proofs.Finds.{find_here}
use Rattle.kx_membership.proofs.ask.Assignments.of.Goals as goal

pub returns-then-eq : goal.returns-then-eq
returns-then-eq c =
    let listed = c.as_slice-list.result.now in
    let item = c.assignment-item.result in
    let found : find (λ (a : Assignment). a.member == c.args.member) listed ≡ Some item =
    find_here (λ (a : Assignment). a.member == c.args.member) listed
    c.loop-assignment.assignment-index item (omega arith) c.loop-assignment.invariant
    c.assignment-item.is (sym c.eq.ensures ∙ c.if-eq.true) in
    let bytes : assigned_to c.args.member listed ≡ item.bytes = rw found in
    c.as_slice.ensures ∙ sym bytes
    ∙ ap (assigned_to c.args.member) (c.as_slice-list.ensures.value ∙ c.self.view_is)
