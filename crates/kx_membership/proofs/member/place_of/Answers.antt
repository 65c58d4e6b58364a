use Rattle.std.proofs.Common.{sym, ◌∙◌}
use Rattle.kx_membership.proofs.Changes.{place_here}
use Rattle.kx_membership.proofs.member.place_of.Goals as goal

pub returns-then-eq : goal.returns-then-eq
returns-then-eq c = (
  c.loop-place-test.true,
  place_here c.args.number c.args.members.now c.loop-place.place
      c.index-members-place.result c.loop-place-test.true c.loop-place.invariant
      c.index-members-place.is
      (rw (← c.index-members-place.is) at (sym c.eq.ensures ∙ c.if-eq.true)),
)
