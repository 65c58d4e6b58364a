use Rattle.std.proofs.Common.{sym, ◌∙◌}
use Rattle.kx_membership.proofs.Offering.{listed_at}
use Rattle.kx_membership.proofs.votes.is_listed.Goals as goal

pub returns-then-eq : goal.returns-then-eq
returns-then-eq c =
    listed_at c.args.name.now c.args.names.now c.loop-listed.listed-index _ c.loop-listed-test.true
    (sym c.eq.ensures ∙ c.if-eq.true)
