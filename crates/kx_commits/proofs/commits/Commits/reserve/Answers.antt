use Rattle.std.proofs.Common.{refl}
use Rattle.kx_commits.proofs.Keeping.{same_entries, same_slots, same_tables}
use Rattle.kx_commits.proofs.commits.Commits.reserve.Goals as goal

pub invariant_of-self : goal.invariant_of-self
invariant_of-self c =
    same_slots (record { slots = c.self.inside.slots; waiting = c.self.inside.waiting })
    (record { slots = c.reserve.new.self; waiting = c.self.inside.waiting })
    (same_entries c.self.inside.slots c.reserve.new.self c.reserve.ensures.same) (λ id. refl)
    c.self.invariant

pub returns-clause-same : goal.returns-clause-same
returns-clause-same c =
    same_tables c.args.self.now c.self.inside.slots c.reserve.new.self c.self.inside.waiting
    c.reserve-2.new.self c.self.view_is c.reserve.ensures.same c.reserve-2.ensures.same
