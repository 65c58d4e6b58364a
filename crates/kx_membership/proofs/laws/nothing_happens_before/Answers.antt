use Rattle.std.proofs.Common.{refl}
use Rattle.kx_membership.specs.Group.{due_time}
use Rattle.kx_membership.proofs.Before.{before_all, not_due}
use Rattle.kx_membership.proofs.laws.nothing_happens_before.Goals as goal

pub returns : goal.returns
returns c = λ g now before.
    let sessions = before_all now (due_time g) g.roster.members before in
    let due = not_due now g sessions.0 in
    (due.0, rw due.1 refl, rw sessions.1 refl)
