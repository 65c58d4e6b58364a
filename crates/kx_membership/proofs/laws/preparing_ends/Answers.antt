use Rattle.std.proofs.Common.{◌≡◌, true, length, eqb}
use Rattle.kx_membership.specs.Roster.{parted}
use Rattle.kx_membership.specs.Group.{is_past}
use Rattle.kx_membership.specs.declared.member.Going.TheVariants.{Silent}
use Rattle.kx_membership.proofs.Before.{closed, is_past_at, none_goes}
use Rattle.kx_membership.proofs.laws.preparing_ends.Goals as goal

pub returns-clause-deadline : goal.returns-clause-deadline
returns-clause-deadline c = λ g until now e past.
    let is : is_past g.phase now ≡ true = is_past_at g.phase until now e past in
    rw (is, e) (closed (eqb (length (parted Silent g.roster).members) 0) until
    (parted Silent g.roster) (none_goes Silent g.roster.members))
