use Rattle.kx_membership.proofs.Naming.{known_whole}
use Rattle.kx_membership.proofs.laws.members_are_known_by_their_ids.Goals as goal

pub returns : goal.returns
returns c = known_whole
