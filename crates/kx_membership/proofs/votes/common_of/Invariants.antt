use Rattle.std.proofs.Common.{◌≡◌, None, take}
use Rattle.kx_membership.specs.Votes.{common_of}
use Rattle.kx_membership.proofs.votes.common_of.Given as goal

abbrev pub invariant-loop-protocol : goal.invariant-loop-protocol
invariant-loop-protocol l = common_of (take l.protocol-index l.protocols) l.number l.members ≡ None
