use Rattle.std.proofs.Common.{◌≡◌, None, take}
use Rattle.std.specs.List.{find}
use Rattle.kx_membership.specs.Protocols.{is_named}
use Rattle.kx_membership.proofs.ask.named.Given as goal

abbrev pub invariant-loop-protocol : goal.invariant-loop-protocol
invariant-loop-protocol l = find (is_named l.name) (take l.protocol-index l.protocols) ≡ None
