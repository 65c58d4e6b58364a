use Rattle.std.proofs.Common.{subst}
use Rattle.kx_verify.specs.Request.{IsParked, message_of}
use Rattle.kx_verify.proofs.Messages.{parked_message}
use Rattle.kx_verify.proofs.request.Request.message.Goals as goal

pub returns : goal.returns
returns c =
    subst (IsParked (message_of c.self.inside.message)) c.self.view_is
    (parked_message c.self.inside.held c.self.inside.message c.self.invariant)
