use Rattle.std.proofs.Common.{ap, ◌∙◌}
use Rattle.kx_model.specs.Verification.{Parked, same_request}
use Rattle.kx_verify.specs.Internal.Messages.{request_in}
use Rattle.kx_verify.proofs.Same.{same_messages}
use Rattle.kx_verify.proofs.request.RequestPartialEq.eq.Goals as goal

pub returns : goal.returns
returns c =
    c.eq.ensures
    ∙ same_messages c.self.inside.message c.other.inside.message c.self.invariant.fits
    c.other.invariant.fits
    ∙ ap (λ (p : Parked). same_request p.request (request_in c.other.inside.message))
    c.self.view_is
    ∙ ap (λ (p : Parked). same_request c.args.self.now.request p.request) c.other.view_is
