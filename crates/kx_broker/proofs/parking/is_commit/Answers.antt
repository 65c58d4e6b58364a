use Rattle.std.proofs.Common.{◌∙◌, ap, subst}
use Rattle.std.proofs.lemmas.Option.{same_Some}
use Rattle.kx_model.specs.Verification.{Request, same_request}
use Rattle.kx_verify.proofs.Same.{same_messages}
use Rattle.kx_verify.specs.Internal.Messages.{request_in}
use Rattle.kx_verify.specs.Request.{IsParked, message_of}
use Rattle.kx_verify.specs.declared.request.Append.{Append}
use Rattle.kx_verify.specs.declared.request.Append.TheVariants.{Offsets}
use Rattle.kx_broker.proofs.parking.is_commit.Goals as goal

pub returns-in-Offsets : goal.returns-in-Offsets
returns-in-Offsets c =
    let request = c.args.request.now in
    let parked = subst (λ (a : Append). IsParked (message_of a) request) c.in-Offsets.is
    c.message.ensures in
    c.eq.ensures
    ∙ same_messages (Offsets c.in-Offsets.commit) (Offsets c.args.it.now) c.commits_fit.ensures
    c.commits_fit-in-Offsets.ensures
    ∙ ap (λ (r : Request). same_request r (request_in (Offsets c.args.it.now)))
    (same_Some (request_in (Offsets c.in-Offsets.commit)) request.request parked.request)
