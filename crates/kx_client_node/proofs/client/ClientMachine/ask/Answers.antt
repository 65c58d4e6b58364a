use Rattle.std.proofs.Common.{◌∙◌, ap, sym, refl}
use Rattle.kx_client_node.proofs.Declining.{poll_failed, poll_not_ready}
use Rattle.kx_model.specs.Client.{Client}
use Rattle.kx_client_node.proofs.client.ClientMachine.ask.Goals as goal

pub returns-in-Poll : goal.returns-in-Poll
returns-in-Poll c =
    let failed = sym (ap (λ (d : Client). d.failed) c.self.view_is) ∙ sym c.has_failed.ensures
    ∙ c.if-has_failed.true in
    (poll_failed c.args.self.now c.args.told.now c.in-Poll.is failed, refl)

pub returns-in-Poll-2 : goal.returns-in-Poll-2
returns-in-Poll-2 c =
    let going = sym (ap (λ (d : Client). d.failed) c.self.view_is) ∙ sym c.has_failed.ensures
    ∙ c.if-has_failed.false in
    (poll_not_ready c.args.self.now c.args.told.now c.in-Poll-2.is going, refl)
