use Rattle.std.proofs.Common.{◌≤◌, subst}
use Rattle.std.specs.Prelude.{count_by}
use Rattle.kx_model.specs.Client.{Client, carries_to, window}
use Rattle.kx_client.proofs.client.ProducerClient.windows_hold.Goals as goal

pub returns : goal.returns
returns c = λ p. subst (λ (d : Client). count_by (carries_to p) d.waiting ≤ window)
    c.self.view_is (c.windows_hold.ensures p)
