use Rattle.std.proofs.Common.{◌≤◌, subst}
use Rattle.std.specs.Prelude.{count_by}
use Rattle.kx_client.specs.Internal.{Unanswered}
use Rattle.kx_model.specs.Client.{carries_to, window}
use Rattle.kx_client.proofs.waiting.Waiting.windows_hold.Goals as goal

pub returns : goal.returns
returns c = λ p. subst (λ (w : Unanswered). count_by (carries_to p) w.messages ≤ window)
    c.self.view_is (c.self.invariant.2.few p)
