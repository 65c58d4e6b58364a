use Rattle.std.proofs.Common.{◌≡◌, ◌∙◌, subst, sym}
use Rattle.std.specs.Prelude.{Contains}
use Rattle.kx_follow.specs.Following.{Following}
use Rattle.kx_follow.specs.Pending.{AreSent}
use Rattle.kx_message.specs.declared.message.Message.{Message}
use Rattle.kx_follow.proofs.History.{was_sent}
use Rattle.kx_follow.proofs.follower.Follower.may_take.Goals as goal

pub returns-clause-left : goal.returns-clause-left
returns-clause-left g c = λ sent are.
    c.in_ok-was_sent.ensures.left sent
    (subst (λ (f : Following _ _). AreSent sent f.pending) (sym c.self.view_is) are)

pub returns-clause-comes : goal.returns-clause-comes
returns-clause-comes g c = λ yes sent are.
    was_sent c.args.input.now sent (λ m is.
    let same : c.in-Deliver.message ≡ m = let e = sym c.in-Deliver.is ∙ is in cc in
    subst (λ (x : Message). Contains sent x) same
    (c.in_ok-was_sent.ensures.was_sent yes sent
    (subst (λ (f : Following _ _). AreSent sent f.pending) (sym c.self.view_is) are)))
