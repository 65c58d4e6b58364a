use Rattle.kx_broker.proofs.OffsetsParked.{forgotten_all}
use Rattle.kx_broker.proofs.waiting.ParkedCommits.forget.Goals as goal

pub invariant_of-self : goal.invariant_of-self
invariant_of-self c =
    forgotten_all c.reply-answered.new.self c.self.inside.guard c.args.held
    c.reply-answered.ensures.others c.self.invariant
