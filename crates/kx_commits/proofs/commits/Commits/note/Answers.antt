use Rattle.kx_commits.proofs.Keeping.{more_slots}
use Rattle.kx_commits.proofs.commits.Commits.note.Goals as goal

pub invariant_of-self : goal.invariant_of-self
invariant_of-self c =
    more_slots (record { slots = c.self.inside.slots; waiting = c.self.inside.waiting })
    (record { slots = c.wait.new.self; waiting = c.push.new.self }) c.args.id c.args.said
    c.wait.ensures.slots c.push.ensures.said c.self.invariant
