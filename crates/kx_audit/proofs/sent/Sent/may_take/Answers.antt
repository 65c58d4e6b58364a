use Rattle.kx_audit.proofs.sent.Sent.may_take.Goals as goal

pub returns-in-Deliver : goal.returns-in-Deliver
returns-in-Deliver c = rw c.in-Deliver.is c.has.ensures
