use Rattle.kx_trace_audit.proofs.step.take_told.Goals as goal

pub returns-in-Answered : goal.returns-in-Answered
returns-in-Answered g c = rw c.in-Answered.is c.take_again.ensures

pub returns-in-Unanswered : goal.returns-in-Unanswered
returns-in-Unanswered g c = rw c.in-Unanswered.is c.take_unanswered.ensures

pub returns-in-Reopened : goal.returns-in-Reopened
returns-in-Reopened g c = rw c.in-Reopened.is c.reopen.ensures
