use Rattle.kx_view.proofs.recorder.add_step.Goals as goal

pub returns-clause-ok : goal.returns-clause-ok
returns-clause-ok c = (_, c.in_ok-push.ensures.ok)
