use Rattle.std.proofs.Common.{◌∙◌, subst}
use Rattle.kx_broker.specs.Fetching.{IsFetched}
use Rattle.kx_broker.proofs.Fetching.{page_replied}
use Rattle.kx_group.proofs.Answers.{if_ok}
use Rattle.kx_broker.proofs.fetch.answer_fetch.Goals as goal

pub returns-in-Ok-clause-defined : goal.returns-in-Ok-clause-defined
returns-in-Ok-clause-defined c = λ answer is.
    if_ok c.page_reply.result c.page_reply.ensures.ok (λ message e.
    e ∙ page_replied c.args.it.now answer c.in-Ok.page
    (subst (IsFetched answer) c.in-Ok.is is))
