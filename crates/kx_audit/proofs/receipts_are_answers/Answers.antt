use Rattle.kx_audit.proofs.Answering.{is_answered}
use Rattle.kx_audit.proofs.receipts_are_answers.Goals as goal

pub returns : goal.returns
returns c = λ arrived trails merged events system whole receipt x is.
    is_answered arrived trails merged events system receipt x whole is
