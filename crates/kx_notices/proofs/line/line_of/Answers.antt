use Rattle.std.proofs.lemmas.Result.{IfOk-weaker}
use Rattle.kx_notices.proofs.Visible.{one_line}
use Rattle.kx_notices.proofs.line.line_of.Goals as goal

pub returns-clause-one : goal.returns-clause-one
returns-clause-one c =
    IfOk-weaker c.written.result _ _ (λ l e. one_line c.args.time c.args.notice.now l.items e)
    c.written.ensures
