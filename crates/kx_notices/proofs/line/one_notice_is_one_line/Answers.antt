use Rattle.kx_notices.proofs.Visible.{one_line}
use Rattle.kx_notices.proofs.line.one_notice_is_one_line.Goals as goal

pub returns : goal.returns
returns c = one_line
