use Rattle.std.proofs.Common.{inr}
use Rattle.kx_program.proofs.program.audit_left.Goals as goal

pub returns : goal.returns
returns g c = inr (c.audit_folders-audited.result, c.audit_folders-audited.ensures, c.audit_ending.ensures)
