use Rattle.kx_program.proofs.Ending.{audits_flushed, file_dumped, plays_flushed}
use Rattle.kx_program.proofs.program.perform.Goals as goal

pub returns-in-Dump : goal.returns-in-Dump
returns-in-Dump g c = rw c.in-Dump.is (file_dumped (λ v. v.items) c.read.result _ _ _
    c.dump_read.ensures.ends)

pub returns-in-Demo : goal.returns-in-Demo
returns-in-Demo g c = rw c.in-Demo.is (plays_flushed _ _ _ _ _ c.flushed.ensures.keeps
    c.flushed.ensures.ends c.demo-ending.ensures)

pub returns-in-Audit : goal.returns-in-Audit
returns-in-Audit g c = rw c.in-Audit.is (audits_flushed _ _ _ _ _ _ c.flushed-in-Audit.ensures.keeps
    c.flushed-in-Audit.ensures.ends c.audit-ending.ensures)
