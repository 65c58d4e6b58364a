use Rattle.std.proofs.Common.{◌∙◌, ap, Err}
use Rattle.std.proofs.lemmas.Result.{err_from_is_err_and}
use Rattle.kx_demo.specs.declared.fault.DemoFault.TheVariants as fault
use Rattle.kx_demo.specs.Telling.{Fails, GaveUp}
use Rattle.kx_demo.proofs.Endings.{memory_is_other, net_is_other, write_fails}
use Rattle.kx_demo.proofs.report.demo.Goals as goal

pub returns-in_err-write_text-in-Err-GaveUp : goal.returns-in_err-write_text-in-Err-GaveUp
returns-in_err-write_text-in-Err-GaveUp g c =
    let p = err_from_is_err_and c.from_residual.result c.from_residual.ensures.1 in
    write_fails (g.W.Write.contents c.args.out.now) (g.W.Write.contents c.write_text.new.out)
    c.from_residual.result c.in_err-write_text-in-Err-GaveUp.field-0.0 (p.1 ∙ ap Err p.2)
    c.in_err-write_text-in-Err-GaveUp.ensures.fault

pub returns-in_ok-write_text-in-Err-GaveUp : goal.returns-in_ok-write_text-in-Err-GaveUp
returns-in_ok-write_text-in-Err-GaveUp g c =
    GaveUp c.in_ok-write_text-in-Err-GaveUp.ensures.written

pub returns-in-Err-Net : goal.returns-in-Err-Net
returns-in-Err-Net g c = Fails fault.Net net_is_other

pub returns-in-Err-Memory : goal.returns-in-Err-Memory
returns-in-Err-Memory g c = Fails fault.Memory memory_is_other
