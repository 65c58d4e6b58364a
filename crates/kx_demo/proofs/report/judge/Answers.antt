use Rattle.std.proofs.Common.{◌∙◌, ap, subst, Err, codes}
use Rattle.std.proofs.lemmas.Result.{err_from_is_err_and}
use Rattle.std.specs.Io.KnownBytes.{Appends}
use Rattle.kx_audit.specs.Replayed.{trails_of}
use Rattle.kx_cluster.specs.Any.{any_making}
use Rattle.kx_demo.specs.declared.fault.DemoFault.TheVariants as fault
use Rattle.kx_demo.specs.Telling.{Fails, SaysNo, SaysYes, line}
use Rattle.kx_processor.specs.Prefixed.{images_of}
use Rattle.kx_demo.proofs.Endings.{fails, memory_is_other, write_fails}
use Rattle.kx_demo.proofs.report.judge.Goals as goal

pub returns-in_err-tell-in-Ok : goal.returns-in_err-tell-in-Ok
returns-in_err-tell-in-Ok g c =
    let p = err_from_is_err_and c.from_residual.result c.from_residual.ensures.1 in
    fails (g.W.Write.contents c.args.out.now) (g.W.Write.contents c.tell.new.out)
    c.from_residual.result c.in_err-tell-in-Ok.field-0.0 (p.1 ∙ ap Err p.2)
    c.in_err-tell-in-Ok.ensures.fault

pub returns-in-Ok : goal.returns-in-Ok
returns-in-Ok g c =
    SaysYes c.in-Ok.run' (record {
      receipts = c.as_slice.result.now;
      system = c.in-Ok.ensures.run.0;
      yes = c.in-Ok.ensures.run.1;
    }) c.in_ok-tell-in-Ok.ensures.told

pub returns-in-Err-Memory : goal.returns-in-Err-Memory
returns-in-Err-Memory g c = Fails fault.Memory memory_is_other

pub returns-in_err-write_line-in-Err : goal.returns-in_err-write_line-in-Err
returns-in_err-write_line-in-Err g c =
    let r = c.from_residual-in_err-write_line-in-Err.result in
    let p = err_from_is_err_and r c.from_residual-in_err-write_line-in-Err.ensures.1 in
    write_fails (g.W.Write.contents c.args.out.now) (g.W.Write.contents c.write_line.new.out) r
    c.in_err-write_line-in-Err.field-0.0 (p.1 ∙ ap Err p.2)
    c.in_err-write_line-in-Err.ensures.fault

pub returns : goal.returns
returns g c =
    let old = g.W.Write.contents c.args.out.now in
    let new = g.W.Write.contents c.write_line.new.out in
    SaysNo (trails_of (any_making images_of) c.args.played.traces.items) c.as_slice.result.now
    c.in-Err.fault c.in-Err.ensures.refused
    (subst (λ n. Appends old new (line (codes "audit no") n)) (c.from.ensures ∙ c.number.ensures)
    c.in_ok-write_line-in-Err.ensures.written)
