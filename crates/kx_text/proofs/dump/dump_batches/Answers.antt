use Rattle.std.proofs.Common.{◌≡◌, ◌∙◌, ◌-◌, length, Ok, Err, ap, refl, subst, sym}
use Rattle.std.proofs.Common.{arith}
use Rattle.std.proofs.lemmas.Grind.{common_steps}
use Rattle.std.proofs.lemmas.Result.{err_from_is_err_and}
use Rattle.kx_text.specs.Dump.{Dumps}
use Rattle.kx_text.specs.declared.dump.DumpFault.TheVariants as dump_fault
use Rattle.kx_text.proofs.Dumping.{breaks_off, ends, goes_on, only_stops, only_whole, starts, stops}
use Rattle.kx_text.proofs.Dumping.{stops_off}
use Rattle.kx_text.proofs.dump.dump_batches.Goals as goal

pub loop-rest-init : goal.loop-rest-init
loop-rest-init g c = starts c.args.bytes.now (g.W.Write.contents c.args.writer.now)

pub loop-rest-preserved : goal.loop-rest-preserved
loop-rest-preserved g c =
    goes_on c.args.bytes.now c.loop-rest.rest.now c.in-Ok.behind.now c.in-Ok.batch
    (g.W.Write.contents c.args.writer.now) (g.W.Write.contents c.loop-rest.writer)
    (g.W.Write.contents c.write_batch.new.writer) c.loop-rest.invariant
    c.in-Ok.ensures.exact c.in-Ok.ensures.found.1 c.in_ok-write_batch-in-Ok.ensures

-- the write of a batch failed
pub returns-in_err-write_batch-in-Ok : goal.returns-in_err-write_batch-in-Ok
returns-in_err-write_batch-in-Ok g c =
    let bytes = c.args.bytes.now in
    let old = g.W.Write.contents c.args.writer.now in
    let mid = g.W.Write.contents c.loop-rest.writer in
    let new = g.W.Write.contents c.write_batch.new.writer in
    let p = err_from_is_err_and c.from_residual.result c.from_residual.ensures.1 in
    let r = c.from_residual.result in
    let is : r ≡ Err dump_fault.Write = p.1 ∙ ap Err p.2 in
    let dumps : Dumps bytes old new r = subst (Dumps bytes old new) (sym is)
    (breaks_off bytes c.loop-rest.rest.now c.in-Ok.behind.now c.in-Ok.batch old mid new
    (λ i. omega (arith, c.type_inv.bytes i)) c.loop-rest.invariant c.in-Ok.ensures.exact
    c.in-Ok.ensures.found.1 c.in_err-write_batch-in-Ok.ensures) in
    record {
      written = dumps;
      whole = only_whole bytes old new r dumps;
      stops = only_stops bytes old new r dumps;
    }

-- the write of the fault's line failed
pub returns-in_err-write_fault-in-Err : goal.returns-in_err-write_fault-in-Err
returns-in_err-write_fault-in-Err g c =
    let bytes = c.args.bytes.now in
    let old = g.W.Write.contents c.args.writer.now in
    let mid = g.W.Write.contents c.loop-rest.writer in
    let new = g.W.Write.contents c.write_fault.new.writer in
    let rest = c.loop-rest.rest.now in
    let place = length bytes - length rest in
    let p = err_from_is_err_and c.from_residual-in_err-write_fault-in-Err.result c.from_residual-in_err-write_fault-in-Err.ensures.1 in
    let r = c.from_residual-in_err-write_fault-in-Err.result in
    let is : r ≡ Err dump_fault.Write = p.1 ∙ ap Err p.2 in
    let dumps : Dumps bytes old new r = subst (Dumps bytes old new) (sym is)
    (stops_off bytes rest place c.in-Err.fault old mid new c.loop-rest.invariant refl
    (grind (arith, common_steps)) c.in-Err.ensures.exact c.in_err-write_fault-in-Err.ensures) in
    record {
      written = dumps;
      whole = only_whole bytes old new r dumps;
      stops = only_stops bytes old new r dumps;
    }

pub returns-in-Err : goal.returns-in-Err
returns-in-Err g c =
    let bytes = c.args.bytes.now in
    let old = g.W.Write.contents c.args.writer.now in
    let mid = g.W.Write.contents c.loop-rest.writer in
    let new = g.W.Write.contents c.write_fault.new.writer in
    let rest = c.loop-rest.rest.now in
    let place = length bytes - length rest in
    let dumps = stops bytes rest place c.in-Err.fault old mid new c.loop-rest.invariant refl
    (grind (arith, common_steps)) c.in-Err.ensures.exact c.in_ok-write_fault-in-Err.ensures in
    let r = Err (dump_fault.Batch place c.in-Err.fault) in
    record {
      written = dumps;
      whole = only_whole bytes old new r dumps;
      stops = only_stops bytes old new r dumps;
    }

pub returns : goal.returns
returns g c =
    let bytes = c.args.bytes.now in
    let old = g.W.Write.contents c.args.writer.now in
    let new = g.W.Write.contents c.loop-rest.writer in
    let dumps = ends bytes c.loop-rest.rest.now old new c.loop-rest.invariant
    (grind (arith, common_steps)) in
    record {
      written = dumps;
      whole = only_whole bytes old new (Ok tt) dumps;
      stops = only_stops bytes old new (Ok tt) dumps;
    }
