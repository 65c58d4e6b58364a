use Rattle.kx_trace.specs.Records.{record_of}
use Rattle.kx_trace_audit.proofs.Records.{begins_at}
use Rattle.kx_trace_audit.proofs.lookahead.look_at.Goals as goal

pub returns : goal.returns
returns c = record {
  next = record_of c.in-Some.record;
  begins = begins_at c.args.bytes.now c.in_ok-record.field-0 c.in-Some.record c.in-Some.len
      c.in-Some.is c.in_ok-record.ensures.read;
  told_is = c.told_by-told.ensures;
  restarts_is = c.is_restart-restarts.ensures;
}
