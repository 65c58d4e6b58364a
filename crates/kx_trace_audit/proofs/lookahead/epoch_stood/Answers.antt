use Rattle.std.proofs.Common.{Bool, Option, Some, drop, subst, sym}
use Rattle.kx_trace.specs.Records.{record_of}
use Rattle.kx_trace_audit.specs.Lookahead.{AtEnd, ByRecord, EpochIsTold}
use Rattle.kx_trace_audit.proofs.Records.{begins_at, no_rest, none_at, refused_so}
use Rattle.kx_trace_audit.proofs.lookahead.epoch_stood.Goals as goal

pub returns-in_err-record : goal.returns-in_err-record
returns-in_err-record c =
    refused_so c.from_residual.result c.in_err-record.field-0.0 c.from_residual.ensures.1 _ _
    (no_rest c.args.bytes.now c.in_err-record.field-0.0 c.in_err-record.ensures.refused)

pub returns-in-Some : goal.returns-in-Some
returns-in-Some c =
    let bytes = c.args.bytes.now in
    let r = record_of c.in-Some.record in
    let begins = begins_at bytes c.in_ok-record.field-0 c.in-Some.record c.in-Some.field-0-1
    c.in-Some.is c.in_ok-record.ensures.read in
    subst (λ (stood : Bool). EpochIsTold c.args.log_len c.args.ending bytes (Some stood))
    (sym c.written_by-is_written.ensures) (ByRecord r (drop c.in-Some.field-0-1 bytes) begins.text_is)

pub returns-in-None : goal.returns-in-None
returns-in-None c =
    let bytes = c.args.bytes.now in
    subst (λ (o : Option Bool). EpochIsTold c.args.log_len c.args.ending bytes o)
    (sym c.written_at.ensures)
    (AtEnd (none_at bytes c.in_ok-record.field-0 c.in-None.is c.in_ok-record.ensures.read))
