use Rattle.std.proofs.Common.{drop, subst, sym}
use Rattle.kx_trace.specs.Records.{record_of}
use Rattle.kx_trace.specs.declared.record.Record.{Record}
use Rattle.kx_trace_audit.specs.Items.{AnswersNothing, IsAnswer}
use Rattle.kx_trace_audit.proofs.Records.{begins_at, no_item, refused_so}
use Rattle.kx_trace_audit.proofs.item.item_at.Goals as goal

pub returns-in_err-record : goal.returns-in_err-record
returns-in_err-record c =
    refused_so c.from_residual.result c.in_err-record.field-0.0 c.from_residual.ensures.1 _ _
    (no_item c.args.bytes.now c.in_err-record.field-0.0 c.in_err-record.ensures.refused)

pub returns-in-Answered : goal.returns-in-Answered
returns-in-Answered c =
    let begins = begins_at c.args.bytes.now c.in_ok-record.field-0 c.in-Some.record c.in-Some.len
    c.in-Some.is c.in_ok-record.ensures.read in
    AnswersNothing (record_of c.in-Some.record) (drop c.in-Some.len c.args.bytes.now)
    (subst (λ (x : Record). IsAnswer (record_of x)) (sym c.in-Answered.is) tt) begins.text_is

pub returns-in-Untaken : goal.returns-in-Untaken
returns-in-Untaken c =
    let begins = begins_at c.args.bytes.now c.in_ok-record.field-0 c.in-Some.record c.in-Some.len
    c.in-Some.is c.in_ok-record.ensures.read in
    AnswersNothing (record_of c.in-Some.record) (drop c.in-Some.len c.args.bytes.now)
    (subst (λ (x : Record). IsAnswer (record_of x)) (sym c.in-Untaken.is) tt) begins.text_is
