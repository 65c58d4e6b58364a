use Rattle.kx_trace_audit.specs.Items.{AfterRefused, IsAfter}
use Rattle.kx_trace_audit.proofs.Records.{begins_at, if_err_at, if_ok_at}
use Rattle.kx_trace_audit.proofs.item.after_at.Goals as goal

pub returns-clause-after : goal.returns-clause-after
returns-clause-after c =
    let bytes = c.args.bytes.now in
    let begins = begins_at bytes c.in_ok-record.field-0 c.in-Some.record c.in-Some.len
    c.in-Some.is c.in_ok-record.ensures.read in
    if_ok_at c.after_record-after.result _ (IsAfter bytes c.args.ending)
    (λ x so. so bytes c.args.ending begins) c.after_record-after.ensures.after

pub returns-clause-refused : goal.returns-clause-refused
returns-clause-refused c =
    let bytes = c.args.bytes.now in
    let begins = begins_at bytes c.in_ok-record.field-0 c.in-Some.record c.in-Some.len
    c.in-Some.is c.in_ok-record.ensures.read in
    if_err_at c.after_record-after.result _ (AfterRefused bytes)
    (λ x so. so bytes begins) c.after_record-after.ensures.refused
