use Rattle.std.proofs.Common.{drop, inr, subst}
use Rattle.kx_trace.specs.Records.{record_of}
use Rattle.kx_trace.specs.declared.record.Record.{Record}
use Rattle.kx_trace_audit.specs.Items.{Begins}
use Rattle.kx_trace_audit.proofs.item.after_record.Goals as goal

pub returns-in-Answered-clause-after : goal.returns-in-Answered-clause-after
returns-in-Answered-clause-after c = λ bytes ending begins.
    subst (λ (r : Record). Begins bytes (record_of r) c.args.len) c.in-Answered.is begins

pub returns-in-Untaken-clause-after : goal.returns-in-Untaken-clause-after
returns-in-Untaken-clause-after c = λ bytes ending begins.
    subst (λ (r : Record). Begins bytes (record_of r) c.args.len) c.in-Untaken.is begins

pub returns-in-Took-clause-refused : goal.returns-in-Took-clause-refused
returns-in-Took-clause-refused c = λ bytes begins.
    let took = subst (λ (r : Record). Begins bytes (record_of r) c.args.len) c.in-Took.is begins in
    inr (_, drop c.args.len bytes, took.text_is)
