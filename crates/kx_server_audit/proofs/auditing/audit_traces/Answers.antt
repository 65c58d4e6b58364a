use Rattle.std.proofs.Common.{◌∙◌, [], List, subst, sym}
use Rattle.std.proofs.lemmas.Bool.{false≢true}
use Rattle.kx_machines.specs.Brokers.{broker_stands}
use Rattle.kx_server_audit.specs.Driving.{making}
use Rattle.kx_server_audit.specs.Reads.{origins_of}
use Rattle.kx_server_audit.proofs.Reading.{begun, origins_are, unread_at}
use Rattle.kx_trace_audit.specs.Auditing.{HasAudited}
use Rattle.kx_trace_audit.specs.Beginnings.{heads_of}
use Rattle.kx_trace_audit.specs.declared.servers.TraceOf.{TraceOf}
use Rattle.kx_server_audit.proofs.auditing.audit_traces.Goals as goal

pub returns : goal.returns
returns g c = λ are.
    let remaining = g.I.Read.remaining in
    let traces = c.args.traces.now in
    let sources = c.args.sources.now.items in
    let begins = c.in_ok-audit.ensures.audited in
    let starts = begins.0 in (
      starts,
      c.run-ended.ensures
          (record { origins = origins_of remaining traces sources; starts = starts })
          (record {
            texts = heads_of traces;
            more = [];
            audited = subst (λ (of : List TraceOf). HasAudited making broker_stands of starts
                (heads_of traces) [] c.in_ok-audit.audit.audit)
                (sym (origins_are remaining traces sources are.count)) begins.1;
            read = begun remaining traces sources are.count are.unread;
            told = λ k s there r at ended. absurd (false≢true
                (sym (unread_at remaining sources k s are.unread there) ∙ ended));
            counted = c.in_ok-audit.ensures.counted;
          }),
    )
