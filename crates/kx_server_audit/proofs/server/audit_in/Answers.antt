use Rattle.std.proofs.Common.{IsTrue, List, None, subst, sym}
use Rattle.std.proofs.lemmas.Result.{IfOk-weaker, MatchResult-at_err, MatchResult-at_ok}
use Rattle.kx_server_audit.specs.Denials.{IsItemOf, IsLogDenied, IsStopped}
use Rattle.kx_server_audit.specs.Finding.{IsFound}
use Rattle.kx_server_audit.specs.Reads.{origins_of}
use Rattle.kx_server_audit.specs.Telling.{AreFindings, HaveLogs, SaysNoOf, machines_in}
use Rattle.kx_server_audit.specs.declared.findings.Findings.{Findings}
use Rattle.kx_trace_audit.specs.declared.servers.TraceOf.{TraceOf}
use Rattle.kx_server_audit.proofs.Comparing.{if_no, item_no, log_no, stopped_finds}
use Rattle.kx_server_audit.proofs.Finding.{are_all}
use Rattle.kx_server_audit.proofs.Reading.{origins_are}
use Rattle.kx_server_audit.proofs.server.audit_in.Goals as goal

pub returns-in-Err : goal.returns-in-Err
returns-in-Err g c = λ is_found.
    let remaining = g.F.File.Read.remaining in
    let left = g.F.ServerFiles.left c.args.files.now in
    let compares = c.args.options.compares_logs in
    let of = c.as_slice-of.result.now in
    let sources = c.args.traces.now.sources.items in
    let counts = c.counts.result in
    let transactions = c.transactions.result in
    let found : Findings = record {
      counts = counts;
      transactions = transactions;
      denial = None;
    } in
    let all = subst (λ (ts : List TraceOf). IsFound remaining left compares ts sources)
    (sym c.as_slice-of.ensures.value) is_found in
    let ended = c.in-Ok.ensures all.traces.begun in
    let denied = if_no c.stop_at.result (IsItemOf of c.in-Err.ending)
    (SaysNoOf left compares counts transactions) (λ d is. item_no remaining left compares of sources
    all ended.0 c.in-Ok.audit counts transactions c.counts.ensures c.transactions.ensures
    c.in-Err.ending d (MatchResult-at_err _ _ _ c.in-Err.is ended.1) is) c.stop_at.ensures in
    IfOk-weaker c.stopped.result (IsStopped c.stop_at.result found) (AreFindings left compares)
    (λ f so. stopped_finds left compares c.stop_at.result found f denied so) c.stopped.ensures

pub returns-in-Err-compare : goal.returns-in-Err-compare
returns-in-Err-compare g c = λ is_found.
    let remaining = g.F.File.Read.remaining in
    let left = g.F.ServerFiles.left c.args.files.now in
    let compares = c.args.options.compares_logs in
    let of = c.as_slice-of.result.now in
    let sources = c.args.traces.now.sources.items in
    let audit = c.in-Ok.audit in
    let counts = c.counts.result in
    let transactions = c.transactions.result in
    let found : Findings = record {
      counts = counts;
      transactions = transactions;
      denial = None;
    } in
    let all = subst (λ (ts : List TraceOf). IsFound remaining left compares ts sources)
    (sym c.as_slice-of.ensures.value) is_found in
    let ended = c.in-Ok.ensures all.traces.begun in
    let denied = if_no c.in-Err-compare.stop
    (λ d. IsTrue compares × IsLogDenied left (machines_in audit) of d)
    (SaysNoOf left compares counts transactions) (λ d h. log_no remaining left compares of sources all
    ended.0 audit counts transactions c.counts.ensures c.transactions.ensures d
    (MatchResult-at_ok _ _ _ c.in_default-ended.is ended.1) h) c.in-Err-compare.ensures.no in
    IfOk-weaker c.stopped-in-Err-compare.result (IsStopped c.in-Err-compare.stop found)
    (AreFindings left compares)
    (λ f so. stopped_finds left compares c.in-Err-compare.stop found f denied so)
    c.stopped-in-Err-compare.ensures

pub returns-in-Ok-compare : goal.returns-in-Ok-compare
returns-in-Ok-compare g c = λ is_found.
    let remaining = g.F.File.Read.remaining in
    let left = g.F.ServerFiles.left c.args.files.now in
    let compares = c.args.options.compares_logs in
    let of = c.as_slice-of.result.now in
    let sources = c.args.traces.now.sources.items in
    let all = subst (λ (ts : List TraceOf). IsFound remaining left compares ts sources)
    (sym c.as_slice-of.ensures.value) is_found in
    let ended = c.in-Ok.ensures all.traces.begun in
    record {
      start = record { origins = origins_of remaining of sources; starts = ended.0 };
      audit = c.in-Ok.audit;
      all = are_all remaining left compares of sources all;
      says = MatchResult-at_ok _ _ _ c.in_default-ended.is ended.1;
      counts_are = c.counts.ensures;
      transactions_are = c.transactions.ensures;
      logs = λ asked. subst (λ (ts : List TraceOf). HaveLogs left ts (machines_in c.in-Ok.audit))
          (sym (origins_are remaining of sources all.traces.begun.count))
          (c.in-Ok-compare.ensures.ok asked);
    }
