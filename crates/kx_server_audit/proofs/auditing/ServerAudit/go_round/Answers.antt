use Rattle.std.proofs.Common.{arith}
use Rattle.std.proofs.lemmas.Result.{err_from_is_err_and}
use Rattle.kx_server_audit.proofs.Advancing.{all_stuck, next_trace, one_ends}
use Rattle.kx_server_audit.proofs.Reading.{count_read}
use Rattle.kx_server_audit.proofs.auditing.ServerAudit.go_round.Goals as goal

pub loop-trace-preserved : goal.loop-trace-preserved
loop-trace-preserved g c = λ start before.
    next_trace g.I.Read.remaining start c.loop-trace.trace c.loop-trace.self
    c.go_far.new.self c.index_mut.result.now c.go_far.new.source c.loop-trace.sources.items
    c.loop-trace.went_on _ c.index_mut.ensures.value c.in_ok-went_on.ensures
    (c.loop-trace.invariant start before)

pub returns-in_err-went_on : goal.returns-in_err-went_on
returns-in_err-went_on g c = λ start before.
    let remaining = g.I.Read.remaining in
    let w = c.loop-trace.invariant start before in
    let first = count_read remaining start.origins before.texts c.args.sources.now.items before.read in
    let now = count_read remaining start.origins w.0.texts c.loop-trace.sources.items w.0.read in
    let out = err_from_is_err_and c.from_residual.result c.from_residual.ensures.1 in
    rw (out.1, out.2) (one_ends remaining start c.loop-trace.trace c.loop-trace.self
    c.go_far.new.self c.index_mut.result.now c.loop-trace.sources.items _
    c.index_mut.ensures.value (omega (arith, first.1, now.1)) c.in_err-went_on.ensures w.0)

pub returns : goal.returns
returns g c = λ start before.
    let remaining = g.I.Read.remaining in
    let w = c.loop-trace.invariant start before in
    let first = count_read remaining start.origins before.texts c.args.sources.now.items before.read in
    let now = count_read remaining start.origins w.0.texts c.loop-trace.sources.items w.0.read in (
      w.0,
      λ none. all_stuck c.loop-trace.trace c.loop-trace.self c.loop-trace.sources.items
          (omega (arith, first.1, now.1)) (w.1 none),
    )
