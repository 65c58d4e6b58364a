use Rattle.std.proofs.Common.{◌++◌, [], List, ap, arith, subst, sym}
use Rattle.std.specs.Prelude.{length}
use Rattle.std.proofs.lemmas.Option.{slice_get_within}
use Rattle.kx_audit.specs.Joined.{Passed}
use Rattle.kx_follow.specs.Whole.{IsWholeRun}
use Rattle.kx_system.specs.System.{System}
use Rattle.kx_trace_audit.specs.Auditing.{Auditing, HasAudited}
use Rattle.kx_trace_audit.specs.Beginnings.{CameBefore}
use Rattle.kx_trace_audit.proofs.Traces.{led_by, none_before}
use Rattle.kx_trace_audit.proofs.audit.TraceAudit.left_over.Goals as goal

pub returns : goal.returns
returns g c = λ of starts texts history has.
    let making = g.B.Tells.making in
    let stands = g.B.Machine.Machine.stands in
    let inside : Auditing _ _ = record {
      following = c.self.inside.follower;
      traces = c.self.inside.traces.items;
    } in
    let own = subst (λ (a : Auditing _ _). HasAudited making stands of starts texts history a)
    (sym c.self.view_is) has in
    let seen = ap (λ (a : Auditing _ _). length a.traces) c.self.view_is in
    let run = λ (before : List Passed) (came : CameBefore before of starts).
    subst (λ (a : Auditing _ _). (s : System)
    × IsWholeRun making stands (before ++ history) a.following s) c.self.view_is
    (c.steps_are_an_open_schedule.ensures starts history before own.made
    (led_by making stands of starts texts history inside own before came)) in
    record {
      audited = has;
      read = λ k r at.
          let lt = slice_get_within c.args.self.now.traces k r at in
          c.loop-trace.invariant.read k r
          (omega (arith, lt, c.loop-trace-test.false, c.len-trace-end.ensures, seen)) at;
      run = run;
      alone = λ made. run [] (none_before of starts made);
    }
