use Rattle.std.proofs.Common.{◌≤◌, ◌<◌, List, ap, arith, length, refl, subst, sym}
use Rattle.std.specs.Prelude.{ℕ, slice_set}
use Rattle.std.proofs.lemmas.Option.{slice_get_read}
use Rattle.kx_trace_audit.specs.Auditing.{Auditing, HasAudited, IsFedAt, fed}
use Rattle.kx_trace_audit.specs.Readings.{Reading}
use Rattle.kx_trace_audit.proofs.Texts.{fed_at, fed_past, nothing_fed}
use Rattle.kx_trace_audit.proofs.Traces.{feeds}
use Rattle.kx_trace_audit.proofs.audit.TraceAudit.feed.Goals as goal

pub returns-then-trace-len-clause-audited : goal.returns-then-trace-len-clause-audited
returns-then-trace-len-clause-audited g c = λ of starts texts history has.
    let making = g.B.Tells.making in
    let stands = g.B.Machine.Machine.stands in
    let seen = ap (λ (a : Auditing _ _). length a.traces) c.self.view_is in
    let past : length texts ≤ c.args.trace =
    omega (arith, c.if-trace-len.true, c.len.ensures, seen, has.count) in
    subst (λ (l : List (List ℕ)). HasAudited making stands of starts l history c.args.self.now)
    (sym (nothing_fed texts c.args.trace c.args.bytes.now past)) has

pub returns-clause-audited : goal.returns-clause-audited
returns-clause-audited g c = λ of starts texts history has.
    let making = g.B.Tells.making in
    let stands = g.B.Machine.Machine.stands in
    let k = c.args.trace in
    let r = c.index_mut.result.now in
    let inside : Auditing _ _ = record {
      following = c.self.inside.follower;
      traces = c.self.inside.traces.items;
    } in
    let within : k < length inside.traces = omega (arith, c.if-trace-len.false, c.len.ensures) in
    let at = slice_get_read inside.traces (length inside.traces) k r refl within
    c.index_mut.ensures.value in
    let old = subst (λ (a : Auditing _ _). HasAudited making stands of starts texts history a)
    (sym c.self.view_is) has in
    subst (λ (q : Reading). HasAudited making stands of starts (fed texts k c.args.bytes.now) history
    (record { following = inside.following; traces = slice_set inside.traces k q }))
    (sym c.in_ok-feed.ensures.ok)
    (feeds making stands of starts texts history inside k r old at c.args.bytes.now)

pub returns-then-trace-len-clause-ok : goal.returns-then-trace-len-clause-ok
returns-then-trace-len-clause-ok g c =
    let seen = ap (λ (a : Auditing _ _). length a.traces) c.self.view_is in
    fed_past c.args.self.now c.args.trace c.args.bytes.now
    (omega (arith, c.if-trace-len.true, c.len.ensures, seen))

pub returns-clause-ok : goal.returns-clause-ok
returns-clause-ok g c =
    let k = c.args.trace in
    let q = c.feed.new.self in
    let inside : Auditing _ _ = record {
      following = c.self.inside.follower;
      traces = c.self.inside.traces.items;
    } in
    let new : Auditing _ _ = record {
      following = inside.following;
      traces = slice_set inside.traces k q;
    } in
    let at = slice_get_read inside.traces (length inside.traces) k c.index_mut.result.now refl
    (omega (arith, c.if-trace-len.false, c.len.ensures)) c.index_mut.ensures.value in
    subst (λ (a : Auditing _ _). IsFedAt a k c.args.bytes.now new) c.self.view_is
    (fed_at inside k c.index_mut.result.now q c.args.bytes.now at c.in_ok-feed.ensures.ok)
