use Rattle.std.proofs.Common.{◌≡◌, ◌<◌, ◌∙◌, ℕ, List, ap, arith, length, refl, subst, sym}
use Rattle.std.specs.Prelude.{slice_set}
use Rattle.std.proofs.lemmas.Option.{same_Some, slice_get_read}
use Rattle.kx_trace_audit.specs.Auditing.{Auditing, HasAudited, HasGone, IsRefused}
use Rattle.kx_trace_audit.specs.Readings.{Reading, advanced, ending_of}
use Rattle.kx_trace_audit.specs.Stepping.{HasRefused, HasStepped}
use Rattle.kx_trace_audit.specs.declared.ending.Ending.{Ending}
use Rattle.kx_trace_audit.proofs.Records.{refused_so}
use Rattle.kx_trace_audit.proofs.Traces.{followed, stayed, went_on}
use Rattle.kx_trace_audit.proofs.audit.TraceAudit.go.Goals as goal

pub returns-in_err-stepped : goal.returns-in_err-stepped
returns-in_err-stepped g c = λ of starts texts history has.
    let making = g.B.Tells.making in
    let stands = g.B.Machine.Machine.stands in
    let k = c.args.trace in
    let r = c.index-reading.result.now in
    let inside : Auditing _ _ = record {
      following = c.self.inside.follower;
      traces = c.self.inside.traces.items;
    } in
    let within : k < length inside.traces = omega (arith, c.if-trace-len.false, c.len.ensures) in
    let at = slice_get_read inside.traces (length inside.traces) k r refl within
    c.index-reading.ensures in
    let old = subst (λ (a : Auditing _ _). HasAudited making stands of starts texts history a)
    (sym c.self.view_is) has in
    let mine = followed making stands of starts texts history inside k r old at k r at in
    let next = c.go_on.new.follower in
    let new : Auditing _ _ = record { following = next; traces = inside.traces } in
    let why = c.in_err-stepped.field-0.0 in
    refused_so c.from_residual.result why c.from_residual.ensures.1 _ _
    (subst (λ (a : Auditing _ _). IsRefused making stands of starts history k a new why) c.self.view_is
    (record {
      reading = r;
      there = at;
      refused = subst (λ (bytes : List ℕ). HasRefused making stands starts k bytes (ending_of r)
          history inside.following next why) c.unread-unread.ensures
          (subst (λ (end : Ending). HasRefused making stands starts k c.unread-unread.result.now end
          history inside.following next why) c.ending-ending.ensures
          (c.in_err-stepped.ensures.steps starts history old.made mine.node mine.there));
      traces_are = refl;
    }))

pub returns-then-stepped-eq0 : goal.returns-then-stepped-eq0
returns-then-stepped-eq0 g c = λ of starts texts history has.
    let making = g.B.Tells.making in
    let stands = g.B.Machine.Machine.stands in
    let k = c.args.trace in
    let r = c.index-reading.result.now in
    let inside : Auditing _ _ = record {
      following = c.self.inside.follower;
      traces = c.self.inside.traces.items;
    } in
    let within : k < length inside.traces = omega (arith, c.if-trace-len.false, c.len.ensures) in
    let at = slice_get_read inside.traces (length inside.traces) k r refl within
    c.index-reading.ensures in
    let old = subst (λ (a : Auditing _ _). HasAudited making stands of starts texts history a)
    (sym c.self.view_is) has in
    let mine = followed making stands of starts texts history inside k r old at k r at in
    let next = c.go_on.new.follower in
    let new : Auditing _ _ = record { following = next; traces = inside.traces } in
    let became = c.in_ok-stepped.stepped.progress in
    let used = c.in_ok-stepped.stepped.used in
    let is = subst (λ (bytes : List ℕ). HasStepped making stands starts k bytes (ending_of r) history
    inside.following next became used) c.unread-unread.ensures
    (subst (λ (end : Ending). HasStepped making stands starts k c.unread-unread.result.now end history
    inside.following next became used) c.ending-ending.ensures
    (c.in_ok-stepped.ensures.steps starts history old.made mine.node mine.there)) in
    subst (λ (a : Auditing _ _). HasGone making stands of starts texts history k a new became) c.self.view_is
    (stayed making stands of starts texts history inside k r old at next became
    (subst (λ (count : ℕ). HasStepped making stands starts k r.unread (ending_of r) history
    inside.following next became count) c.if-stepped-eq0.true is))

pub returns : goal.returns
returns g c = λ of starts texts history has.
    let making = g.B.Tells.making in
    let stands = g.B.Machine.Machine.stands in
    let k = c.args.trace in
    let r = c.index-reading.result.now in
    let inside : Auditing _ _ = record {
      following = c.self.inside.follower;
      traces = c.self.inside.traces.items;
    } in
    let within : k < length inside.traces = omega (arith, c.if-trace-len.false, c.len.ensures) in
    let at = slice_get_read inside.traces (length inside.traces) k r refl within
    c.index-reading.ensures in
    let old = subst (λ (a : Auditing _ _). HasAudited making stands of starts texts history a)
    (sym c.self.view_is) has in
    let mine = followed making stands of starts texts history inside k r old at k r at in
    let next = c.go_on.new.follower in
    let became = c.in_ok-stepped.stepped.progress in
    let used = c.in_ok-stepped.stepped.used in
    let is = subst (λ (bytes : List ℕ). HasStepped making stands starts k bytes (ending_of r) history
    inside.following next became used) c.unread-unread.ensures
    (subst (λ (end : Ending). HasStepped making stands starts k c.unread-unread.result.now end history
    inside.following next became used) c.ending-ending.ensures
    (c.in_ok-stepped.ensures.steps starts history old.made mine.node mine.there)) in
    let q = c.index_mut.result.now in
    let here = slice_get_read inside.traces (length inside.traces) k q refl within
    c.index_mut.ensures.value in
    let then : advanced used r ≡ c.advance.new.self =
    ap (advanced used) (same_Some r q (sym at ∙ here)) ∙ sym c.advance.ensures in
    let some : 0 < used = omega (arith, c.if-stepped-eq0.false) in
    subst (λ (x : Reading). HasGone making stands of starts texts history k c.args.self.now
    (record { following = next; traces = slice_set inside.traces k x }) became) then
    (subst (λ (a : Auditing _ _). HasGone making stands of starts texts history k a
    (record { following = next; traces = slice_set inside.traces k (advanced used r) }) became)
    c.self.view_is (went_on making stands of starts texts history inside k r old at next became used some is))
