use Rattle.std.proofs.Common.{◌≡◌, ℕ, Bool, List, Option, Some, drop, length, refl, slice_get, subst}
use Rattle.std.specs.Prelude.{IfSome}
use Rattle.std.proofs.lemmas.List.{take_rest}
use Rattle.std.proofs.lemmas.Option.{MatchOption-at_some, slice_get_read}
use Rattle.kx_trace_audit.specs.Auditing.{Auditing}
use Rattle.kx_trace_audit.specs.Items.{BeginsTold, told_of}
use Rattle.kx_trace_audit.specs.Logs.{log_size}
use Rattle.kx_trace_audit.specs.Lookahead.{IsDecided}
use Rattle.kx_trace_audit.specs.Peeking.{IsNext}
use Rattle.kx_trace_audit.specs.Readings.{Reading, ending_of}
use Rattle.kx_trace_audit.specs.declared.ending.Ending.{Ending}
use Rattle.kx_trace_audit.proofs.Peeked.{is_next}
use Rattle.kx_trace_audit.proofs.audit.TraceAudit.next.Goals as goal

pub returns-in-Ok-Some : goal.returns-in-Ok-Some
returns-in-Ok-Some g c =
    let stands = g.B.Machine.Machine.stands in
    let told = told_of c.in-Some-2.item.told in
    let used = c.in-Some-2.item.used in
    let stood = c.in-Ok-Some.stood in
    let inside : Auditing _ _ = record {
      following = c.self.inside.follower;
      traces = c.self.inside.traces.items;
    } in
    let all = c.deref.result.now in
    let r = c.in-Some.reading.now in
    let found = c.in-Some.ensures.lookup.3 in
    let there = subst (λ (traces : List Reading). slice_get traces c.args.trace ≡ Some r)
    c.deref.ensures.value (slice_get_read all (length all) c.args.trace r refl found.0 (found.1 r)) in
    let unread = c.unread-unread.result.now in
    let begins = subst (λ (bytes : List ℕ). BeginsTold bytes told used) c.unread-unread.ensures
    (MatchOption-at_some _ _ c.in-Some-2.item c.in-Some-2.is c.in_ok-item.ensures) in
    subst (λ (a : Auditing _ _). IfSome c.told_step.result (IsNext stands a c.args.trace))
    c.self.view_is (is_next stands inside c.args.trace r there told used begins stood
    (λ node mine state st.
    subst (λ (bytes : List ℕ). IsDecided told (log_size state) (ending_of r) (drop used bytes)
    (Some stood)) c.unread-unread.ensures
    (subst (λ (end : Ending). IsDecided told (log_size state) end (drop used unread) (Some stood))
    c.ending-ending.ensures
    (subst (λ (o : Option Bool). IsDecided told (log_size state) c.ending-ending.result
    (drop used unread) o) c.in-Ok-Some.field-0-is
    (subst (λ (bytes : List ℕ). IsDecided told (log_size state) c.ending-ending.result bytes
    c.in-Ok-Some.field-0) (take_rest unread used) (c.in-Ok-Some.ensures node mine state st)))))
    c.name.result c.name.ensures c.mode_for-store.result c.mode_for-store.ensures
    c.told_step.result c.told_step.ensures)
