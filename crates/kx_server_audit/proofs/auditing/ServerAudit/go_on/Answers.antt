use Rattle.std.proofs.Common.{◌∷◌, [], ap, inl, inr, refl, subst}
use Rattle.std.proofs.lemmas.Result.{err_from_is_err_and}
use Rattle.kx_machines.specs.Brokers.{broker_stands}
use Rattle.kx_server_audit.specs.Driving.{Audited, GoesOn, making}
use Rattle.kx_server_audit.specs.Reads.{traces_of}
use Rattle.kx_server_audit.specs.declared.auditing.ServerAudit.{ServerAudit}
use Rattle.kx_trace_audit.specs.Auditing.{HasGone}
use Rattle.kx_trace_audit.specs.Readings.{advanced}
use Rattle.kx_server_audit.proofs.Advancing.{counted_more, ends_refused, ends_unread, makes}
use Rattle.kx_server_audit.proofs.Advancing.{others_stay, stays, still_told}
use Rattle.kx_server_audit.proofs.auditing.ServerAudit.go_on.Goals as goal

pub returns-in-Ok-Made : goal.returns-in-Ok-Made
returns-in-Ok-Made g c = λ start texts history has.
    let old = c.args.self.now in
    let new = record c.args.self.now { audit = c.go.new.self; counts = c.add.new.self } in
    let m = subst (HasGone making broker_stands (traces_of start.origins) start.starts texts history c.args.trace c.args.self.now.audit c.go.new.self)
    c.in-Ok-Made.field-0-is (c.in-Ok-Made.ensures (traces_of start.origins) start.starts texts history has) in
    let next = advanced m.reads.len m.reads.reading in
    makes g.I.Read.remaining start texts history (m.passed ∷ []) c.args.trace old new
    c.args.source.now c.pass.new.self c.pass.ensures.reader c.pass.ensures.ended
    (still_told c.args.trace old new c.args.source.now c.pass.new.self m.reads.reading next
    m.reads.there refl m.reads.traces_are c.pass.ensures.ended)
    (others_stay c.args.trace old.audit c.go.new.self next m.reads.traces_are)
    (λ done. counted_more done m.passed c.in-Ok-Made.sent c.args.self.now.counts c.add.new.self
    m.sent_is c.add.ensures.steps c.add.ensures.messages) m.audited

pub returns-in-Ok-NotTaken : goal.returns-in-Ok-NotTaken
returns-in-Ok-NotTaken g c = λ start texts history has.
    let old = c.args.self.now in
    let new = record c.args.self.now { audit = c.go.new.self } in
    let m = subst (HasGone making broker_stands (traces_of start.origins) start.starts texts history c.args.trace c.args.self.now.audit c.go.new.self)
    c.in-Ok-NotTaken.field-0-is (c.in-Ok-NotTaken.ensures (traces_of start.origins) start.starts texts history has) in
    let next = advanced m.reads.len m.reads.reading in
    let to = c.pass-in-Ok-NotTaken.new.self in
    stays g.I.Read.remaining start texts history c.args.trace old new c.args.source.now to
    c.pass-in-Ok-NotTaken.ensures.reader c.pass-in-Ok-NotTaken.ensures.ended
    (still_told c.args.trace old new c.args.source.now to m.reads.reading next m.reads.there refl
    m.reads.traces_are c.pass-in-Ok-NotTaken.ensures.ended)
    (others_stay c.args.trace old.audit c.go.new.self next m.reads.traces_are) refl m.audited

pub returns-in-Ok-Waits : goal.returns-in-Ok-Waits
returns-in-Ok-Waits g c = λ start texts history has.
    let gone = subst (HasGone making broker_stands (traces_of start.origins) start.starts texts history c.args.trace c.args.self.now.audit c.go.new.self)
    c.in-Ok-Waits.field-0-is (c.in-Ok-Waits.ensures (traces_of start.origins) start.starts texts history has) in
    record {
      audit_is = ap (λ (a : Audited). record c.args.self.now { audit = a }) gone.1;
      source_is = refl;
      stuck = inl gone.0;
    }

pub returns-then-source : goal.returns-then-source
returns-then-source g c = λ start texts history has.
    let gone = subst (HasGone making broker_stands (traces_of start.origins) start.starts texts history c.args.trace c.args.self.now.audit c.go.new.self)
    c.in-Ok-NeedsMore.field-0-is (c.in-Ok-NeedsMore.ensures (traces_of start.origins) start.starts texts history has) in
    record {
      audit_is = ap (λ (a : Audited). record c.args.self.now { audit = a }) gone.1;
      source_is = refl;
      stuck = inr (gone.0, c.if-source.true);
    }

pub returns-in_ok-read_on-in-Ok-NeedsMore : goal.returns-in_ok-read_on-in-Ok-NeedsMore
returns-in_ok-read_on-in-Ok-NeedsMore g c = λ start texts history has.
    let gone = subst (HasGone making broker_stands (traces_of start.origins) start.starts texts history c.args.trace
    c.args.self.now.audit c.go.new.self) c.in-Ok-NeedsMore.field-0-is
    (c.in-Ok-NeedsMore.ensures (traces_of start.origins) start.starts texts history has) in
    let same = ap (λ (a : Audited). record c.args.self.now { audit = a }) gone.1 in
    let goes = subst (λ (a : ServerAudit). GoesOn g.I.Read.remaining c.args.trace a
    c.read_on.new.self c.args.source.now c.read_on.new.source) same
    c.in_ok-read_on-in-Ok-NeedsMore.ensures in
    goes start texts history has

pub returns-in_err-read_on-in-Ok-NeedsMore : goal.returns-in_err-read_on-in-Ok-NeedsMore
returns-in_err-read_on-in-Ok-NeedsMore g c =
    let out = err_from_is_err_and c.from_residual.result c.from_residual.ensures.1 in
    rw (out.1, out.2) (ends_unread g.I.Read.remaining c.args.trace c.args.self.now
    c.read_on.new.self c.args.source.now _ c.in_err-read_on-in-Ok-NeedsMore.ensures)

pub returns-in-Err : goal.returns-in-Err
returns-in-Err g c = ends_refused g.I.Read.remaining c.args.trace c.args.self.now
    (record c.args.self.now { audit = c.go.new.self }) c.args.source.now c.items.result c.in-Err.why
    _ refl c.items.ensures c.in-Err.ensures c.refused_at.ensures
