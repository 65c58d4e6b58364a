use Rattle.std.proofs.Common.{ℕ, List, ap, refl, subst, take}
use Rattle.kx_server_audit.specs.Driving.{AreAudited, IsFed}
use Rattle.kx_trace_audit.specs.Auditing.{fed}
use Rattle.kx_server_audit.proofs.Advancing.{reads}
use Rattle.kx_server_audit.proofs.auditing.ServerAudit.read_on.Goals as goal

pub returns-in_ok-feed-in-Ok : goal.returns-in_ok-feed-in-Ok
returns-in_ok-feed-in-Ok g c = λ start texts history has.
    let count = c.in-Ok.count in
    let trace = c.args.trace in
    let fed_so = subst (λ (b : List ℕ). AreAudited start (fed texts trace (take count b)) history
    c.feed.new.audit)
    c.deref.ensures.value (c.in_ok-feed-in-Ok.ensures.audited start texts history has) in
    let is_fed = subst (λ (b : List ℕ). IsFed trace (take count b) c.args.self.now.audit
    c.feed.new.audit)
    c.deref.ensures.value c.in_ok-feed-in-Ok.ensures.fed in
    reads g.I.Read.remaining start texts history trace c.args.self.now
    (record c.args.self.now { audit = c.feed.new.audit; piece = c.read.new.piece })
    c.args.source.now c.read.new.self (take count c.read.new.piece.items) c.in-Ok.ensures.read
    c.in-Ok.ensures.end
    (λ at_end. ap (λ (n : ℕ). take n c.read.new.piece.items) (c.in-Ok.ensures.none at_end))
    is_fed refl fed_so
