use Rattle.std.proofs.Common.{List, inr, rules, subst}
use Rattle.std.specs.Prelude.{IsFalse, IsTrue}
use Rattle.kx_audit.specs.Merged.{arrived_at}
use Rattle.kx_audit.specs.Origins.{HasStranger}
use Rattle.kx_message.specs.declared.message.Message.{Message}
use Rattle.kx_audit.proofs.Strangers.{have_stranger, no_stranger}
use Rattle.kx_audit.proofs.verdict.check_origins.Goals as goal

pub returns-then-branch-clause-refused : goal.returns-then-branch-clause-refused
returns-then-branch-clause-refused g c = λ _.
    let found : IsTrue c.in_ok-have_stranger.field-0 = search rules in
    let nodes = c.args.nodes.now in
    let has = subst (λ (ms : List Message). HasStranger ms nodes) c.in_ok-arrived.ensures.value
    (c.in_ok-have_stranger.ensures.some found) in
    inr (have_stranger g.B.Tells.making g.B.Machine.Machine.stands
    c.traces_tell_answers_and_logs.ensures.answers
    (arrived_at g.B.Tells.making c.args.clients nodes) nodes c.requires has)

pub returns-clause-origins : goal.returns-clause-origins
returns-clause-origins g c =
    let none : IsFalse c.in_ok-have_stranger.field-0 = search rules in
    let nodes = c.args.nodes.now in
    let without = subst (λ (ms : List Message). HasStranger ms nodes → ⊥)
    c.in_ok-arrived.ensures.value (c.in_ok-have_stranger.ensures.none none) in
    no_stranger g.B.Tells.making g.B.Machine.Machine.stands
    (arrived_at g.B.Tells.making c.args.clients nodes) nodes c.requires without
