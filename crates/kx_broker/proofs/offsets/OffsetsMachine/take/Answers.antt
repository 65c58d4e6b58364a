use Rattle.std.proofs.Common.{ap, subst}
use Rattle.std.specs.Prelude.{nat_lt}
use Rattle.kx_broker.specs.Offsets.{KeepsOffsets, StandsForGroups}
use Rattle.kx_broker.specs.Serving.{MayDo, Restarts}
use Rattle.kx_broker.specs.declared.restart.Restarted.{Restarted}
use Rattle.kx_broker.proofs.OffsetsTaking.{dropped_any, is_other, read_any, rests_any, unread_any}
use Rattle.kx_broker.proofs.Taking.{taken_as}
use Rattle.kx_machine.specs.Meaning.{input_of}
use Rattle.kx_broker.proofs.offsets.OffsetsMachine.take.Goals as goal

pub returns-in_ok-code-in-Drop-clause-taken : goal.returns-in_ok-code-in-Drop-clause-taken
returns-in_ok-code-in-Drop-clause-taken g c = λ state stands.
    let old = c.args.self.now in
    let new = c.drop_member.new.self in
    let failed = nat_lt c.failures-before.result c.failures.result in
    taken_as state (MayDo old) (λ s. StandsForGroups s new) _ (input_of c.args.input.now) _
    c.answer.result (ap input_of c.in-Drop.is) c.answer.ensures
    (dropped_any old new c.in-Drop.group c.in-Drop.member c.in_ok-code-in-Drop.code failed
    c.in_ok-code-in-Drop.ensures.ok
    (λ i. nat_lt (c.failures-before.ensures i) (c.failures.ensures i)) state stands)

pub returns-in-Read-clause-taken : goal.returns-in-Read-clause-taken
returns-in-Read-clause-taken g c = λ state stands.
    let old = c.args.self.now in
    let new = c.restart.new.self in
    let failed = nat_lt c.failures-before.result c.failures-in-Read.result in
    taken_as state (MayDo old) (λ s. StandsForGroups s new) _ (input_of c.args.input.now) _
    c.answer-in-Read.result (ap input_of c.in-Restart.is) c.answer-in-Read.ensures
    (read_any old new c.in-Restart.field-0 c.in-Read.found failed
    (λ p is. subst (λ (w : Restarted). Restarts KeepsOffsets p old new w) c.in-Read.is
    (c.in_ok-found-in-Restart.ensures p is))
    (λ i. nat_lt (c.failures-before.ensures i) (c.failures-in-Read.ensures i)) state stands)

pub returns-in-Unread-clause-taken : goal.returns-in-Unread-clause-taken
returns-in-Unread-clause-taken g c = λ state stands.
    let old = c.args.self.now in
    let new = c.restart.new.self in
    let failed = nat_lt c.failures-before.result c.failures-in-Unread.result in
    taken_as state (MayDo old) (λ s. StandsForGroups s new) _ (input_of c.args.input.now) _
    c.answer-in-Unread.result (ap input_of c.in-Restart.is) c.answer-in-Unread.ensures
    (unread_any old new c.in-Restart.field-0 failed
    (λ p is. subst (λ (w : Restarted). Restarts KeepsOffsets p old new w)
    c.in-Unread.is (c.in_ok-found-in-Restart.ensures p is))
    (λ i. nat_lt (c.failures-before.ensures i) (c.failures-in-Unread.ensures i)) state stands)

pub returns-in-Put-clause-taken : goal.returns-in-Put-clause-taken
returns-in-Put-clause-taken g c = λ state stands.
    let old = c.args.self.now in
    taken_as state (MayDo old) (λ s. StandsForGroups s old) (input_of c.args.input.now)
    (input_of c.args.input.now) _ c.answer-in-Put.result (λ i. input_of c.args.input.now)
    c.answer-in-Put.ensures
    (rests_any old (input_of c.args.input.now) (is_other c.args.input.now c.in-Put.is) state
    stands)
