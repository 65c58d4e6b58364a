use Rattle.std.proofs.Common.{◌≡◌, List, nat_lt, length, get_or, false, rules}
use Rattle.std.proofs.Common.{of_calls, arith, subst, sym, ap, ◌∙◌}
use Rattle.std.proofs.lemmas.Bool.Decides.{Decides-ltb}
use Rattle.std.proofs.lemmas.Fn.{always_returns_same}
use Rattle.kx_message.specs.declared.message.Message.{Message}
use Rattle.kx_client.specs.Internal.{AreNumbered, IsAwaitedAt, IsUnawaited}
use Rattle.kx_client.proofs.Numbers.{awaited_at, below_first, not_here, unawaited_from}
use Rattle.kx_model.specs.Replies.{correlation_of}
use Rattle.kx_client.proofs.waiting.Waiting.place_of.Goals as goal

pub returns-in_default : goal.returns-in_default
returns-in_default c =
    let reply = c.args.reply.now in
    let number = c.correlation-number.result in
    let ms = c.deref.result.now in
    let numbered : AreNumbered 0 ms c.self.inside.next =
    subst (λ (xs : List Message). AreNumbered 0 xs c.self.inside.next)
    (sym c.deref.ensures.value) c.self.invariant.1 in
    let point = c.partition_point-place.ensures.partitioned
    (λ m. nat_lt (correlation_of m) number)
    (always_returns_same _ _ _ (λ a r f k. search (rules, of_calls)))
    (below_first number ms c.self.inside.next numbered) in
    let same : c.deref-2.result.now ≡ ms =
    c.deref-2.ensures.value ∙ sym c.deref.ensures.value in
    let past : nat_lt c.partition_point-place.result (length ms) ≡ false =
    ap (λ (xs : List Message). nat_lt c.partition_point-place.result (length xs)) (sym same)
    ∙ sym c.in_default.ensures.lookup.0 in
    let found : IsUnawaited reply ms =
    unawaited_from reply ms c.self.inside.next c.partition_point-place.result number numbered
    (sym c.correlation-number.ensures) (λ k d lt len. point.0 k d (omega arith) lt) point.1
    (λ d lt. absurd (let h = (Decides-ltb _ _).1 lt in cc)) in
    subst (IsUnawaited reply) (c.deref.ensures.value ∙ ap (λ w. w.messages) c.self.view_is) found

pub returns-then-is_answer_to : goal.returns-then-is_answer_to
returns-then-is_answer_to c =
    let reply = c.args.reply.now in
    let place = c.partition_point-place.result in
    let m = c.in-Some.request.now in
    let ms = c.deref-2.result.now in
    let numbered : AreNumbered 0 ms c.self.inside.next =
    subst (λ (xs : List Message). AreNumbered 0 xs c.self.inside.next)
    (sym c.deref-2.ensures.value) c.self.invariant.1 in
    let found : IsAwaitedAt reply ms place =
    awaited_at reply ms c.self.inside.next place m numbered
    ((Decides-ltb place (length ms)).0 (sym c.in-Some.ensures.lookup.0))
    (sym c.in-Some.ensures.lookup.1) (sym c.is_answer_to.ensures ∙ c.if-is_answer_to.true) in
    subst (λ (xs : List Message). IsAwaitedAt reply xs place)
    (c.deref-2.ensures.value ∙ ap (λ w. w.messages) c.self.view_is) found

pub returns-else-is_answer_to : goal.returns-else-is_answer_to
returns-else-is_answer_to c =
    let reply = c.args.reply.now in
    let number = c.correlation-number.result in
    let place = c.partition_point-place.result in
    let m = c.in-Some.request.now in
    let ms = c.deref.result.now in
    let numbered : AreNumbered 0 ms c.self.inside.next =
    subst (λ (xs : List Message). AreNumbered 0 xs c.self.inside.next)
    (sym c.deref.ensures.value) c.self.invariant.1 in
    let point = c.partition_point-place.ensures.partitioned
    (λ m. nat_lt (correlation_of m) number)
    (always_returns_same _ _ _ (λ a r f k. search (rules, of_calls)))
    (below_first number ms c.self.inside.next numbered) in
    let same : c.deref-2.result.now ≡ ms =
    c.deref-2.ensures.value ∙ sym c.deref.ensures.value in
    let here : get_or ms place m ≡ m =
    ap (λ (xs : List Message). get_or xs place m) (sym same) ∙ sym c.in-Some.ensures.lookup.1 in
    let found : IsUnawaited reply ms =
    unawaited_from reply ms c.self.inside.next place number numbered
    (sym c.correlation-number.ensures) (λ k d lt len. point.0 k d (omega arith) lt) point.1
    (not_here reply ms place m here (sym c.is_answer_to.ensures ∙ c.if-is_answer_to.false)) in
    subst (IsUnawaited reply) (c.deref.ensures.value ∙ ap (λ w. w.messages) c.self.view_is) found
