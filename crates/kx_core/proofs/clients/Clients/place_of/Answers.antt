use Rattle.std.proofs.Common.{◌≡◌, List, Some, None, nat_lt, length, false, rules}
use Rattle.std.proofs.Common.{of_calls, arith, subst, sym, ap, ◌∙◌, refl}
use Rattle.std.specs.Prelude.{slice_get}
use Rattle.std.proofs.lemmas.Bool.Decides.{Decides-ltb, Decides-eqb}
use Rattle.std.proofs.lemmas.Fn.{always_returns_same}
use Rattle.std.proofs.lemmas.Option.{get_or_from_slice_get, slice_get_read}
use Rattle.kx_core.specs.Clients.{client_in, clients_in}
use Rattle.kx_client_node.specs.Clients.{client_of}
use Rattle.kx_client_node.specs.declared.any_client.AnyClient.{AnyClient}
use Rattle.kx_core.proofs.Rising.{Rising, absent_at, at_least_number, below_first}
use Rattle.kx_core.proofs.clients.Clients.place_of.Goals as goal

pub returns-in_default : goal.returns-in_default
returns-in_default g c =
    let n = c.args.number in
    let xs = c.deref.result.now in
    let first = c.deref.ensures.value in
    let rising : Rising client_of xs = subst (Rising client_of) (sym first) c.self.invariant in
    let point = c.partition_point-place.ensures.partitioned (λ d. nat_lt (client_of d).number n)
    (always_returns_same _ _ _ (λ a r f k. search (rules, of_calls)))
    (below_first client_of n xs rising) in
    let same : c.deref-2.result.now ≡ xs = c.deref-2.ensures.value ∙ sym first in
    let past : nat_lt c.partition_point-place.result (length xs) ≡ false =
    ap (λ (ys : List (AnyClient _)). nat_lt c.partition_point-place.result (length ys)) (sym same)
    ∙ sym c.in_default.ensures.lookup.0 in
    let over = at_least_number c.partition_point-place.result (length xs) past in
    let none = absent_at client_of n xs c.partition_point-place.result rising
    (λ k d lt. point.0 k d (omega arith) lt)
    (λ d lt. absurd (omega (arith, lt, over))) (λ d lt e. omega (arith, lt, over)) in
    subst (λ (ys : List (AnyClient _)). client_in (clients_in ys) n ≡ None)
    (first ∙ c.self.view_is) none

pub returns-then-eq : goal.returns-then-eq
returns-then-eq g c =
    let place = c.partition_point-place.result in
    let xs = c.deref-2.result.now in
    let client = c.in-Some.client.now in
    let there : slice_get xs place ≡ Some client = slice_get_read xs (length xs) place client refl
    ((Decides-ltb place (length xs)).0 (sym c.in-Some.ensures.lookup.0)) c.in-Some.ensures.lookup.1
    in (
      client,
      subst (λ (ys : List (AnyClient _)). slice_get ys place ≡ Some client)
          (c.deref-2.ensures.value ∙ c.self.view_is) there,
      sym c.number.ensures ∙ (Decides-eqb _ _).0 (sym c.eq.ensures ∙ c.if-eq.true),
    )

pub returns-else-eq : goal.returns-else-eq
returns-else-eq g c =
    let n = c.args.number in
    let place = c.partition_point-place.result in
    let xs = c.deref.result.now in
    let first = c.deref.ensures.value in
    let rising : Rising client_of xs = subst (Rising client_of) (sym first) c.self.invariant in
    let point = c.partition_point-place.ensures.partitioned (λ d. nat_lt (client_of d).number n)
    (always_returns_same _ _ _ (λ a r f k. search (rules, of_calls)))
    (below_first client_of n xs rising) in
    let same : c.deref-2.result.now ≡ xs = c.deref-2.ensures.value ∙ sym first in
    let client = c.in-Some.client.now in
    let there : slice_get c.deref-2.result.now place ≡ Some client =
    slice_get_read c.deref-2.result.now (length c.deref-2.result.now) place client refl
    ((Decides-ltb place (length c.deref-2.result.now)).0 (sym c.in-Some.ensures.lookup.0))
    c.in-Some.ensures.lookup.1 in
    let here : slice_get xs place ≡ Some client =
    subst (λ (ys : List (AnyClient _)). slice_get ys place ≡ Some client) same there in
    let apart : (client_of client).number ≡ n → ⊥ =
    λ e. let yes = (Decides-eqb c.number.result n).1 (c.number.ensures ∙ e) in
    let no = sym c.eq.ensures ∙ c.if-eq.false in absurd cc in
    let none = absent_at client_of n xs place rising
    (λ k d lt. point.0 k d (omega arith) lt) (λ d lt. point.1 place d (omega arith) lt)
    (λ d lt e. apart (ap (λ (x : AnyClient _). (client_of x).number)
    (sym (get_or_from_slice_get xs place client d here)) ∙ e)) in
    subst (λ (ys : List (AnyClient _)). client_in (clients_in ys) n ≡ None)
    (first ∙ c.self.view_is) none
