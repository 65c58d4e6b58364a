-- Equality of requests is an equivalence.
use Rattle.std.specs.Prelude.{◌≡◌, ℕ, ℤ, List, Bool, true, bytes_eq, ◌&&◌, ◌==◌, refl}
use Rattle.std.specs.Ordering.{int_eq}
use Rattle.std.specs.Cmp.{IsEquivalence, IsPartialEquivalence, partial_equiv_from_equiv}
use Rattle.std.specs.Cmp.Lexicographic.{nat_list_eq_equiv, options_equiv}
use Rattle.std.proofs.Common.{true≢false, sym}
use Rattle.std.proofs.lemmas.Cmp.{and_equiv, int_eq_equiv, nat_eq_equiv, on_equiv}
use Rattle.kx_message.specs.declared.requests.Caller.{Caller}
use Rattle.kx_model.specs.Verification.{Parked, Request, Target, ToGroup, ToPartition}
use Rattle.kx_model.specs.Verification.{same_caller, same_request, same_target}

callers_equal : IsEquivalence same_caller
callers_equal =
    and_equiv (on_equiv (λ (c : Caller). c.client) nat_eq_equiv)
    (on_equiv (λ (c : Caller). c.correlation) nat_eq_equiv)

-- a group's member with its generation
record Member : Type 0 where
  group : List ℕ
  member : ℕ
  generation : ℤ

abbrev same_member : Member → Member → Bool
same_member a b =
    bytes_eq a.group b.group && a.member == b.member && int_eq a.generation b.generation

abbrev member_of : List ℕ → ℕ → ℤ → Member
member_of group member generation =
    record { group = group; member = member; generation = generation }

members_equal : IsEquivalence same_member
members_equal =
    and_equiv (and_equiv (on_equiv (λ (m : Member). m.group) nat_list_eq_equiv)
    (on_equiv (λ (m : Member). m.member) nat_eq_equiv))
    (on_equiv (λ (m : Member). m.generation) int_eq_equiv)

targets_equal : IsEquivalence same_target
targets_equal = record {
  refl = one;
  symm = two;
  congr = three;
}
  where
    one : (t : Target) → same_target t t ≡ true
    one (ToPartition p) = nat_eq_equiv.refl p
    one (ToGroup group member generation) =
        members_equal.refl (member_of group member generation)

    two : (t u : Target) → same_target t u ≡ same_target u t
    two (ToPartition p) (ToPartition q) = nat_eq_equiv.symm p q
    two (ToPartition p) (ToGroup group member generation) = refl
    two (ToGroup group member generation) (ToPartition q) = refl
    two (ToGroup group member generation) (ToGroup g m n) =
        members_equal.symm (member_of group member generation) (member_of g m n)

    three : (t u v : Target) → same_target t u ≡ true → same_target t v ≡ same_target u v
    three (ToPartition p) (ToPartition q) (ToPartition r) e = nat_eq_equiv.congr p q r e
    three (ToPartition p) (ToPartition q) (ToGroup group member generation) e = refl
    three (ToPartition p) (ToGroup group member generation) v e = absurd (true≢false (sym e))
    three (ToGroup group member generation) (ToPartition q) v e = absurd (true≢false (sym e))
    three (ToGroup group member generation) (ToGroup g m n) (ToPartition r) e = refl
    three (ToGroup group member generation) (ToGroup g m n) (ToGroup h k l) e =
        members_equal.congr (member_of group member generation) (member_of g m n)
        (member_of h k l) e

pub requests_are_equal : IsEquivalence (λ (a b : Parked). same_request a.request b.request)
requests_are_equal =
    on_equiv (λ (p : Parked). p.request)
    (and_equiv
    (and_equiv
    (and_equiv (on_equiv (λ (r : Request). r.caller) callers_equal)
    (on_equiv (λ (r : Request). r.txn) (options_equiv nat_list_eq_equiv)))
    (on_equiv (λ (r : Request). r.target) targets_equal))
    (on_equiv (λ (r : Request). r.text) nat_list_eq_equiv))

pub requests_equal : IsPartialEquivalence (λ (a b : Parked). same_request a.request b.request)
requests_equal = partial_equiv_from_equiv requests_are_equal
