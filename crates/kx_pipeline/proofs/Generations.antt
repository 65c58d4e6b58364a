-- A group's generation never falls as its log grows, and two prefixes of one generation have the
-- same members: what was refused to a member of a generation stays refused, and an input partition
-- has one owner.
use Rattle.std.proofs.Common.{◌≡◌, ◌≤◌, ◌<◌, ◌+◌, ◌%◌, ℕ, suc, ℤ, pos, Bool, true, false, not, ◌&&◌}
use Rattle.std.proofs.Common.{◌||◌}
use Rattle.std.proofs.Common.{cond, List, [], ◌∷◌, ◌++◌, filter, length, ◌==◌, refl, sym, ap, ◌∙◌}
use Rattle.std.proofs.Common.{arith, append-nil, nat_lt, get_or, Some, None}
use Rattle.std.specs.Prelude.{bytes_eq, count_by, filter_map, flat_map, unwrap_or}
use Rattle.std.specs.List.{list_any, position_or_len}
use Rattle.std.specs.Ordering.{int_eq}
use Rattle.std.proofs.lemmas.Bool.{and_from, and_parts}
use Rattle.std.proofs.lemmas.Bool.Decides.{Decides-int_eq, nat_tests}
use Rattle.std.proofs.lemmas.Grind.{flat_map-append}
use Rattle.std.proofs.lemmas.List.Elements.{filter_agree, filter_map-append}
use Rattle.std.proofs.lemmas.List.Folds.{list_any-append}
use Rattle.std.proofs.lemmas.List.Sums.{sum_by-append, sum_by-cons}
use Rattle.kx_model.specs.Groups.{Fact, Offset, Joined, Left, Dropped, fact_of, facts, generation}
use Rattle.kx_model.specs.Groups.{has_gone, is_member, is_membership_of, joined_to, members}
use Rattle.kx_model.specs.Groups.{place_of}
use Rattle.kx_model.specs.Groups.{records_of, went_from}
use Rattle.kx_model.specs.Log.{Entry}
use Rattle.kx_system.specs.Processor.{owns}

------ what a longer log says

facts-append : (log more : List Entry) → facts (log ++ more) ≡ facts log ++ facts more
facts-append log more =
    ap (filter_map fact_of) (flat_map-append records_of log more)
    ∙ filter_map-append fact_of (flat_map records_of log) (flat_map records_of more)

count-append : {A : Type 0} (test : A → Bool) (xs ys : List A)
    → count_by test (xs ++ ys) ≡ count_by test xs + count_by test ys
count-append test xs ys = sum_by-append (λ x. cond (test x) 1 0) xs ys

pub generation-append : (log more : List Entry) (group : List ℕ)
    → generation (log ++ more) group ≡ generation log group + generation more group
unfolding generation
generation-append log more group =
    ap (count_by (is_membership_of group)) (facts-append log more)
    ∙ count-append (is_membership_of group) (facts log) (facts more)

-- it never falls
pub generation_grows : (log more : List Entry) (group : List ℕ)
    → generation log group ≤ generation (log ++ more) group
generation_grows log more group = omega (arith, generation-append log more group)

------ members

-- nobody of the group joins, leaves or is dropped
record IsQuiet (group : List ℕ) (said : List Fact) : Type 0 where
  joins : filter_map (joined_to group) said ≡ []
  goes : (member : ℕ) → list_any (went_from group member) said ≡ false

abbrev IsNone : List ℕ → List Fact → Type 0
IsNone group said = count_by (is_membership_of group) said ≡ 0

quiet : (group : List ℕ) (said : List Fact) → IsNone group said → IsQuiet group said
quiet group [] e = record { joins = refl; goes = λ member. refl }
quiet group (Offset g partition offset ∷ said) e =
    let rest = quiet group said e in record { joins = rest.joins; goes = rest.goes }
quiet group (Joined g m ∷ said) e = by (bytes_eq g group) refl (quiet group said)
  where
    by : (b : Bool) → bytes_eq g group ≡ b → (IsNone group said → IsQuiet group said)
        → IsQuiet group (Joined g m ∷ said)
    by true f more = absurd (omega (
      arith,
      e,
      sum_by-cons (λ x. cond (is_membership_of group x) 1 0) (Joined g m) said,
      ap {B = ℕ} (λ b. cond b 1 0) f,
    ))
    by false f more =
        let less = sum_by-cons (λ x. cond (is_membership_of group x) 1 0) (Joined g m) said in
        let rest = more (omega (arith, e, less)) in
        record {
          joins = rw f rest.joins;
          goes = rest.goes;
        }
quiet group (Left g m ∷ said) e = by (bytes_eq g group) refl (quiet group said)
  where
    by : (b : Bool) → bytes_eq g group ≡ b → (IsNone group said → IsQuiet group said)
        → IsQuiet group (Left g m ∷ said)
    by true f more = absurd (omega (
      arith,
      e,
      sum_by-cons (λ x. cond (is_membership_of group x) 1 0) (Left g m) said,
      ap {B = ℕ} (λ b. cond b 1 0) f,
    ))
    by false f more =
        let less = sum_by-cons (λ x. cond (is_membership_of group x) 1 0) (Left g m) said in
        let rest = more (omega (arith, e, less)) in
        record {
          joins = rest.joins;
          goes = λ member. rw f (rest.goes member);
        }
quiet group (Dropped g m ∷ said) e = by (bytes_eq g group) refl (quiet group said)
  where
    by : (b : Bool) → bytes_eq g group ≡ b → (IsNone group said → IsQuiet group said)
        → IsQuiet group (Dropped g m ∷ said)
    by true f more = absurd (omega (
      arith,
      e,
      sum_by-cons (λ x. cond (is_membership_of group x) 1 0) (Dropped g m) said,
      ap {B = ℕ} (λ b. cond b 1 0) f,
    ))
    by false f more =
        let less = sum_by-cons (λ x. cond (is_membership_of group x) 1 0) (Dropped g m) said in
        let rest = more (omega (arith, e, less)) in
        record {
          joins = rest.joins;
          goes = λ member. rw f (rest.goes member);
        }

or_no : (a b : Bool) → b ≡ false → (a || b) ≡ a
or_no true b e = refl
or_no false b e = e

-- of one generation are the same members
pub same_members : (log more : List Entry) (group : List ℕ)
    → generation (log ++ more) group ≡ generation log group
    → members (log ++ more) group ≡ members log group
unfolding members generation
same_members log more group e =
    let none = quiet group (facts more) (omega (arith, e, generation-append log more group)) in
    let whole = facts-append log more in
    filter_agree (λ m. not (has_gone (log ++ more) group m)) (λ m. not (has_gone log group m))
    (λ m. ap not (ap (list_any (went_from group m)) whole
    ∙ list_any-append (went_from group m) (facts log) (facts more)
    ∙ or_no (list_any (went_from group m) (facts log)) _ (none.goes m)))
    (filter_map (joined_to group) (facts (log ++ more)))
    ∙ ap (filter (λ m. not (has_gone log group m)))
    (ap (filter_map (joined_to group)) whole
    ∙ filter_map-append (joined_to group) (facts log) (facts more)
    ∙ ap (λ l. filter_map (joined_to group) (facts log) ++ l) none.joins
    ∙ append-nil (filter_map (joined_to group) (facts log)))

------ who may commit

-- the member is one, of the present generation
abbrev pub accepts : List Entry → List ℕ → ℕ → ℤ → Bool
accepts log group member named =
    is_member log group member && int_eq named (pos (generation log group))

------ who owns an input partition

abbrev Passes : (ℕ → Bool) → List ℕ → Type 0
Passes test xs =
    (position_or_len test xs < length xs)
    × (test (get_or xs (position_or_len test xs) 0) ≡ true)

first_passes : (test : ℕ → Bool) (xs : List ℕ) → list_any test xs ≡ true → Passes test xs
first_passes test [] e = absurd cc
first_passes test (x ∷ xs) e = by (test x) refl (first_passes test xs)
  where
    by : (b : Bool) → test x ≡ b → (list_any test xs ≡ true → Passes test xs)
        → Passes test (x ∷ xs)
    by true f more = rw f (omega arith, f)
    by false f more =
        let rest = more (ap (λ b. b || list_any test xs) (sym f) ∙ e) in
        let n = position_or_len test xs in
        let next : 1 + n ≡ suc n = omega arith in
        rw f (
          omega (arith, rest.0),
          ap (λ i. test (get_or (x ∷ xs) i 0)) next ∙ rest.1,
        )

-- a member stands at its place
member_at : (log : List Entry) (group : List ℕ) (member : ℕ)
    → is_member log group member ≡ true
    → get_or (members log group) (place_of log group member) 0 ≡ member
member_at log group member e =
    let test = λ (m : ℕ). m == member in
    let all = members log group in
    let p = first_passes test all e in
    let at : nat_lt (position_or_len test all) (length all) ≡ true =
    grind (arith, nat_tests, p.0) in
    let is : place_of log group member ≡ position_or_len test all =
    ap (λ b. unwrap_or (cond b (Some (position_or_len test all)) None) 0) at in
    let same : get_or all (position_or_len test all) 0 ≡ member = grind (arith, nat_tests, p.1) in
    ap (λ i. get_or all i 0) is ∙ same

-- whom an input partition belongs to
pub one_owner : (log : List Entry) (group : List ℕ) (c d q : ℕ)
    → is_member log group c ≡ true → is_member log group d ≡ true
    → owns (place_of log group c) (length (members log group)) q ≡ true
    → owns (place_of log group d) (length (members log group)) q ≡ true → c ≡ d
one_owner log group c d q a b m n =
    let count = length (members log group) in
    let x = and_parts (nat_lt 0 count) (q % count == place_of log group c) m in
    let y = and_parts (nat_lt 0 count) (q % count == place_of log group d) n in
    let same : place_of log group c ≡ place_of log group d = grind (arith, nat_tests, x.1, y.1) in
    sym (member_at log group c a) ∙ ap (λ i. get_or (members log group) i 0) same
    ∙ member_at log group d b

------ what stays as it is

-- the group is of that generation from one log to a later one, and its members are the same
pub record IsOne (log more : List Entry) (group : List ℕ) (named : ℕ) : Type 0 where
  pub here : generation log group ≡ named
  pub later : generation (log ++ more) group ≡ named
  pub members : members (log ++ more) group ≡ members log group

-- the present generation is the one that the member names
pub accepted_tells : (log : List Entry) (group : List ℕ) (member named : ℕ)
    → accepts log group member (pos named) ≡ true
    → (is_member log group member ≡ true) × (generation log group ≡ named)
accepted_tells log group member named e =
    let p = and_parts (is_member log group member)
    (int_eq (pos named) (pos (generation log group))) e in
    let same = (Decides-int_eq (pos named) (pos (generation log group))).0 p.1 in
    (p.0, cc)

-- a generation that was reached, and is the present one
pub one_generation : (log more : List Entry) (group : List ℕ) (named : ℕ)
    → named ≤ generation log group → generation (log ++ more) group ≡ named
    → IsOne log more group named
one_generation log more group named low e =
    let here : generation log group ≡ named =
    omega (arith, low, e, generation_grows log more group) in
    record {
      here = here;
      later = e;
      members = same_members log more group (e ∙ sym here);
    }

-- what isn't accepted once its generation is reached never is
pub never_again : (log more : List Entry) (group : List ℕ) (member named : ℕ)
    → named ≤ generation log group → accepts log group member (pos named) ≡ false
    → accepts (log ++ more) group member (pos named) ≡ true → ⊥
never_again log more group member named low refused taken =
    let t = accepted_tells (log ++ more) group member named taken in
    let one = one_generation log more group named low t.1 in
    let here : is_member log group member ≡ true =
    ap (λ l. list_any (λ m. m == member) l) (sym one.members) ∙ t.0 in
    let number = (Decides-int_eq (pos named) (pos (generation log group))).1
    (ap pos (sym one.here)) in
    let both = and_from (is_member log group member)
    (int_eq (pos named) (pos (generation log group))) here number in
    cc
