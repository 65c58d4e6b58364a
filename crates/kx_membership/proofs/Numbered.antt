-- Which numbers the members have after a change.
use Rattle.std.proofs.Common.{◌≡◌, ℕ, Bool, true, false, ◌||◌, cond, List, [], ◌∷◌, ◌++◌}
use Rattle.std.proofs.Common.{Option, Some, None, refl, sym, ap, ◌∙◌, eqb, map, is_some, ◌⊎◌, inl, inr}
use Rattle.std.specs.List.{filter, find, list_any}
use Rattle.std.specs.Option.{option_or}
use Rattle.std.proofs.lemmas.Bool.{cond_both, eqb-true}
use Rattle.std.proofs.lemmas.List.Folds.{find-append}
use Rattle.kx_membership.specs.Roster.{RosterState, changed, counted, has, is_numbered, woken, woken_if}
use Rattle.kx_membership.specs.Steps.{numbers}
use Rattle.kx_membership.specs.declared.member.Member.{Member}

-- a change that keeps the number keeps all numbers
pub numbers_changed : (number : ℕ) (f : Member → Member) (members : List Member)
    → ((m : Member) → is_numbered number m ≡ true → (f m).number ≡ m.number)
    → numbers (changed number f members) ≡ numbers members
numbers_changed number f [] keeps = refl
numbers_changed number f (m ∷ members) keeps =
    cond_both (is_numbered number m) (f m ∷ members) (m ∷ changed number f members)
    (λ (changed_to : List Member). numbers changed_to ≡ m.number ∷ numbers members)
    (λ here. ap (λ n. n ∷ numbers members) (keeps m here))
    (λ there. ap (λ (rest : List ℕ). m.number ∷ rest) (numbers_changed number f members keeps))

pub numbers_counted : (now : ℕ) (members : List Member)
    → numbers (map (counted now) members) ≡ numbers members
numbers_counted now [] = refl
numbers_counted now (m ∷ members) =
    ap (λ (rest : List ℕ). m.number ∷ rest) (numbers_counted now members)

pub numbers_woken : (now : ℕ) (members : List Member)
    → numbers (map (woken now) members) ≡ numbers members
numbers_woken now [] = refl
numbers_woken now (m ∷ members) =
    ap (λ (rest : List ℕ). m.number ∷ rest) (numbers_woken now members)

pub numbers_woken_if : (b : Bool) (now : ℕ) (r : RosterState)
    → numbers (woken_if b now r).members ≡ numbers r.members
numbers_woken_if true now r = numbers_woken now r.members
numbers_woken_if false now r = refl

pub gone_woken_if : (b : Bool) (now : ℕ) (r : RosterState) → (woken_if b now r).gone ≡ r.gone
gone_woken_if true now r = refl
gone_woken_if false now r = refl

-- a change under a condition that keeps the number
pub same_number : (b : Bool) (m new : Member) → new.number ≡ m.number
    → (cond b new m).number ≡ m.number
same_number true m new e = e
same_number false m new e = refl

by_head : (b : Bool) (m : Member) (rest : Option Member) (others : Bool)
    → is_some rest ≡ others → is_some (cond b (Some m) rest) ≡ (b || others)
by_head true m rest others e = refl
by_head false m rest others e = e

-- members have a number as their numbers do
pub has_numbers : (number : ℕ) (members : List Member)
    → has number members ≡ list_any (λ n. eqb n number) (numbers members)
has_numbers number [] = refl
has_numbers number (m ∷ members) =
    by_head (eqb m.number number) m (find (is_numbered number) members)
    (list_any (λ n. eqb n number) (numbers members)) (has_numbers number members)

pub has_alike : (number : ℕ) (before after : List Member) → numbers after ≡ numbers before
    → has number after ≡ has number before
has_alike number before after same =
    has_numbers number after ∙ ap (λ (ns : List ℕ). list_any (λ n. eqb n number) ns) same
    ∙ sym (has_numbers number before)

pub has_same_numbers : (number : ℕ) (before after : List Member) → numbers after ≡ numbers before
    → has number before ≡ false → has number after ≡ false
has_same_numbers number before after same none = has_alike number before after same ∙ none

head_none : (b : Bool) (m : Member) (rest : Option Member) → is_some (cond b (Some m) rest) ≡ false
    → (b ≡ false) × (is_some rest ≡ false)
head_none true m rest e = absurd cc
head_none false m rest e = (refl, e)

kept_out : (number : ℕ) (m : Member) (kept : List Member) (d : Bool) → eqb m.number number ≡ false
    → has number kept ≡ false → has number (cond d (m ∷ kept) kept) ≡ false
kept_out number m kept true another none = rw another none
kept_out number m kept false another none = none

-- none joins by others' going
pub has_filtered : (number : ℕ) (p : Member → Bool) (members : List Member)
    → has number members ≡ false → has number (filter p members) ≡ false
has_filtered number p [] none = refl
has_filtered number p (m ∷ members) none =
    let parts = head_none (eqb m.number number) m (find (is_numbered number) members) none in
    kept_out number m (filter p members) (p m) parts.0 (has_filtered number p members parts.1)

or_none : (a b : Option Member) → is_some a ≡ false → is_some b ≡ false
    → is_some (option_or a b) ≡ false
or_none None b e f = f
or_none (Some m) b e f = absurd cc

-- who joins has its own number
pub has_pushed : (number : ℕ) (m : Member) (members : List Member) → has number members ≡ false
    → (has number (members ++ m ∷ []) ≡ false) ⊎ (m.number ≡ number)
has_pushed number m members none = by (eqb m.number number) refl
  where
    by : (b : Bool) → eqb m.number number ≡ b
        → (has number (members ++ m ∷ []) ≡ false) ⊎ (m.number ≡ number)
    by true e = inr (eqb-true m.number number e)
    by false e =
        let last : is_some (find (is_numbered number) (m ∷ [])) ≡ false = rw e refl in
        inl (ap is_some (find-append (is_numbered number) members (m ∷ []))
        ∙ or_none (find (is_numbered number) members) (find (is_numbered number) (m ∷ [])) none last)
