-- Who has an id.
use Rattle.std.proofs.Common.{◌≡◌, ℕ, Bool, true, false, ◌||◌, not, cond, List, [], ◌∷◌}
use Rattle.std.proofs.Common.{Option, Some, None, refl, sym, ap, ◌∙◌}
use Rattle.std.proofs.Common.{eqb}
use Rattle.std.specs.List.{find}
use Rattle.std.specs.Option.{option_map_or}
use Rattle.std.proofs.lemmas.Bool.{eq-eqb, eqb-true}
use Rattle.std.proofs.lemmas.List.{append-nil}
use Rattle.std.proofs.lemmas.Option.{same_Some}
use Rattle.std.proofs.lemmas.Slice.Eq.{bytes_eq-Decides}
use Rattle.kx_membership.specs.Roster.{has_id, is_among, is_numbered}
use Rattle.kx_membership.specs.Group.{id_of, number_of}
use Rattle.kx_membership.specs.Steps.{IsGroup, is_distinct, numbers}
use Rattle.kx_membership.specs.declared.group.Group.{Group}
use Rattle.kx_membership.specs.declared.member.Member.{Member}
use Rattle.kx_membership.proofs.Distinct.{both, distinct_front, not_true}

-- whether it is the first or one of the others
among_more : (n : ℕ) (x : Member) (members : List Member) → is_among n (numbers members) ≡ true
    → is_among n (numbers (x ∷ members)) ≡ true
among_more n x members rest = by (eqb x.number n)
  where
    by : (b : Bool) → (b || is_among n (numbers members)) ≡ true
    by true = refl
    by false = rest

among : (p : Member → Bool) (members : List Member) (m : Member) → find p members ≡ Some m
    → is_among m.number (numbers members) ≡ true
among p [] m found = absurd cc
among p (x ∷ members) m found = by (p x) found (λ there. among p members m there)
  where
    by : (b : Bool) → cond b (Some x) (find p members) ≡ Some m
        → (find p members ≡ Some m → is_among m.number (numbers members) ≡ true)
        → is_among m.number (numbers (x ∷ members)) ≡ true
    by true here rest =
        rw (ap (λ (y : Member). y.number) (same_Some x m here), eq-eqb m.number m.number refl) refl
    by false there rest = among_more m.number x members (rest there)

-- a number that isn't among those of members is another than that of one of them
another : (n : ℕ) (m : Member) (members : List Member) → is_among n (numbers members) ≡ false
    → is_among m.number (numbers members) ≡ true → eqb n m.number ≡ false
another n m members out is = by (eqb n m.number) refl
  where
    by : (b : Bool) → eqb n m.number ≡ b → b ≡ false
    by false e = refl
    by true e = let same = eqb-true n m.number e in absurd (cc)

-- a member that is found anyhow is found by its number
pub found_by_number : (p : Member → Bool) (members : List Member) (m : Member)
    → is_distinct (numbers members) ≡ true → find p members ≡ Some m
    → (find (is_numbered m.number) members ≡ Some m) × (p m ≡ true)
found_by_number p [] m distinct found = absurd cc
found_by_number p (x ∷ members) m distinct found =
    let parts = both (not (is_among x.number (numbers members)))
    (is_distinct (numbers members)) distinct in
    by (p x) refl found (not_true _ parts.0) (λ there. found_by_number p members m parts.1 there)
  where
    by : (b : Bool) → p x ≡ b → cond b (Some x) (find p members) ≡ Some m
        → is_among x.number (numbers members) ≡ false
        → (find p members ≡ Some m
        → (find (is_numbered m.number) members ≡ Some m) × (p m ≡ true))
        → (find (is_numbered m.number) (x ∷ members) ≡ Some m) × (p m ≡ true)
    by true is here out rest =
        let same = same_Some x m here in
        (rw (same, eq-eqb m.number m.number refl) refl, ap p (sym same) ∙ is)
    by false is there out rest =
        let other = another x.number m members out (among p members m there) in
        (rw other (rest there).0, (rest there).1)

-- the bytes of an id are those that were answered
pub known_whole : (g : Group) (id : List ℕ) (number : ℕ) → IsGroup g
    → number_of g id ≡ Some number → id_of g number ≡ id
known_whole g id number sound found = by (find (has_id id) g.roster.members) refl
  where
    by : (o : Option Member) → find (has_id id) g.roster.members ≡ o → id_of g number ≡ id
    by None none = absurd (cc)
    by (Some m) is =
        let front = distinct_front (numbers g.roster.members) g.roster.gone sound.apart in
        let known = found_by_number (has_id id) g.roster.members m
        (rw (append-nil (numbers g.roster.members)) at front) is in
        let same : m.number ≡ number = same_Some m.number number (rw is at found) in
        let text : m.id ≡ id = (bytes_eq-Decides m.id id).0 known.1 in
        ap (option_map_or (λ (x : Member). x.id) (find (is_numbered number) g.roster.members)) refl
        ∙ rw (← same, known.0) text
