-- Lists in which each number stands once.
use Rattle.std.proofs.Common.{◌≡◌, ℕ, Bool, true, false, ◌&&◌, ◌||◌, not, cond, List, [], ◌∷◌, ◌++◌}
use Rattle.std.proofs.Common.{refl, sym, ap, ◌∙◌, eqb, append_assoc}
use Rattle.std.specs.List.{filter}
use Rattle.std.proofs.lemmas.Bool.{eq-eqb, eqb-true}
use Rattle.std.proofs.lemmas.List.{append-nil}
use Rattle.std.proofs.lemmas.List.Folds.{list_any-append}
use Rattle.kx_membership.specs.Roster.{goes, gone_numbers, is_among}
use Rattle.kx_membership.specs.Steps.{is_distinct, numbers}
use Rattle.kx_membership.specs.declared.member.Member.{Member}
use Rattle.kx_membership.specs.declared.member.Going.{Going}

pub neither : (a b : Bool) → (a || b) ≡ false → (a ≡ false) × (b ≡ false)
neither true b e = absurd cc
neither false b e = (refl, e)

pub both : (a b : Bool) → (a && b) ≡ true → (a ≡ true) × (b ≡ true)
both true b e = (refl, e)
both false b e = absurd cc

pub not_true : (b : Bool) → not b ≡ true → b ≡ false
not_true true e = absurd cc
not_true false e = refl

turned : (a b : ℕ) → eqb a b ≡ false → eqb b a ≡ false
turned a b e = by (eqb b a) refl
  where
    by : (c : Bool) → eqb b a ≡ c → c ≡ false
    by true f =
        let same : eqb a b ≡ true = eq-eqb a b (sym (eqb-true b a f)) in
        absurd (cc)
    by false f = refl

pub out_of_both : (n : ℕ) (xs ys : List ℕ) → is_among n (xs ++ ys) ≡ false
    → (is_among n xs ≡ false) × (is_among n ys ≡ false)
out_of_both n xs ys out =
    neither (is_among n xs) (is_among n ys) (sym (list_any-append (λ m. eqb m n) xs ys) ∙ out)

pub out_of_all : (n : ℕ) (xs ys : List ℕ) → is_among n xs ≡ false → is_among n ys ≡ false
    → is_among n (xs ++ ys) ≡ false
out_of_all n xs ys first second = list_any-append (λ m. eqb m n) xs ys ∙ rw (first, second) refl

-- one more that isn't there yet
pub distinct_insert : (xs ys : List ℕ) (n : ℕ) → is_distinct (xs ++ ys) ≡ true
    → is_among n (xs ++ ys) ≡ false → is_distinct (xs ++ n ∷ ys) ≡ true
distinct_insert [] ys n distinct out = rw (out, distinct) refl
distinct_insert (x ∷ xs) ys n distinct out =
    let parts = both (not (is_among x (xs ++ ys))) (is_distinct (xs ++ ys)) distinct in
    let outs = neither (eqb x n) (is_among n (xs ++ ys)) out in
    let x_out = out_of_both x xs ys (not_true (is_among x (xs ++ ys)) parts.0) in
    let tail : is_among x (n ∷ ys) ≡ false = rw (turned x n outs.0) x_out.1 in
    let x_new : is_among x (xs ++ n ∷ ys) ≡ false = out_of_all x xs (n ∷ ys) x_out.0 tail in
    rw (x_new, distinct_insert xs ys n parts.1 outs.1) refl

pub distinct_front : (xs ys : List ℕ) → is_distinct (xs ++ ys) ≡ true
    → is_distinct (xs ++ []) ≡ true
distinct_front [] ys distinct = refl
distinct_front (x ∷ xs) ys distinct =
    let parts = both (not (is_among x (xs ++ ys))) (is_distinct (xs ++ ys)) distinct in
    let out = out_of_both x xs ys (not_true (is_among x (xs ++ ys)) parts.0) in
    let new : is_among x (xs ++ []) ≡ false = out_of_all x xs [] out.0 refl in
    rw (new, distinct_front xs ys parts.1) refl

out_step : (going counted : Bool) (n : ℕ) (m : Member) (staying leaving : List Member)
    (gone : List ℕ) → eqb m.number n ≡ false
    → is_among n (numbers staying ++ (gone ++ numbers leaving)) ≡ false
    → is_among n (numbers (cond (not going) (m ∷ staying) staying)
    ++ (gone ++ numbers (cond (going && counted) (m ∷ leaving) leaving))) ≡ false
out_step true true n m staying leaving gone another out =
    let parts = out_of_both n (numbers staying) (gone ++ numbers leaving) out in
    let rest = out_of_both n gone (numbers leaving) parts.1 in
    let last : is_among n (m.number ∷ numbers leaving) ≡ false = rw (another, rest.1) refl in
    out_of_all n (numbers staying) (gone ++ m.number ∷ numbers leaving) parts.0
    (out_of_all n gone (m.number ∷ numbers leaving) rest.0 last)
out_step true false n m staying leaving gone another out = out
out_step false counted n m staying leaving gone another out = rw (another, out) refl

out_after : (n : ℕ) (who : Going) (members : List Member) (gone : List ℕ)
    → is_among n (numbers members ++ gone) ≡ false
    → is_among n (numbers (filter (λ m. not (goes who m)) members)
    ++ (gone ++ gone_numbers who members)) ≡ false
out_after n who [] gone out = rw append-nil out
out_after n who (m ∷ members) gone out =
    let parts = neither (eqb m.number n) (is_among n (numbers members ++ gone)) out in
    out_step (goes who m) m.is_counted n m (filter (λ m. not (goes who m)) members)
    (filter (λ m. goes who m && m.is_counted) members) gone parts.0
    (out_after n who members gone parts.1)

distinct_step : (going counted : Bool) (m : Member) (staying leaving : List Member)
    (gone : List ℕ) → is_distinct (numbers staying ++ (gone ++ numbers leaving)) ≡ true
    → is_among m.number (numbers staying ++ (gone ++ numbers leaving)) ≡ false
    → is_distinct (numbers (cond (not going) (m ∷ staying) staying)
    ++ (gone ++ numbers (cond (going && counted) (m ∷ leaving) leaving))) ≡ true
distinct_step true true m staying leaving gone distinct out =
    let joined = append_assoc (numbers staying) gone (numbers leaving) in
    let more = distinct_insert (numbers staying ++ gone) (numbers leaving) m.number
    (ap is_distinct joined ∙ distinct) (ap (is_among m.number) joined ∙ out) in
    ap is_distinct (sym (append_assoc (numbers staying) gone (m.number ∷ numbers leaving))) ∙ more
distinct_step true false m staying leaving gone distinct out = distinct
distinct_step false counted m staying leaving gone distinct out = rw (out, distinct) refl

-- the numbers of those that stay, and of those gone
pub distinct_after : (who : Going) (members : List Member) (gone : List ℕ)
    → is_distinct (numbers members ++ gone) ≡ true
    → is_distinct (numbers (filter (λ m. not (goes who m)) members)
    ++ (gone ++ gone_numbers who members)) ≡ true
distinct_after who [] gone distinct = rw append-nil distinct
distinct_after who (m ∷ members) gone distinct =
    let parts = both (not (is_among m.number (numbers members ++ gone)))
    (is_distinct (numbers members ++ gone)) distinct in
    let out = not_true (is_among m.number (numbers members ++ gone)) parts.0 in
    distinct_step (goes who m) m.is_counted m (filter (λ m. not (goes who m)) members)
    (filter (λ m. goes who m && m.is_counted) members) gone
    (distinct_after who members gone parts.1)
    (out_after m.number who members gone out)
