-- The values of a page one by one, and how many of them stood before.
use Rattle.std.proofs.Common.{◌≡◌, ◌∙◌, ◌+◌, ◌≤◌, ◌++◌, ◌||◌, ℕ, ℤ, Bool, true, false, List, []}
use Rattle.std.proofs.Common.{◌∷◌, if◌then◌else◌, map, not, cond, length, refl, sym, ap, arith}
use Rattle.std.specs.Borrow.{Bor}
use Rattle.std.specs.Prelude.{unwrap_or}
use Rattle.std.specs.Str.{bytes_eq}
use Rattle.std.proofs.lemmas.List.{append_assoc, append-nil, map-append}
use Rattle.kx_batch.specs.Record.{Record}
use Rattle.kx_model.specs.Reading.{Shown}
use Rattle.kx_reader.specs.Pairs.{pairs}
use Rattle.kx_demo.specs.Counting.{firsts, is_among, texts, value_of}

------ a set of values

-- it has just these
abbrev pub Knows : (Bor (List ℕ) → Bool) → List (List ℕ) → Type 0
Knows has before = (q : Bor (List ℕ)) → has q ≡ is_among q.now before

knows_more : (has more : Bor (List ℕ) → Bool) (before : List (List ℕ)) (v : Bor (List ℕ))
    → Knows has before
    → ((q : Bor (List ℕ)) → more q ≡ cond (bytes_eq v.now q.now) true (has q))
    → Knows more (v.now ∷ before)
knows_more has more before v knows put q = put q ∙ by (bytes_eq v.now q.now)
  where
    by : (b : Bool) → cond b true (has q) ≡ (b || is_among q.now before)
    by true = refl
    by false = knows q

-- so many values are known, and those behind them are still to come
pub record IsKnown (has : Bor (List ℕ) → Bool) (count : ℕ) (rest all : List (Bor (List ℕ)))
    : Type 0 where
  pub before : List (List ℕ)
  pub knows : Knows has before
  pub counted : count + firsts before (texts rest) ≡ firsts [] (texts all)

pub knows_none : (has : Bor (List ℕ) → Bool) (count : ℕ) (rest all : List (Bor (List ℕ)))
    → ((q : Bor (List ℕ)) → has q ≡ false) → count ≡ 0 → rest ≡ all
    → IsKnown has count rest all
knows_none has count rest all none zero is = record {
  before = [];
  knows = none;
  counted = let same = ap (λ values. firsts [] (texts values)) is in omega arith;
}

pub one_more : (has more : Bor (List ℕ) → Bool) (count next : ℕ)
    (rest behind all : List (Bor (List ℕ))) (v : Bor (List ℕ)) (added : Bool)
    → IsKnown has count rest all → rest ≡ v ∷ behind → added ≡ not (has v)
    → next ≡ count + (if added then 1 else 0)
    → ((q : Bor (List ℕ)) → more q ≡ cond (bytes_eq v.now q.now) true (has q))
    → IsKnown more next behind all
one_more has more count next rest behind all v added known is adds counts put = record {
  before = v.now ∷ known.before;
  knows = knows_more has more known.before v known.knows put;
  counted = by (is_among v.now known.before) refl;
}
  where
    was : count + firsts known.before (v.now ∷ texts behind) ≡ firsts [] (texts all)
    was = sym (λ i. count + firsts known.before (texts (is i))) ∙ known.counted

    of : (b : Bool) → count + ((if b then 0 else 1) + firsts (v.now ∷ known.before) (texts behind))
        ≡ firsts [] (texts all) → next ≡ count + (if not b then 1 else 0)
        → next + firsts (v.now ∷ known.before) (texts behind) ≡ firsts [] (texts all)
    of true at counted = omega arith
    of false at counted = omega arith

    by : (b : Bool) → is_among v.now known.before ≡ b
        → next + firsts (v.now ∷ known.before) (texts behind) ≡ firsts [] (texts all)
    by b e =
        let at = rw e at was in
        let added_is : added ≡ not b = adds ∙ ap not (known.knows v ∙ e) in
        let counted = rw added_is at counts in
        of b at counted

pub all_known : (has : Bor (List ℕ) → Bool) (count : ℕ) (rest all : List (Bor (List ℕ)))
    → IsKnown has count rest all → rest ≡ [] → count ≡ firsts [] (texts all)
all_known has count rest all known none =
    let at : count + firsts known.before (texts []) ≡ firsts [] (texts all) =
    sym (λ i. count + firsts known.before (texts (none i))) ∙ known.counted in
    omega arith

pub firsts_within : (before values : List (List ℕ)) → firsts before values ≤ length values
firsts_within before [] = omega arith
firsts_within before (value ∷ values) =
    by (is_among value before) (firsts_within (value ∷ before) values)
  where
    by : (b : Bool) → firsts (value ∷ before) values ≤ length values
        → (if b then 0 else 1) + firsts (value ∷ before) values
        ≤ length (value ∷ values)
    by true within = omega arith
    by false within = omega arith

------ the values of records

-- the values so far, and those of the records that are still to come
abbrev pub gathered : List (Bor (List ℕ)) → List (ℤ × Record) → List (List ℕ)
gathered values records = texts values ++ map (λ e. unwrap_or e.1.value []) records

same_values : (shown : List Shown)
    → map (λ e. unwrap_or e.1.value []) (pairs shown) ≡ map value_of shown
same_values [] = refl
same_values (s ∷ shown) = ap (λ rest. value_of s ∷ rest) (same_values shown)

pub begins : (values : List (Bor (List ℕ))) (shown all : List Shown) → values ≡ []
    → shown ≡ all → gathered values (pairs shown) ≡ map value_of all
begins values shown all none is = (λ i. gathered (none i) (pairs (is i))) ∙ same_values all

pub goes_on : (values next : List (Bor (List ℕ))) (records rest : List (ℤ × Record))
    (offset : ℤ) (r : Record) (value : Bor (List ℕ)) (whole : List (List ℕ))
    → gathered values records ≡ whole → records ≡ (offset, r) ∷ rest
    → value.now ≡ unwrap_or r.value [] → next ≡ values ++ value ∷ []
    → gathered next rest ≡ whole
goes_on values next records rest offset r value whole before is value_is put =
    ap (λ all. texts all ++ to_come) put
    ∙ ap (λ all. all ++ to_come) (map-append (λ v. v.now) values (value ∷ []))
    ∙ append_assoc (texts values) (value.now ∷ []) to_come
    ∙ ap (λ text. texts values ++ text ∷ to_come) value_is
    ∙ sym (ap (gathered values) is) ∙ before
  where
    to_come : List (List ℕ)
    to_come = map (λ e. unwrap_or e.1.value []) rest

pub ends : (values : List (Bor (List ℕ))) (whole : List (List ℕ)) (records : List (ℤ × Record))
    → gathered values records ≡ whole → records ≡ [] → texts values ≡ whole
ends values whole records before none =
    sym (append-nil (texts values)) ∙ sym (ap (gathered values) none) ∙ before
