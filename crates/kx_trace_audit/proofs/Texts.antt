-- The bytes of traces that are fed.
use Rattle.std.proofs.Common.{◌≡◌, ◌≢◌, ◌⊎◌, ◌≤◌, ◌++◌, ℕ, zero, suc, List, [], ◌∷◌, Some, refl, sym}
use Rattle.std.proofs.Common.{Option, ap, inl, inr, ⊎_elim, length, arith, subst}
use Rattle.std.specs.Prelude.{MatchOption, slice_get, slice_set}
use Rattle.std.proofs.lemmas.Option.{same_Some, slice_get_past}
use Rattle.kx_trace_audit.specs.Auditing.{Auditing, IsFedAt, fed}
use Rattle.kx_trace_audit.specs.Readings.{Reading, fed_on}

-- one of these texts: the one that was fed, or another
pub record IsFed (texts : List (List ℕ)) (j : ℕ) (bytes text : List ℕ) : Type 0 where
  pub before : List ℕ
  pub there : slice_get texts j ≡ Some before
  pub text_is : text ≡ before ++ bytes

pub get_fed : (texts : List (List ℕ)) (k : ℕ) (bytes : List ℕ) (j : ℕ) (text : List ℕ)
    → slice_get (fed texts k bytes) j ≡ Some text
    → ((j ≡ k) × IsFed texts j bytes text) ⊎ ((j ≢ k) × (slice_get texts j ≡ Some text))
get_fed [] k bytes j text e = absurd cc
get_fed (t ∷ texts) zero bytes zero text e =
    inl (refl, record { before = t; there = refl; text_is = sym (same_Some (t ++ bytes) text e) })
get_fed (t ∷ texts) zero bytes (suc j) text e = inr ((λ h. omega arith), e)
get_fed (t ∷ texts) (suc k) bytes zero text e = inr ((λ h. omega arith), e)
get_fed (t ∷ texts) (suc k) bytes (suc j) text e =
    ⊎_elim
    (λ (a : (j ≡ k) × IsFed texts j bytes text).
    inl (ap suc a.0, record { before = a.1.before; there = a.1.there; text_is = a.1.text_is }))
    (λ (a : (j ≢ k) × (slice_get texts j ≡ Some text)).
    let n = a.0 in inr ((λ h. n (omega arith)), a.1))
    (get_fed texts k bytes j text e)

pub length_fed : (texts : List (List ℕ)) (k : ℕ) (bytes : List ℕ)
    → length (fed texts k bytes) ≡ length texts
length_fed [] k bytes = refl
length_fed (t ∷ texts) zero bytes = refl
length_fed (t ∷ texts) (suc k) bytes = ap suc (length_fed texts k bytes)

-- there is no such text
pub nothing_fed : (texts : List (List ℕ)) (k : ℕ) (bytes : List ℕ) → length texts ≤ k
    → fed texts k bytes ≡ texts
nothing_fed [] k bytes le = refl
nothing_fed (t ∷ texts) zero bytes le = absurd (omega (arith, le))
nothing_fed (t ∷ texts) (suc k) bytes le =
    ap (λ (l : List (List ℕ)). t ∷ l) (nothing_fed texts k bytes (omega (arith, le)))

------ of the traces that are audited

pub fed_past : {B M : Type 0} (a : Auditing B M) (k : ℕ) (bytes : List ℕ) → length a.traces ≤ k
    → IsFedAt a k bytes a
fed_past a k bytes past =
    subst (λ (o : Option Reading). MatchOption o (a ≡ a)
    (λ r. a ≡ record a { traces = slice_set a.traces k (fed_on bytes r) }))
    (sym (slice_get_past a.traces k past)) refl

pub fed_at : {B M : Type 0} (a : Auditing B M) (k : ℕ) (r q : Reading) (bytes : List ℕ)
    → slice_get a.traces k ≡ Some r → q ≡ fed_on bytes r
    → IsFedAt a k bytes (record { following = a.following; traces = slice_set a.traces k q })
fed_at {B} {M} a k r q bytes at is =
    let new : Auditing B M = record {
      following = a.following;
      traces = slice_set a.traces k q;
    } in
    subst (λ (o : Option Reading). MatchOption o (new ≡ a)
    (λ r. new ≡ record a { traces = slice_set a.traces k (fed_on bytes r) })) (sym at)
    (ap (λ (x : Reading). record a { traces = slice_set a.traces k x }) is)
