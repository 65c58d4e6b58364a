-- How many bytes of records a response has.
use Rattle.std.proofs.Common.{◌≡◌, ◌≤◌, ◌<◌, ◌+◌, ◌-◌, ℕ, ℤ, List, [], ◌∷◌, Bool, true, false, cond}
use Rattle.std.proofs.Common.{eqb, ltb, refl, ap, arith, inl, inr, ◌⊎◌}
use Rattle.std.specs.Prelude.{min, max, not, All}
use Rattle.std.proofs.lemmas.Bool.{ltb-false, eqb-true}
use Rattle.std.proofs.lemmas.List.Elements.{All-head, All-tail}
use Rattle.kx_gateway.specs.declared.fetch.FetchBudget.{FetchBudget}
use Rattle.kx_gateway.specs.Fetch.{bytes_of, limit_of, sends, sent_of, spent}

-- a budget of which something is spent
abbrev pub begun : ℕ → FetchBudget
begun left = record { left = left; empty = false }

abbrev pub fresh : ℕ → FetchBudget
fresh left = record { left = left; empty = true }

which : (b : Bool) → (b ≡ true) ⊎ (b ≡ false)
which true = inl refl
which false = inr refl

turned : (b : Bool) → not b ≡ true → b ≡ false
turned true e = absurd cc
turned false e = refl

choice : (b : Bool) (x y n : ℕ) → (b ≡ true → x ≤ n) → (b ≡ false → y ≤ n) → cond b x y ≤ n
choice true x y n f g = f refl
choice false x y n f g = g refl

pub begun_within : (left : ℕ) (pages : List (ℤ × ℕ)) → sent_of (begun left) pages ≤ left
begun_within left [] = omega arith
begun_within left (page ∷ pages) =
    choice (sends (begun left) page.0 page.1) (page.1 + sent_of (begun (left - page.1)) pages)
    (sent_of (begun left) pages) left
    (λ yes.
    let fits : page.1 ≤ min left (bytes_of page.0) =
    ltb-false (limit_of (begun left) page.0) page.1
    (turned (ltb (limit_of (begun left) page.0) page.1) yes) in
    let more = begun_within (left - page.1) pages in
    omega (arith, fits, more))
    (λ no. begun_within left pages)

-- what a page that has some leaves
pub fresh_page : (left len : ℕ) (pages : List (ℤ × ℕ)) → 0 < len
    → len + sent_of (spent (fresh left) len) pages ≤ max len left
fresh_page left len pages some =
    elim (which (eqb len 0)) [
      | inl e ↦ let is : len ≡ 0 = eqb-true len 0 e in absurd (omega (arith, is))
      | inr e ↦
          let more : sent_of (begun (left - len)) pages ≤ left - len =
          begun_within (left - len) pages in
          let same : sent_of (spent (fresh left) len) pages ≡ sent_of (begun (left - len)) pages =
          ap (λ t. sent_of (record { left = left - len; empty = t }) pages) e in
          omega (arith, more, same)
    ]

pub fresh_within : (most left : ℕ) (pages : List (ℤ × ℕ)) → left ≤ most
    → All (λ page. page.1 ≤ most) pages → sent_of (fresh left) pages ≤ most
fresh_within most left [] le all = omega arith
fresh_within most left (page ∷ pages) le all =
    let head : page.1 ≤ most = All-head (λ (p : ℤ × ℕ). p.1 ≤ most) page pages all in
    elim (which (eqb page.1 0)) [
      | inl e ↦
          let is : page.1 ≡ 0 = eqb-true page.1 0 e in
          let same : sent_of (spent (fresh left) page.1) pages ≡ sent_of (fresh (left - page.1)) pages =
          ap (λ t. sent_of (record { left = left - page.1; empty = t }) pages) e in
          let more = fresh_within most (left - page.1) pages (omega (arith, le))
          (All-tail (λ (p : ℤ × ℕ). p.1 ≤ most) page pages all) in
          omega (arith, is, same, more)
      | inr e ↦
          let same : sent_of (spent (fresh left) page.1) pages ≡ sent_of (begun (left - page.1)) pages =
          ap (λ t. sent_of (record { left = left - page.1; empty = t }) pages) e in
          let more = begun_within (left - page.1) pages in
          omega (arith, same, more, le, head)
    ]
