-- What is left of the input partitions that a member owns.
use Rattle.std.proofs.Common.{◌≡◌, ◌∙◌, ℕ, suc, ◌+◌, ◌-◌, ◌<◌, ◌%◌, Bool, true, false, cond}
use Rattle.std.proofs.Common.{◌∷◌, filter, refl, ap, arith, ◌&&◌, ◌==◌, nat_lt}
use Rattle.std.proofs.lemmas.Bool.Decides.{nat_tests}
use Rattle.std.specs.List.{range_with_len}
use Rattle.kx_system.specs.Processor.{owns}

-- a range begins with its first number
pub begins : (from end : ℕ) → from < end
    → range_with_len from (end - from) ≡ from ∷ range_with_len (from + 1) (end - (from + 1))
begins from end below =
    let one_more : end - from ≡ suc (end - (from + 1)) = omega (arith, below) in
    ap (range_with_len from) one_more

-- the first number passes
pub taken : (p : ℕ → Bool) (from end : ℕ) → from < end → p from ≡ true
    → filter p (range_with_len from (end - from))
    ≡ from ∷ filter p (range_with_len (from + 1) (end - (from + 1)))
taken p from end below holds =
    ap (filter p) (begins from end below)
    ∙ ap (λ b. cond b (from ∷ filter p (range_with_len (from + 1) (end - (from + 1))))
    (filter p (range_with_len (from + 1) (end - (from + 1))))) holds

-- it doesn't
pub passed : (p : ℕ → Bool) (from end : ℕ) → from < end → p from ≡ false
    → filter p (range_with_len from (end - from))
    ≡ filter p (range_with_len (from + 1) (end - (from + 1)))
passed p from end below holds =
    ap (filter p) (begins from end below)
    ∙ ap (λ b. cond b (from ∷ filter p (range_with_len (from + 1) (end - (from + 1))))
    (filter p (range_with_len (from + 1) (end - (from + 1))))) holds

------ who owns an input partition

pub its : (number count from : ℕ) → (count ≡ 0 → ⊥) → from % count ≡ number
    → owns number count from ≡ true
its number count from some is =
    let members : nat_lt 0 count ≡ true = grind (arith, nat_tests) in
    let same : (from % count == number) ≡ true = grind (arith, nat_tests) in
    λ i. members i && same i

pub nobodys : (number from : ℕ) → owns number 0 from ≡ false
nobodys number from = refl

pub anothers : (number count from : ℕ) → (from % count ≡ number → ⊥)
    → owns number count from ≡ false
anothers number count from other =
    let differs : (from % count == number) ≡ false = grind (arith, nat_tests) in
    ap (λ b. nat_lt 0 count && b) differs ∙ and_false (nat_lt 0 count)
  where
    and_false : (b : Bool) → (b && false) ≡ false
    and_false true = refl
    and_false false = refl
