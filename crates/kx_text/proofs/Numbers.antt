-- Digits read from the left.
use Rattle.std.proofs.Common.{◌≡◌, ◌<◌, ◌≤◌, ◌+◌, ◌-◌, ◌*◌, ℕ, List, [], ◌∷◌, Option, None, Some}
use Rattle.std.proofs.Common.{Bool, true, false, ◌&&◌, cond, ltb, length, get_or, drop, refl}
use Rattle.std.proofs.Common.{ap, ◌∙◌, arith}
use Rattle.std.specs.Char.{digit_value, is_ascii_digit}
use Rattle.std.specs.Str.{all_ascii_digits}
use Rattle.std.specs.Str.Parse.{digits_value_after}
use Rattle.std.proofs.lemmas.Bool.{cond_both, ltb-true}
use Rattle.std.proofs.lemmas.List.{at_drop_more}
use Rattle.std.proofs.lemmas.Bool.Decides.{nat_tests}
use Rattle.kx_text.specs.Words.{below}

-- the number that the digits write when they follow those of n
abbrev pub read : ℕ → List ℕ → Option ℕ
read n text = cond (all_ascii_digits text) (Some (digits_value_after 10 n text)) None

grows : (n : ℕ) (text : List ℕ) → n ≤ digits_value_after 10 n text
grows n [] = omega arith
grows n (c ∷ cs) = omega (arith, grows (n * 10 + digit_value c) cs)

value_of_digit : (c : ℕ) → is_ascii_digit c ≡ true → digit_value c ≡ c - 48
value_of_digit c e = grind (arith, nat_tests)

pub read-no_digit : (n c : ℕ) (cs : List ℕ) → is_ascii_digit c ≡ false → read n (c ∷ cs) ≡ None
read-no_digit n c cs e = ap (λ (b : Bool). cond (b && all_ascii_digits cs)
    (Some (digits_value_after 10 (n * 10 + digit_value c) cs)) None) e

pub read-digit : (n c : ℕ) (cs : List ℕ) → is_ascii_digit c ≡ true
    → read n (c ∷ cs) ≡ read (n * 10 + (c - 48)) cs
read-digit n c cs e = ap (λ (b : Bool). cond (b && all_ascii_digits cs)
    (Some (digits_value_after 10 (n * 10 + digit_value c) cs)) None) e
    ∙ ap (λ (d : ℕ). read (n * 10 + d) cs) (value_of_digit c e)

-- once too large, never below the limit
pub below-large : (limit n : ℕ) (text : List ℕ) → limit ≤ n → below limit (read n text) ≡ None
below-large limit n text h = at (all_ascii_digits text) where
  at : (b : Bool) → below limit (cond b (Some (digits_value_after 10 n text)) None) ≡ None
  at false = refl
  at true = cond_both (ltb (digits_value_after 10 n text) limit)
      (Some (digits_value_after 10 n text)) None (λ (o : Option ℕ). o ≡ None)
      (λ e. let l : digits_value_after 10 n text < limit = ltb-true _ _ e in
      absurd (omega (arith, grows n text)))
      (λ e. refl)

-- one byte further in the text
pub read-further : (n i : ℕ) (text : List ℕ) → i < length text
    → is_ascii_digit (get_or text i 0) ≡ true
    → read n (drop i text) ≡ read (n * 10 + (get_or text i 0 - 48)) (drop (i + 1) text)
read-further n i text h e = at_drop_more (read n) text i 0 h
    ∙ read-digit n (get_or text i 0) (drop (i + 1) text) e

pub read-stops : (n i : ℕ) (text : List ℕ) → i < length text
    → is_ascii_digit (get_or text i 0) ≡ false → read n (drop i text) ≡ None
read-stops n i text h e = at_drop_more (read n) text i 0 h
    ∙ read-no_digit n (get_or text i 0) (drop (i + 1) text) e
