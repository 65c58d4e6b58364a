-- Where a text is cut: in front of the first such byte, and behind it.
use Rattle.std.proofs.Common.{◌≡◌, ◌≢◌, ◌<◌, ℕ, suc, zero, List, [], ◌∷◌, None, Some, Bool}
use Rattle.std.proofs.Common.{true, false, cond, eqb, length, get_or, take, drop, refl, sym, ap}
use Rattle.std.proofs.Common.{◌∙◌}
use Rattle.std.proofs.Common.{arith}
use Rattle.std.proofs.lemmas.Bool.{eq-eqb, eqb-true}
use Rattle.kx_text.specs.Words.{before, behind}

-- the first such byte stands at place i
pub record IsFirst (byte : ℕ) (xs : List ℕ) (i : ℕ) : Type 0 where
  pub front : take i xs ≡ before byte xs
  pub rest : Some (drop (suc i) xs) ≡ behind byte xs

one_more : (byte x : ℕ) (xs : List ℕ) (i : ℕ) → x ≢ byte → IsFirst byte xs i
    → IsFirst byte (x ∷ xs) (suc i)
one_more byte x xs i n h = at (eqb x byte) refl where
  at : (b : Bool) → eqb x byte ≡ b → IsFirst byte (x ∷ xs) (suc i)
  at true e = absurd (n (eqb-true x byte e))
  at false e = record {
    front = ap (λ (t : List ℕ). x ∷ t) h.front
        ∙ ap (λ (b : Bool). cond b [] (x ∷ before byte xs)) (sym e);
    rest = h.rest ∙ ap (λ (b : Bool). cond b (Some xs) (behind byte xs)) (sym e);
  }

pub is_first : (byte : ℕ) (xs : List ℕ) (i : ℕ) → i < length xs
    → ((k : ℕ) → k < i → get_or xs k 0 ≢ byte) → get_or xs i 0 ≡ byte → IsFirst byte xs i
is_first byte [] i l h e = absurd (omega arith)
is_first byte (x ∷ xs) zero l h e = let t : eqb x byte ≡ true = eq-eqb x byte e in record {
  front = ap (λ (b : Bool). cond b [] (x ∷ before byte xs)) (sym t);
  rest = ap (λ (b : Bool). cond b (Some xs) (behind byte xs)) (sym t);
}
is_first byte (x ∷ xs) (suc i) l h e = one_more byte x xs i (h 0 (omega arith))
    (is_first byte xs i (omega arith) (λ k b. h (suc k) (omega arith)) e)

-- no such byte is there
pub record IsWhole (byte : ℕ) (xs : List ℕ) : Type 0 where
  pub front : xs ≡ before byte xs
  pub rest : None ≡ behind byte xs

longer : (byte x : ℕ) (xs : List ℕ) → x ≢ byte → IsWhole byte xs → IsWhole byte (x ∷ xs)
longer byte x xs n h = at (eqb x byte) refl where
  at : (b : Bool) → eqb x byte ≡ b → IsWhole byte (x ∷ xs)
  at true e = absurd (n (eqb-true x byte e))
  at false e = record {
    front = ap (λ (t : List ℕ). x ∷ t) h.front
        ∙ ap (λ (b : Bool). cond b [] (x ∷ before byte xs)) (sym e);
    rest = h.rest ∙ ap (λ (b : Bool). cond b (Some xs) (behind byte xs)) (sym e);
  }

pub is_whole : (byte : ℕ) (xs : List ℕ) → ((k : ℕ) → k < length xs → get_or xs k 0 ≢ byte)
    → IsWhole byte xs
is_whole byte [] h = record { front = refl; rest = refl }
is_whole byte (x ∷ xs) h = longer byte x xs (h 0 (omega arith))
    (is_whole byte xs (λ k b. h (suc k) (omega arith)))
