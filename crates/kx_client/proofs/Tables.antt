-- The sequences of a table, as the rules list them.
use Rattle.std.proofs.Common.{◌≡◌, ℕ, Bool, true, false, cond, nat_eq, List, [], ◌∷◌, Some}
use Rattle.std.proofs.Common.{refl, sym, ap, ◌∙◌}
use Rattle.std.specs.Prelude.{unwrap_or}
use Rattle.std.specs.Map.{lookup}
use Rattle.std.proofs.lemmas.Cmp.{nat_eq_equiv}
use Rattle.std.proofs.lemmas.Bool.Decides.{Decides-eqb}
use Rattle.indexmap.specs.IndexMap.{insert_entry}
use Rattle.kx_client.specs.Internal.{sequences_in}
use Rattle.kx_model.specs.Client.{Sequence, sequence_of, with_sequence}

abbrev sequence : ℕ → ℕ → Sequence
sequence partition next = record { partition = partition; next = next }

module _ (p : ℕ) where
  -- what the table has is what the list has
  pub next_found : (entries : List (ℕ × ℕ))
      → unwrap_or (lookup (nat_eq p) entries) 0 ≡ sequence_of (sequences_in entries) p
  next_found [] = refl
  next_found (e ∷ es) =
      by (nat_eq p e.0) (next_found es)
      ∙ ap (λ b. cond b e.1 (sequence_of (sequences_in es) p)) (nat_eq_equiv.symm p e.0)
    where
      by : (b : Bool)
          → unwrap_or (lookup (nat_eq p) es) 0 ≡ sequence_of (sequences_in es) p
          → unwrap_or (cond b (Some e.1) (lookup (nat_eq p) es)) 0
          ≡ cond b e.1 (sequence_of (sequences_in es) p)
      by true rest = refl
      by false rest = rest

  -- the table takes one as the list does
  pub next_set : (n : ℕ) (entries : List (ℕ × ℕ))
      → sequences_in (insert_entry nat_eq entries p n) ≡ with_sequence (sequences_in entries) p n
  next_set n [] = refl
  next_set n (e ∷ es) =
      by (nat_eq p e.0) refl (next_set n es)
      ∙ ap (λ b. cond b (sequence p n ∷ sequences_in es)
      (sequence e.0 e.1 ∷ with_sequence (sequences_in es) p n)) (nat_eq_equiv.symm p e.0)
    where
      by : (b : Bool) → nat_eq p e.0 ≡ b
          → sequences_in (insert_entry nat_eq es p n) ≡ with_sequence (sequences_in es) p n
          → sequences_in (cond b ((e.0, n) ∷ es) (e ∷ insert_entry nat_eq es p n))
          ≡ cond b (sequence p n ∷ sequences_in es)
          (sequence e.0 e.1 ∷ with_sequence (sequences_in es) p n)
      by true is rest =
          ap (λ a. sequence a n ∷ sequences_in es) (sym ((Decides-eqb p e.0).0 is))
      by false is rest = ap (λ l. sequence e.0 e.1 ∷ l) rest
