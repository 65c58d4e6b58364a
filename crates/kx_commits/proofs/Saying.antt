-- What a batch says stands at its offset.
use Rattle.std.proofs.Common.{◌≡◌, ◌≤◌, ◌<◌, ℕ, List, [], ◌∷◌, length, refl, arith, filter, All}
use Rattle.std.specs.Prelude.{Some, None, Option, filter_map}
use Rattle.std.specs.List.{cons_option}
use Rattle.std.proofs.lemmas.List.Elements.{All-cons, All-filter, All-nil, All-weaker}
use Rattle.kx_batch.specs.Record.{Record}
use Rattle.kx_model.specs.Groups.{Fact, Offset, Joined, Left, Dropped, fact_of}
use Rattle.kx_model.specs.Log.{Placed, Sequenced}
use Rattle.kx_commits.specs.Follows.{said_by, said_in}
use Rattle.kx_commits.specs.Kept.{Said, is_for}
use Rattle.kx_commits.proofs.Settling.{SaidBy}

facts_at : (at : ℕ) (facts : List Fact)
    → All (λ s. s.at ≡ at) (filter_map (said_in at) facts)
facts_at at [] = All-nil (λ s. s.at ≡ at)
facts_at at (Offset group partition offset ∷ facts) =
    All-cons (λ s. s.at ≡ at)
    (record { group = group; partition = partition; offset = offset; at = at })
    (filter_map (said_in at) facts) refl (facts_at at facts)
facts_at at (Joined group member ∷ facts) = facts_at at facts
facts_at at (Left group member ∷ facts) = facts_at at facts
facts_at at (Dropped group member ∷ facts) = facts_at at facts

records_at : (at : ℕ) (records : List Record) → All (λ s. (s.at ≡ at) × (0 < length records))
    (filter_map (said_in at) (filter_map fact_of records))
records_at at [] = All-nil (λ s. (s.at ≡ at) × (0 < 0))
records_at at (r ∷ records) =
    All-weaker (λ s. s.at ≡ at) (λ s. (s.at ≡ at) × (0 < length (r ∷ records)))
    (λ s h. (h, omega arith)) (filter_map (said_in at) (filter_map fact_of (r ∷ records)))
    (facts_at at (filter_map fact_of (r ∷ records)))

-- what a batch says of a group and an input partition
abbrev pub said_of : List ℕ → ℕ → Placed Sequenced → List Said
said_of group partition p = filter (is_for group partition) (said_by p)

pub said_stands : (group : List ℕ) (partition : ℕ) (p : Placed Sequenced)
    → All (SaidBy p) (said_of group partition p)
said_stands group partition p =
    All-filter (is_for group partition) (SaidBy p) (said_by p) (records_at p.offset p.item.records)

-- no more than it has records
module _ {A B : Type 0} where
  pub some_map : (f : A → Option B) (xs : List A) → length (filter_map f xs) ≤ length xs
  some_map f [] = omega arith
  some_map f (x ∷ xs) = by (f x) (some_map f xs)
    where
      by : (o : Option B) → length (filter_map f xs) ≤ length xs
          → length (cons_option o (filter_map f xs)) ≤ length (x ∷ xs)
      by None h = omega (arith, h)
      by (Some y) h = omega (arith, h)

pub said_count : (p : Placed Sequenced) → length (said_by p) ≤ length p.item.records
said_count p = omega (
  arith,
  some_map fact_of p.item.records,
  some_map (said_in p.offset) (filter_map fact_of p.item.records),
)
