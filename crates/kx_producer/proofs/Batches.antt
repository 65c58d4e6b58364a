-- The newest of the batches that are remembered.
use Rattle.std.proofs.Common.{◌≡◌, ◌+◌, ◌-◌, ◌<◌, ◌≤◌, ℕ, ℤ, pos, ◌+ℤ◌, List, [], ◌∷◌, ◌++◌, length}
use Rattle.std.proofs.Common.{Option, Some, None, refl, sym, ap, ◌∙◌, slice_get, suc, zero, arith}
use Rattle.std.proofs.Common.{drop, map, ⊎_elim, ◌⊎◌}
use Rattle.std.proofs.lemmas.List.{drop-append-le, drop-drop, length-append, length-drop}
use Rattle.std.proofs.lemmas.List.{length-map}
use Rattle.std.proofs.lemmas.List.{map-append}
use Rattle.circular_buffer.specs.Buffer.{last_item}
use Rattle.kx_model.specs.Producers.{last_of}
use Rattle.kx_producer.specs.Verdicts.{sequence_behind}
use Rattle.kx_producer.specs.declared.noted.RememberedBatch.{RememberedBatch}

-- one above the last sequence of the newest, if there is one
abbrev pub after : Option RememberedBatch → ℤ
after None = pos 0
after (Some batch) = batch.last +ℤ pos 1

pub behind_last : (batches : List RememberedBatch)
    → sequence_behind batches ≡ after (last_item batches)
behind_last [] = refl
behind_last (batch ∷ []) = refl
behind_last (batch ∷ other ∷ rest) =
    behind_last (other ∷ rest)
    ∙ ap after (ap (slice_get (batch ∷ other ∷ rest)) (less_one (length rest)))
  where
    less_one : (n : ℕ) → suc (suc n - 1) ≡ suc (suc n) - 1
    less_one n = omega arith

module _ {A : Type 0} where
  -- few items are all kept
  pub last_of_few : (n : ℕ) (items : List A) → length items ≤ n → last_of n items ≡ items
  last_of_few n items h =
      let none : length items - n ≡ 0 = omega (arith, h) in ap (λ k. drop k items) none

  -- what is kept of a list is enough to keep the last of a longer one
  pub last_of-push : (n : ℕ) (items : List A) (item : A) → 0 < n
      → last_of n (items ++ item ∷ []) ≡ last_of n (last_of n items ++ item ∷ [])
  last_of-push n items item some = ⊎_elim short long (few_or_many (length items) n)
    where
      few_or_many : (a b : ℕ) → (a < b) ⊎ (b ≤ a)
      few_or_many a b = grind arith

      short : length items < n
          → last_of n (items ++ item ∷ []) ≡ last_of n (last_of n items ++ item ∷ [])
      short h =
          ap (λ l. last_of n (l ++ item ∷ []))
          (sym (last_of_few n items (omega (arith, h))))

      long : n ≤ length items
          → last_of n (items ++ item ∷ []) ≡ last_of n (last_of n items ++ item ∷ [])
      long h =
          let k : ℕ = length items - n in
          let more : length (items ++ item ∷ []) - n ≡ k + 1 =
          omega (arith, length-append items (item ∷ []), h) in
          let kept : length (drop k items ++ item ∷ []) - n ≡ 1 =
          omega (arith, length-append (drop k items) (item ∷ []), length-drop k items, h) in
          ap (λ m. drop m (items ++ item ∷ [])) more
          ∙ sym (drop-drop 1 k (items ++ item ∷ []))
          ∙ ap (drop 1) (drop-append-le k items (item ∷ []) (omega arith))
          ∙ ap (λ m. drop m (drop k items ++ item ∷ [])) (sym kept)

module _ {A B : Type 0} (f : A → B) where
  map_dropped : (k : ℕ) (items : List A) → map f (drop k items) ≡ drop k (map f items)
  map_dropped zero items = refl
  map_dropped (suc k) [] = refl
  map_dropped (suc k) (item ∷ items) = map_dropped k items

  map_last : (n : ℕ) (items : List A) → map f (last_of n items) ≡ last_of n (map f items)
  map_last n items =
      map_dropped (length items - n) items
      ∙ ap (λ m. drop (m - n) (map f items)) (sym (length-map items f))

  -- what is kept of a list and of each item, with one more
  pub map_last-push : (n : ℕ) (items : List A) (item : A) → 0 < n
      → map f (last_of n (items ++ item ∷ []))
      ≡ last_of n (map f (last_of n items) ++ f item ∷ [])
  map_last-push n items item some =
      map_last n (items ++ item ∷ []) ∙ ap (last_of n) (map-append f items (item ∷ []))
      ∙ last_of-push n (map f items) (f item) some
      ∙ ap (λ l. last_of n (l ++ f item ∷ [])) (sym (map_last n items))
