-- Lists that are made by mapping another list, one element at a time.
use Rattle.std.proofs.Common.{◌≡◌, ◌∙◌, ◌+◌, ◌<◌, ◌++◌, ◌∷◌, [], ℕ, List, ap, get_or, length, map, sym, take}
use Rattle.std.proofs.lemmas.List.{map_push, take_more}

pub one_more : {A B : Type 0} (f : A → B) (xs : List A) (i : ℕ) (x : A) → i < length xs
    → map f (take i xs) ++ f (get_or xs i x) ∷ [] ≡ map f (take (i + 1) xs)
one_more f xs i x within =
    sym (map_push f (take i xs) (get_or xs i x)) ∙ ap (map f) (sym (take_more xs i x within))
