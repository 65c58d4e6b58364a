-- A loop that looks for the first element that passes.
use Rattle.std.proofs.Common.{◌≡◌, ℕ, ◌+◌, ◌<◌, Bool, true, false, List, [], ◌∷◌, length}
use Rattle.std.proofs.Common.{get_or, take, drop, Some, None, sym, ap, ◌∙◌}
use Rattle.std.specs.List.{find}
use Rattle.std.proofs.lemmas.List.{drop_more, take-append-drop, take_more}
use Rattle.std.proofs.lemmas.List.Folds.{find-append}

-- what doesn't pass is passed by
pub find_more : {X : Type 0} (p : X → Bool) (xs : List X) (i : ℕ) (x : X) → i < length xs
    → find p (take i xs) ≡ None → x ≡ get_or xs i x → p x ≡ false
    → find p (take (i + 1) xs) ≡ None
find_more p xs i x within before here fails =
    let one : find p (x ∷ []) ≡ None = rw fails in
    ap (find p) (take_more xs i x within)
    ∙ find-append p (take i xs) (get_or xs i x ∷ [])
    ∙ rw (before, ← here) one

-- what passes is the first
pub find_here : {X : Type 0} (p : X → Bool) (xs : List X) (i : ℕ) (x : X) → i < length xs
    → find p (take i xs) ≡ None → x ≡ get_or xs i x → p x ≡ true
    → find p xs ≡ Some x
find_here p xs i x within before here passes =
    let one : find p (x ∷ drop (i + 1) xs) ≡ Some x = rw passes in
    ap (find p) (sym (take-append-drop i xs))
    ∙ find-append p (take i xs) (drop i xs)
    ∙ rw (before, drop_more xs i x within, ← here) one
