-- A set of those that went, with one more.
use Rattle.std.specs.Prelude.{◌≡◌, false, ℕ, nat_eq, List, [], ◌∷◌, ◌++◌, ◌==◌, ◌||◌, refl}
use Rattle.std.specs.Prelude.{if◌then◌else◌}
use Rattle.std.specs.List.{list_any}
use Rattle.std.proofs.Common.{◌∙◌, ap}
use Rattle.std.proofs.lemmas.Cmp.{nat_eq_equiv}
use Rattle.indexmap.specs.IndexSet.{insert_key}
use Rattle.kx_members.specs.Standing.{is_among}

-- the test of a look-up is that of the rules
same_test : (member : ℕ) (gone : List ℕ)
    → list_any (λ m. nat_eq member m) gone ≡ is_among member gone
same_test member [] = refl
same_test member (m ∷ gone) =
    ap (λ b. b || list_any (λ n. nat_eq member n) gone) (nat_eq_equiv.symm member m)
    ∙ ap (λ b. (m == member) || b) (same_test member gone)

-- one that isn't among them stands behind them
pub added_behind : (member : ℕ) (gone : List ℕ) → is_among member gone ≡ false
    → insert_key nat_eq gone member ≡ gone ++ member ∷ []
added_behind member gone absent =
    ap (λ b. if b then gone else gone ++ member ∷ []) (same_test member gone ∙ absent)
