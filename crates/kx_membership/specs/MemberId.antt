-- The id of a member: its client's id, a dash and its number in decimal.
use Rattle.std.specs.Prelude.{◌≡◌, ℕ, ◌==◌, Bool, List, ◌∷◌, ◌++◌, decimal}
use Rattle.std.specs.List.{list_any}

abbrev pub member_id_of : List ℕ → ℕ → List ℕ
member_id_of client number = client ++ 45 ∷ decimal number

-- some client's member with this number has the id
abbrev pub IsIdOf : List ℕ → ℕ → Type 0
IsIdOf id number = (client : List ℕ) × (id ≡ member_id_of client number)

abbrev pub has_dash : List ℕ → Bool
has_dash text = list_any (λ b. b == 45) text
