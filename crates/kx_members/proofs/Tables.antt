-- Groups in a table, and one of them that changes.
use Rattle.std.proofs.Common.{◌≡◌, ◌∙◌, ℕ, Bool, true, false, List, Some, None, cond, refl, ap, sym}
use Rattle.std.specs.Prelude.{bytes_eq, unwrap_or}
use Rattle.std.specs.Map.{lookup}
use Rattle.std.proofs.lemmas.Slice.Eq.{bytes_eq-Decides}
use Rattle.kx_members.specs.Standing.{Standing}
use Rattle.kx_members.specs.Table.{GroupState, Table, standing_in, state_in, unknown_group}

-- the entry of one group is set, and the others stay
abbrev pub IsSet : Table → Table → List ℕ → GroupState → Type 0
IsSet old new group state = (other : List ℕ) → lookup (bytes_eq other) new
    ≡ cond (bytes_eq group other) (Some state) (lookup (bytes_eq other) old)

-- a group changes, and the others stay
pub changed_by : (old new : Table) (group : List ℕ) (state : GroupState) (f : Standing → Standing)
    → IsSet old new group state → state.standing ≡ f (standing_in old group) → (other : List ℕ)
    → standing_in new other
    ≡ cond (bytes_eq group other) (f (standing_in old other)) (standing_in old other)
changed_by old new group state f set is other =
    ap (λ o. (unwrap_or o unknown_group).standing) (set other) ∙ by (bytes_eq group other) refl
  where
    by : (b : Bool) → bytes_eq group other ≡ b
        → (unwrap_or (cond b (Some state) (lookup (bytes_eq other) old)) unknown_group).standing
        ≡ cond b (f (standing_in old other)) (standing_in old other)
    by true e = is ∙ ap (λ g. f (standing_in old g)) ((bytes_eq-Decides group other).0 e)
    by false e = refl

either : {A : Type 0} (b : Bool) (x : A) → cond b x x ≡ x
either true x = refl
either false x = refl

-- a group gets room, and no standing changes
pub stays : (old new : Table) (group : List ℕ) (state : GroupState)
    → IsSet old new group state → state.standing ≡ standing_in old group → (other : List ℕ)
    → standing_in new other ≡ standing_in old other
stays old new group state set is other =
    changed_by old new group state (λ s. s) set is other
    ∙ either (bytes_eq group other) (standing_in old other)

-- what is found of a group is its state
pub known_state : (entries : Table) (group : List ℕ) (table : Table) (state : GroupState)
    → entries ≡ table → lookup (bytes_eq group) entries ≡ Some state
    → state_in table group ≡ state
known_state entries group table state same found =
    ap (λ t. state_in t group) (sym same) ∙ ap (λ o. unwrap_or o unknown_group) found

-- nothing is known of a group that isn't found
pub new_state : (entries : Table) (group : List ℕ) (table : Table)
    → entries ≡ table → lookup (bytes_eq group) entries ≡ None
    → state_in table group ≡ unknown_group
new_state entries group table same none =
    ap (λ t. state_in t group) (sym same) ∙ ap (λ o. unwrap_or o unknown_group) none
