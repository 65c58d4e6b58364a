-- Waiting offsets by producer id, of which one's change.
use Rattle.std.proofs.Common.{◌≡◌, ◌∙◌, ℕ, Bool, true, false, List, Some, None, cond, refl, ap, sym}
use Rattle.std.specs.Prelude.{nat_eq, unwrap_or}
use Rattle.std.specs.Map.{lookup}
use Rattle.std.proofs.lemmas.Bool.{eqb-true}
use Rattle.kx_commits.specs.Kept.{Said}
use Rattle.kx_commits.specs.Table.{Waiting, WaitingTable, none_waiting, waiting_in}

-- the entry of one id is set, and the others stay
abbrev pub IsSet : WaitingTable → WaitingTable → ℕ → Waiting → Type 0
IsSet old new id waiting = (other : ℕ) → lookup (nat_eq other) new
    ≡ cond (nat_eq id other) (Some waiting) (lookup (nat_eq other) old)

-- those of one id change, and the others stay
pub changed_by : (old new : WaitingTable) (id : ℕ) (waiting : Waiting)
    (f : List Said → List Said) → IsSet old new id waiting
    → waiting.said ≡ f (waiting_in old id).said → (other : ℕ)
    → (waiting_in new other).said
    ≡ cond (nat_eq id other) (f (waiting_in old other).said) (waiting_in old other).said
changed_by old new id waiting f set is other =
    ap (λ o. (unwrap_or o none_waiting).said) (set other) ∙ by (nat_eq id other) refl
  where
    by : (b : Bool) → nat_eq id other ≡ b
        → (unwrap_or (cond b (Some waiting) (lookup (nat_eq other) old)) none_waiting).said
        ≡ cond b (f (waiting_in old other).said) (waiting_in old other).said
    by true e = is ∙ ap (λ i. f (waiting_in old i).said) (eqb-true id other e)
    by false e = refl

either : {A : Type 0} (b : Bool) (x : A) → cond b x x ≡ x
either true x = refl
either false x = refl

-- one id gets room, and none changes
pub stays : (old new : WaitingTable) (id : ℕ) (waiting : Waiting)
    → IsSet old new id waiting → waiting.said ≡ (waiting_in old id).said → (other : ℕ)
    → (waiting_in new other).said ≡ (waiting_in old other).said
stays old new id waiting set is other =
    changed_by old new id waiting (λ s. s) set is other
    ∙ either (nat_eq id other) (waiting_in old other).said

-- what is found of an id is what waits
pub known_waiting : (entries : WaitingTable) (id : ℕ) (table : WaitingTable) (waiting : Waiting)
    → entries ≡ table → lookup (nat_eq id) entries ≡ Some waiting
    → waiting_in table id ≡ waiting
known_waiting entries id table waiting same found =
    ap (λ t. waiting_in t id) (sym same) ∙ ap (λ o. unwrap_or o none_waiting) found

-- nothing waits of an id that isn't found
pub new_waiting : (entries : WaitingTable) (id : ℕ) (table : WaitingTable)
    → entries ≡ table → lookup (nat_eq id) entries ≡ None
    → waiting_in table id ≡ none_waiting
new_waiting entries id table same none =
    ap (λ t. waiting_in t id) (sym same) ∙ ap (λ o. unwrap_or o none_waiting) none
