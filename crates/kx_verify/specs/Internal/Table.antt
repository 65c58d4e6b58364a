-- Parked requests, kept by id and epoch.
use Rattle.std.specs.Prelude.{◌≡◌, ◌≤◌, ℕ, Bool, List, [], Option, Some, None, All, length, nat_eq}
use Rattle.std.specs.List.{IsDistinct}
use Rattle.std.specs.Map.{keys_of, lookup}
use Rattle.std.specs.Ordering.{on, eq_of_both}
use Rattle.kx_message.specs.declared.message.Held.{Held}
use Rattle.kx_model.specs.Verification.{Parked, pair_of, parked_limit}

abbrev pub Key : Type 0
Key = ℕ × ℕ

abbrev pub key_of : Held → Key
key_of held = (held.id, held.epoch)

abbrev pub same_key : Key → Key → Bool
same_key = eq_of_both (on (λ k. k.0) nat_eq) (on (λ k. k.1) nat_eq)

abbrev pub items_at : {V : Type 0} → (V → List Parked) → Option V → List Parked
items_at items None = []
items_at items (Some v) = items v

-- its batch is of the key's id and epoch
pub record IsOf (key : Key) (p : Parked) : Type 0 where
  pub key_is : key_of p.held ≡ key
  pub own : pair_of p.request ≡ Some p.held

-- each key stands once, and no more than may wait are kept with it, all of its id and epoch
pub record IsTable {V : Type 0} (items : V → List Parked) (es : List (Key × V)) : Type 0 where
  pub unique : IsDistinct same_key (keys_of es)
  pub own : (key : Key) → All (IsOf key) (items_at items (lookup (same_key key) es))
  pub few : (key : Key) → length (items_at items (lookup (same_key key) es)) ≤ parked_limit
