-- The slots of groups and input partitions, as the offsets of a transaction end one by one.
use Rattle.std.proofs.Common.{◌≡◌, ◌∙◌, ◌<◌, ◌+◌, ◌++◌, ℕ, List, [], ◌∷◌, Bool, true, false}
use Rattle.std.proofs.Common.{Some, refl, sym, ap, cond, filter, take, length, get_or, fold}
use Rattle.std.specs.Prelude.{◌==◌, bytes_eq, is_some, unwrap_or}
use Rattle.std.specs.Bool.{Decides}
use Rattle.std.specs.Map.{lookup}
use Rattle.std.proofs.lemmas.Bool.{and_from, and_parts, eq-eqb, eqb-true}
use Rattle.std.proofs.lemmas.List.{take_more}
use Rattle.std.proofs.lemmas.List.Elements.{filter-append}
use Rattle.std.proofs.lemmas.List.Sums.{fold-append}
use Rattle.std.proofs.lemmas.Slice.Eq.{bytes_eq-Decides}
use Rattle.kx_message.specs.declared.outcome.Outcome.{Outcome}
use Rattle.kx_commits.specs.Kept.{Said, Slot, empty_slot, is_for, settled, settled_all}
use Rattle.kx_commits.specs.Table.{Key, SlotTable, has_slot, key_of, same_key, slot_in}

pub key_decides : (a b : Key) → Decides (same_key a b) (a ≡ b)
key_decides a b = (
  λ e. let p = and_parts (bytes_eq a.0 b.0) (a.1 == b.1) e in
      let first = (bytes_eq-Decides a.0 b.0).0 p.0 in
      let second = eqb-true a.1 b.1 p.1 in
      λ i. (first i, second i),
  λ e. and_from (bytes_eq a.0 b.0) (a.1 == b.1)
      ((bytes_eq-Decides a.0 b.0).1 (ap (λ (k : Key). k.0) e))
      (eq-eqb a.1 b.1 (ap (λ (k : Key). k.1) e)),
)

-- one more is settled last
settled_push : (outcome : Outcome) (key : Key) (all : List Said) (said : Said) (slot : Slot)
    → settled_all outcome key.0 key.1 (all ++ said ∷ []) slot
    ≡ cond (is_for key.0 key.1 said)
    (settled outcome (settled_all outcome key.0 key.1 all slot) said)
    (settled_all outcome key.0 key.1 all slot)
settled_push outcome key all said slot =
    ap (fold (settled outcome) slot) (filter-append (is_for key.0 key.1) all (said ∷ []))
    ∙ fold-append (settled outcome) slot (filter (is_for key.0 key.1) all)
    (filter (is_for key.0 key.1) (said ∷ []))
    ∙ by (is_for key.0 key.1 said)
  where
    before : Slot
    before = fold (settled outcome) slot (filter (is_for key.0 key.1) all)

    by : (b : Bool) → fold (settled outcome) before (cond b (said ∷ []) [])
        ≡ cond b (settled outcome before said) before
    by true = refl
    by false = refl

-- one slot is settled, and the others stay
module _ (outcome : Outcome) (said : Said) (old new : SlotTable)
    (set : (key : Key) → lookup (same_key key) new.entries
    ≡ cond (same_key (key_of said) key) (Some (settled outcome (slot_in old key) said))
    (lookup (same_key key) old.entries)) where
  settled_slot : (key : Key) → slot_in new key
      ≡ cond (is_for key.0 key.1 said) (settled outcome (slot_in old key) said) (slot_in old key)
  settled_slot key = ap (λ o. unwrap_or o empty_slot) (set key) ∙ by (same_key (key_of said) key)
    where
      by : (b : Bool) → unwrap_or (cond b (Some (settled outcome (slot_in old key) said))
          (lookup (same_key key) old.entries)) empty_slot
          ≡ cond b (settled outcome (slot_in old key) said) (slot_in old key)
      by true = refl
      by false = refl

  -- those that are kept stay kept, and no other comes
  pub still_kept : has_slot old (key_of said) ≡ true → (key : Key)
      → has_slot new key ≡ has_slot old key
  still_kept here key = ap is_some (set key) ∙ by (same_key (key_of said) key) refl
    where
      by : (b : Bool) → same_key (key_of said) key ≡ b
          → is_some (cond b (Some (settled outcome (slot_in old key) said))
          (lookup (same_key key) old.entries))
          ≡ has_slot old key
      by true e =
          sym here ∙ ap (λ (k : Key). has_slot old k) ((key_decides (key_of said) key).0 e)
      by false e = refl

  -- with those before it
  pub settled_more : (all : List Said) (i : ℕ) (start : SlotTable) → i < length all
      → said ≡ get_or all i said
      → ((key : Key) → slot_in old key
      ≡ settled_all outcome key.0 key.1 (take i all) (slot_in start key)) → (key : Key)
      → slot_in new key
      ≡ settled_all outcome key.0 key.1 (take (i + 1) all) (slot_in start key)
  settled_more all i start lt at so key =
      settled_slot key
      ∙ ap (λ slot. cond (is_for key.0 key.1 said) (settled outcome slot said) slot) (so key)
      ∙ sym (settled_push outcome key (take i all) said (slot_in start key))
      ∙ sym (ap (λ (l : List Said). settled_all outcome key.0 key.1 l (slot_in start key))
      (take_more all i said lt ∙ ap (λ (s : Said). take i all ++ s ∷ []) (sym at)))
