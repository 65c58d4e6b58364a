-- Each offset that waits has its slot, and what a transaction's batch and its end change.
use Rattle.std.proofs.Common.{◌≡◌, ◌∙◌, ◌++◌, ℕ, List, [], ◌∷◌, Bool, true, false, Some, All, cond}
use Rattle.std.proofs.Common.{refl, sym, ap, subst, nat_eq}
use Rattle.std.specs.Prelude.{is_some, unwrap_or}
use Rattle.std.specs.Map.{lookup}
use Rattle.std.proofs.lemmas.Cmp.{nat_eq_equiv}
use Rattle.std.proofs.lemmas.List.Elements.{All-nil, All-push, All-weaker}
use Rattle.kx_message.specs.declared.outcome.Outcome.{Outcome}
use Rattle.kx_commits.specs.Kept.{Said, SameKept, empty_slot, ended, is_for, noted}
use Rattle.kx_commits.specs.Kept.{settled_all, waits}
use Rattle.kx_commits.specs.Table.{HasSlots, Key, SlotTable, Table, WaitingTable, has_slot}
use Rattle.kx_commits.specs.Table.{kept_of, key_of, same_key, slot_in, waiting_in}
use Rattle.kx_commits.proofs.OneByOne.{key_decides}

-- no slot goes, and the offsets stay
pub same_slots : (old new : Table)
    → ((key : Key) → has_slot new.slots key ≡ has_slot old.slots key)
    → ((id : ℕ) → (waiting_in new.waiting id).said ≡ (waiting_in old.waiting id).said)
    → HasSlots old → HasSlots new
same_slots old new kept same has id =
    subst (λ (l : List Said). All (λ s. has_slot new.slots (key_of s) ≡ true) l) (sym (same id))
    (All-weaker (λ s. has_slot old.slots (key_of s) ≡ true)
    (λ s. has_slot new.slots (key_of s) ≡ true) (λ s h. kept (key_of s) ∙ h)
    (waiting_in old.waiting id).said (has id))

-- those of one id go
pub fewer_slots : (old new : Table) (id : ℕ)
    → ((key : Key) → has_slot new.slots key ≡ has_slot old.slots key)
    → ((other : ℕ) → (waiting_in new.waiting other).said
    ≡ cond (nat_eq id other) [] (waiting_in old.waiting other).said)
    → HasSlots old → HasSlots new
fewer_slots old new id kept gone has other =
    subst (λ (l : List Said). All (λ s. has_slot new.slots (key_of s) ≡ true) l)
    (sym (gone other)) (by (nat_eq id other))
  where
    by : (b : Bool) → All (λ s. has_slot new.slots (key_of s) ≡ true)
        (cond b [] (waiting_in old.waiting other).said)
    by true = All-nil (λ s. has_slot new.slots (key_of s) ≡ true)
    by false =
        All-weaker (λ s. has_slot old.slots (key_of s) ≡ true)
        (λ s. has_slot new.slots (key_of s) ≡ true) (λ s h. kept (key_of s) ∙ h)
        (waiting_in old.waiting other).said (has other)

-- one more offset of an id waits
module _ (old new : Table) (id : ℕ) (said : Said)
    (set : (key : Key) → lookup (same_key key) new.slots.entries
    ≡ cond (same_key (key_of said) key) (Some (waits (slot_in old.slots key)))
    (lookup (same_key key) old.slots.entries))
    (more : (other : ℕ) → (waiting_in new.waiting other).said
    ≡ cond (nat_eq id other) ((waiting_in old.waiting other).said ++ said ∷ [])
    (waiting_in old.waiting other).said) where
  still : (key : Key) → has_slot old.slots key ≡ true → has_slot new.slots key ≡ true
  still key had = ap is_some (set key) ∙ by (same_key (key_of said) key)
    where
      by : (b : Bool) → is_some (cond b (Some (waits (slot_in old.slots key)))
          (lookup (same_key key) old.slots.entries)) ≡ true
      by true = refl
      by false = had

  its_own : has_slot new.slots (key_of said) ≡ true
  its_own =
      ap is_some (set (key_of said))
      ∙ ap (λ b. is_some (cond b (Some (waits (slot_in old.slots (key_of said))))
      (lookup (same_key (key_of said)) old.slots.entries)))
      ((key_decides (key_of said) (key_of said)).1 refl)

  pub more_slots : HasSlots old → HasSlots new
  more_slots has other =
      subst (λ (l : List Said). All (λ s. has_slot new.slots (key_of s) ≡ true) l)
      (sym (more other)) (by (nat_eq id other))
    where
      before : All (λ s. has_slot new.slots (key_of s) ≡ true) (waiting_in old.waiting other).said
      before =
          All-weaker (λ s. has_slot old.slots (key_of s) ≡ true)
          (λ s. has_slot new.slots (key_of s) ≡ true) (λ s h. still (key_of s) h)
          (waiting_in old.waiting other).said (has other)

      by : (b : Bool) → All (λ s. has_slot new.slots (key_of s) ≡ true)
          (cond b ((waiting_in old.waiting other).said ++ said ∷ [])
          (waiting_in old.waiting other).said)
      by true =
          All-push (λ s. has_slot new.slots (key_of s) ≡ true)
          (waiting_in old.waiting other).said said before its_own
      by false = before

  pub is_noted : SameKept (kept_of new) (noted id said (kept_of old))
  is_noted = record {
    slots = λ group partition. slot (group, partition);
    waiting = λ other. more other
        ∙ ap (λ b. cond b ((waiting_in old.waiting other).said ++ said ∷ [])
        (waiting_in old.waiting other).said) (nat_eq_equiv.symm id other);
  }
    where
      slot : (key : Key) → slot_in new.slots key
          ≡ cond (is_for key.0 key.1 said) (waits (slot_in old.slots key)) (slot_in old.slots key)
      slot key = ap (λ o. unwrap_or o empty_slot) (set key) ∙ by (same_key (key_of said) key)
        where
          by : (b : Bool) → unwrap_or (cond b (Some (waits (slot_in old.slots key)))
              (lookup (same_key key) old.slots.entries)) empty_slot
              ≡ cond b (waits (slot_in old.slots key)) (slot_in old.slots key)
          by true = refl
          by false = refl

-- the transaction of an id ended
pub is_ended : (old new : Table) (id : ℕ) (outcome : Outcome) (all : List Said)
    → all ≡ (waiting_in old.waiting id).said
    → ((key : Key) → slot_in new.slots key
    ≡ settled_all outcome key.0 key.1 all (slot_in old.slots key))
    → ((other : ℕ) → (waiting_in new.waiting other).said
    ≡ cond (nat_eq id other) [] (waiting_in old.waiting other).said)
    → SameKept (kept_of new) (ended id outcome (kept_of old))
is_ended old new id outcome all is slots gone = record {
  slots = λ group partition. slots (group, partition)
      ∙ ap (λ (l : List Said). settled_all outcome group partition l
      (slot_in old.slots (group, partition))) is;
  waiting = λ other. gone other
      ∙ ap (λ b. cond b [] (waiting_in old.waiting other).said) (nat_eq_equiv.symm id other);
}

-- only room was made
pub same_entries : (old new : SlotTable) → new.entries ≡ old.entries → (key : Key)
    → has_slot new key ≡ has_slot old key
same_entries old new same key = ap (λ es. is_some (lookup (same_key key) es)) same

pub same_tables : (table : Table) (old new : SlotTable) (before after : WaitingTable)
    → ◌≡◌ {A = Table} (record { slots = old; waiting = before }) table
    → new.entries ≡ old.entries
    → ((id : ℕ) → (waiting_in after id).said ≡ (waiting_in before id).said)
    → SameKept (kept_of (record { slots = new; waiting = after })) (kept_of table)
same_tables table old new before after is same waiting =
    subst (λ (t : Table). SameKept (kept_of (record { slots = new; waiting = after }))
    (kept_of t)) is (record {
      slots = λ group partition.
          ap (λ es. unwrap_or (lookup (same_key (group, partition)) es) empty_slot) same;
      waiting = waiting;
    })
