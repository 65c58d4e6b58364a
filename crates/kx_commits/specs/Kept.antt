-- What is kept of the offsets that consumer groups commit (KIP-447), and what a batch and a marker
-- of one more transaction change.
use Rattle.std.specs.Prelude.{◌≡◌, ℕ, ℤ, ◌+◌, ◌-◌, Bool, ◌&&◌, List, [], ◌∷◌, ◌++◌, filter, fold}
use Rattle.std.specs.Prelude.{Option, Some, None, nat_lt, ◌==◌, bytes_eq, if◌then◌else◌}
use Rattle.kx_commits.specs.declared.said.SaidOffset.{SaidOffset}
use Rattle.kx_message.specs.declared.outcome.Outcome.{Outcome}
use Rattle.kx_message.specs.declared.outcome.Outcome.TheVariants.{Commit, Abort}

-- an offset that a batch says, of a group and an input partition, with the log offset of the batch
abbrev pub Said : Type 0
Said = SaidOffset

-- what is kept of a group and an input partition: the committed offset, with the log offset of the
-- batch that says it, and how many offsets of open transactions there are
pub record Slot : Type 0 where
  pub committed : Option (ℤ × ℕ)
  pub pending : ℕ

-- of those of which nothing is known
abbrev pub empty_slot : Slot
empty_slot = record { committed = None; pending = 0 }

-- of each group and input partition, and the offsets of each producer id's open transaction, in
-- order
pub record Kept : Type 0 where
  pub slot : List ℕ → ℕ → Slot
  pub waiting : ℕ → List Said

abbrev pub is_for : List ℕ → ℕ → Said → Bool
is_for group partition said = bytes_eq said.group group && said.partition == partition

-- one more offset waits for its transaction
abbrev pub waits : Slot → Slot
waits slot = record slot { pending = slot.pending + 1 }

-- what stands later in the log holds
abbrev pub later : Said → Option (ℤ × ℕ) → Option (ℤ × ℕ)
later said None = Some (said.offset, said.at)
later said (Some known) =
    if nat_lt said.at known.1 then Some known else Some (said.offset, said.at)

-- the transaction of an offset ended
abbrev pub settled : Outcome → Slot → Said → Slot
settled Commit slot said =
    record { committed = later said slot.committed; pending = slot.pending - 1 }
settled Abort slot said = record slot { pending = slot.pending - 1 }

-- a slot after all of these ended
abbrev pub settled_all : Outcome → List ℕ → ℕ → List Said → Slot → Slot
settled_all outcome group partition said slot =
    fold (settled outcome) slot (filter (is_for group partition) said)

------ what a batch and a marker change

-- one more offset, said by a batch of a producer id's transaction
abbrev pub noted : ℕ → Said → Kept → Kept
noted id said kept = record {
  slot = λ group partition.
      if is_for group partition said then waits (kept.slot group partition)
      else kept.slot group partition;
  waiting = λ i. if i == id then kept.waiting i ++ said ∷ [] else kept.waiting i;
}

-- all that a batch says
abbrev pub noted_all : ℕ → List Said → Kept → Kept
noted_all id said kept = fold (λ k s. noted id s k) kept said

-- the transaction of a producer id ended
abbrev pub ended : ℕ → Outcome → Kept → Kept
ended id outcome kept = record {
  slot = λ group partition.
      settled_all outcome group partition (kept.waiting id) (kept.slot group partition);
  waiting = λ i. if i == id then [] else kept.waiting i;
}

abbrev pub nothing : Kept
nothing = record { slot = λ group partition. empty_slot; waiting = λ id. [] }

-- the same is kept of each group, input partition and producer id
pub record SameKept (some other : Kept) : Type 0 where
  pub slots : (group : List ℕ) (partition : ℕ)
      → some.slot group partition ≡ other.slot group partition
  pub waiting : (id : ℕ) → some.waiting id ≡ other.waiting id
