-- What a group's transactions write of an input partition: the images of what they read of it, each
-- once (KIP-98, "Transactional Guarantees"; KIP-447).
use Rattle.std.specs.Prelude.{◌≡◌, ◌≢◌, ℕ, ◌+◌, pos, true, List, [], ◌++◌, map}
use Rattle.std.specs.Prelude.{Contains}
use Rattle.std.specs.List.{flat_map}
use Rattle.kx_message.specs.Ranges.{offsets_partition}
use Rattle.kx_message.specs.declared.message.Held.{Held}
use Rattle.kx_model.specs.Coordinator.{commits}
use Rattle.kx_model.specs.Log.{Sequenced}
use Rattle.kx_model.specs.World.{World, entries_at, holds, notes}
use Rattle.kx_system.specs.Processor.{Images}
use Rattle.kx_system.specs.System.{System}
use Rattle.kx_pipeline.specs.Chain.{Range, awaiting, chain, committed_after, last_end, ranges_of}
use Rattle.kx_pipeline.specs.Outputs.{Content, content_of, keyless, outputs}
use Rattle.kx_pipeline.specs.Premises.{IsProcessor}
use Rattle.kx_pipeline.specs.Visible.{visible_in}

-- the offsets' batches of the chain's ranges
abbrev pub chain_batches : World → List ℕ → ℕ → List Sequenced
chain_batches w group q =
    committed_after group q [] (entries_at w offsets_partition)
    ++ awaiting (commits (notes w)) group q (entries_at w offsets_partition)

-- the images of what is visible in a range of an input partition
abbrev pub images_in : World → Images → ℕ → Range → List (List ℕ)
images_in w image q range = map (λ s. image s.shown) (visible_in w q range.from range.end)

-- each transaction of the chain wrote the images of the range that it read, one record with a null
-- key for each, in order; and no other transaction of the group's processors that is decided to commit wrote any
pub record WritesImages (s : System) (group : List ℕ) (q inputs : ℕ) (image : Images)
    : Type 0 where
  pub each : (batch : Sequenced) (range : Range) → Contains (chain_batches s.world group q) batch
      → Contains (ranges_of s.world.sent group q batch) range
      → map content_of (outputs s.world (q + inputs) batch.id batch.epoch)
      ≡ map keyless (images_in s.world image q range)
  pub no_other : (client : ℕ) (held : Held) → IsProcessor s group client
      → holds s.world client held ≡ true → commits (notes s.world) held.id held.epoch ≡ true
      → outputs s.world (q + inputs) held.id held.epoch ≢ []
      → (batch : Sequenced) × Contains (chain_batches s.world group q) batch
      × (batch.id ≡ held.id) × (batch.epoch ≡ held.epoch)

-- what the transactions of the chain wrote to the input partition's output, one after the other
abbrev pub all_outputs : System → List ℕ → ℕ → ℕ → List Content
all_outputs s group q inputs =
    flat_map (λ batch. map content_of (outputs s.world (q + inputs) batch.id batch.epoch))
    (chain_batches s.world group q)

-- from the beginning of the input partition up to where the chain has read
abbrev pub all_read : World → List ℕ → ℕ → Range
all_read w group q = record { from = pos 0; end = last_end (chain w group q) }
