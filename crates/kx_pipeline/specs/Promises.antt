-- What a world keeps, whatever happened, and a system some of whose clients are processors: the
-- exactly-once semantics that KIP-98 and KIP-447 promise.
use Rattle.std.specs.Prelude.{◌≡◌, ◌≤◌, ◌<◌, ℕ, ℤ, true, List, filter, map, Contains, Ok, Some}
use Rattle.std.specs.Prelude.{◌&&◌, int_le, int_lt}
use Rattle.kx_batch.specs.Batch.{batch_of}
use Rattle.kx_message.specs.declared.message.Held.{Held}
use Rattle.kx_message.specs.declared.message.Message.{Message}
use Rattle.kx_model.specs.Coordinator.{Fenced, commits, owed}
use Rattle.kx_model.specs.Headline.{FollowsDecisions, GivesVisible, HasOneOutcome, IsStoredOnce}
use Rattle.kx_model.specs.Headline.{NeverCommits}
use Rattle.kx_model.specs.Log.{Data, Placed, Sequenced, end, entry_in}
use Rattle.kx_model.specs.Page.{Fetched, answer_to, page}
use Rattle.kx_model.specs.Reading.{committed_of, visible}
use Rattle.kx_model.specs.Transactions.{open_transactions}
use Rattle.kx_model.specs.Verification.{Request, request_of}
use Rattle.kx_model.specs.World.{World, entries_at, holds, log_at, notes}
use Rattle.kx_pipeline.specs.Chain.{IsChained}
use Rattle.kx_pipeline.specs.Outputs.{keyless}
use Rattle.kx_pipeline.specs.Premises.{IsPipeline}
use Rattle.kx_pipeline.specs.Written.{WritesImages, all_outputs, all_read, images_in}
use Rattle.kx_system.specs.Processor.{Images}
use Rattle.kx_system.specs.System.{System}

pub record KeepsPromises (w : World) : Type 0 where
  -- no two partitions hold opposite markers of one transaction
  pub markers_agree : HasOneOutcome w
  -- a reader of committed records gets exactly what is visible, of the log or of a reply
  pub gets_visible : (partition from room : ℕ) → from ≤ end (entries_at w partition)
      → GivesVisible w partition (page (log_at w partition) from room true)
  pub fetches_visible : (partition room : ℕ) (from : ℤ) (got : Fetched)
      → answer_to (log_at w partition) from room true ≡ Ok got
      → committed_of got
      ≡ filter (λ s. int_le got.from s.offset && int_lt s.offset got.next)
      (visible (entries_at w partition) (commits (notes w)))
  -- each batch sent stands at most once, and once if its transaction commits
  pub stands_once : (m : Message) (r : Request) (batch : Sequenced) → Contains w.sent m
      → request_of m ≡ Some r → entry_in (batch_of r.text) ≡ Data batch → IsStoredOnce w r batch
  -- no two clients were ever handed the same id and epoch
  pub one_holder : (c d : ℕ) (held : Held) → holds w c held ≡ true → holds w d held ≡ true
      → c ≡ d
  -- nothing of a fenced producer commits
  pub nothing_commits : (id epoch : ℕ) → Fenced (notes w) id epoch → NeverCommits w id epoch
  -- input offsets commit only with their transaction
  pub offsets_follow : (group : List ℕ) (q : ℕ) → FollowsDecisions w group q
  -- each open transaction is owed its marker
  pub open_is_owed : (p : ℕ) (opened : Placed Sequenced)
      → Contains (open_transactions (entries_at w p)) opened
      → owed (notes w) p opened.item.id opened.item.epoch ≡ true

-- of a group whose members are processors of one kind, each input partition that they read
pub record ReadsOnce (s : System) (group : List ℕ) (q inputs : ℕ) (image : Images) : Type 0 where
  -- the ranges that its transactions read follow one another, from the beginning on
  pub chained : IsChained s.world group q
  -- each writes the images of what it read, and no other one does
  pub writes : q < inputs → WritesImages s group q inputs image
  -- so all of them together write the images of all that was read, each once
  pub once : q < inputs → all_outputs s group q inputs
      ≡ map keyless (images_in s.world image q (all_read s.world group q))

pub record KeepsAll (s : System) : Type 0 where
  pub promises : KeepsPromises s.world
  pub pipelines : (group : List ℕ) (inputs : ℕ) (image : Images)
      → IsPipeline s group inputs image → (q : ℕ) → ReadsOnce s group q inputs image
