-- By which request a batch stands in a partition's log.
use Rattle.std.specs.Prelude.{◌≡◌, ◌≢◌, ℕ, List, Contains, Option}
use Rattle.kx_message.specs.Messages as the
use Rattle.kx_message.specs.Ranges.{offsets_partition}
use Rattle.kx_message.specs.declared.requests.Caller.{Caller}
use Rattle.kx_model.specs.Answers.{StandsIn}
use Rattle.kx_model.specs.Log.{Data, Sequenced, Stored, entry_of}
use Rattle.kx_model.specs.Open.{AlwaysOpen}
use Rattle.kx_model.specs.Produce.{stored_at}
use Rattle.kx_model.specs.World.{World}

-- somebody sent it to the partition: it has the bytes of that request's batch, with this base offset
pub record WasSent (w : World) (partition offset : ℕ) (stored : Stored) : Type 0 where
  pub caller : Caller
  pub txn : Option (List ℕ)
  pub batch : List ℕ
  pub sent : Contains w.sent (the.Produce caller txn partition batch)
  pub is : stored ≡ stored_at offset batch

-- whatever clients ask, each batch of a producer with an id that stands in a data partition's log
-- was sent so
abbrev pub StoredWereSent : Type 0
StoredWereSent =
    AlwaysOpen (λ w. (partition : ℕ) → partition ≢ offsets_partition → (offset : ℕ)
    (stored : Stored) (batch : Sequenced) → StandsIn w partition offset stored
    → entry_of stored ≡ Data batch → WasSent w partition offset stored)
