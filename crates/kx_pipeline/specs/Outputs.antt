-- What one transaction wrote to a partition, and the batches that its producer sent there.
use Rattle.std.specs.Prelude.{◌≡◌, ℕ, true, List, [], ◌∷◌, ◌++◌, length, Contains, Option, Some}
use Rattle.std.specs.Prelude.{None}
use Rattle.std.specs.Prelude.{if◌then◌else◌}
use Rattle.std.specs.List.{flat_map}
use Rattle.kx_message.specs.declared.message.Message.{Message}
use Rattle.kx_message.specs.declared.message.Message.TheVariants as msg
use Rattle.kx_message.specs.declared.requests.Produce.{Produce}
use Rattle.kx_batch.specs.Batch.{batch_of}
use Rattle.kx_batch.specs.Record.{Header, Record}
use Rattle.kx_client.specs.declared.values.Values.{Values}
use Rattle.kx_model.specs.Client.{client_batch, value_records}
use Rattle.kx_model.specs.Log.{Entry, Plain, Data, Control, Sequenced, entry_in}
use Rattle.kx_model.specs.Producers.{is_of}
use Rattle.kx_model.specs.World.{World, entries_at}

------ what a record carries

-- its key, its value and its headers
pub record Content : Type 0 where
  pub key : Option (List ℕ)
  pub value : Option (List ℕ)
  pub headers : List Header

abbrev pub content_of : Record → Content
content_of r = record { key = r.key; value = r.value; headers = r.headers }

-- a value with a null key and no headers
abbrev pub keyless : List ℕ → Content
keyless value = record { key = None; value = Some value; headers = [] }

------ what stands in the log

-- the records of a batch of this id and epoch
abbrev pub written_by : ℕ → ℕ → Entry → List Record
written_by id epoch (Plain records) = []
written_by id epoch (Data batch) = if is_of id epoch batch then batch.records else []
written_by id epoch (Control marker) = []

-- what the transaction of this id and epoch wrote to the partition, in the log's order
abbrev pub outputs : World → ℕ → ℕ → ℕ → List Record
outputs w partition id epoch = flat_map (written_by id epoch) (entries_at w partition)

------ what was sent

abbrev pub all_in : Values → List (List ℕ)
all_in values = values.first ∷ values.more

-- the values of batches, in order
abbrev pub values_of : List Values → List (List ℕ)
values_of batches = flat_map all_in batches

-- the data batch is one of these batches, behind those before it
pub record IsOneOf (batches : List Values) (d : Sequenced) : Type 0 where
  pub before : List Values
  pub values : Values
  pub after : List Values
  pub parts : batches ≡ before ++ values ∷ after
  pub first : d.first ≡ length (values_of before)
  pub records : d.records ≡ value_records (all_in values)

-- a request for the partition has this one of the batches, behind those before it
pub record WasSent (sent : List Message) (partition id epoch : ℕ) (before : List Values)
    (values : Values) : Type 0 where
  pub request : Produce
  pub handed : Contains sent (msg.Produce request)
  pub here : request.partition ≡ partition
  pub text : request.batch
      ≡ client_batch true (record { id = id; epoch = epoch }) (length (values_of before))
      (value_records (all_in values))

-- what was sent to the partition as this id and epoch is these batches, each behind the one before
pub record Wrote (sent : List Message) (partition id epoch : ℕ) (batches : List Values)
    : Type 0 where
  pub each : (before : List Values) (values : Values) (after : List Values)
      → batches ≡ before ++ values ∷ after → WasSent sent partition id epoch before values
  pub only : (request : Produce) → Contains sent (msg.Produce request)
      → request.partition ≡ partition → (d : Sequenced)
      → entry_in (batch_of request.batch) ≡ Data d → d.id ≡ id → d.epoch ≡ epoch
      → IsOneOf batches d
