-- Batches of transactions, as their clients send them and as the core gets them.
use Rattle.std.specs.Prelude.{ℕ, ℤ, pos, List, [], ◌∷◌, length, Option, Some, None, Result, Ok, Err}
use Rattle.std.specs.Prelude.{if◌then◌else◌}
use Rattle.kx_batch.specs.declared.fault.BatchFault.{BatchFault}
use Rattle.kx_batch.specs.Batch.{Spelled, is_transactional}
use Rattle.kx_batch.specs.Producer.{with_producer}
use Rattle.kx_message.specs.Values.{held_with}
use Rattle.kx_message.specs.declared.message.Held.{Held}
use Rattle.kx_message.specs.declared.requests.Caller.{Caller}
use Rattle.kx_message.specs.declared.requests.Produce.{Produce}

-- the id, the epoch, the base sequence and the number of records are those that the text says
pub record SentBatch : Type 0 where
  pub txn : List ℕ
  pub partition : ℕ
  pub held : Held
  pub first : ℤ
  pub count : ℕ
  pub text : List ℕ

abbrev pub sent_by : List ℕ → ℕ → Spelled → Option Held → Option SentBatch
sent_by txn partition x None = None
sent_by txn partition x (Some held) = Some (record {
  txn = txn;
  partition = partition;
  held = held;
  first = x.batch.base_sequence;
  count = length x.batch.records;
  text = x.text;
})

-- one whole valid batch, and nothing behind it
abbrev pub whole : Result (Spelled × List ℕ) BatchFault → Option Spelled
whole (Ok (x, [])) = Some x
whole (Ok (x, byte ∷ bytes)) = None
whole (Err f) = None

-- it is part of a transaction, of a producer with an id and an epoch
abbrev pub sent_as : List ℕ → ℕ → Spelled → Option SentBatch
sent_as txn partition x =
    if is_transactional x.batch
    then sent_by txn partition x (held_with x.batch.producer_id x.batch.producer_epoch)
    else None

abbrev pub sent_batch : List ℕ → ℕ → Option Spelled → Option SentBatch
sent_batch txn partition None = None
sent_batch txn partition (Some x) = sent_as txn partition x

-- it is appended with another id, epoch and base sequence
abbrev pub produce_of : SentBatch → Caller → Held → ℤ → Produce
produce_of b caller held first = record {
  caller = caller;
  txn = Some b.txn;
  partition = b.partition;
  batch = with_producer (pos held.id) (pos held.epoch) first b.text;
}
