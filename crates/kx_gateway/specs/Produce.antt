-- What a Produce asks of the core, and how its reply is answered.
use Rattle.std.specs.Prelude.{ℕ, ℤ, pos, negsuc, List, [], ◌∷◌, Bool, false}
use Rattle.std.specs.Prelude.{Option, Some, None, Result, Ok, Err, not, ◌&&◌, ◌||◌, if◌then◌else◌}
use Rattle.std.specs.Ordering.{int_eq}
use Rattle.kx_batch.specs.declared.fault.BatchFault.{BatchFault}
use Rattle.kx_batch.specs.Batch.{Batch, Spelled, batch_at}
use Rattle.kx_batch.specs.Producer.{with_producer}
use Rattle.kx_message.specs.Values.{name_with}
use Rattle.kx_message.specs.declared.requests.Caller.{Caller}
use Rattle.kx_kafka.specs.declared.produce.PartitionProduceResponse.{PartitionProduceResponse}
use Rattle.kx_gateway.specs.declared.code.GatewayCode.TheVariants as code
use Rattle.kx_gateway.specs.declared.produce.ProduceAsk.{ProduceAsk}
use Rattle.kx_gateway.specs.declared.produce.ProduceAsk.TheVariants.{Refused, Append, InTransaction}
use Rattle.kx_gateway.specs.Codes.{number_of, unknown_partition, invalid_record}
use Rattle.kx_gateway.specs.Topics.{Entry, partition_at}
use Rattle.kx_gateway.specs.TxnBatch.{SentBatch, sent_batch, whole}

-- none, the leader's or all replicas' (Kafka protocol guide, Produce, "acks")
abbrev pub is_acks : ℤ → Bool
is_acks acks = int_eq acks (negsuc 0) || int_eq acks (pos 0) || int_eq acks (pos 1)

-- a batch of no producer
abbrev pub is_plain : Batch → Bool
is_plain v = int_eq v.producer_id (negsuc 0) && int_eq v.producer_epoch (negsuc 0)

abbrev pub has_sequence : Batch → Bool
has_sequence v = not (int_eq v.base_sequence (negsuc 0))

-- one whole valid batch of no producer that has a base sequence all the same
abbrev pub is_odd : Result (Spelled × List ℕ) BatchFault → Bool
is_odd (Ok (x, [])) = is_plain x.batch && has_sequence x.batch
is_odd (Ok (x, byte ∷ bytes)) = false
is_odd (Err f) = false

-- it goes without one, and any other text as it came
unfoldable pub sent_text : List ℕ → List ℕ
sent_text text =
    if is_odd (batch_at text) then with_producer (negsuc 0) (negsuc 0) (negsuc 0) text else text

-- outside of transactions
abbrev pub append_alone : Caller → ℕ → List ℕ → ProduceAsk
append_alone caller partition text = Append (record {
  caller = caller;
  txn = None;
  partition = partition;
  batch = sent_text text;
})

-- with a transactional id: a batch of a transaction, or any other text as it came
abbrev pub append_in : Caller → List ℕ → ℕ → List ℕ → Option SentBatch → ProduceAsk
append_in caller txn partition text None = Append (record {
  caller = caller;
  txn = Some txn;
  partition = partition;
  batch = text;
})
append_in caller txn partition text (Some batch) = InTransaction batch

-- what there is of a batch for a partition
abbrev pub append_to : Caller → Option ℕ → Option (List ℕ) → Option (List ℕ) → ProduceAsk
append_to caller None records txn = Refused (pos unknown_partition)
append_to caller (Some partition) None txn = Refused (pos invalid_record)
append_to caller (Some partition) (Some text) None = append_alone caller partition text
append_to caller (Some partition) (Some text) (Some txn) =
    append_in caller txn partition text (sent_batch txn partition (whole (batch_at text)))

-- a transactional id that the core can't hold is refused
abbrev pub with_txn : Option (List ℕ) → (Option (List ℕ) → ProduceAsk) → ProduceAsk
with_txn None ask = Refused (pos (number_of code.TransactionalIdAuthorizationFailed))
with_txn (Some txn) ask = ask (Some txn)

abbrev pub for_txn : Option (List ℕ) → (Option (List ℕ) → ProduceAsk) → ProduceAsk
for_txn None ask = ask None
for_txn (Some id) ask = with_txn (name_with id) ask

-- the first that fits
unfoldable pub produce_ask : List Entry → Caller → ℤ → Option (List ℕ) → List ℕ → ℤ
    → Option (List ℕ) → ProduceAsk
produce_ask table caller acks txn topic index records =
    if is_acks acks
    then for_txn txn (append_to caller (partition_at table topic index) records)
    else Refused (pos (number_of code.InvalidRequiredAcks))

-- records keep the time that they came with
abbrev pub produced : ℤ → ℤ → ℤ → PartitionProduceResponse
produced index code offset = record {
  index = index;
  error_code = code;
  base_offset = offset;
  log_append_time_ms = negsuc 0;
}
