-- What a Fetch asks of the core, how much is sent (KIP-74), and how the reply is answered; and what
-- ListOffsets answers.
use Rattle.std.specs.Prelude.{ℕ, zero, suc, ℤ, pos, negsuc, ◌+◌, ◌-◌, min, List, [], ◌∷◌, Bool}
use Rattle.std.specs.Prelude.{true, false, not, ◌&&◌, ◌||◌, ◌==◌, nat_lt, Option, Some, None}
use Rattle.std.specs.Prelude.{if◌then◌else◌}
use Rattle.kx_batch.specs.Batch.{batch_limit}
use Rattle.kx_message.specs.Codes as core
use Rattle.kx_message.specs.declared.payload.AbortedTxn.{AbortedTxn}
use Rattle.kx_message.specs.declared.requests.Caller.{Caller}
use Rattle.kx_message.specs.declared.replies.FetchReply.{FetchReply}
use Rattle.kx_kafka_types.specs.Schema.{Values}
use Rattle.kx_kafka.specs.declared.fetch.AbortedTransaction.{AbortedTransaction}
use Rattle.kx_kafka.specs.declared.list_offsets.ListOffsetsPartitionResponse.{ListOffsetsPartitionResponse}
use Rattle.kx_kafka.specs.declared.isolation.IsolationLevel.{IsolationLevel}
use Rattle.kx_kafka.specs.declared.isolation.IsolationLevel.TheVariants as level
use Rattle.kx_kafka.specs.Apis.{level_with}
use Rattle.kx_kafka.specs.Layouts.{aborted_transaction, fetch_response_partition}
use Rattle.kx_gateway.specs.declared.code.GatewayCode.TheVariants as code
use Rattle.kx_gateway.specs.declared.fetch.FetchAsk.{FetchAsk}
use Rattle.kx_gateway.specs.declared.fetch.FetchAsk.TheVariants.{Refused, Read}
use Rattle.kx_gateway.specs.declared.fetch.FetchBudget.{FetchBudget}
use Rattle.kx_gateway.specs.Codes.{number_of, unknown_partition}
use Rattle.kx_gateway.specs.Topics.{Entry, partition_at}

------ the budget

-- as a count of bytes: a negative one is 0
abbrev pub bytes_of : ℤ → ℕ
bytes_of (pos n) = n
bytes_of (negsuc n) = 0

abbrev pub budget_of : ℤ → FetchBudget
budget_of most = record { left = min (bytes_of most) batch_limit; empty = true }

-- how many bytes of a partition that has a limit of its own
abbrev pub limit_of : FetchBudget → ℤ → ℕ
limit_of budget most = min budget.left (bytes_of most)

-- the first records are sent, however many
abbrev pub sends : FetchBudget → ℤ → ℕ → Bool
sends budget most len = budget.empty || not (nat_lt (limit_of budget most) len)

abbrev pub spent : FetchBudget → ℕ → FetchBudget
spent budget len = record { left = budget.left - len; empty = budget.empty && len == 0 }

-- how many bytes are sent of partitions that have such a limit and so many bytes, in turn
abbrev pub sent_of : FetchBudget → List (ℤ × ℕ) → ℕ
sent_of budget [] = 0
sent_of budget (page ∷ pages) =
    if sends budget page.0 page.1 then page.1 + sent_of (spent budget page.1) pages
    else sent_of budget pages

------ asking

abbrev pub is_committed : IsolationLevel → Bool
is_committed level.ReadUncommitted = false
is_committed level.ReadCommitted = true

abbrev pub read_of : Caller → Option ℕ → ℤ → ℕ → Bool → FetchAsk
read_of caller None from most committed = Refused (pos unknown_partition)
read_of caller (Some partition) from most committed = Read (record {
  caller = caller;
  partition = partition;
  from = from;
  max = most;
  committed = committed;
})

abbrev pub at_level : Option IsolationLevel → (Bool → FetchAsk) → FetchAsk
at_level None ask = Refused (pos (number_of code.InvalidRequest))
at_level (Some l) ask = ask (is_committed l)

-- the first that fits
unfoldable pub fetch_ask : List Entry → Caller → ℤ → List ℕ → ℤ → ℤ → ℕ → FetchAsk
fetch_ask table caller isolation topic index from most =
    at_level (level_with isolation) (read_of caller (partition_at table topic index) from most)

------ answering

abbrev pub aborted_of : AbortedTxn → AbortedTransaction
aborted_of t = record { producer_id = pos t.id; first_offset = t.first }

-- readers of committed records are told of aborted transactions, and no others are
abbrev pub fetched : ℤ → Bool → FetchReply → List (Values aborted_transaction) → Bool
    → Values fetch_response_partition
fetched index committed reply aborted sent = (
  index,
  (
    pos (core.number_of reply.code),
    (
      reply.end,
      (
        reply.lso,
        (
          (if committed then Some aborted else None),
          (Some (if sent then reply.batches else []), tt),
        ),
      ),
    ),
  ),
)

-- no offsets, no transactions, and no records, which is not null
abbrev pub refused : ℤ → ℤ → Values fetch_response_partition
refused index code =
    (index, (code, (negsuc 0, (negsuc 0, (None, (Some [], tt))))))

------ ListOffsets

abbrev pub listing : ℤ → ℤ → ℤ → ListOffsetsPartitionResponse
listing index code offset = record {
  partition_index = index;
  error_code = code;
  timestamp = negsuc 0;
  offset = offset;
}

-- -2 is the start and -1 the end; no offset is found by a time, and no other number is one
abbrev pub listed : ℤ → ℤ → Bool → ℤ → ℤ → ListOffsetsPartitionResponse
listed index (pos time) committed end stable = listing index (pos 0) (negsuc 0)
listed index (negsuc zero) committed end stable =
    listing index (pos 0) (if committed then stable else end)
listed index (negsuc (suc zero)) committed end stable = listing index (pos 0) (pos 0)
listed index (negsuc (suc (suc n))) committed end stable =
    listing index (pos (number_of code.InvalidRequest)) (negsuc 0)
