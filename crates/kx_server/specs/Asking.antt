-- What clients ask of a server (KIP-98; KIP-447), and what it refuses at once.
use Rattle.std.specs.Prelude.{ℕ, ◌==◌, ◌&&◌, not, nat_lt, Bool, Option, Some, None}
use Rattle.std.specs.Prelude.{Err, if◌then◌else◌}
use Rattle.std.specs.Option.{option_map}
use Rattle.kx_message.specs.Ranges.{offsets_partition}
use Rattle.kx_message.specs.declared.code.ErrorCode.TheVariants.{UnknownTopicOrPartition}
use Rattle.kx_message.specs.declared.message.Message.{Message}
use Rattle.kx_message.specs.declared.message.Message.TheVariants as msg
use Rattle.kx_message.specs.declared.requests.Caller.{Caller}
use Rattle.kx_model.specs.PartitionNode.{fetch_reply, refused_produce}

-- who asks: requests alone come from clients
abbrev pub caller_of : Message → Option Caller
caller_of (msg.InitProducerId it) = Some it.caller
caller_of (msg.EndTxn it) = Some it.caller
caller_of (msg.Produce it) = Some it.caller
caller_of (msg.Fetch it) = Some it.caller
caller_of (msg.Join it) = Some it.caller
caller_of (msg.Leave it) = Some it.caller
caller_of (msg.TxnOffsetCommit it) = Some it.caller
caller_of (msg.OffsetFetch it) = Some it.caller
caller_of other = None

abbrev pub asker_of : Message → Option ℕ
asker_of message = option_map (λ (c : Caller). c.client) (caller_of message)

-- no data partition of so many
abbrev pub is_missing : ℕ → ℕ → Bool
is_missing partitions number = not (nat_lt number partitions)

-- the reply to a request for a partition that isn't there; the offsets partition has no batch of a
-- client, but it is read
abbrev pub refusal_of : ℕ → Message → Option Message
refusal_of partitions (msg.Produce it) =
    if is_missing partitions it.partition
    then Some (refused_produce it.caller it.partition) else None
refusal_of partitions (msg.Fetch it) =
    if is_missing partitions it.partition && not (it.partition == offsets_partition)
    then Some (fetch_reply it.caller it.partition (Err UnknownTopicOrPartition)) else None
refusal_of partitions other = None
