-- Who asked for a reply.
use Rattle.std.specs.Prelude.{Option, Some, None}
use Rattle.kx_message.specs.declared.requests.Caller.{Caller}
use Rattle.kx_message.specs.declared.message.Message.{Message}
use Rattle.kx_message.specs.declared.message.Message.TheVariants as msg

-- the caller of a client's request, which the reply to it repeats
abbrev pub caller_of : Message → Option Caller
caller_of (msg.InitProducerId it) = Some it.caller
caller_of (msg.InitReply it) = Some it.caller
caller_of (msg.EndTxn it) = Some it.caller
caller_of (msg.EndReply it) = Some it.caller
caller_of (msg.Produce it) = Some it.caller
caller_of (msg.ProduceReply it) = Some it.caller
caller_of (msg.Fetch it) = Some it.caller
caller_of (msg.FetchReply it) = Some it.caller
caller_of (msg.Join it) = Some it.caller
caller_of (msg.JoinReply it) = Some it.caller
caller_of (msg.Leave it) = Some it.caller
caller_of (msg.LeaveReply it) = Some it.caller
caller_of (msg.TxnOffsetCommit it) = Some it.caller
caller_of (msg.OffsetsReply it) = Some it.caller
caller_of (msg.OffsetFetch it) = Some it.caller
caller_of (msg.OffsetFetchReply it) = Some it.caller
-- what goes between nodes is of no client
caller_of other = None
