-- What is taken for the answer of a node that takes no step: that of one whose log is closed.
use Rattle.std.specs.Prelude.{Option, Some, None, negsuc, pos}
use Rattle.kx_message.specs.Messages as the
use Rattle.kx_message.specs.declared.code.ErrorCode.TheVariants.{KafkaStorageError}
use Rattle.kx_message.specs.declared.message.Message.{Message}
use Rattle.kx_message.specs.declared.message.Message.TheVariants as msg

abbrev pub untaken_reply : Message → Option Message
untaken_reply (msg.InitProducerId it) = Some (the.InitReply it.caller KafkaStorageError None)
untaken_reply (msg.EndTxn it) = Some (the.EndReply it.caller KafkaStorageError None)
untaken_reply (msg.Produce it) =
    Some (the.ProduceReply it.caller it.partition KafkaStorageError (negsuc 0))
untaken_reply (msg.Join it) = Some (the.JoinReply it.caller KafkaStorageError (pos 0) 0 0)
untaken_reply (msg.Leave it) = Some (the.LeaveReply it.caller KafkaStorageError)
untaken_reply (msg.TxnOffsetCommit it) = Some (the.OffsetsReply it.caller KafkaStorageError)
untaken_reply (msg.OffsetFetch it) =
    Some (the.OffsetFetchReply it.caller KafkaStorageError (negsuc 0))
untaken_reply other = None
