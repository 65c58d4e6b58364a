-- Where each message goes: requests to the coordinator, to the partition that they name or to the
-- offsets partition, replies to the client or, of a partition, to the coordinator.
use Rattle.kx_message.specs.Ranges.{offsets_partition}
use Rattle.kx_message.specs.declared.message.Message.{Message}
use Rattle.kx_message.specs.declared.message.Message.TheVariants as msg
use Rattle.kx_message.specs.declared.message.NodeId.{NodeId}
use Rattle.kx_message.specs.declared.message.NodeId.TheVariants.{Coordinator, Partition, Client}

abbrev pub receiver_of : Message → NodeId
receiver_of (msg.InitProducerId it) = Coordinator
receiver_of (msg.EndTxn it) = Coordinator
receiver_of (msg.AddPartition it) = Coordinator
receiver_of (msg.MarkerReply it) = Coordinator
receiver_of (msg.Produce it) = Partition it.partition
receiver_of (msg.WriteMarker it) = Partition it.partition
receiver_of (msg.AddReply it) = Partition it.partition
receiver_of (msg.Fetch it) = Partition it.partition
receiver_of (msg.Join it) = Partition offsets_partition
receiver_of (msg.Leave it) = Partition offsets_partition
receiver_of (msg.TxnOffsetCommit it) = Partition offsets_partition
receiver_of (msg.OffsetFetch it) = Partition offsets_partition
receiver_of (msg.InitReply it) = Client it.caller.client
receiver_of (msg.EndReply it) = Client it.caller.client
receiver_of (msg.ProduceReply it) = Client it.caller.client
receiver_of (msg.FetchReply it) = Client it.caller.client
receiver_of (msg.JoinReply it) = Client it.caller.client
receiver_of (msg.LeaveReply it) = Client it.caller.client
receiver_of (msg.OffsetsReply it) = Client it.caller.client
receiver_of (msg.OffsetFetchReply it) = Client it.caller.client
