use Rattle.std.proofs.Common.{sym}
use Rattle.kx_message.proofs.copies.MessageClone.clone.Goals as goal

pub returns-in-InitProducerId : goal.returns-in-InitProducerId
returns-in-InitProducerId c = record { cases = sym c.in-InitProducerId.is }

pub returns-in-InitReply : goal.returns-in-InitReply
returns-in-InitReply c = record { cases = sym c.in-InitReply.is }

pub returns-in-EndTxn : goal.returns-in-EndTxn
returns-in-EndTxn c = record { cases = sym c.in-EndTxn.is }

pub returns-in-EndReply : goal.returns-in-EndReply
returns-in-EndReply c = record { cases = sym c.in-EndReply.is }

pub returns-in-ProduceReply : goal.returns-in-ProduceReply
returns-in-ProduceReply c = record { cases = sym c.in-ProduceReply.is }

pub returns-in-AddPartition : goal.returns-in-AddPartition
returns-in-AddPartition c = record { cases = sym c.in-AddPartition.is }

pub returns-in-AddReply : goal.returns-in-AddReply
returns-in-AddReply c = record { cases = sym c.in-AddReply.is }

pub returns-in-WriteMarker : goal.returns-in-WriteMarker
returns-in-WriteMarker c = record { cases = sym c.in-WriteMarker.is }

pub returns-in-MarkerReply : goal.returns-in-MarkerReply
returns-in-MarkerReply c = record { cases = sym c.in-MarkerReply.is }

pub returns-in-Fetch : goal.returns-in-Fetch
returns-in-Fetch c = record { cases = sym c.in-Fetch.is }

pub returns-in-Join : goal.returns-in-Join
returns-in-Join c = record { cases = sym c.in-Join.is }

pub returns-in-JoinReply : goal.returns-in-JoinReply
returns-in-JoinReply c = record { cases = sym c.in-JoinReply.is }

pub returns-in-Leave : goal.returns-in-Leave
returns-in-Leave c = record { cases = sym c.in-Leave.is }

pub returns-in-LeaveReply : goal.returns-in-LeaveReply
returns-in-LeaveReply c = record { cases = sym c.in-LeaveReply.is }

pub returns-in-OffsetsReply : goal.returns-in-OffsetsReply
returns-in-OffsetsReply c = record { cases = sym c.in-OffsetsReply.is }

pub returns-in-OffsetFetch : goal.returns-in-OffsetFetch
returns-in-OffsetFetch c = record { cases = sym c.in-OffsetFetch.is }

pub returns-in-OffsetFetchReply : goal.returns-in-OffsetFetchReply
returns-in-OffsetFetchReply c = record { cases = sym c.in-OffsetFetchReply.is }
