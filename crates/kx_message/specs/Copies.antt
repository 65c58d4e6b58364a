-- Which messages are copied without memory.
use Rattle.kx_message.specs.declared.message.Message.{Message}
use Rattle.kx_message.specs.declared.message.Message.TheVariants as msg

-- the message holds no bytes and no list
abbrev pub HoldsNoList : Message → Type 0
HoldsNoList (msg.Produce it) = ⊥
HoldsNoList (msg.FetchReply it) = ⊥
HoldsNoList (msg.TxnOffsetCommit it) = ⊥
HoldsNoList other = Unit {0}
