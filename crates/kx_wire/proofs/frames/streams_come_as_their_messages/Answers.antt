use Rattle.kx_wire.proofs.Streams.{pieces_come}
use Rattle.kx_wire.proofs.frames.streams_come_as_their_messages.Goals as goal

pub returns : goal.returns
returns c = pieces_come
