use Rattle.kx_wire.proofs.Streams.{more_is_short}
use Rattle.kx_wire.proofs.frames.less_than_a_frame_is_held.Goals as goal

pub returns : goal.returns
returns c = more_is_short
