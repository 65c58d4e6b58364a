use Rattle.kx_wire.proofs.FrameLaws.{frames_apart}
use Rattle.kx_wire.proofs.frames.frames_tell_messages_apart.Goals as goal

pub returns : goal.returns
returns c = frames_apart
