use Rattle.kx_wire.proofs.FrameLaws.{frame_again, frame_takes}
use Rattle.kx_wire.proofs.frames.frames_are_read.Goals as goal

pub returns-clause-again : goal.returns-clause-again
returns-clause-again c = frame_again

pub returns-clause-only : goal.returns-clause-only
returns-clause-only c = frame_takes
