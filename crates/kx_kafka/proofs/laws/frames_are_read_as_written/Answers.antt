use Rattle.kx_kafka.proofs.Streams.{frame_again, frame_only, frame_cut, frame_stays, frame_beyond}
use Rattle.kx_kafka.proofs.Streams.{pieces_come}
use Rattle.kx_kafka.proofs.laws.frames_are_read_as_written.Goals as goal

pub returns-clause-again : goal.returns-clause-again
returns-clause-again c = frame_again

pub returns-clause-only : goal.returns-clause-only
returns-clause-only c = frame_only

pub returns-clause-cut : goal.returns-clause-cut
returns-clause-cut c = frame_cut

pub returns-clause-stays : goal.returns-clause-stays
returns-clause-stays c = frame_stays

pub returns-clause-beyond : goal.returns-clause-beyond
returns-clause-beyond c = frame_beyond

pub returns-clause-pieces : goal.returns-clause-pieces
returns-clause-pieces c = pieces_come
