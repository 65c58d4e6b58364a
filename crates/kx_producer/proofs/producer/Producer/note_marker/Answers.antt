use Rattle.std.proofs.Common.{rules}
use Rattle.kx_producer.proofs.producer.Producer.note_marker.Goals as goal

pub returns : goal.returns
returns c = search rules
