use Rattle.std.proofs.Common.{rules}
use Rattle.kx_script.proofs.Reading.{is_read}
use Rattle.kx_script.proofs.event.drop_event.Goals as goal

pub returns : goal.returns
returns c = λ s marks. is_read (c.hand_marked.ensures s marks) (search rules)
