use Rattle.std.proofs.Common.{rules}
use Rattle.kx_script.proofs.Reading.{is_read}
use Rattle.kx_script.proofs.event.put_event.Goals as goal

pub returns-in-Ok : goal.returns-in-Ok
returns-in-Ok c = λ s st marks.
    let partition = c.in_ok-partition-2.ensures s.system st in
    is_read (c.hand_marked.ensures s marks) (search rules)
