use Rattle.std.proofs.Common.{rules}
use Rattle.kx_script.proofs.Reading.{is_read}
use Rattle.kx_script.proofs.event.send_event.Goals as goal

pub returns-in-Ok : goal.returns-in-Ok
returns-in-Ok c = λ s st.
    let client = c.in_ok-client-2.ensures s st in
    let partition = c.in_ok-partition-2.ensures s st in
    is_read (c.tell.ensures s) (search rules)
