use Rattle.std.proofs.Common.{rules}
use Rattle.kx_script.proofs.Reading.{is_read}
use Rattle.kx_script.proofs.event.plain_event.Goals as goal

pub returns : goal.returns
returns c = λ s st.
    let client = c.in_ok-client.ensures s st in is_read (c.tell.ensures s) (search rules)
