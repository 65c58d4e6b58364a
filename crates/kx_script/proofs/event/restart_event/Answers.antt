use Rattle.std.proofs.Common.{rules}
use Rattle.kx_script.proofs.Reading.{is_read}
use Rattle.kx_script.proofs.event.restart_event.Goals as goal

pub returns : goal.returns
returns c = λ s st.
    let to = c.in_ok-to.ensures s st in
    let clock = c.clock.ensures s st in is_read (c.hand.ensures s) (search rules)
