use Rattle.std.proofs.Common.{rules}
use Rattle.kx_script.proofs.Reading.{is_read}
use Rattle.kx_script.proofs.event.processor_event.Goals as goal

pub returns : goal.returns
returns c = λ s st.
    let client = c.in_ok-client-2.ensures s st in is_read (c.make_processor.ensures s) (search rules)
