use Rattle.std.proofs.Common.{rules}
use Rattle.kx_script.proofs.Reading.{is_read, it_delivers}
use Rattle.kx_script.proofs.event.deliver_event.Goals as goal

pub returns : goal.returns
returns c = λ s st marks.
    let message = c.in_ok-message.ensures s.system st in
    is_read (it_delivers s c.in_ok-number.number c.in_ok-message.field-0.now c.receiver-to.result
    c.args.running.now.marks c.at-mark.result c.bring.result c.receiver-to.ensures
    c.at-mark.ensures marks (c.bring.ensures s.system)) (search rules)
