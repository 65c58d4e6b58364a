use Rattle.kx_gateway.proofs.Lines.{no_number}
use Rattle.kx_gateway.proofs.table_file.topic_in.Goals as goal

pub returns-in-None : goal.returns-in-None
returns-in-None c = λ e.
    no_number c.args.line.now c.in-Some.name.now c.in-Some.digits.now c.in-Some.ensures.0
    c.in-Some.ensures.1 c.in-None.ensures e
