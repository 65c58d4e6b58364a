use Rattle.kx_program.proofs.program.serve.Goals as goal

pub returns : goal.returns
returns g c = (c.serve-served.result, c.serve-served.ensures.prints, c.served_ending.ensures)
