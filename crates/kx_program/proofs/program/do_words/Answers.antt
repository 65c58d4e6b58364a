use Rattle.kx_program.specs.Program.{Does, IsRefused}
use Rattle.kx_program.proofs.program.do_words.Goals as goal

pub returns-in-Ok : goal.returns-in-Ok
returns-in-Ok g c = Does c.in-Ok.task c.in-Ok.ensures c.perform.ensures

pub returns-in-Err : goal.returns-in-Err
returns-in-Err g c = IsRefused c.in-Err.why c.in-Err.ensures c.refuse.ensures
