use Rattle.kx_program.proofs.Ending.{stock_refused}
use Rattle.kx_program.proofs.kafka.serve_told.Goals as goal

pub returns-in-Err : goal.returns-in-Err
returns-in-Err g c = stock_refused _ _ c.refuse_topics.ensures
