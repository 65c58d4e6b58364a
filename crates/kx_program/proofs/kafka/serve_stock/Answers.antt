use Rattle.kx_program.proofs.Ending.{stock_served}
use Rattle.kx_program.proofs.kafka.serve_stock.Goals as goal

pub returns : goal.returns
returns g c = stock_served c.serve_kafka-served.result _ _ _ c.serve_kafka-served.ensures.listens c.served_ending.ensures
