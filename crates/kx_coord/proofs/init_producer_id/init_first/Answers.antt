use Rattle.kx_coord.proofs.init_producer_id.init_first.Goals as goal

pub returns : goal.returns
returns c = λ log next. c.writes.ensures _ (c.first_use.ensures log next)
