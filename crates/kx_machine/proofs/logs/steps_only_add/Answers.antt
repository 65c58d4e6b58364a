use Rattle.kx_machine.proofs.Growing.{batches_grow, notes_grow}
use Rattle.kx_machine.proofs.logs.steps_only_add.Goals as goal

pub returns-clause-batches : goal.returns-clause-batches
returns-clause-batches c = batches_grow

pub returns-clause-notes : goal.returns-clause-notes
returns-clause-notes c = notes_grow
