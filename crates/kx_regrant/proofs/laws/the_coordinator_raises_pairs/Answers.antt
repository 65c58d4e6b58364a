use Rattle.kx_regrant.proofs.Raising.{end_raises, first_is_new, init_raises, over_worlds, read_behind}
use Rattle.kx_regrant.proofs.laws.the_coordinator_raises_pairs.Goals as goal

pub returns-clause-init : goal.returns-clause-init
returns-clause-init c = over_worlds _ init_raises

pub returns-clause-first : goal.returns-clause-first
returns-clause-first c = over_worlds _ (λ log sound. first_is_new log)

pub returns-clause-end : goal.returns-clause-end
returns-clause-end c = over_worlds _ end_raises

pub returns-clause-again : goal.returns-clause-again
returns-clause-again c = over_worlds _ read_behind
