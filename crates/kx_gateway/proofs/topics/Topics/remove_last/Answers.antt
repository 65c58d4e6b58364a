use Rattle.std.proofs.Common.{[], subst}
use Rattle.std.specs.Prelude.{option_to_list}
use Rattle.kx_gateway.specs.Topics.{IsTable}
use Rattle.kx_gateway.proofs.Tables.{table_front}
use Rattle.kx_gateway.proofs.topics.Topics.remove_last.Goals as goal

pub invariant_of-self : goal.invariant_of-self
invariant_of-self c =
    table_front [] c.pop.new.self.items (option_to_list c.pop.result)
    (subst IsTable c.pop.ensures.items c.self.invariant)
