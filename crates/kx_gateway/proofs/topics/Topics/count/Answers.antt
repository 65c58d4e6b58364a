use Rattle.std.proofs.Common.{arith, subst}
use Rattle.kx_gateway.specs.Topics.{IsTable}
use Rattle.kx_gateway.proofs.Tables.{table_length}
use Rattle.kx_gateway.proofs.topics.Topics.count.Goals as goal

pub returns-clause-within : goal.returns-clause-within
returns-clause-within c =
    let most = table_length c.self.inside.topics.items c.self.invariant in
    omega (arith, most, c.len.ensures)

pub returns-clause-table : goal.returns-clause-table
returns-clause-table c = subst IsTable c.self.view_is c.self.invariant
