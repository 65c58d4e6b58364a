use Rattle.kx_broker.specs.Serving.{GoesTo, IsServed}
use Rattle.kx_broker.proofs.Opening.{made_server, opened_server}
use Rattle.kx_broker.proofs.Served.{serving}
use Rattle.kx_laws.specs.Grown.{IsGrown}
use Rattle.kx_broker.proofs.machine.PartitionMachine.new.Goals as goal

pub returns-clause-opened : goal.returns-clause-opened
returns-clause-opened g c =
    let rebuilt = c.in_ok-partition.ensures in
    opened_server IsGrown (GoesTo c.args.number) c.args.number (g.S.Store.state c.args.store)
    c.in_ok-partition.partition c.new.result rebuilt.opens c.end-end.ensures.log rebuilt.grown
    c.new.ensures

pub returns-clause-made : goal.returns-clause-made
returns-clause-made g c = λ empty.
    made_server (IsServed c.args.number) (g.S.Store.state c.args.store) c.in_ok-partition.partition
    (serving c.args.number c.in_ok-partition.partition c.new.result)
    c.in_ok-partition.ensures.opens empty (returns-clause-opened g c)
