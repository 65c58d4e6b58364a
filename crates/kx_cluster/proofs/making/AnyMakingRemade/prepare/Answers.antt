use Rattle.std.proofs.Common.{subst}
use Rattle.kx_machines.specs.Any.{any_stands}
use Rattle.kx_machines.specs.declared.any.AnyMachine.{AnyMachine}
use Rattle.kx_nodes.specs.Again.{AsTold}
use Rattle.kx_cluster.proofs.making.AnyMakingRemade.prepare.Goals as goal

pub returns-in-Broker-clause-stands : goal.returns-in-Broker-clause-stands
returns-in-Broker-clause-stands g c = λ node stands.
    c.prepare.ensures.stands node
    (subst (λ (m : AnyMachine _ _). any_stands g.F.Process.image_of node m) c.in-Broker.is stands)

pub returns-in-Broker-clause-meets : goal.returns-in-Broker-clause-meets
returns-in-Broker-clause-meets g c = λ node size store stands allows.
    AsTold size (c.prepare.ensures.allows size store allows)
