use Rattle.kx_nodes.specs.Again.{AsTold}
use Rattle.kx_server_audit.proofs.server_node.ServerNodeRemade.prepare.Goals as goal

pub returns-clause-meets : goal.returns-clause-meets
returns-clause-meets c = λ node size store stands allows.
    AsTold size (c.prepare.ensures.allows size store allows)
