use Rattle.std.proofs.Common.{refl}
use Rattle.kx_serve.proofs.opening.Opening.data_node.Goals as goal

pub returns-clause-serves : goal.returns-clause-serves
returns-clause-serves g c = c.locked.ensures.serves g.J.Naming.book refl c.requires.book
