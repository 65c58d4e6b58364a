use Rattle.std.proofs.Common.{All, arith, subst, sym}
use Rattle.kx_serve.specs.Opening.{IsServing}
use Rattle.kx_serve.proofs.opening.Opening.open.Goals as goal

pub returns-in-Ok-clause-partitions : goal.returns-in-Ok-clause-partitions
returns-in-Ok-clause-partitions g c =
    c.in-Ok.ensures (subst (λ nodes. All (IsServing g.J.Naming.book) nodes)
    (sym c.new-partitions.ensures.items) (λ k d within. absurd (omega (arith, within))))
