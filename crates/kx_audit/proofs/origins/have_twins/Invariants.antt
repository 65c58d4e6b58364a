use Rattle.kx_audit.proofs.Sources.{AreApartBelow}
use Rattle.kx_audit.proofs.origins.have_twins.Given as goal

abbrev pub invariant-loop-k : goal.invariant-loop-k
invariant-loop-k g l = AreApartBelow g.B.Tells.making l.k l.nodes
