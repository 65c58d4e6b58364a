use Rattle.kx_audit.proofs.Keys.{AreIndexedBelow}
use Rattle.kx_audit.proofs.receipts.places_of.Given as goal

abbrev pub invariant-loop-k : goal.invariant-loop-k
invariant-loop-k g l = AreIndexedBelow g.B.Tells.making l.nodes l.k l.places.entries
