use Rattle.std.proofs.Common.{◌≡◌, map, take}
use Rattle.kx_gateway.specs.Fetch.{aborted_of}
use Rattle.kx_gateway.proofs.fetch.aborted_of.Given as goal

abbrev pub invariant-loop-txn : goal.invariant-loop-txn
invariant-loop-txn l = l.list.items ≡ map aborted_of (take l.txn-index l.aborted)
