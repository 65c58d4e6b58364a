use Rattle.std.proofs.Common.{◌≡◌, length}
use Rattle.kx_core.specs.Internal.{AreServers}
use Rattle.kx_core.proofs.local.servers.Given as goal

abbrev pub invariant-loop-number : goal.invariant-loop-number
invariant-loop-number l = record {
  count : length l.servers.items ≡ l.number;
  each : AreServers l.servers.items;
}
