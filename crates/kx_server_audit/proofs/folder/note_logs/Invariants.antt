use Rattle.std.proofs.Common.{◌≡◌, map, take}
use Rattle.kx_server_audit.specs.Finding.{AreSeen}
use Rattle.kx_server_audit.specs.Internal.{head_in}
use Rattle.kx_server_audit.proofs.folder.note_logs.Given as goal

abbrev pub invariant-loop-node : goal.invariant-loop-node
invariant-loop-node g l = record {
  heads : map head_in l.of.items ≡ map head_in l.fn.of.items;
  seen : AreSeen (g.F.ServerFiles.left l.files) l.of.items (take l.node-index l.nodes);
}
