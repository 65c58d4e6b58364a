use Rattle.std.proofs.Common.{◌≤◌, ◌-◌, length, drop}
use Rattle.kx_wire.specs.Frames.{Splits}
use Rattle.kx_wire.proofs.Growing.{Begun}
use Rattle.kx_wire.proofs.frames.scan.Given as goal

abbrev pub invariant-loop-message : goal.invariant-loop-message
invariant-loop-message l = record {
  splits : Splits l.bytes l.messages.items (drop l.used l.bytes);
  within : l.used ≤ length l.bytes;
  begun : Begun l.used l.bytes;
}

abbrev pub decreases-loop-message : goal.decreases-loop-message
decreases-loop-message l = length l.bytes - l.used
