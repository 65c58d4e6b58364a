use Rattle.std.proofs.Common.{◌≡◌, ◌-◌}
use Rattle.kx_processor.specs.Internal.{left_of}
use Rattle.kx_processor.proofs.owned.Owned.next.Given as goal

-- those that were passed belong to others
abbrev pub invariant-loop-self : goal.invariant-loop-self
invariant-loop-self l = left_of l.fn.self ≡ left_of l.self

abbrev pub decreases-loop-self : goal.decreases-loop-self
decreases-loop-self l = l.self.inputs - l.self.from
