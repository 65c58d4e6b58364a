use Rattle.std.proofs.Common.{◌≡◌, map}
use Rattle.kx_model.specs.Reading.{committed_of}
use Rattle.kx_reader.specs.Pairs.{pairs}
use Rattle.kx_demo.specs.Counting.{value_of}
use Rattle.kx_demo.proofs.Doubling.{gathered}
use Rattle.kx_demo.proofs.counting.values_of.Given as goal

abbrev pub invariant-loop-shown : goal.invariant-loop-shown
invariant-loop-shown l =
    gathered l.values.items (pairs l.shown-iterator) ≡ map value_of (committed_of l.fn.page)
