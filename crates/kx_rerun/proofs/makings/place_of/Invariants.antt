use Rattle.std.proofs.Common.{◌≡◌, ◌+◌, drop, map}
use Rattle.kx_rerun.specs.Making.{number_in, place_in}
use Rattle.kx_rerun.proofs.makings.place_of.Given as goal

abbrev pub invariant-loop-at : goal.invariant-loop-at
invariant-loop-at g l = place_in l.number (map number_in l.made)
    ≡ l.at + place_in l.number (map number_in (drop l.at l.made))
