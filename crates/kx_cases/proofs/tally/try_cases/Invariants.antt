use Rattle.kx_cases.specs.Tally.{IsWithin}
use Rattle.kx_cases.proofs.tally.try_cases.Given as goal

abbrev pub invariant-loop-line : goal.invariant-loop-line
invariant-loop-line g l = IsWithin l.trial.tally
