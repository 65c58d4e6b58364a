use Rattle.std.proofs.Common.{◌≡◌, ◌++◌}
use Rattle.kx_script.proofs.values.list_of.Given as goal

abbrev pub invariant-loop-word : goal.invariant-loop-word
invariant-loop-word l = l.values.items ++ l.word-iterator ≡ l.fn.words
