use Rattle.std.proofs.Common.{ℕ, List}
use Rattle.std.specs.Borrow.{Bor}
use Rattle.std.specs.HashSet.{contains, hash_set_len}
use Rattle.std.specs.Str.{bytes_eq}
use Rattle.kx_demo.proofs.Doubling.{IsKnown}
use Rattle.kx_demo.proofs.counting.count_doubles.Given as goal

abbrev pub same : Bor (List ℕ) → Bor (List ℕ) → Rattle.std.proofs.Common.Bool
same a b = bytes_eq a.now b.now

abbrev pub invariant-loop-value : goal.invariant-loop-value
invariant-loop-value l =
    IsKnown (contains same l.known) (hash_set_len l.known) l.value-iterator.rest.items
    l.fn.values.items
