use Rattle.std.proofs.Common.{◌≡◌, ◌++◌, take}
use Rattle.kx_audit.specs.Replayed.{messages_in}
use Rattle.kx_audit.proofs.origins.add_sent.Given as goal

abbrev pub invariant-loop-taken : goal.invariant-loop-taken
invariant-loop-taken g l =
    l.all ≡ l.initial.all ++ messages_in (take l.taken-index l.taken-items)
