use Rattle.std.proofs.Common.{rules, sym, subst, ◌∙◌}
use Rattle.std.specs.Int.{w64}
use Rattle.std.proofs.lemmas.Int.{to_z-of_z}
use mir.Val.{of_z, to_z}
use Rattle.kx_bench.specs.Logs.{IsEndOf, Breaks, Ends}
use Rattle.kx_bench.proofs.logs.kx_bench_produce.Goals as goal

pub returns-in-Some : goal.returns-in-Some
returns-in-Some c = subst (IsEndOf c.args.count)
    (sym (to_z-of_z w64 c.end.result (search rules) ∙ c.end.ensures.value))
    (Ends c.in-Some.partition.batches c.end.ensures.grown c.in-Some.ensures)

pub returns-in-None : goal.returns-in-None
returns-in-None c = Breaks
