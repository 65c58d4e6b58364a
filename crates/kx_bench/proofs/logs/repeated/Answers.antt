use Rattle.std.proofs.Common.{◌+◌, ap, ◌∙◌}
use Rattle.kx_bench.proofs.Appending.{one_more}
use Rattle.kx_bench.proofs.logs.repeated.Goals as goal

pub loop-preserved : goal.loop-preserved
loop-preserved c = one_more c.in-Ok-Appended.field-0-0 c.in-Ok-Appended.field-0-is
    c.in-Ok-Appended.ensures.answer ∙ ap (λ n. n + 1) c.loop.invariant
