use Rattle.std.proofs.Common.{◌++◌, ◌∙◌, List, ap, ℕ}
use Rattle.kx_gateway.specs.TableFile.{table_text}
use Rattle.kx_gateway.proofs.Lines.{damaged}
use Rattle.kx_gateway.proofs.table_file.read_topics.Goals as goal

pub returns-in-Err : goal.returns-in-Err
returns-in-Err c =
    damaged c.args.text.now c.loop-line.topics c.in-Some.line.now c.in-Some.after.now c.in-Err.fault
    (c.loop-line.invariant ∙ ap (λ (t : List ℕ). table_text c.loop-line.topics ++ t) c.in-Some.ensures.0)
    c.in-Some.ensures.1 c.in-Err.ensures
