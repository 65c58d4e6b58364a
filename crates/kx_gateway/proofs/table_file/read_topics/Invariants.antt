use Rattle.std.proofs.Common.{◌≡◌, ◌++◌, length}
use Rattle.kx_gateway.specs.TableFile.{table_text}
use Rattle.kx_gateway.proofs.table_file.read_topics.Given as goal

abbrev pub invariant-loop-line : goal.invariant-loop-line
invariant-loop-line l = l.text ≡ table_text l.topics ++ l.rest

abbrev pub decreases-loop-line : goal.decreases-loop-line
decreases-loop-line l = length l.rest
