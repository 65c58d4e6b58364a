use Rattle.kx_nodes.proofs.Reruns.{begins, marks, replays_again, runs_on}
use Rattle.kx_nodes.proofs.laws.traces_run_again.Goals as goal

pub returns : goal.returns
returns c = record {
  at_first = begins;
  marks = marks;
  goes_on = runs_on;
  whole = replays_again;
}
