use Rattle.kx_nodes.proofs.Traces.{answers_same, batches_same, nodes_alike, notes_same}
use Rattle.kx_nodes.proofs.laws.traces_tell_answers_and_logs.Goals as goal

pub returns : goal.returns
returns c = record {
  answers = answers_same;
  batches = batches_same;
  notes = notes_same;
  nodes = nodes_alike;
}
