use Rattle.kx_nodes.proofs.Traces.{answers_alike, batches_alike, notes_alike, steps_alike}
use Rattle.kx_nodes.proofs.laws.alike_nodes_answer_alike.Goals as goal

pub returns : goal.returns
returns c = record {
  answers = answers_alike;
  nodes = steps_alike;
  batches = batches_alike;
  notes = notes_alike;
}
