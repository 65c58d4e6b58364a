-- A log that grows by steps, and was written batch by batch.
use Rattle.std.proofs.Common.{List, ◌++◌, ap, append_assoc, sym, ◌∙◌}
use mathlib.Core.List.{IsPrefix}
use Rattle.kx_machine.specs.Logs.{batches_of}
use Rattle.kx_machine.specs.Meaning.{NodeState, AtCoordinator, AtPartition, AtClient, AtProcessor}
use Rattle.kx_machine.specs.Meaning.{node_step}
use Rattle.kx_model.specs.Disk.{GrowsTo, Store}
use Rattle.kx_model.specs.Step.{Input}
use Rattle.kx_published.specs.Written.{IsWritten, MarkerComesRight, Unwritten}
use Rattle.kx_publishing.specs.Publishing.{WroteItself, comes_with}
use Rattle.kx_publishing.proofs.WrittenSteps.{step_written}

pub prefix_more : {A : Type 0} (xs ys zs : List A) → IsPrefix xs ys → GrowsTo ys zs → IsPrefix xs zs
prefix_more {A} xs ys zs p g = (
  p.0 ++ g.more,
  sym (append_assoc xs p.0 g.more) ∙ ap (λ (l : List A). l ++ g.more) p.1 ∙ sym g.parts,
)

pub wrote_step : (node : NodeState) (store : Store) (input : Input) → WroteItself node
    → MarkerComesRight (comes_with input) → WroteItself (node_step node store input).state
wrote_step (AtCoordinator co) store input wrote right = tt
wrote_step (AtPartition number p) store input wrote right =
    step_written number p store input wrote right
wrote_step (AtClient c) store input wrote right = tt
wrote_step (AtProcessor p) store input wrote right = tt

-- a step only adds to its node's log
abbrev pub OnlyAdds : Type 0
OnlyAdds = (state : NodeState) (store : Store) (input : Input)
    → GrowsTo (batches_of state) (batches_of (node_step state store input).state)

pub wrote_log : (node : NodeState) → WroteItself node → IsWritten (batches_of node)
wrote_log (AtCoordinator co) wrote = Unwritten
wrote_log (AtPartition number p) wrote = wrote.kept
wrote_log (AtClient c) wrote = Unwritten
wrote_log (AtProcessor p) wrote = Unwritten
