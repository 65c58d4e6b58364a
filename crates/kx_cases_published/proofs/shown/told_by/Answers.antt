use Rattle.std.proofs.Common.{subst, sym}
use Rattle.kx_broker.specs.Serving.{Serving, StandsFor}
use Rattle.kx_machine.specs.Meaning.{AtPartition, made_as}
use Rattle.kx_machine.specs.declared.machine.Making.{Making}
use Rattle.kx_model.specs.PartitionNode.{empty_partition}
use Rattle.kx_nodes.specs.Replay.{AsMade, Recorded, RunsAs}
use Rattle.kx_publishing.proofs.WrittenSteps.{written_empty}
use Rattle.kx_cases_published.proofs.shown.told_by.Goals as goal

-- a partition as it is made, which has written nothing
pub publishing-requires-clause-wrote : goal.publishing-requires-clause-wrote
publishing-requires-clause-wrote g c =
    let node = AtPartition c.args.opened.partition empty_partition in (
      node,
      subst (λ (r : Recorded Making Serving). RunsAs made_as StandsFor r node)
          (sym c.new-traced.ensures)
          (record { replays = AsMade; stands = c.in_ok-machine.ensures }),
      written_empty,
    )
