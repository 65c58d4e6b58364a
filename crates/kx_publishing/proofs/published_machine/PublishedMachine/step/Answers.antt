use Rattle.kx_machine.specs.Meaning.{input_of}
use Rattle.kx_publishing.proofs.Showing.{runs_on}
use Rattle.kx_publishing.proofs.published_machine.PublishedMachine.step.Goals as goal

pub invariant_of-self-2 : goal.invariant_of-self-2
invariant_of-self-2 g c =
    let runs = c.self.invariant.0 in
    let old = c.self.inside in (
      runs_on g.L.Locked.stands c.steps_only_add.ensures.batches (input_of c.args.input)
          c.marker_comes_right.ensures (g.L.Locked.allows old.locked) old.locked
          c.take.new.self c.in_ok-receipt.receipt.taken old.publisher runs
          (c.in_ok-receipt.ensures.step runs.node runs.stands),
      c.self.invariant.1,
    )
