use Rattle.kx_broker.specs.Serving.{opened_partition}
use Rattle.kx_machine.specs.Meaning.{AtPartition}
use Rattle.kx_serve.proofs.placing.placed.Goals as goal

pub unpublished-requires : goal.unpublished-requires
unpublished-requires g c = (
  AtPartition c.args.opened.partition (opened_partition (g.L.Readable.log c.args.locked)),
  c.requires.serves.as_opened,
)
