use Rattle.kx_core.proofs.Beginning.{starts}
use Rattle.kx_core.proofs.local.begun.Goals as goal

pub of-requires : goal.of-requires
of-requires g c =
    starts g.F.Process.image_of c.args.coordinator c.args.partitions.items c.args.offsets
    c.requires.coordinator c.requires.each c.requires.few c.requires.offsets
