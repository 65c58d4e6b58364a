use Rattle.kx_broker.proofs.OffsetsLogs.{known_of}
use Rattle.kx_broker.proofs.offsets.end_of.Goals as goal

pub returns-clause-kept : goal.returns-clause-kept
returns-clause-kept g c =
    known_of c.partition.result.now c.args.groups.now c.partition.ensures.value c.end.ensures.log
    c.end.ensures.grown c.partition.ensures.groups c.end.ensures.store
