use Rattle.kx_laws.proofs.GrownLogs.{grown_by_batch, grown_by_marker}
use Rattle.kx_partition.proofs.Rebuilding.{none_untaken}
use Rattle.kx_partition.proofs.law.rebuilt_partitions_are_as_before.Goals as goal

pub returns : goal.returns
returns c = record {
  taken = none_untaken;
  batch = grown_by_batch;
  marker = λ log m grown fits next. grown_by_marker log m grown fits next;
}
