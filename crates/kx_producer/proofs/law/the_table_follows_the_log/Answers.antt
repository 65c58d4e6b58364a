use Rattle.kx_producer.proofs.Judging.{epoch_same, marked_same, verdict_same}
use Rattle.kx_producer.proofs.Standing.{stands_for_all, stands_for_nothing, stands_with_entry}
use Rattle.kx_producer.proofs.Standing.{stands_with_plain}
use Rattle.kx_producer.proofs.law.the_table_follows_the_log.Goals as goal

pub returns : goal.returns
returns c = record {
  empty = stands_for_nothing;
  entry = stands_with_entry;
  plain = stands_with_plain;
  all = stands_for_all;
  verdict = verdict_same;
  epoch = epoch_same;
  marked_by = marked_same;
}
