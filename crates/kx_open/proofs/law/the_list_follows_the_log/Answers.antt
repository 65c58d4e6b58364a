use Rattle.kx_open.proofs.Following.{batch_goes_on, batch_opens, marker_ends}
use Rattle.kx_open.proofs.Following.{all_stable, nothing_open, plain_changes_nothing}
use Rattle.kx_open.proofs.Following.{stable_up_to}
use Rattle.kx_open.proofs.law.the_list_follows_the_log.Goals as goal

pub returns : goal.returns
returns c = record {
  empty = nothing_open;
  plain = plain_changes_nothing;
  begins = batch_opens;
  goes_on = batch_goes_on;
  ends = marker_ends;
  all_stable = all_stable;
  stable_up_to = stable_up_to;
}
