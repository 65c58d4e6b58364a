use Rattle.kx_notices.proofs.Counting.{each}
use Rattle.kx_notices.proofs.rate.each_notice_passes_or_is_counted.Goals as goal

pub returns : goal.returns
returns c = each
