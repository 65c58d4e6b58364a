use Rattle.kx_audit.proofs.Whole.{is_whole}
use Rattle.kx_audit.proofs.joined_traces_are_a_schedule.Goals as goal

pub returns : goal.returns
returns c = λ arrived trails merged fit joined. is_whole arrived trails merged fit joined
