use Rattle.kx_audit.proofs.Requests.{joined_open}
use Rattle.kx_audit.proofs.Whole.{is_whole}
use Rattle.kx_audit.proofs.joined_traces_are_an_open_schedule.Goals as goal

pub returns : goal.returns
returns c = λ arrived trails merged fit requests joined.
    joined_open c.open_systems_keep_promises.ensures arrived trails merged requests
    (is_whole arrived trails merged fit joined)
