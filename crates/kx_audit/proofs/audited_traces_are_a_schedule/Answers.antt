use Rattle.kx_audit.proofs.Audited.{audited}
use Rattle.kx_audit.specs.Told.{AtPlace}
use Rattle.kx_audit.proofs.audited_traces_are_a_schedule.Goals as goal

pub returns : goal.returns
returns c = λ arrived trails told nodes fit are all.
    audited arrived trails told (AtPlace nodes) fit are all
