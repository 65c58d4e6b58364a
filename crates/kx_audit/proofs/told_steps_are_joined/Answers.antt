use Rattle.kx_audit.proofs.Telling.{are_found}
use Rattle.kx_audit.specs.Told.{AtPlace}
use Rattle.kx_audit.proofs.told_steps_are_joined.Goals as goal

pub returns : goal.returns
returns c = λ arrived trails told nodes are all.
    are_found arrived trails told (AtPlace nodes) are all
