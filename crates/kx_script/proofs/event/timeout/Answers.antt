use Rattle.std.proofs.lemmas.Result.{OkIff-at_ok}
use Rattle.kx_script.proofs.event.timeout.Goals as goal

pub returns : goal.returns
returns c =
    (OkIff-at_ok c.try_from.result _ 60000 c.unwrap.result c.try_from.ensures.0 c.unwrap.ensures).1
