use Rattle.std.specs.Int.{w32}
use Rattle.std.specs.Int.RustNames.{FitsSigned}
use Rattle.std.proofs.lemmas.Int.{to_z-of_z}
use Rattle.kx_gateway.proofs.metadata.frame_of.Goals as goal

pub returns : goal.returns
returns c =
    let fits : FitsSigned w32 c.args.correlation_id = c.ranges.correlation_id in
    simp to_z-of_z at c.response_frame.ensures.text
