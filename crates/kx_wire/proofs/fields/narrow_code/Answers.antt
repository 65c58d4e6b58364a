use Rattle.std.proofs.Common.{◌∙◌, FitsSigned, w16}
use Rattle.std.proofs.lemmas.Int.{to_z-of_z}
use Rattle.kx_wire.proofs.Values.{found_code}
use Rattle.kx_wire.proofs.fields.narrow_code.Goals as goal

pub returns : goal.returns
returns c =
    let f : FitsSigned w16 c.args.n = c.ranges.n in
    c.ok.ensures.value
    ∙ found_code c.args.n c.try_from.result (simp to_z-of_z at c.try_from.ensures)
