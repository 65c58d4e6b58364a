use Rattle.std.proofs.Common.{◌∙◌}
use Rattle.kx_message.specs.Ranges.{IsTimeout}
use Rattle.kx_message.specs.Values.{is_timeout}
use Rattle.kx_wire.proofs.Values.{found_where, of_timeout}
use Rattle.kx_wire.proofs.fields.narrow_timeout.Goals as goal

pub returns : goal.returns
returns c = c.ok.ensures.value
    ∙ found_where (is_timeout c.args.n) (IsTimeout c.args.n) c.args.n c.try_from.result
    (of_timeout c.args.n)
    c.try_from.ensures.0
