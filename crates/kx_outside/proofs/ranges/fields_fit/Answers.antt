use Rattle.std.proofs.Common.{subst}
use Rattle.kx_message.proofs.Sizes.{room}
use Rattle.kx_message.specs.Sizes.{FitsFrame}
use Rattle.kx_message.specs.declared.message.Message.TheVariants as msg
use Rattle.kx_outside.proofs.ranges.fields_fit.Goals as goal

pub produce_fits-requires : goal.produce_fits-requires
produce_fits-requires c =
    let it = c.in-Produce.produce in
    room (msg.Produce it) (subst FitsFrame c.in-Produce.is c.requires.1)
