use Rattle.std.proofs.Common.{List, All, subst, sym}
use Rattle.kx_machine.proofs.Fitting.{offsets_fit}
use Rattle.kx_machine.specs.Meaning.{command_of}
use Rattle.kx_message.specs.Message.{IsOffset}
use Rattle.kx_message.specs.declared.payload.PartitionOffset.{PartitionOffset}
use Rattle.kx_model.specs.World as model
use Rattle.kx_machine.proofs.fits.command_fits.Goals as goal

pub returns-in-Offsets : goal.returns-in-Offsets
returns-in-Offsets c =
    let each = subst (λ (offsets : List PartitionOffset). All IsOffset offsets)
    c.as_slice.ensures.value c.offsets_fit.ensures in
    subst (λ command. model.IsCommand (command_of command)) (sym c.in-Offsets.is)
    (offsets_fit c.in-Offsets.offsets each c.as_slice.ensures.within)
