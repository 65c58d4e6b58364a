use Rattle.std.proofs.Common.{rules, ◌∙◌}
use Rattle.std.specs.Prelude.{FitsSigned}
use Rattle.std.specs.Int.{w32}
use Rattle.std.proofs.lemmas.Int.{to_z-of_z}
use Rattle.kx_coord.proofs.HandedOut.{epoch_more, no_epoch}
use Rattle.kx_coord.proofs.opening.next_epoch.Goals as goal

pub loop-entry-init : goal.loop-entry-init
loop-entry-init c = no_epoch

pub loop-entry-preserved : goal.loop-entry-preserved
loop-entry-preserved c =
    let fits : FitsSigned w32 c.epoch_after-last.result = search rules in
    to_z-of_z w32 c.epoch_after-last.result fits
    ∙ epoch_more c.args.entries.now c.loop-entry.entry-index c.entry-item.result _
    c.epoch_after-last.result c.loop-entry-test.true c.entry-item.is c.loop-entry.invariant
    c.epoch_after-last.ensures
