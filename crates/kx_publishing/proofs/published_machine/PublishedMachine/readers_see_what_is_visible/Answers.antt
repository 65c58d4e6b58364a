use Rattle.std.proofs.Common.{subst, sym}
use mathlib.Core.List.{IsPrefix}
use Rattle.kx_publishing.proofs.Publishing.{prefix_more}
use Rattle.kx_publishing.specs.Publishing.{ShowsBeginning}
use Rattle.kx_publishing.proofs.published_machine.PublishedMachine.readers_see_what_is_visible.Goals as goal

pub returns : goal.returns
returns g c = λ count events fits partition same done is log begins from room got answered.
    let node_log = g.L.Readable.log c.args.self.now.locked in
    let shown = subst (ShowsBeginning node_log) is c.readers_see_a_prefix.ensures in
    let whole = prefix_more log done.shown node_log begins
    (record { more = shown.0; parts = sym shown.1 }) in
    c.pages_show_what_is_visible.ensures count events fits partition log
    (subst (IsPrefix log) (sym same) whole) from room got answered
