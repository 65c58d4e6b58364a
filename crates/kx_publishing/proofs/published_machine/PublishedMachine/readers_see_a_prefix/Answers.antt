use Rattle.std.proofs.Common.{subst}
use Rattle.kx_publishing.proofs.Showing.{shows_beginning}
use Rattle.kx_publishing.specs.Publishing.{ShowsBeginning, UnderLock}
use Rattle.kx_publishing.proofs.published_machine.PublishedMachine.readers_see_a_prefix.Goals as goal

pub returns : goal.returns
returns g c =
    let log = g.L.Readable.log in
    let inside = c.self.inside in
    subst (λ (d : UnderLock g.row.L.Denot). ShowsBeginning (log d.locked) d.published)
    c.self.view_is
    (shows_beginning g.L.Locked.stands log g.met.L.Readable.log_is inside.locked inside.publisher
    c.self.invariant.0)
