use Rattle.std.proofs.Common.{ap, arith, get_or}
use Rattle.std.proofs.lemmas.List.Edits.{map_over_more}
use Rattle.kx_membership.specs.Roster.{woken}
use Rattle.kx_membership.proofs.member.wake_all.Goals as goal

pub loop-place-preserved : goal.loop-place-preserved
loop-place-preserved c =
    let item = c.index-members-place.result in
    let place = c.loop-place.place in
    rw c.begin.ensures (map_over_more (woken c.args.now) c.args.members.now c.loop-place.members
    place (get_or c.loop-place.members place item) (omega arith) c.loop-place.invariant
    (ap (λ m. get_or c.loop-place.members place m) c.index-members-place.is))
