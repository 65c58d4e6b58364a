use Rattle.std.proofs.Common.{List, [], subst, sym}
use Rattle.kx_follow.specs.Beginning.{AreNodes}
use Rattle.kx_follow.specs.Following.{Followed, HasMade}
use Rattle.kx_follow.specs.Pending.{Waiting}
use Rattle.kx_follow.proofs.Stepping.{begins}
use Rattle.kx_follow.proofs.follower.Follower.new.Goals as goal

pub returns-clause-made : goal.returns-clause-made
returns-clause-made g c = λ starts led.
    let making = g.B.Tells.making in
    let stands = g.B.Machine.Machine.stands in
    let nodes = c.args.nodes.items in
    subst (λ (waiting : Waiting). HasMade making stands starts []
    (record { nodes = nodes; pending = waiting })) (sym c.new.ensures)
    (begins making stands starts nodes
    (subst (λ (l : List (Followed _ _)). AreNodes making l) c.as_slice.ensures.value
    c.in_ok-check_names.ensures) led)
