use Rattle.std.proofs.Common.{◌++◌}
use Rattle.kx_follow.proofs.Ending.{made_all, whole}
use Rattle.kx_follow.proofs.follower.Follower.steps_are_an_open_schedule.Goals as goal

pub returns : goal.returns
returns g c = λ starts history before made led.
    let making = g.B.Tells.making in
    let stands = g.B.Machine.Machine.stands in
    let now = c.args.self.now in
    whole making stands (before ++ history) now
    (made_all making stands starts before history now made led)
    c.joined_traces_are_an_open_schedule.ensures
