use Rattle.std.proofs.Common.{List, ap, length, rules}
use Rattle.std.proofs.lemmas.Option.{MatchOption-at_none, MatchOption-at_some}
use Rattle.kx_follow.specs.Following.{MakesOneMore}
use Rattle.kx_machine.specs.declared.taken.Taken.{Taken}
use Rattle.kx_message.specs.declared.message.Message.{Message}
use Rattle.kx_trace_audit.proofs.Telling.{unanswered}
use Rattle.kx_trace_audit.proofs.step.take_unanswered.Goals as goal

pub returns : goal.returns
returns g c = λ starts history made.
    let making = g.B.Tells.making in
    let stands = g.B.Machine.Machine.stands in
    let old = c.args.follower.now in
    let new = c.take.new.self in
    let input = c.args.input.now in
    let is = MatchOption-at_some _ (λ (taken : Taken). MakesOneMore making stands starts c.args.node input c.args.mode taken history old new)
    c.in-Some.taken c.in-Some.is (c.in_ok-taken.ensures.made starts history made) in
    unanswered making stands starts c.args.node history old new input c.args.mode c.in-Some.taken is
    (length c.as_slice-sent.result.now)
    (ap (λ (l : List Message). length l) c.as_slice-sent.ensures)

pub returns-in_default : goal.returns-in_default
returns-in_default g c = λ starts history made. (
  MatchOption-at_none _ _ c.in_default.is (c.in_ok-taken.ensures.made starts history made),
  search rules,
)
