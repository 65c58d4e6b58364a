use Rattle.std.proofs.Common.{List, ap, length, rules}
use Rattle.std.proofs.lemmas.Option.{MatchOption-at_none, MatchOption-at_some}
use Rattle.kx_follow.specs.Following.{MakesOneMore}
use Rattle.kx_machine.specs.declared.taken.Taken.{Taken}
use Rattle.kx_message.specs.declared.message.Message.{Message}
use Rattle.kx_trace_audit.proofs.Records.{refused_so}
use Rattle.kx_trace_audit.proofs.Telling.{answered, differs}
use Rattle.kx_trace_audit.proofs.step.take_again.Goals as goal

pub returns : goal.returns
returns g c = λ starts history made.
    let making = g.B.Tells.making in
    let stands = g.B.Machine.Machine.stands in
    let old = c.args.follower.now in
    let new = c.take.new.self in
    let input = c.args.input.now in
    let is = MatchOption-at_some _ (λ (taken : Taken). MakesOneMore making stands starts c.args.node input c.args.mode taken history old new)
    c.in-Some.taken c.in-Some.is (c.in_ok-taken.ensures.made starts history made) in
    let j = c.in_ok-judged.ensures in
    answered making stands starts c.args.node history old new input c.args.mode c.in-Some.taken is
    (length c.as_slice-sent.result.now)
    (ap (λ (l : List Message). length l) c.as_slice-sent.ensures) c.args.mark c.args.frames.now
    j.0 j.1

pub returns-in_err-judged : goal.returns-in_err-judged
returns-in_err-judged g c = λ starts history made.
    let making = g.B.Tells.making in
    let stands = g.B.Machine.Machine.stands in
    let old = c.args.follower.now in
    let new = c.take.new.self in
    let input = c.args.input.now in
    let is = MatchOption-at_some _ (λ (taken : Taken). MakesOneMore making stands starts c.args.node input c.args.mode taken history old new)
    c.in-Some.taken c.in-Some.is (c.in_ok-taken.ensures.made starts history made) in
    let why = c.in_err-judged.field-0.0 in
    refused_so c.from_residual-in_err-judged.result why c.from_residual-in_err-judged.ensures.1 _ _
    (differs making stands starts c.args.node history old new input c.args.mode c.in-Some.taken c.args.mark
    c.args.frames.now is why c.in_err-judged.ensures)

pub returns-in_default : goal.returns-in_default
returns-in_default g c = λ starts history made. (
  MatchOption-at_none _ _ c.in_default.is (c.in_ok-taken.ensures.made starts history made),
  search rules,
)
