use Rattle.std.proofs.Common.{◌≡◌, ◌∙◌, List, ap, false, length, rules, sym, true}
use Rattle.std.specs.Prelude.{IsTrue}
use Rattle.std.proofs.lemmas.Option.{MatchOption-at_none, MatchOption-at_some}
use Rattle.kx_follow.specs.Following.{MakesOneMore}
use Rattle.kx_machine.specs.declared.input.Input.TheVariants.{Restart}
use Rattle.kx_machine.specs.declared.taken.Taken.{Taken}
use Rattle.kx_message.specs.declared.message.Message.{Message}
use Rattle.kx_trace_audit.specs.Logs.{HasFound}
use Rattle.kx_trace_audit.proofs.Telling.{finds_else, reopened}
use Rattle.kx_trace_audit.proofs.step.reopen.Goals as goal

pub returns : goal.returns
returns g c = λ starts history made.
    let making = g.B.Tells.making in
    let stands = g.B.Machine.Machine.stands in
    let old = c.args.follower.now in
    let new = c.take-taken.new.self in
    let is = MatchOption-at_some _ (λ (taken : Taken). MakesOneMore making stands starts c.args.node (Restart c.args.now) c.args.mode taken history old new)
    c.in-Some.taken c.in-Some.is (c.in_ok-taken.ensures.made starts history made) in
    let yes : IsTrue c.has_found.result = search rules in
    reopened making stands starts c.args.node history old new c.args.now c.args.log_len c.args.mode
    c.in-Some.taken is (length c.as_slice-sent.result.now)
    (ap (λ (l : List Message). length l) c.as_slice-sent.ensures)
    ((c.has_found.ensures is.next is.there_then is.passed.after is.stands_so).0 yes)

pub returns-then-not-has_found : goal.returns-then-not-has_found
returns-then-not-has_found g c = λ starts history made.
    let making = g.B.Tells.making in
    let stands = g.B.Machine.Machine.stands in
    let old = c.args.follower.now in
    let new = c.take-taken.new.self in
    let is = MatchOption-at_some _ (λ (taken : Taken). MakesOneMore making stands starts c.args.node (Restart c.args.now) c.args.mode taken history old new)
    c.in-Some.taken c.in-Some.is (c.in_ok-taken.ensures.made starts history made) in
    finds_else making stands starts c.args.node history old new c.args.now c.args.log_len c.args.mode
    c.in-Some.taken is (λ (found : HasFound is.passed.after c.args.log_len).
    let yes = (c.has_found.ensures is.next is.there_then is.passed.after is.stands_so).1 found in
    let no : true ≡ false = sym yes ∙ c.if-not-has_found.true in
    cc)

pub returns-in_default : goal.returns-in_default
returns-in_default g c = λ starts history made. (
  MatchOption-at_none _ _ c.in_default.is (c.in_ok-taken.ensures.made starts history made),
  search rules,
)
