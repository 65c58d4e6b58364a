use Rattle.std.proofs.Common.{refl, subst, sym}
use Rattle.std.proofs.lemmas.List.{take_rest}
use Rattle.std.proofs.lemmas.Option.{MatchOption-at_none, MatchOption-at_some}
use Rattle.kx_trace_audit.specs.Items.{IsItem, NeedsItem}
use Rattle.kx_trace_audit.specs.Stepping.{HasStepped, NoItem}
use Rattle.kx_trace_audit.specs.declared.step.Stepped.{Stepped}
use Rattle.kx_trace_audit.proofs.step.go_on.Goals as goal

pub returns-in_default-clause-steps : goal.returns-in_default-clause-steps
returns-in_default-clause-steps g c = λ starts history made n there.
    let making = g.B.Tells.making in
    let stands = g.B.Machine.Machine.stands in
    let k = c.args.node in
    let old = c.args.follower.now in
    let bytes = c.args.unread.now in
    let end = c.args.ending in
    subst (λ (s : Stepped). HasStepped making stands starts k bytes end history old old s.progress s.used)
    (sym c.needs_more.ensures) (
      NoItem (MatchOption-at_none (NeedsItem bytes end) (IsItem bytes)
          c.in_default.is c.in_ok-item.ensures),
      refl,
      refl,
    )

pub returns-clause-steps : goal.returns-clause-steps
returns-clause-steps g c = λ starts history made n there.
    let bytes = c.args.unread.now in
    c.take_item-stepped.ensures.steps bytes
    (MatchOption-at_some (NeedsItem bytes c.args.ending) (IsItem bytes) c.in-Some.item
    c.in-Some.is c.in_ok-item.ensures) (take_rest bytes c.in-Some.item.used) starts history made n there
