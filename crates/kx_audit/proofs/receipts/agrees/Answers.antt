use Rattle.std.proofs.Common.{◌≡◌, true, arith}
use Rattle.std.proofs.lemmas.Option.{slice_get_within}
use Rattle.kx_audit.specs.Replayed.{name_at}
use Rattle.kx_audit.proofs.Lines.{told_by_is}
use Rattle.kx_audit.proofs.Naming.{of_line, only_so}
use Rattle.kx_audit.proofs.receipts.agrees.Goals as goal

pub returns-in-Some-clause-of_line : goal.returns-in-Some-clause-of_line
returns-in-Some-clause-of_line g c = λ yes.
    of_line g.B.Tells.making c.args.node.now c.args.receipt.now c.in-Some.step.now
    c.taken.result.now c.in-Some.ensures.some c.taken.ensures
    (rw c.node.ensures at c.holds.ensures.0 yes)

pub returns-in-Some-clause-not : goal.returns-in-Some-clause-not
returns-in-Some-clause-not g c = λ no x is.
    let so = only_so g.B.Tells.making c.args.node.now c.args.receipt.now c.in-Some.step.now
    c.taken.result.now c.in-Some.ensures.some c.taken.ensures x is in
    let yes : c.holds.result ≡ true = c.holds.ensures.1 (rw c.node.ensures so) in
    cc

pub returns-in-None-clause-not : goal.returns-in-None-clause-not
returns-in-None-clause-not g c = λ _ x is.
    let p = c.args.node.now in
    let place = c.args.receipt.now.place in
    let lt = slice_get_within p.trace.steps place x.step
    (told_by_is (name_at g.B.Tells.making p) p.trace.steps p.takens place x is.there).step_is in
    omega (arith, lt, c.in-None.ensures.none)
