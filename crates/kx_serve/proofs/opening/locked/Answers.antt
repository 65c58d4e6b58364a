use Rattle.std.proofs.Common.{ℕ, ap, subst, sym}
use Rattle.kx_serve.specs.Opening.{IsOpened}
use Rattle.kx_serve.proofs.Opened.{under_lock}
use Rattle.kx_serve.proofs.opening.locked.Goals as goal

pub returns-clause-serves : goal.returns-clause-serves
returns-clause-serves g c = λ named is book.
    let machine = c.args.machine in
    under_lock named c.args.opened machine c.new.result (ap (λ u. u.machine) c.new.ensures)
    (subst (λ (n : ℕ). IsOpened n machine.machine) (sym is) c.requires) book
