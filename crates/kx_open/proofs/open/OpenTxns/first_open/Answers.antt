use Rattle.std.proofs.Common.{◌≡◌, rules, Some, slice_get, sym, subst, ap, ◌∙◌, ℤ, List}
use Rattle.std.specs.Int.{w64}
use Rattle.std.specs.Int.RustNames.{FitsSigned}
use Rattle.std.proofs.lemmas.Int.{to_z-of_z}
use Rattle.kx_open.specs.Open.{OpenState, IsLeast}
use Rattle.kx_open.specs.declared.open.OpenTxn.{OpenTxn}
use Rattle.kx_open.proofs.Order.{least_at_front}
use Rattle.kx_open.proofs.open.OpenTxns.first_open.Goals as goal

pub returns : goal.returns
returns c =
    let txn = c.in_ok-txn.txn.now in
    let txns = c.self.inside.txns.items in
    let fits : FitsSigned w64 txn.first = search rules in
    let front : Some txn ≡ slice_get txns 0 =
    c.in_ok-txn.ensures.value ∙ ap (λ (l : List OpenTxn). slice_get l 0) c.deref.ensures.value in
    let least = least_at_front txn txns front c.self.invariant in
    let seen = ap (λ (kept : OpenState). kept.txns) c.self.view_is in
    subst (λ (z : ℤ). IsLeast z c.args.self.now.txns) (sym (to_z-of_z w64 txn.first fits))
    (subst (λ (l : List OpenTxn). IsLeast txn.first l) seen least)
