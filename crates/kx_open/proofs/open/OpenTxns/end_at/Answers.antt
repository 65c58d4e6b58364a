use Rattle.std.proofs.Common.{◌≡◌, rules, tests, ◌∙◌, sym, subst, ap, not, List}
use Rattle.std.proofs.lemmas.Fn.{filter_same}
use Rattle.kx_open.specs.Open.{IsOpenList, ended, is_txn_of}
use Rattle.kx_open.specs.declared.open.OpenTxn.{OpenTxn}
use Rattle.kx_open.proofs.Ending.{ended_is_open_list}
use Rattle.kx_open.proofs.open.OpenTxns.end_at.Goals as goal

pub invariant_of-self : goal.invariant_of-self
invariant_of-self c =
    let txns = c.self.inside.txns.items in
    let left : c.retain.new.self.items ≡ ended c.args.id txns =
    filter_same _ (λ (t : OpenTxn). not (is_txn_of c.args.id t)) _
    (λ x b f' k. search (rules, tests)) _ _ c.retain.ensures.filtered in
    subst IsOpenList (sym left) (ended_is_open_list c.args.id txns c.self.invariant)

pub returns-clause-rest : goal.returns-clause-rest
returns-clause-rest c =
    let left : c.retain.new.self.items ≡ ended c.args.id c.self.inside.txns.items =
    filter_same _ (λ (t : OpenTxn). not (is_txn_of c.args.id t)) _
    (λ x b f' k. search (rules, tests)) _ _ c.retain.ensures.filtered in
    left ∙ ap (λ (l : List OpenTxn). ended c.args.id l) (ap (λ kept. kept.txns) c.self.view_is)
