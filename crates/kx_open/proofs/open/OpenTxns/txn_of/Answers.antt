use Rattle.std.proofs.Common.{rules, tests, ◌∙◌}
use Rattle.std.proofs.lemmas.Iterator.{YieldsList-from_slice}
use Rattle.std.proofs.lemmas.Iterator.Search.{find_from_yields_List}
use Rattle.kx_open.specs.Open.{is_txn_of}
use Rattle.kx_open.proofs.open.OpenTxns.txn_of.Goals as goal

pub returns : goal.returns
returns c =
    c.copied.ensures
    ∙ find_from_yields_List (is_txn_of c.args.id) _ _ c.find.result c.find.ensures.ran
    (YieldsList-from_slice c.args.self.now.txns cc) (λ x b q k. search (rules, tests))
