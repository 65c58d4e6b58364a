-- A list of open transactions from which those of an id are taken.
use Rattle.std.proofs.Common.{◌≤ℤ◌, ℕ, not, List}
use Rattle.std.proofs.Common.{arith, ◌≢◌}
use Rattle.std.proofs.lemmas.List.Kept.{AllPairs-filter}
use Rattle.std.proofs.lemmas.List.Sums.{count_by-le-length, length-filter}
use Rattle.kx_open.specs.Open.{IsOpenList, ended, is_txn_of}
use Rattle.kx_open.specs.declared.open.OpenTxn.{OpenTxn}

pub ended_is_open_list :
    (id : ℕ) (txns : List OpenTxn) → IsOpenList txns → IsOpenList (ended id txns)
ended_is_open_list id txns kept =
    let stays = λ (t : OpenTxn). not (is_txn_of id t) in
    record {
      in_order = AllPairs-filter (λ t u. t.first ≤ℤ u.first) stays txns kept.in_order;
      once = AllPairs-filter (λ t u. t.id ≢ u.id) stays txns kept.once;
      within = omega (arith, length-filter stays txns, count_by-le-length stays txns, kept.within);
    }
