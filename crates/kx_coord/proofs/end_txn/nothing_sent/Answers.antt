use Rattle.kx_coord.proofs.end_txn.nothing_sent.Goals as goal

pub returns-in-Abort : goal.returns-in-Abort
returns-in-Abort c = λ log next.
    rw c.in-Abort.is (c.writes.ensures _ (c.raised.ensures log next))
