use Rattle.std.proofs.Common.{◌≡◌, ◌++◌, ℕ, List, append_assoc, subst, sym}
use Rattle.std.specs.Prelude.{codes, decimal}
use Rattle.std.specs.Io.KnownBytes.{Appends}
use Rattle.std.proofs.lemmas.Result.{on_ok_weaker}
use Rattle.std.proofs.KnownBytes.{Appends-trans}
use Rattle.kx_text.specs.Pages.{newline}
use Rattle.kx_txnlog.specs.State.{state_of}
use Rattle.kx_script.specs.Printing.{partitions_text, state_number}
use Rattle.kx_script.proofs.printing.write_row.Goals as goal

abbrev front_of : List ℕ → ℕ → ℕ → ℕ → List ℕ
front_of txn id epoch state =
    txn ++ codes " " ++ decimal id ++ codes " " ++ decimal epoch ++ codes " " ++ decimal state
    ++ codes " "

-- the words of a row up to its state, put together from the back and from the front
in_a_row : (a b c d s : List ℕ) → a ++ (s ++ (b ++ (s ++ (c ++ (s ++ (d ++ s))))))
    ≡ a ++ s ++ b ++ s ++ c ++ s ++ d ++ s
in_a_row a b c d s = sym (simp append_assoc)

pub returns : goal.returns
returns g c =
    let old = g.W.Write.contents c.args.writer.now in
    let mid = g.W.Write.contents c.write.new.self in
    let late = g.W.Write.contents c.write_partitions.new.writer in
    let new = g.W.Write.contents c.write_all.new.self in
    let row = c.args.row.now in
    let front = front_of row.txn row.id row.epoch in
    let parts = partitions_text row.partitions in
    let first : Appends old mid (front (state_number (state_of row.state))) =
    subst (λ (n : ℕ). Appends old mid (front n)) c.state_number-state.ensures
    (subst (Appends old mid) (in_a_row row.txn (decimal row.id) (decimal row.epoch)
    (decimal c.state_number-state.result) (codes " ")) c.in_ok-write.ensures.bytes) in
    let second : Appends mid late parts =
    subst (λ (ps : List ℕ). Appends mid late (partitions_text ps)) c.as_slice.ensures.value
    c.in_ok-write_partitions.ensures in
    on_ok_weaker c.write_all.result
    (Appends-trans old late new (front (state_number (state_of row.state)) ++ parts) newline
    (Appends-trans old mid late (front (state_number (state_of row.state))) parts first second))
    c.write_all.ensures.bytes
