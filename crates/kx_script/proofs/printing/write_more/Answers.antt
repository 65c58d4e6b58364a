use Rattle.std.proofs.Common.{◌+◌, ◌++◌, ℕ, List, ◌∷◌, drop, sym, ap, ◌∙◌, subst}
use Rattle.std.specs.Prelude.{codes}
use Rattle.std.proofs.lemmas.List.{at_drop_more}
use Rattle.kx_message.specs.Ranges.{partition_text}
use Rattle.kx_text.proofs.Writes.{IsBegun, goes_on}
use Rattle.kx_script.specs.Printing.{more_partitions}
use Rattle.kx_script.proofs.printing.write_more.Goals as goal

pub loop-partition-preserved : goal.loop-partition-preserved
loop-partition-preserved g c =
    let old = g.W.Write.contents c.args.writer.now in
    let mid = g.W.Write.contents c.loop-partition.writer in
    let new = g.W.Write.contents c.write.new.self in
    let p = c.partition-item.result in
    let i = c.loop-partition.partition-index in
    let ps = c.args.partitions.now in
    goes_on old mid new (codes "," ++ partition_text p) (more_partitions (drop (i + 1) ps))
    (more_partitions ps)
    (subst (λ (t : List ℕ). IsBegun old mid t (more_partitions ps))
    (at_drop_more more_partitions ps i p c.loop-partition-test.true
    ∙ ap (λ (q : ℕ). more_partitions (q ∷ drop (i + 1) ps)) (sym c.partition-item.is))
    c.loop-partition.invariant)
    c.in_ok-write.ensures.bytes
