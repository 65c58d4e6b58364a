use Rattle.std.proofs.Common.{◌∙◌, arith}
use Rattle.std.proofs.lemmas.Grind.{common_steps}
use Rattle.kx_kafka_types.proofs.Onto.{onto_is}
use Rattle.kx_kafka_types.proofs.writer.put_array.Goals as goal

pub loop-item-preserved : goal.loop-item-preserved
loop-item-preserved g c =
    let e = c.in_ok-put.ensures.written ∙ onto_is c.args.version g.T.Writes.fields
    (g.T.Writes.values c.item-item.result) c.loop-item.out.items in
    grind (arith, common_steps)
