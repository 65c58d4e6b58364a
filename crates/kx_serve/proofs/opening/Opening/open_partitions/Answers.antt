use Rattle.kx_serve.proofs.Opened.{one_more}
use Rattle.kx_serve.proofs.opening.Opening.open_partitions.Goals as goal

pub loop-opened-preserved : goal.loop-opened-preserved
loop-opened-preserved g c = λ before.
    one_more g.J.Naming.book c.loop-opened.nodes.items c.add.new.nodes.items
    c.in_ok-data_node.field-0 c.in_ok-add.ensures (c.loop-opened.invariant before)
    c.in_ok-data_node.ensures.serves

pub returns : goal.returns
returns g c = λ before.
    one_more g.J.Naming.book c.loop-opened.nodes.items c.add-2.new.nodes.items c.in_ok-node.node
    c.in_ok-add-2.ensures (c.loop-opened.invariant before) (c.in_ok-node.ensures c.requires.offsets)
