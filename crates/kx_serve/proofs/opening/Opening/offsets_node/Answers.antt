use Rattle.kx_serve.proofs.opening.Opening.offsets_node.Goals as goal

pub returns-in_ok-machine-in-Ok : goal.returns-in_ok-machine-in-Ok
returns-in_ok-machine-in-Ok g c = λ has.
    c.locked.ensures.serves g.J.Naming.book has.is_offsets has.book
