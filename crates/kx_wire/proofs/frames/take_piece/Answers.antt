use Rattle.std.proofs.Common.{◌≡◌, ℕ, [], ap, ◌∙◌, arith}
use Rattle.std.specs.Global.{Vec}
use Rattle.std.proofs.lemmas.Grind.{common_steps}
use Rattle.kx_wire.proofs.Growing.{only_rest, none_some}
use Rattle.kx_wire.proofs.frames.take_piece.Goals as goal
use Rattle.kx_wire.proofs.frames.take_piece.Goals.{then-is_none+in_ok-extend_from_slice}
use Rattle.kx_wire.proofs.frames.take_piece.Goals.{else-is_none}

pub returns-then-is_empty-clause-splits : goal.returns-then-is_empty-clause-splits
returns-then-is_empty-clause-splits c = grind (arith, common_steps)

pub returns-then-is_empty-clause-rest : goal.returns-then-is_empty-clause-rest
returns-then-is_empty-clause-rest c none =
    let nothing : c.args.partial.now.items ≡ [] = grind (arith, common_steps) in
    elim c.if-is_none.branch [
      | then-is_none+in_ok-extend_from_slice w ↦
          ap (λ (v : Vec ℕ). v.items) w.partial-is
          ∙ w.in_ok-extend_from_slice.ensures.items
          ∙ only_rest c.args.partial.now.items c.args.piece.now c.in_ok-found.found.used nothing
      | else-is_none w ↦ absurd (none_some c.in_ok-found.found.fault none w.if-is_none.ensures)
    ]

pub returns-then-is_empty-clause-ends : goal.returns-then-is_empty-clause-ends
returns-then-is_empty-clause-ends c = grind (arith, common_steps)

pub returns-clause-splits : goal.returns-clause-splits
returns-clause-splits c = grind (arith, common_steps)

pub returns-clause-ends : goal.returns-clause-ends
returns-clause-ends c = grind (arith, common_steps)

pub returns-clause-rest : goal.returns-clause-rest
returns-clause-rest c = grind (arith, common_steps)
