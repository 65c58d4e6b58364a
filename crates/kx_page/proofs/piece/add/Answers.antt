use Rattle.std.proofs.Common.{◌≡◌, ℕ, List, OnOk, rules, subst}
use Rattle.kx_page.proofs.Filled.{filled_all, filled_more}
use Rattle.kx_page.proofs.piece.add.Goals as goal

pub loop-piece-preserved : goal.loop-piece-preserved
loop-piece-preserved c = (
  search rules,
  filled_more c.args.pieces.now c.loop-piece.piece-index _ c.loop-piece.rest.now _ _
      c.loop-piece.out.items _ _ _ c.loop-piece-test.true c.cut.ensures.before c.cut.ensures.after
      c.in_ok-put.ensures c.in_ok-put_piece.ensures c.loop-piece.invariant.1,
)

pub returns : goal.returns
returns c =
    subst (λ (whole : List ℕ). OnOk c.put-2.result (c.put-2.new.out.items ≡ whole))
    (filled_all c.args.pieces.now c.loop-piece.piece-index c.loop-piece.rest.now
    c.loop-piece.out.items _ c.loop-piece-test.false c.loop-piece.invariant.1)
    c.put-2.ensures
