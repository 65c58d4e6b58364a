use Rattle.std.proofs.Common.{◌≡◌, ◌++◌, drop, map}
use denote.Text.{Utf8}
use denote.Shadow.{shadow}
use Rattle.kx_page.specs.Pieces.{filled, piece_text}
use Rattle.kx_page.proofs.piece.add.Given as goal

abbrev pub invariant-loop-piece : goal.invariant-loop-piece
invariant-loop-piece l =
    shadow (Utf8 l.rest)
    × (l.out.items ++ filled l.rest (map piece_text (drop l.piece-index l.pieces))
    ≡ l.fn.out.items ++ filled l.fn.template (map piece_text l.pieces))
