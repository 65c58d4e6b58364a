-- A template, as far as it is filled.
use Rattle.std.proofs.Common.{◌≡◌, ◌∙◌, ◌+◌, ◌<◌, ◌≤◌, ◌++◌, ◌∷◌, ℕ, List, ap, append_assoc}
use Rattle.std.proofs.Common.{add-one, drop, drop-cons, get_or, length, map, sym}
use Rattle.std.proofs.lemmas.List.{drop_all}
use Rattle.std.specs.List.{after_first, before_first}
use Rattle.kx_page.specs.Pieces.{filled, is_hole, piece_text}
use Rattle.kx_page.specs.declared.piece.Piece.{Piece}

-- one more piece
pub filled_more : (pieces : List Piece) (i : ℕ) (x : Piece)
    (template before rest out some new whole : List ℕ) → i < length pieces
    → before ≡ before_first is_hole template → rest ≡ after_first is_hole template
    → some ≡ out ++ before → new ≡ some ++ piece_text (get_or pieces i x)
    → out ++ filled template (map piece_text (drop i pieces)) ≡ whole
    → new ++ filled rest (map piece_text (drop (i + 1) pieces)) ≡ whole
unfolding filled
filled_more pieces i x template before rest out some new whole within e after put_before put_text
    so_far =
    let text = piece_text (get_or pieces i x) in
    let more = map piece_text (drop (i + 1) pieces) in
    let next : drop i pieces ≡ get_or pieces i x ∷ drop (i + 1) pieces =
    drop-cons pieces i x within
    ∙ ap (λ (k : ℕ). get_or pieces i x ∷ drop k pieces) (sym (add-one i)) in
    ap (λ (all : List ℕ). all ++ filled rest more)
    (put_text ∙ ap (λ (all : List ℕ). all ++ text)
    (put_before ∙ ap (λ (all : List ℕ). out ++ all) e))
    ∙ ap (λ (all : List ℕ). ((out ++ before_first is_hole template) ++ text) ++ filled all more) after
    ∙ append_assoc (out ++ before_first is_hole template) text
    (filled (after_first is_hole template) more)
    ∙ append_assoc out (before_first is_hole template)
    (text ++ filled (after_first is_hole template) more)
    ∙ ap (λ (all : List ℕ). out ++ all)
    (sym (append_assoc (before_first is_hole template) text
    (filled (after_first is_hole template) more)))
    ∙ ap (λ (all : List Piece). out ++ filled template (map piece_text all))
    (sym next)
    ∙ so_far

-- and no more
pub filled_all : (pieces : List Piece) (i : ℕ) (template out whole : List ℕ) → length pieces ≤ i
    → out ++ filled template (map piece_text (drop i pieces)) ≡ whole → out ++ template ≡ whole
unfolding filled
filled_all pieces i template out whole past so_far =
    ap (λ (some : List Piece). out ++ filled template (map piece_text some))
    (sym (drop_all i pieces past))
    ∙ so_far
