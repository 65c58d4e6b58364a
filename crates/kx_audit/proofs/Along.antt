-- Turns, and the told steps that they are of.
use Rattle.std.proofs.Common.{◌≡◌, ◌++◌, ℕ, zero, suc, List, [], ◌∷◌, length, Option, Some, None}
use Rattle.std.proofs.Common.{refl, sym, ap, ◌∙◌, subst, append-nil}
use Rattle.std.specs.Prelude.{option_to_list, slice_get}
use Rattle.std.proofs.lemmas.List.{append_assoc}
use Rattle.std.proofs.lemmas.Option.{same_Some}
use Rattle.kx_audit.specs.Making.{NodeMaking}
use Rattle.kx_audit.specs.Merged.{AreThere, at_place, lines_of, told_along, told_there}
use Rattle.kx_audit.specs.Replayed.{Progress, line_of, name_at}
use Rattle.kx_audit.specs.Told.{Told}
use Rattle.kx_audit.specs.declared.turn.Turn.{Turn}
use Rattle.kx_audit.proofs.Lines.{IsToldBy, told_by_is}
use Rattle.kx_audit.proofs.Places.{from_map}

------ a turn

one_step : (o : Option Told) (x : Told) → option_to_list o ≡ x ∷ [] → o ≡ Some x
one_step None x e = absurd cc
one_step (Some y) x e = cc

one_line : (o : Option (List Told)) (place : ℕ) (x : Told) → at_place o place ≡ x ∷ []
    → (line : List Told) × (o ≡ Some line) × (slice_get line place ≡ Some x)
one_line None place x e = absurd cc
one_line (Some line) place x e = (line, refl, one_step (slice_get line place) x e)

pub there_is : (lines : List (List Told)) (k place : ℕ) (line : List Told) (x : Told)
    → slice_get lines k ≡ Some line → slice_get line place ≡ Some x
    → told_there lines (record { trace = k; step = place }) ≡ x ∷ []
there_is lines k place line x at there =
    ap (λ o. at_place o place) at ∙ ap option_to_list there

------ turns, one after the other

pub along_push : (lines : List (List Told)) (turns : List Turn) (turn : Turn) (x : Told)
    → told_there lines turn ≡ x ∷ []
    → told_along lines (turns ++ turn ∷ []) ≡ told_along lines turns ++ x ∷ []
along_push lines [] turn x e = append-nil (told_there lines turn) ∙ e
along_push lines (t ∷ turns) turn x e =
    ap (λ (l : List Told). told_there lines t ++ l) (along_push lines turns turn x e)
    ∙ sym (append_assoc (told_there lines t) (told_along lines turns) (x ∷ []))

pub along_length : (lines : List (List Told)) (turns : List Turn) → AreThere lines turns
    → length turns ≡ length (told_along lines turns)
along_length lines [] there = refl
along_length lines (turn ∷ turns) there =
    ap suc (along_length lines turns (λ j. there (suc j)))
    ∙ sym (ap (λ (xs : List Told). length (xs ++ told_along lines turns)) (there 0 turn refl).1)

pub along_at : (lines : List (List Told)) (turns : List Turn) → AreThere lines turns
    → (j : ℕ) (turn : Turn) (x : Told) → slice_get turns j ≡ Some turn
    → slice_get (told_along lines turns) j ≡ Some x → told_there lines turn ≡ x ∷ []
along_at lines [] there j turn x at told = absurd cc
along_at lines (t ∷ turns) there zero turn x at told =
    let first = there 0 t refl in
    let one : first.0 ≡ x = same_Some first.0 x
    (subst (λ (xs : List Told). slice_get (xs ++ told_along lines turns) 0 ≡ Some x) first.1
    told) in
    sym (ap (told_there lines) (same_Some t turn at)) ∙ first.1
    ∙ ap (λ (y : Told). y ∷ []) one
along_at lines (t ∷ turns) there (suc j) turn x at told =
    along_at lines turns (λ k. there (suc k)) j turn x at
    (subst (λ (xs : List Told). slice_get (xs ++ told_along lines turns) (suc j) ≡ Some x)
    (there 0 t refl).1 told)

------ turns of traces that were run again

module _ {B M : Type 0} (making : B → NodeMaking) (nodes : List (Progress B M)) where
  -- the step at this place of one of them is told so
  pub record IsTurnOf (turn : Turn) (x : Told) : Type 0 where
    pub node : Progress B M
    pub there : slice_get nodes turn.trace ≡ Some node
    pub is : IsToldBy (name_at making node) node.trace.steps node.takens turn.step x

  turn_there : (turn : Turn) (x : Told) → told_there (lines_of making nodes) turn ≡ x ∷ []
      → IsTurnOf turn x
  turn_there turn x e =
      let at = one_line (slice_get (lines_of making nodes) turn.trace) turn.step x e in
      let of = from_map (line_of making) nodes turn.trace at.0 at.1 in
      record {
        node = of.0;
        there = of.1;
        is = told_by_is (name_at making of.0) of.0.trace.steps of.0.takens turn.step x
            (ap (λ (line : List Told). slice_get line turn.step) of.2 ∙ at.2);
      }

  pub turn_of : (turns : List Turn) → AreThere (lines_of making nodes) turns
      → (j : ℕ) (turn : Turn) (x : Told) → slice_get turns j ≡ Some turn
      → slice_get (told_along (lines_of making nodes) turns) j ≡ Some x → IsTurnOf turn x
  turn_of turns there j turn x at told =
      turn_there turn x (along_at (lines_of making nodes) turns there j turn x at told)
