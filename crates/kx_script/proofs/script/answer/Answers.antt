use Rattle.std.proofs.Common.{◌≡◌, ◌==◌, ℕ, List, [], ◌∷◌, true, arith, inl, refl, sym}
use Rattle.std.specs.Prelude.{length}
use Rattle.std.proofs.lemmas.Bool.{eqb-true}
use Rattle.std.proofs.KnownBytes.{Appends-nil}
use Rattle.kx_script.specs.Script.{Answers, State}
use Rattle.kx_script.proofs.Answering.{has_words}
use Rattle.kx_script.proofs.script.answer.Goals as goal

answers_nothing : (state : State) (line : List ℕ) → true ≡ (length line == 0)
    → Answers state line [] state
answers_nothing state [] e = inl refl
answers_nothing state (byte ∷ line) e =
    let none : length (byte ∷ line) ≡ 0 = eqb-true _ _ (sym e) in absurd (omega arith)

pub returns-then-is_empty : goal.returns-then-is_empty
returns-then-is_empty g c = λ state st. (
  [],
  state,
  answers_nothing state c.args.line.now c.if-is_empty.ensures,
  st,
  Appends-nil (g.W.Write.contents c.args.writer.now),
)

pub returns : goal.returns
returns g c = λ state st.
    has_words _ state c.args.line.now (g.W.Write.contents c.args.writer.now)
    (g.W.Write.contents c.answer_words.new.writer) c.answer_words.result
    (sym c.if-is_empty.ensures) (c.answer_words.ensures state st)
