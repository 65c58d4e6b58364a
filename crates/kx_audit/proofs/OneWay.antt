-- A trace has one way of answers: whoever takes its steps finds the answers of its run again.
use Rattle.std.proofs.Common.{◌≡◌, ◌++◌, List, [], ◌∷◌, refl, sym, ap, ◌∙◌, subst}
use Rattle.kx_audit.specs.Joined.{GoesOn, IsWay, Passed, steps_in}
use Rattle.kx_audit.specs.Making.{NodeMaking, node_of, trail_of}
use Rattle.kx_audit.specs.Replayed.{IsReplayed, Progress, name_at}
use Rattle.kx_audit.specs.Told.{takens_in}
use Rattle.kx_machine.specs.Meaning.{NodeState}
use Rattle.kx_machine.specs.declared.taken.Taken.{Taken}
use Rattle.kx_nodes.specs.Replay.{Answers, AsMade, OneMore, Replays, Takes}
use Rattle.kx_nodes.specs.declared.trace.Step.{Step}
use Rattle.kx_audit.proofs.Lines.{told_by_steps, told_by_takens}

-- nodes to which the same steps lead answer the next step the same
abbrev pub TellAnswers : Type 0
TellAnswers = (made : NodeState) (steps : List Step) (step : Step) (t u : Taken)
    → Answers made steps step t → Answers made steps step u → t ≡ u

------ one way

-- from nodes to which the same steps led
one_from : TellAnswers → (made a b : NodeState) (steps : List Step) (one other : List Passed)
    → Replays made steps a → Replays made steps b → GoesOn a one → GoesOn b other
    → steps_in one ≡ steps_in other → takens_in one ≡ takens_in other
one_from tells made a b steps [] [] is also goes go e = refl
one_from tells made a b steps [] (q ∷ other) is also goes go e = absurd cc
one_from tells made a b steps (p ∷ one) [] is also goes go e = absurd cc
one_from tells made a b steps (p ∷ one) (q ∷ other) is also goes go e =
    let step : q.step ≡ p.step = cc in
    let rest : steps_in one ≡ steps_in other = cc in
    let takes : Takes b p.step q.taken q.after =
    subst (λ (s : Step). Takes b s q.taken q.after) step go.0 in
    let taken : p.taken ≡ q.taken = tells made steps p.step p.taken q.taken
    (record { before = a; after = p.after; replays = is; takes = goes.0 })
    (record { before = b; after = q.after; replays = also; takes = takes }) in
    let takens = one_from tells made p.after q.after (steps ++ p.step ∷ []) one other
    (OneMore steps a p.step p.taken p.after is goes.0)
    (OneMore steps b p.step q.taken q.after also takes) goes.1 go.1 rest in
    ap (λ (t : Taken). t ∷ takens_in one) taken ∙ ap (λ (ts : List Taken). q.taken ∷ ts) takens

pub one_way : TellAnswers → (made : NodeState) (one other : List Passed) → GoesOn made one
    → GoesOn made other → steps_in one ≡ steps_in other → takens_in one ≡ takens_in other
one_way tells made one other = one_from tells made made made [] one other AsMade AsMade

------ a trace that was run again

module _ {B M : Type 0} (making : B → NodeMaking) (stands : NodeState → M → Type 0) where
  -- the run is a way of the trace
  pub run_is_way : (p : Progress B M) → (is : IsReplayed making stands p)
      → IsWay (trail_of making p.trace) is.answers.way
  run_is_way p is = record {
    goes = is.answers.goes;
    steps_are = is.answers.steps_are
        ∙ told_by_steps (name_at making p) p.trace.steps p.takens is.whole;
  }

  -- with these answers
  pub run_takens : (p : Progress B M) → (is : IsReplayed making stands p)
      → takens_in is.answers.way ≡ p.takens
  run_takens p is = is.answers.takens_are
      ∙ told_by_takens (name_at making p) p.trace.steps p.takens is.whole

  -- which any way has
  pub way_takens : TellAnswers → (p : Progress B M) (way : List Passed)
      → IsReplayed making stands p → IsWay (trail_of making p.trace) way
      → takens_in way ≡ p.takens
  way_takens tells p way is other =
      one_way tells (node_of (making p.trace.made)) way is.answers.way other.goes is.answers.goes
      (other.steps_are ∙ sym (run_is_way p is).steps_are)
      ∙ run_takens p is
