-- A trace that is run again takes one more step.
use Rattle.std.proofs.Common.{◌≡◌, ◌++◌, ◌+◌, ℕ, List, [], ◌∷◌, length, take, drop, Option, Some}
use Rattle.std.proofs.Common.{refl, sym, ap, ◌∙◌, subst, arith, add-one, suc}
use Rattle.std.specs.Prelude.{slice_get}
use Rattle.kx_audit.specs.Joined.{Passed, led_to}
use Rattle.kx_audit.specs.Making.{NodeMaking, named, node_of}
use Rattle.kx_audit.specs.Replayed.{IsReplayed, IsRunTo, told_by}
use Rattle.kx_audit.specs.Rerun.{RunsAgain, TakesAgain}
use Rattle.kx_audit.specs.Told.{AnswersSo, Told, told_steps, told_takens}
use Rattle.kx_machine.specs.Meaning.{IsTaken, NodeState, input_of, node_step, taken_of}
use Rattle.kx_machine.specs.declared.taken.Taken.{Taken}
use Rattle.kx_message.specs.declared.message.NodeId.{NodeId}
use Rattle.kx_model.specs.Disk.{Store}
use Rattle.kx_nodes.specs.Again.{MayMeet, RunsOn, mode_for, store_for}
use Rattle.kx_nodes.specs.Replay.{Traced, mark_of}
use Rattle.kx_nodes.specs.declared.trace.Step.{Step}
use Rattle.kx_audit.proofs.Auditing.{run_on}
use Rattle.kx_audit.proofs.Storing.{again_push, told_store}
use Rattle.std.proofs.Common.{length-append}
use Rattle.std.proofs.Math.Seq.{take-length, drop-cons, drop-length}
use Rattle.std.proofs.lemmas.List.{length-take-le, take_more}
use Rattle.std.proofs.lemmas.Option.{get_or_from_slice_get, slice_get_within}

------ lists

pub take_next : {A : Type 0} (xs : List A) (d : ℕ) (x : A) → slice_get xs d ≡ Some x
    → take (d + 1) xs ≡ take d xs ++ x ∷ []
take_next {A} xs d x at = take_more xs d x (slice_get_within xs d x at)
    ∙ ap (λ (y : A). take d xs ++ y ∷ []) (get_or_from_slice_get xs d x x at)

pub drop_next : {A : Type 0} (xs : List A) (d : ℕ) (x : A) → slice_get xs d ≡ Some x
    → drop d xs ≡ x ∷ drop (d + 1) xs
drop_next {A} xs d x at =
    let lt = slice_get_within xs d x at in
    rw (add-one) (drop-cons xs d x lt
    ∙ ap (λ (y : A). y ∷ drop (suc d) xs) (get_or_from_slice_get xs d x x at))

------ what is told

pub told_by_push : (name : NodeId) (steps : List Step) (takens : List Taken) (step : Step)
    (taken : Taken) → length takens ≡ length steps
    → told_by name (steps ++ step ∷ []) (takens ++ taken ∷ [])
    ≡ told_by name steps takens ++ record { node = name; step = step; taken = taken } ∷ []
told_by_push name [] [] step taken e = refl
told_by_push name [] (t ∷ takens) step taken e = absurd (omega (arith, e))
told_by_push name (s ∷ steps) [] step taken e = absurd (omega (arith, e))
told_by_push name (s ∷ steps) (t ∷ takens) step taken e =
    let x : Told = record { node = name; step = s; taken = t } in
    ap (λ (xs : List Told). x ∷ xs) (told_by_push name steps takens step taken (omega (arith, e)))

------ one more step

-- the marks tell what the stores are to do
pub record RunAgain (made : NodeState) : Type 0 where
  pub marks : (before : List Step) (step : Step) (behind : List Step) (node : NodeState)
      → RunsOn made before (step ∷ behind) node
      → (store : Store) → MayMeet node (mode_for step behind) store
      → mark_of (taken_of node (input_of step.input)
      (node_step node store (input_of step.input))) ≡ step.mark
  pub goes_on : (before : List Step) (step : Step) (behind : List Step) (node : NodeState)
      → RunsOn made before (step ∷ behind) node
      → (store : Store) → MayMeet node (mode_for step behind) store
      → RunsOn made (before ++ step ∷ []) behind
      (node_step node store (input_of step.input)).state

module _ {M : Type 0} (stands : NodeState → M → Type 0) (name : NodeId) (made : NodeState)
    (steps : List Step) where
  -- a machine, the steps that it has taken and those that it is to take
  record Run : Type 0 where
    machine : M
    before : List Step
    behind : List Step

  abbrev CanGo : NodeState → Run → Type 0
  CanGo node run = stands node run.machine × RunsOn made run.before run.behind node

  pub run_starts : (machine : M) → stands made machine → RunsOn made [] steps made
      → IsRunTo stands name made steps 0 [] machine
  run_starts machine is runs = record {
    answers = record {
      way = [];
      goes = tt;
      steps_are = refl;
      takens_are = refl;
      stands = (is, runs);
    };
    again = tt;
    count_is = refl;
  }

  abbrev Any : Option ℕ → Store → Type 0
  Any size store = Unit {0}

  abbrev at : M → ℕ → Run
  at machine count =
      record { machine = machine; before = take count steps; behind = drop count steps }

  -- what the machine answers by its contract, and what follows from the marks
  abbrev taken_so : RunAgain made → (count : ℕ) (step : Step) (old new : M) (taken : Taken)
      → slice_get steps count ≡ Some step
      → ((state : NodeState) → stands state old
      → IsTaken state (input_of step.input)
      (λ size. MayMeet state (mode_for step (drop (count + 1) steps)))
      (λ after. stands after new) taken)
      → (state : NodeState) → CanGo state (at old count)
      → IsTaken state (input_of step.input) Any (λ after. CanGo after (at new (count + 1))) taken
  taken_so law count step old new taken there take_it state can =
      let is = take_it state can.0 in
      let behind = drop (count + 1) steps in
      let runs = subst (λ (l : List Step). RunsOn made (take count steps) l state)
      (drop_next steps count step there) can.1 in
      let on = law.goes_on (take count steps) step behind state runs is.store is.allowed in
      record {
        store = is.store;
        allowed = tt;
        stands = (
          is.stands,
          subst (λ (l : List Step).
              RunsOn made l behind (node_step state is.store (input_of step.input)).state)
              (sym (take_next steps count step there)) on,
        );
        answer = is.answer;
      }

  marked : RunAgain made → (count : ℕ) (step : Step) (machine : M) (new : M) (taken : Taken)
      (state : NodeState) → slice_get steps count ≡ Some step → CanGo state (at machine count)
      → IsTaken state (input_of step.input)
      (λ size. MayMeet state (mode_for step (drop (count + 1) steps)))
      (λ after. stands after new) taken
      → step.mark ≡ mark_of taken
  marked law count step machine new taken state there can is =
      let runs = subst (λ (l : List Step). RunsOn made (take count steps) l state)
      (drop_next steps count step there) can.1 in
      sym (law.marks (take count steps) step (drop (count + 1) steps) state runs is.store
      is.allowed) ∙ sym (ap mark_of is.answer)

  pub run_more : RunAgain made → (count : ℕ) (step : Step) (takens : List Taken) (old new : M)
      (taken : Taken) → slice_get steps count ≡ Some step
      → ((state : NodeState) → stands state old
      → IsTaken state (input_of step.input)
      (λ size. MayMeet state (mode_for step (drop (count + 1) steps)))
      (λ after. stands after new) taken)
      → IsRunTo stands name made steps count takens old
      → IsRunTo stands name made steps (count + 1) (takens ++ taken ∷ []) new
  run_more law count step takens old new taken there take_it run =
      let x : Told = record { node = name; step = step; taken = taken } in
      let last = led_to made run.answers.way in
      let mark = marked law count step old new taken last there run.answers.stands
      (take_it last run.answers.stands.0) in
      let more = run_on CanGo (at old count) (at new (count + 1)) Any made
      (told_by name (take count steps) takens) x run.answers
      (taken_so law count step old new taken there take_it) mark in
      let lt = slice_get_within steps count step there in
      let same : length takens ≡ length (take count steps) =
      run.count_is ∙ sym (length-take-le count steps (omega (arith, lt))) in
      let told : told_by name (take count steps) takens ++ x ∷ []
      ≡ told_by name (take (count + 1) steps) (takens ++ taken ∷ []) =
      sym (told_by_push name (take count steps) takens step taken same)
      ∙ ap (λ (l : List Step). told_by name l (takens ++ taken ∷ []))
      (sym (take_next steps count step there)) in
      let is = take_it last run.answers.stands.0 in
      let behind = drop (count + 1) steps in
      record {
        answers = record {
          way = more.way;
          goes = more.goes;
          steps_are = more.steps_are ∙ ap told_steps told;
          takens_are = more.takens_are ∙ ap told_takens told;
          stands = more.stands;
        };
        again = again_push behind made run.answers.way
            (record {
              node = name;
              step = step;
              taken = taken;
              after = (node_step last is.store (input_of step.input)).state;
            })
            (subst (λ (l : List Step). RunsAgain l made run.answers.way)
            (drop_next steps count step there) run.again)
            (told_store last behind step taken is.store is.allowed is.answer);
        count_is = (let n = length-append takens (taken ∷ []) in omega (arith, n, run.count_is));
      }

-- all steps are taken
pub run_ends : {B M : Type 0} (making : B → NodeMaking) (stands : NodeState → M → Type 0)
    (trace : Traced B) (takens : List Taken) (machine : M)
    → IsRunTo stands (named (making trace.made)) (node_of (making trace.made)) trace.steps
    (length trace.steps) takens machine
    → IsReplayed making stands
    (record { trace = trace; takens = takens; done = 0; machine = machine })
run_ends making stands trace takens machine run =
    let all = run.answers in
    let name = named (making trace.made) in
    record {
      answers = record {
        way = all.way;
        goes = all.goes;
        steps_are = all.steps_are ∙ ap (λ (l : List Step). told_steps (told_by name l takens))
            (take-length trace.steps);
        takens_are = all.takens_are ∙ ap (λ (l : List Step). told_takens (told_by name l takens))
            (take-length trace.steps);
        stands = all.stands.0;
      };
      again = subst (λ (l : List Step). RunsAgain l (node_of (making trace.made)) all.way)
          (drop-length trace.steps) run.again;
      whole = run.count_is;
      within = omega arith;
    }
