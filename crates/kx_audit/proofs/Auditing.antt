-- A trace that is run again goes on by one step, and so does the order of all steps.
use Rattle.std.proofs.Common.{◌≡◌, ◌≢◌, ◌++◌, ℕ, Option, Bool, true, false, cond, List, [], ◌∷◌}
use Rattle.std.proofs.Common.{refl, sym, ap, ◌∙◌, subst, append-nil}
use Rattle.std.proofs.lemmas.List.{append_assoc}
use Rattle.kx_audit.specs.Joined.{Passed, WasHandedOut, led_to}
use Rattle.kx_audit.specs.Nodes.{same_node}
use Rattle.kx_audit.specs.Told.{AnswersSo, AreToldInOrder, Told, takens_in, told_at, told_steps}
use Rattle.kx_audit.specs.Told.{told_messages, told_takens}
use Rattle.kx_machine.specs.Meaning.{IsTaken, NodeState, input_of, node_step}
use Rattle.kx_machine.specs.declared.taken.Taken.{Taken}
use Rattle.kx_message.specs.declared.message.Message.{Message}
use Rattle.kx_message.specs.declared.message.NodeId.{NodeId}
use Rattle.kx_model.specs.Disk.{Store}
use Rattle.kx_nodes.specs.Replay.{Takes, mark_of}
use Rattle.kx_nodes.specs.declared.trace.Step.{Step}
use Rattle.kx_audit.proofs.Names.{apart, same_self}
use Rattle.kx_audit.proofs.Ways.{goes_push, led_push, steps_push}

------ a trace that is run again

pub takes_of : {Allows : Option ℕ → Store → Type 0} {StandsFor : NodeState → Type 0}
    (before : NodeState) (step : Step) (taken : Taken)
    → (is : IsTaken before (input_of step.input) Allows StandsFor taken)
    → step.mark ≡ mark_of taken
    → Takes before step taken (node_step before is.store (input_of step.input)).state
takes_of before step taken is mark =
    record { store = is.store; answer = is.answer; after_is = refl; mark_is = mark }

pub takens_push : (way : List Passed) (p : Passed)
    → takens_in (way ++ p ∷ []) ≡ takens_in way ++ p.taken ∷ []
takens_push [] p = refl
takens_push (q ∷ way) p = ap (λ (takens : List Taken). q.taken ∷ takens) (takens_push way p)

pub steps_more : (told : List Told) (x : Told)
    → told_steps (told ++ x ∷ []) ≡ told_steps told ++ x.step ∷ []
steps_more [] x = refl
steps_more (y ∷ told) x = ap (λ (steps : List Step). y.step ∷ steps) (steps_more told x)

pub takens_more : (told : List Told) (x : Told)
    → told_takens (told ++ x ∷ []) ≡ told_takens told ++ x.taken ∷ []
takens_more [] x = refl
takens_more (y ∷ told) x = ap (λ (takens : List Taken). y.taken ∷ takens) (takens_more told x)

-- a machine as the node was made has taken nothing
pub run_begins : {M : Type 0} (stands : NodeState → M → Type 0) (made : NodeState) (machine : M)
    → stands made machine → AnswersSo made [] (λ node. stands node machine)
run_begins stands made machine is =
    record { way = []; goes = tt; steps_are = refl; takens_are = refl; stands = is }

-- it takes the next step, and answers what is told
abbrev pub run_on : {M : Type 0} (stands : NodeState → M → Type 0) (old new : M)
    (Allows : Option ℕ → Store → Type 0) (made : NodeState) (told : List Told) (x : Told)
    → AnswersSo made told (λ node. stands node old)
    → ((state : NodeState) → stands state old
    → IsTaken state (input_of x.step.input) Allows (λ s. stands s new) x.taken)
    → x.step.mark ≡ mark_of x.taken
    → AnswersSo made (told ++ x ∷ []) (λ node. stands node new)
run_on stands old new Allows made told x run take mark =
    let is = take (led_to made run.way) run.stands in
    let p : Passed = record {
      node = x.node;
      step = x.step;
      taken = x.taken;
      after = (node_step (led_to made run.way) is.store (input_of x.step.input)).state;
    } in
    record {
      way = run.way ++ p ∷ [];
      goes = goes_push made run.way p run.goes
          (takes_of (led_to made run.way) x.step x.taken is mark);
      steps_are = steps_push run.way p
          ∙ ap (λ (steps : List Step). steps ++ x.step ∷ []) run.steps_are
          ∙ sym (steps_more told x);
      takens_are = takens_push run.way p
          ∙ ap (λ (takens : List Taken). takens ++ x.taken ∷ []) run.takens_are
          ∙ sym (takens_more told x);
      stands = subst (λ (node : NodeState). stands node new) (sym (led_push made run.way p))
          is.stands;
    }

------ one more step of all

told_push : (name : NodeId) (told : List Told) (x : Told) (b : Bool) → same_node x.node name ≡ b
    → told_at name (told ++ x ∷ []) ≡ told_at name told ++ cond b (x ∷ []) []
told_push name [] x b e = ap (λ c. cond c (x ∷ []) []) e
told_push name (y ∷ told) x b e = by (same_node y.node name) (told_push name told x b e)
  where
    by : (c : Bool) → told_at name (told ++ x ∷ []) ≡ told_at name told ++ cond b (x ∷ []) []
        → cond c (y ∷ told_at name (told ++ x ∷ [])) (told_at name (told ++ x ∷ []))
        ≡ cond c (y ∷ told_at name told) (told_at name told) ++ cond b (x ∷ []) []
    by true rest = ap (λ (xs : List Told). y ∷ xs) rest
    by false rest = rest

-- it comes behind those of its node
pub told_push_own : (told : List Told) (x : Told)
    → told_at x.node (told ++ x ∷ []) ≡ told_at x.node told ++ x ∷ []
told_push_own told x = told_push x.node told x true (same_self x.node)

-- and changes nothing at another
pub told_push_other : (name : NodeId) (told : List Told) (x : Told) → name ≢ x.node
    → told_at name (told ++ x ∷ []) ≡ told_at name told
told_push_other name told x other =
    told_push name told x false (apart x.node name (λ h. other (sym h)))
    ∙ append-nil (told_at name told)

pub messages_push : (told : List Told) (x : Told)
    → told_messages (told ++ x ∷ []) ≡ told_messages told ++ x.taken.messages
messages_push [] x = append-nil x.taken.messages
messages_push (y ∷ told) x =
    ap (λ (ms : List Message). y.taken.messages ++ ms) (messages_push told x)
    ∙ sym (append_assoc y.taken.messages (told_messages told) x.taken.messages)

-- it takes in what was sent before
pub order_push : (sent : List Message) (told : List Told) (x : Told) → AreToldInOrder sent told
    → WasHandedOut (sent ++ told_messages told) x.step.input
    → AreToldInOrder sent (told ++ x ∷ [])
order_push sent [] x order was =
    (subst (λ (ms : List Message). WasHandedOut ms x.step.input) (append-nil sent) was, tt)
order_push sent (y ∷ told) x order was = (
  order.0,
  order_push (sent ++ y.taken.messages) told x order.1
      (subst (λ (ms : List Message). WasHandedOut ms x.step.input)
      (sym (append_assoc sent y.taken.messages (told_messages told))) was),
)
