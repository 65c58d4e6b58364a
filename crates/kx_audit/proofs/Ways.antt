-- The steps of a trace, one after the other, and one more.
use Rattle.std.proofs.Common.{◌≡◌, ◌++◌, List, [], ◌∷◌, refl}
use Rattle.std.proofs.Common.{sym, ap, ◌∙◌, subst, append-nil}
use Rattle.std.proofs.lemmas.List.{append_assoc}
use Rattle.kx_audit.specs.Joined.{GoesOn, IsWay, Passed}
use Rattle.kx_audit.specs.Joined.{led_to, steps_in}
use Rattle.kx_audit.specs.Making.{Trail, node_of}
use Rattle.kx_machine.specs.Meaning.{NodeState}
use Rattle.kx_message.specs.declared.message.NodeId.{NodeId}
use Rattle.kx_nodes.specs.Replay.{AsMade, OneMore, Replays, Takes}
use Rattle.kx_nodes.specs.declared.trace.Step.{Step}

------ one more step of a node

pub led_push : (node : NodeState) (way : List Passed) (p : Passed)
    → led_to node (way ++ p ∷ []) ≡ p.after
led_push node [] p = refl
led_push node (q ∷ way) p = led_push q.after way p

pub goes_push : (node : NodeState) (way : List Passed) (p : Passed) → GoesOn node way
    → Takes (led_to node way) p.step p.taken p.after → GoesOn node (way ++ p ∷ [])
goes_push node [] p goes takes = (takes, tt)
goes_push node (q ∷ way) p goes takes = (goes.0, goes_push q.after way p goes.1 takes)

pub steps_push : (way : List Passed) (p : Passed)
    → steps_in (way ++ p ∷ []) ≡ steps_in way ++ p.step ∷ []
steps_push [] p = refl
steps_push (q ∷ way) p = ap (λ (steps : List Step). q.step ∷ steps) (steps_push way p)

------ a trace leads if its steps do

replays_from : (made node : NodeState) (steps : List Step) (way : List Passed)
    → Replays made steps node → GoesOn node way
    → Replays made (steps ++ steps_in way) (led_to node way)
replays_from made node steps [] is goes =
    subst (λ (xs : List Step). Replays made xs node) (sym (append-nil steps)) is
replays_from made node steps (p ∷ way) is goes =
    subst (λ (xs : List Step). Replays made xs (led_to p.after way))
    (append_assoc steps (p.step ∷ []) (steps_in way))
    (replays_from made p.after (steps ++ p.step ∷ []) way
    (OneMore steps node p.step p.taken p.after is goes.0) goes.1)

pub way_replays : (t : Trail) (way : List Passed) → IsWay t way
    → Replays (node_of t.made) t.steps (led_to (node_of t.made) way)
way_replays t way is =
    subst (λ (xs : List Step). Replays (node_of t.made) xs (led_to (node_of t.made) way))
    is.steps_are (replays_from (node_of t.made) (node_of t.made) [] way AsMade is.goes)

-- the way on which a node comes to be another by these steps
pub record LeadsTo (made : NodeState) (steps : List Step) (node : NodeState) : Type 0 where
  pub way : List Passed
  pub goes : GoesOn made way
  pub steps_are : steps_in way ≡ steps
  pub leads : led_to made way ≡ node

-- a trace that leads to a node has one, for a node of any name
pub leads_to : (name : NodeId) (made : NodeState) (steps : List Step) (node : NodeState)
    → Replays made steps node → LeadsTo made steps node
leads_to name made [] node AsMade =
    record { way = []; goes = tt; steps_are = refl; leads = refl }
leads_to name made steps node (OneMore old before step taken after is takes) =
    let way = leads_to name made old before is in
    let p : Passed = record { node = name; step = step; taken = taken; after = after } in
    record {
      way = way.way ++ p ∷ [];
      goes = goes_push made way.way p way.goes
          (subst (λ (n : NodeState). Takes n step taken after) (sym way.leads) takes);
      steps_are = steps_push way.way p
          ∙ ap (λ (xs : List Step). xs ++ step ∷ []) way.steps_are;
      leads = led_push made way.way p;
    }
