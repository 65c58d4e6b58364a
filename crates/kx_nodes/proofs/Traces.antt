-- A trace tells what its node answers, and what its log is.
use Rattle.std.proofs.Common.{◌≡◌, ◌∙◌, true, List, [], ◌∷◌, ◌++◌, ℕ, Option}
use Rattle.std.proofs.Common.{refl, sym, ap, subst}
use Rattle.std.specs.Prelude.{◌≢◌}
use Rattle.kx_machine.specs.Logs.{batches_of, notes_of}
use Rattle.kx_machine.specs.Meaning.{NodeState, AtCoordinator, AtPartition, AtClient}
use Rattle.kx_machine.specs.Meaning.{AtProcessor, hides, input_of, is_closed, node_step, taken_of}
use Rattle.kx_machine.specs.declared.taken.Taken.{Taken}
use Rattle.kx_model.specs.Client.{Client}
use Rattle.kx_model.specs.Coordinator.{TxnEntry}
use Rattle.kx_model.specs.CoordinatorNode.{Coordinator}
use Rattle.kx_model.specs.Disk.{Store}
use Rattle.kx_model.specs.Log.{Stored}
use Rattle.kx_model.specs.PartitionNode.{Partition}
use Rattle.kx_model.specs.Step.{Input}
use Rattle.kx_system.specs.Processor.{Processor}
use Rattle.kx_nodes.specs.Alike.{AreAlike, AreSame, OneHides, bare}
use Rattle.kx_nodes.specs.Replay.{Answers, AsMade, OneMore, Replays, Takes, mark_of}
use Rattle.kx_nodes.specs.declared.trace.Step.{Step}
use Rattle.kx_nodes.proofs.CoordinatorSteps as coordinators
use Rattle.kx_nodes.proofs.CoordinatorTells.{coordinator_compares, coordinator_tells}
use Rattle.kx_nodes.proofs.Disks.{Itself, MayHide, Other}
use Rattle.kx_nodes.proofs.Leaving.{IsPlain}
use Rattle.kx_nodes.proofs.PartitionSteps as partitions
use Rattle.kx_nodes.proofs.PartitionTells.{partition_compares, partition_tells}
use Rattle.kx_nodes.proofs.Telling.{BothTell, Compares, Tells, TellsByMark}

------ a step

-- what a node answers, and the node after it
abbrev pub answer : NodeState → Store → Input → Taken
answer a store input = taken_of a input (node_step a store input)

abbrev pub after : NodeState → Store → Input → NodeState
after a store input = (node_step a store input).state

-- the node, with this behind its log
abbrev with_note : Option TxnEntry → NodeState → NodeState
with_note hidden (AtCoordinator co) = AtCoordinator (coordinators.but co hidden)
with_note hidden a = a

abbrev with_batch : Option Stored → NodeState → NodeState
with_batch hidden (AtPartition number p) = AtPartition number (partitions.but p hidden)
with_batch hidden a = a

-- what holds of each node and the same with something else behind its log, holds of alike nodes
module _ (Holds : NodeState → NodeState → Type 0)
    (coordinator : (co : Coordinator) (hidden : Option TxnEntry) → MayHide co.disk hidden
    → Holds (AtCoordinator co) (AtCoordinator (coordinators.but co hidden)))
    (partition : (number : ℕ) (p : Partition) (hidden : Option Stored) → MayHide p.disk hidden
    → Holds (AtPartition number p) (AtPartition number (partitions.but p hidden)))
    (client : (c : Client) → Holds (AtClient c) (AtClient c))
    (processor : (p : Processor) → Holds (AtProcessor p) (AtProcessor p)) where
  of_same : (a : NodeState) → Holds a a
  of_same (AtCoordinator co) = coordinator co co.disk.hidden (Itself refl)
  of_same (AtPartition number p) = partition number p p.disk.hidden (Itself refl)
  of_same (AtClient c) = client c
  of_same (AtProcessor p) = processor p

  of_other : (a b : NodeState) → is_closed a ≡ true → hides a ≢ hides b → bare a ≡ bare b
      → Holds a b
  of_other (AtCoordinator co) (AtCoordinator q) closed differ e =
      subst (Holds (AtCoordinator co)) (ap (with_note q.disk.hidden) e)
      (coordinator co q.disk.hidden (Other closed differ))
  of_other (AtPartition number p) (AtPartition m q) closed differ e =
      subst (Holds (AtPartition number p)) (ap (with_batch q.disk.hidden) e)
      (partition number p q.disk.hidden (Other closed differ))
  of_other (AtCoordinator co) (AtPartition m q) closed differ e = cc
  of_other (AtCoordinator co) (AtClient c) closed differ e = cc
  of_other (AtCoordinator co) (AtProcessor q) closed differ e = cc
  of_other (AtPartition number p) (AtCoordinator q) closed differ e = cc
  of_other (AtPartition number p) (AtClient c) closed differ e = cc
  of_other (AtPartition number p) (AtProcessor q) closed differ e = cc
  of_other (AtClient c) b closed differ e = cc
  of_other (AtProcessor p) b closed differ e = cc

  of_alike : (a b : NodeState) → AreAlike a b → Holds a b
  of_alike a b (AreSame e) = subst (Holds a) e (of_same a)
  of_alike a b (OneHides closed differ e) = of_other a b closed differ e

module _ (store other : Store) (input : Input) where
  abbrev NodesTell : NodeState → NodeState → Type 0
  NodesTell a b =
      TellsByMark (answer a store input) (answer b other input) (after a store input)
      (after b other input)

  nodes_tell : (a b : NodeState) → AreAlike a b → NodesTell a b
  nodes_tell a b are =
      of_alike NodesTell (λ co hidden may. coordinator_tells co hidden store other may input)
      (λ number p hidden may. partition_tells number p hidden store other may input)
      (λ c marks. record { same = refl; alike = AreSame refl })
      (λ p marks. record { same = refl; alike = AreSame refl }) a b are

  abbrev pub NodesCompare : NodeState → NodeState → Type 0
  NodesCompare a b =
      Compares store other (answer a store input) (answer b other input) (after a store input)
      (after b other input)

  -- where the input is no restart
  pub nodes_compare : IsPlain input → (a b : NodeState) → AreAlike a b → NodesCompare a b
  nodes_compare plain a b are =
      of_alike NodesCompare
      (λ co hidden may. coordinator_compares co hidden store other may input plain)
      (λ number p hidden may. partition_compares number p hidden store other may input plain)
      (λ c. BothTell (record { same = refl; alike = AreSame refl }))
      (λ p. BothTell (record { same = refl; alike = AreSame refl })) a b are

takes_tell : (a b : NodeState) → AreAlike a b → (step : Step) (t u : Taken) (c d : NodeState)
    → Takes a step t c → Takes b step u d → Tells t u c d
takes_tell a b are step t u c d one two =
    let tells = nodes_tell one.store two.store (input_of step.input) a b are
    (ap mark_of (sym one.answer) ∙ sym one.mark_is ∙ two.mark_is ∙ ap mark_of two.answer) in
    record {
      same = one.answer ∙ tells.same ∙ sym two.answer;
      alike = subst (λ x. AreAlike x d) (sym one.after_is)
          (subst (AreAlike (after a one.store (input_of step.input))) (sym two.after_is)
          tells.alike);
    }

-- alike nodes answer a step with the same mark alike, and are alike after it
pub answers_alike : (a b : NodeState) (step : Step) (t u : Taken) (c d : NodeState)
    → AreAlike a b → Takes a step t c → Takes b step u d → t ≡ u
answers_alike a b step t u c d are one two = (takes_tell a b are step t u c d one two).same

pub steps_alike : (a b : NodeState) (step : Step) (t u : Taken) (c d : NodeState)
    → AreAlike a b → Takes a step t c → Takes b step u d → AreAlike c d
steps_alike a b step t u c d are one two = (takes_tell a b are step t u c d one two).alike

------ a trace

module _ {A : Type 0} where
  never_empty : (xs : List A) (x : A) → [] ≡ xs ++ x ∷ [] → ⊥
  never_empty [] x e = cc
  never_empty (y ∷ xs) x e = cc

  fronts_same : (xs ys : List A) (x y : A) → xs ++ x ∷ [] ≡ ys ++ y ∷ [] → xs ≡ ys
  fronts_same [] [] x y e = refl
  fronts_same [] (z ∷ ys) x y e =
      let rest : [] ≡ ys ++ y ∷ [] = cc in absurd (never_empty ys y rest)
  fronts_same (z ∷ xs) [] x y e =
      let rest : [] ≡ xs ++ x ∷ [] = cc in absurd (never_empty xs x rest)
  fronts_same (z ∷ xs) (w ∷ ys) x y e =
      let rest : xs ++ x ∷ [] ≡ ys ++ y ∷ [] = cc in
      let same = fronts_same xs ys x y rest in
      cc

  lasts_same : (xs ys : List A) (x y : A) → xs ++ x ∷ [] ≡ ys ++ y ∷ [] → x ≡ y
  lasts_same [] [] x y e = cc
  lasts_same [] (z ∷ ys) x y e =
      let rest : [] ≡ ys ++ y ∷ [] = cc in absurd (never_empty ys y rest)
  lasts_same (z ∷ xs) [] x y e =
      let rest : [] ≡ xs ++ x ∷ [] = cc in absurd (never_empty xs x rest)
  lasts_same (z ∷ xs) (w ∷ ys) x y e =
      let rest : xs ++ x ∷ [] ≡ ys ++ y ∷ [] = cc in lasts_same xs ys x y rest

replays_alike : (made : NodeState) (steps more : List Step) (a b : NodeState)
    → Replays made steps a → Replays made more b → steps ≡ more → AreAlike a b
replays_alike made steps more a b AsMade AsMade e = AreSame refl
replays_alike made steps more a b AsMade (OneMore others q other u d replayed took) e =
    absurd (never_empty others other e)
replays_alike made steps more a b (OneMore front p step t c replays takes) AsMade e =
    absurd (never_empty front step (sym e))
replays_alike made steps more a b (OneMore front p step t c replays takes)
    (OneMore others q other u d replayed took) e =
    steps_alike p q step t u c d (replays_alike made front others p q replays replayed
    (fronts_same front others step other e)) takes
    (subst (λ s. Takes q s u d) (sym (lasts_same front others step other e)) took)

-- the nodes to which a trace leads are alike
pub nodes_alike : (made : NodeState) (steps : List Step) (a b : NodeState)
    → Replays made steps a → Replays made steps b → AreAlike a b
nodes_alike made steps a b one two = replays_alike made steps steps a b one two refl

-- so what they answer is the same
pub answers_same : (made : NodeState) (steps : List Step) (step : Step) (t u : Taken)
    → Answers made steps step t → Answers made steps step u → t ≡ u
answers_same made steps step t u one two =
    answers_alike one.before two.before step t u one.after two.after
    (nodes_alike made steps one.before two.before one.replays two.replays) one.takes two.takes

------ logs

batches_bare : (a : NodeState) → batches_of (bare a) ≡ batches_of a
batches_bare (AtCoordinator co) = refl
batches_bare (AtPartition number p) = refl
batches_bare (AtClient c) = refl
batches_bare (AtProcessor p) = refl

notes_bare : (a : NodeState) → notes_of (bare a) ≡ notes_of a
notes_bare (AtCoordinator co) = refl
notes_bare (AtPartition number p) = refl
notes_bare (AtClient c) = refl
notes_bare (AtProcessor p) = refl

-- alike nodes have the same log
pub batches_alike : (a b : NodeState) → AreAlike a b → batches_of a ≡ batches_of b
batches_alike a b (AreSame e) = ap batches_of e
batches_alike a b (OneHides closed differ e) =
    sym (batches_bare a) ∙ ap batches_of e ∙ batches_bare b

pub notes_alike : (a b : NodeState) → AreAlike a b → notes_of a ≡ notes_of b
notes_alike a b (AreSame e) = ap notes_of e
notes_alike a b (OneHides closed differ e) = sym (notes_bare a) ∙ ap notes_of e ∙ notes_bare b

-- and so have the nodes to which a trace leads
pub batches_same : (made : NodeState) (steps : List Step) (a b : NodeState)
    → Replays made steps a → Replays made steps b → batches_of a ≡ batches_of b
batches_same made steps a b one two = batches_alike a b (nodes_alike made steps a b one two)

pub notes_same : (made : NodeState) (steps : List Step) (a b : NodeState)
    → Replays made steps a → Replays made steps b → notes_of a ≡ notes_of b
notes_same made steps a b one two = notes_alike a b (nodes_alike made steps a b one two)
