-- Each step is an event whose store its trace tells.
use Rattle.std.proofs.Common.{◌≡◌, ◌∙◌, ◌++◌, ◌+◌, ◌<◌, ℕ, suc, Bool, true, false, cond}
use Rattle.std.proofs.Common.{List, [], ◌∷◌, length, drop, Option, Some, None, refl, sym, ap, subst}
use Rattle.std.proofs.Common.{append-nil, arith}
use Rattle.std.specs.Prelude.{slice_get}
use Rattle.std.proofs.lemmas.List.{append_assoc, append_cancel_left, drop_at, length_push}
use Rattle.std.proofs.lemmas.List.{length-map, map-append}
use Rattle.std.proofs.lemmas.Option.{same_Some}
use Rattle.kx_audit.specs.Joined.{AreApart, Passed, at_node, steps_in}
use Rattle.kx_audit.specs.Making.{NodeMaking, OfClient, OfCoordinator, OfPartition, Trail, named}
use Rattle.kx_audit.specs.Making.{node_of, trail_of}
use Rattle.kx_audit.specs.Merged.{ArePlaced}
use Rattle.kx_audit.specs.Nodes.{node_in, partition_with, same_node}
use Rattle.kx_audit.specs.Replayed.{trails_of}
use Rattle.kx_audit.specs.Rerun.{AllAgain, IsAgain, RunsAgain, TakesAgain, behind_at, behind_in}
use Rattle.kx_audit.specs.Run.{AreTurns, IsTurn}
use Rattle.kx_audit.specs.Schedule.{AllFit, AllOccur, IsEventOf, IsNodeMaking, IsScheduleOf, Occurs}
use Rattle.kx_audit.specs.Schedule.{made_system}
use Rattle.kx_audit.specs.Told.{Told, told_at, told_in, told_of, told_steps}
use Rattle.kx_audit.specs.declared.turn.Turn.{Turn}
use Rattle.kx_machine.specs.Meaning.{AtCoordinator, AtPartition, NodeState, input_of, node_step}
use Rattle.kx_machine.specs.declared.input.Input as given
use Rattle.kx_machine.specs.declared.input.Input.TheVariants as input
use Rattle.kx_message.specs.Ranges.{data_partitions, offsets_partition}
use Rattle.kx_message.specs.declared.message.Message.{Message}
use Rattle.kx_message.specs.declared.message.NodeId.{NodeId}
use Rattle.kx_message.specs.declared.message.NodeId.TheVariants as node
use Rattle.kx_model.specs.CoordinatorNode.{Coordinator}
use Rattle.kx_model.specs.Disk.{Store}
use Rattle.kx_model.specs.PartitionNode.{Partition}
use Rattle.kx_model.specs.Step.{Input, NodeStep, coordinator_step, partition_step}
use Rattle.kx_model.specs.World.{Deliver, Hand, World, at_partition, clock_after, delivered}
use Rattle.kx_model.specs.World.{partition_at, step, with_coordinator, with_partition}
use Rattle.kx_nodes.specs.Again.{store_for}
use Rattle.kx_nodes.specs.Replay.{Traced}
use Rattle.kx_nodes.specs.declared.trace.Step.{Step}
use Rattle.kx_system.specs.System.{System, SystemEvent, SystemStepped, system_step}
use Rattle.kx_system.specs.System.{turn_at, turn_delivered}
use Rattle.kx_audit.proofs.Beginning.{IsThere, begins}
use Rattle.kx_audit.proofs.Going.{goes}
use Rattle.kx_audit.proofs.Handing.{after_turn, by_delivery, handed_in, in_turn}
use Rattle.kx_audit.proofs.Merging.{at_other, at_own}
use Rattle.kx_audit.proofs.Names.{same_is, same_not, same_self}
use Rattle.kx_audit.proofs.Places.{from_map}
use Rattle.kx_audit.proofs.Telling.{steps_at}

------ an event hands its node an input

event_steps : (s : System) (to : NodeId) (i : given.Input) (store : Store) (event : SystemEvent)
    → IsEventOf s.world.sent to i store event
    → system_step s event ≡ handed_in s to store (input_of i)
unfolding system_step step
event_steps s to (input.Deliver m) store event is =
    ap (system_step s) is.2 ∙ by_delivery s to store is.0
    ∙ ap (λ o. after_turn s (delivered s.world to store o) (turn_delivered s to o)) is.1
event_steps s to (input.Command command) store event is =
    ap (system_step s) is
    ∙ in_turn s (Hand to (input_of (input.Command command)) store)
    (turn_at s to (input_of (input.Command command)))
event_steps s to (input.Expire now) store event is =
    ap (system_step s) is
    ∙ in_turn s (Hand to (input_of (input.Expire now)) store)
    (turn_at s to (input_of (input.Expire now)))
event_steps s to input.Remind store event is =
    ap (system_step s) is
    ∙ in_turn s (Hand to (input_of input.Remind) store) (turn_at s to (input_of input.Remind))
event_steps s to (input.Drop group member) store event is =
    ap (system_step s) is
    ∙ in_turn s (Hand to (input_of (input.Drop group member)) store)
    (turn_at s to (input_of (input.Drop group member)))
event_steps s to (input.Put values) store event is =
    ap (system_step s) is
    ∙ in_turn s (Hand to (input_of (input.Put values)) store)
    (turn_at s to (input_of (input.Put values)))
event_steps s to (input.Restart now) store event is =
    ap (system_step s) is
    ∙ in_turn s (Hand to (input_of (input.Restart now)) store)
    (turn_at s to (input_of (input.Restart now)))

------ stores with which the node does the same

module _ (s : System) (i : Input) (one other : Store) where
  abbrev w : World
  w = s.world

  abbrev SameStep : NodeState → Type 0
  SameStep before = ((node_step before one i).state ≡ (node_step before other i).state)
      × ((node_step before one i).messages ≡ (node_step before other i).messages)

  abbrev coordinated : Coordinator → List Message → System
  coordinated co messages = record s {
    world = with_coordinator (record w { clock = clock_after w.clock i }) (co, messages);
  }

  same_coordinator : SameStep (AtCoordinator w.coordinator)
      → (handed_in s node.Coordinator one i).0 ≡ (handed_in s node.Coordinator other i).0
  same_coordinator same =
      let a = coordinator_step w.coordinator one i in
      let b = coordinator_step w.coordinator other i in
      let is : AtCoordinator a.state ≡ AtCoordinator b.state = same.0 in
      let state : a.state ≡ b.state = cc in
      ap (λ (co : Coordinator). coordinated co a.messages) state
      ∙ ap (λ (ms : List Message). coordinated b.state ms) same.1

  abbrev served : ℕ → Partition → List Message → System
  served number p messages = record s { world = with_partition w number (p, messages) }

  same_partition : (number : ℕ) (p : Partition) → partition_at w number ≡ Some p
      → SameStep (AtPartition number p)
      → (handed_in s (node.Partition number) one i).0
      ≡ (handed_in s (node.Partition number) other i).0
  same_partition number p there same =
      let a = partition_step number p one i in
      let b = partition_step number p other i in
      let is : AtPartition number a.state ≡ AtPartition number b.state = same.0 in
      let state : a.state ≡ b.state = cc in
      ap (λ o. (after_turn s (at_partition w number one i o) None).0) there
      ∙ ap (λ (q : Partition). served number q a.messages) state
      ∙ ap (λ (ms : List Message). served number b.state ms) same.1
      ∙ sym (ap (λ o. (after_turn s (at_partition w number other i o) None).0) there)

  partition_by : (number : ℕ) (before : NodeState) (o : Option Partition)
      → partition_at w number ≡ o → partition_with number o ≡ Some before → SameStep before
      → (handed_in s (node.Partition number) one i).0
      ≡ (handed_in s (node.Partition number) other i).0
  partition_by number before None there is same = absurd cc
  partition_by number before (Some p) there is same =
      let own : AtPartition number p ≡ before = cc in
      same_partition number p there (subst SameStep (sym own) same)

  same_handed : (to : NodeId) (before : NodeState) → node_in s to ≡ Some before → SameStep before
      → (handed_in s to one i).0 ≡ (handed_in s to other i).0
  same_handed node.Coordinator before there same =
      let own : AtCoordinator w.coordinator ≡ before = cc in
      same_coordinator (subst SameStep (sym own) same)
  same_handed (node.Partition number) before there same =
      partition_by number before (partition_at w number) refl there same
  same_handed (node.Client number) before there same = refl

------ one step

again_one : (s : System) (p : Passed) (event : SystemEvent) (before : NodeState)
    (behind : List Step) → node_in s p.node ≡ Some before → Occurs s p event
    → TakesAgain before behind p.step p.taken p.after
    → IsAgain s p event (store_for p.step behind)
again_one s p event before behind there is takes =
    let i = input_of p.step.input in
    let told = store_for p.step behind in
    let steps = event_steps s p.node p.step.input is.store event is.is in
    let g = goes s is.store i p.node before there in
    let after : (node_step before is.store i).state ≡ p.after =
    same_Some (node_step before is.store i).state p.after (sym g.node_is
    ∙ sym (ap (λ (t : SystemStepped). node_in t.0 p.node) steps) ∙ is.node_is) in
    let messages : (node_step before is.store i).messages ≡ p.taken.messages =
    append_cancel_left s.world.sent (node_step before is.store i).messages p.taken.messages
    (sym g.sent ∙ sym (ap (λ (t : SystemStepped). t.0.world.sent) steps) ∙ is.sent) in
    record {
      leads = λ other is_other.
          ap (λ (t : SystemStepped). t.0) (event_steps s p.node p.step.input told other is_other)
          ∙ same_handed s i told is.store p.node before there
          (sym takes.after_is ∙ sym after, sym takes.messages_are ∙ sym messages)
          ∙ sym (ap (λ (t : SystemStepped). t.0) steps);
    }

------ all steps

-- those at a node, if one of them is its own
at_split : (name : NodeId) (before : List Passed) (p : Passed) (ps : List Passed)
    → same_node p.node name ≡ true
    → steps_in (at_node name (before ++ p ∷ ps))
    ≡ steps_in (at_node name before) ++ p.step ∷ steps_in (at_node name ps)
at_split name [] p ps e = ap steps_in (at_own p ps name e)
at_split name (q ∷ before) p ps e =
    by (same_node q.node name) (at_split name before p ps e)
  where
    by : (b : Bool) → steps_in (at_node name (before ++ p ∷ ps))
        ≡ steps_in (at_node name before) ++ p.step ∷ steps_in (at_node name ps)
        → steps_in (cond b (q ∷ at_node name (before ++ p ∷ ps)) (at_node name (before ++ p ∷ ps)))
        ≡ steps_in (cond b (q ∷ at_node name before) (at_node name before))
        ++ p.step ∷ steps_in (at_node name ps)
    by true rest = ap (λ (l : List Step). q.step ∷ l) rest
    by false rest = rest

cut : (n : ℕ) (before : List Step) (step : Step) (behind : List Step) → n ≡ length before
    → drop (n + 1) (before ++ step ∷ behind) ≡ behind ++ []
cut n before step behind e =
    let one = length_push before step in
    ap (λ (l : List Step). drop (n + 1) l) (sym (append_assoc before (step ∷ []) behind))
    ∙ drop_at (before ++ step ∷ []) behind (n + 1) (omega (arith, one, e))
    ∙ sym (append-nil behind)

module _ {B : Type 0} (making : B → NodeMaking) (traces : List (Traced B))
    (merged : List Passed)
    (steps_are : (k : ℕ) (t : Trail) → slice_get (trails_of making traces) k ≡ Some t
    → steps_in (at_node (named t.made) merged) ≡ t.steps) where
  abbrev IsKnown : NodeId → Type 0
  IsKnown name = (k : ℕ) × (t : Trail) × (slice_get (trails_of making traces) k ≡ Some t)
      × (name ≡ named t.made)

  -- a node of this name takes the steps at it again
  record Follows (s : System) (ps : List Passed) (name : NodeId) : Type 0 where
    before : NodeState
    there : node_in s name ≡ Some before
    runs : RunsAgain [] before (at_node name ps)

  behind_is : (before : List Passed) (p : Passed) (ps : List Passed) (turn : Turn)
      → before ++ p ∷ ps ≡ merged → IsTurn (trails_of making traces) turn (told_of p)
      → turn.step ≡ length (told_at p.node (told_in before))
      → behind_at traces turn ≡ steps_in (at_node p.node ps) ++ []
  behind_is before p ps turn all is place =
      let of = from_map (trail_of making) traces turn.trace is.trail is.there in
      let count : turn.step ≡ length (steps_in (at_node p.node before)) =
      place ∙ sym (length-map (told_at p.node (told_in before)) (λ (x : Told). x.step))
      ∙ sym (ap (λ (l : List Step). length l) (steps_at before p.node)) in
      let parts : of.0.steps ≡ steps_in (at_node p.node before)
      ++ p.step ∷ steps_in (at_node p.node ps) =
      ap (λ (t : Trail). t.steps) of.2 ∙ sym (steps_are turn.trace is.trail is.there)
      ∙ ap (λ (n : NodeId). steps_in (at_node n merged)) (sym is.node_is)
      ∙ ap (λ (l : List Passed). steps_in (at_node p.node l)) (sym all)
      ∙ at_split p.node before p ps (same_self p.node) in
      ap (λ o. behind_in o turn.step) of.1
      ∙ ap (λ (l : List Step). drop (turn.step + 1) l) parts
      ∙ cut turn.step (steps_in (at_node p.node before)) p.step (steps_in (at_node p.node ps)) count

  follows_on : (s : System) (p : Passed) (ps : List Passed) (event : SystemEvent)
      → Occurs s p event → (name : NodeId) (b : Bool) → same_node p.node name ≡ b
      → RunsAgain [] p.after (at_node p.node ps) → Follows s (p ∷ ps) name
      → Follows (system_step s event).0 ps name
  follows_on s p ps event is name true e on old =
      subst (Follows (system_step s event).0 ps) (same_is p.node name e)
      (record { before = p.after; there = is.node_is; runs = on })
  follows_on s p ps event is name false e on old = record {
    before = old.before;
    there = is.others name (λ h. same_not p.node name e (sym h)) ∙ old.there;
    runs = subst (RunsAgain [] old.before) (at_other p ps name e) old.runs;
  }

  abbrev AreEach : List Turn → List Passed → Type 0
  AreEach turns ps = (j : ℕ) (turn : Turn) (x : Told) → slice_get turns j ≡ Some turn
      → slice_get (told_in ps) j ≡ Some x → IsTurn (trails_of making traces) turn x

  all_again : (before ps : List Passed) (turns : List Turn) (events : List SystemEvent)
      (s : System) → before ++ ps ≡ merged → AllOccur s ps events
      → ArePlaced (told_in before) turns (told_in ps) → AreEach turns ps
      → ((name : NodeId) → IsKnown name → Follows s ps name)
      → AllAgain traces s turns ps events
  all_again before [] [] [] s all occur placed each follow = tt
  all_again before [] [] (event ∷ events) s all occur placed each follow = absurd occur
  all_again before [] (turn ∷ turns) events s all occur placed each follow = absurd placed
  all_again before (p ∷ ps) [] events s all occur placed each follow = absurd placed
  all_again before (p ∷ ps) (turn ∷ turns) [] s all occur placed each follow = absurd occur
  all_again before (p ∷ ps) (turn ∷ turns) (event ∷ events) s all occur placed each follow =
      let is = each 0 turn (told_of p) refl refl in
      let own = follow p.node (turn.trace, is.trail, is.there, is.node_is) in
      let runs : RunsAgain [] own.before (p ∷ at_node p.node ps) =
      subst (RunsAgain [] own.before) (at_own p ps p.node (same_self p.node)) own.runs in (
        subst (λ (l : List Step). IsAgain s p event (store_for p.step l))
            (sym (behind_is before p ps turn all is placed.0))
            (again_one s p event own.before (steps_in (at_node p.node ps) ++ []) own.there occur.0
            runs.0),
        all_again (before ++ p ∷ []) ps turns events (system_step s event).0
            (append_assoc before (p ∷ []) ps ∙ all) occur.1
            (subst (λ (l : List Told). ArePlaced l turns (told_in ps))
            (sym (map-append told_of before (p ∷ []))) placed.1)
            (λ j. each (suc j))
            (λ name known. follows_on s p ps event occur.0 name (same_node p.node name) refl runs.1
            (follow name known)),
      )

------ from the beginning

few_data : data_partitions < offsets_partition
few_data = omega arith

there_by : (arrived : List Message) (m : NodeMaking) → IsNodeMaking m
    → IsThere arrived data_partitions few_data m
there_by arrived OfCoordinator h = tt
there_by arrived (OfPartition n) h = h
there_by arrived (OfClient c) h = tt

pub runs_again : {B : Type 0} (making : B → NodeMaking) (traces : List (Traced B))
    (arrived : List Message) (merged : List Passed) (turns : List Turn)
    (events : List SystemEvent) (s : System) → AllFit (trails_of making traces)
    → AreApart (trails_of making traces)
    → IsScheduleOf arrived (trails_of making traces) merged events s
    → ((k : ℕ) (t : Trail) → slice_get (trails_of making traces) k ≡ Some t
    → RunsAgain [] (node_of t.made) (at_node (named t.made) merged))
    → ArePlaced [] turns (told_in merged)
    → AreTurns (trails_of making traces) turns (told_in merged)
    → AllAgain traces (made_system arrived (trails_of making traces)) turns merged events
runs_again {B} making traces arrived merged turns events s fit apart is runs placed are =
    let trails = trails_of making traces in
    all_again making traces merged (λ k t at. (is.stand k t at).steps_are) [] merged turns events
    (made_system arrived trails) refl is.occur placed are.each
    (λ name known.
    let t = known.1 in
    record {
      before = node_of t.made;
      there = subst (λ (n : NodeId). node_in (made_system arrived trails) n
          ≡ Some (node_of t.made)) (sym known.3)
          (begins arrived data_partitions few_data trails apart known.0 t known.2
          (there_by arrived t.made (fit known.0 t known.2).made));
      runs = subst (λ (n : NodeId). RunsAgain [] (node_of t.made) (at_node n merged))
          (sym known.3) (runs known.0 t known.2);
    })
