-- A node goes on by a step of the definitions, and no other node changes.
use Rattle.std.proofs.Common.{◌≡◌, ◌≢◌, ◌++◌, ◌==◌, ℕ, Bool, true, false, cond, List, [], ◌∷◌}
use Rattle.std.proofs.Common.{Option, Some, None, refl, sym, ap, ◌∙◌, subst, zero, suc}
use Rattle.std.specs.Prelude.{slice_get, slice_set}
use Rattle.kx_audit.specs.Nodes.{node_in, node_with, partition_with}
use Rattle.kx_machine.specs.Meaning.{AtClient, AtCoordinator, AtPartition, AtProcessor, NodeState}
use Rattle.kx_machine.specs.Meaning.{node_step}
use Rattle.kx_message.specs.Ranges.{offsets_partition}
use Rattle.kx_message.specs.declared.message.Message.{Message}
use Rattle.kx_message.specs.declared.message.NodeId.{NodeId}
use Rattle.kx_message.specs.declared.message.NodeId.TheVariants as node
use Rattle.kx_model.specs.Client.{Client}
use Rattle.kx_model.specs.Disk.{Store}
use Rattle.kx_model.specs.PartitionNode.{Partition}
use Rattle.kx_model.specs.Step.{Input, NodeStep, client_step, partition_step}
use Rattle.kx_model.specs.World.{World, at_client, at_partition, client_at, partition_at}
use Rattle.kx_model.specs.World.{with_client, with_partition}
use Rattle.kx_model.proofs.Schedules.{placed_with}
use Rattle.kx_system.specs.Processor.{Processing, Processor, processor_step}
use Rattle.kx_system.specs.System.{System, SystemStepped, processing_at, turn_with, with_processor}
use Rattle.kx_audit.proofs.Handing.{after_turn, handed_in}
use Rattle.kx_audit.proofs.Lookups.{found_number, look_other, look_put}
use Rattle.kx_system.proofs.Numbers.{processing_number, step_number, turn_number}

-- the node comes to stand where its step leaves it, and no other node changes
pub record Goes (s : System) (to : NodeId) (after : NodeStep NodeState) (t : SystemStepped)
    : Type 0 where
  pub node_is : node_in t.0 to ≡ Some after.state
  pub others : (other : NodeId) → other ≢ to → node_in t.0 other ≡ node_in s other
  pub sent : t.0.world.sent ≡ s.world.sent ++ after.messages
  pub note_is : t.1 ≡ after.note

get_new : {A : Type 0} (xs : List A) (i : ℕ) (x y : A) → slice_get xs i ≡ Some x
    → slice_get (slice_set xs i y) i ≡ Some y
get_new [] i x y is = absurd cc
get_new (z ∷ xs) zero x y is = refl
get_new (z ∷ xs) (suc i) x y is = get_new xs i x y is

module _ (s : System) (store : Store) (input : Input) where
  abbrev w : World
  w = s.world

  ------ the coordinator

  coordinator_goes : Goes s node.Coordinator (node_step (AtCoordinator w.coordinator) store input)
      (handed_in s node.Coordinator store input)
  coordinator_goes = record {
    node_is = refl;
    others = others;
    sent = refl;
    note_is = refl;
  }
    where
      others : (other : NodeId) → other ≢ node.Coordinator
          → node_in (handed_in s node.Coordinator store input).0 other ≡ node_in s other
      others node.Coordinator apart = absurd (apart refl)
      others (node.Partition n) apart = refl
      others (node.Client n) apart = refl

  ------ a partition

  module _ (number : ℕ) (p : Partition) (there : partition_at w number ≡ Some p) where
    abbrev served : NodeStep Partition
    served = partition_step number p store input

    abbrev partition_done : SystemStepped
    partition_done = (
      record s { world = with_partition w number (served.state, served.messages) },
      served.note,
    )

    placed_there : partition_at partition_done.0.world number ≡ Some served.state
    placed_there = by (number == offsets_partition) there
      where
        by : (b : Bool) → cond b (Some w.offsets) (slice_get w.partitions number) ≡ Some p
            → cond b (Some (cond b served.state w.offsets))
            (slice_get (cond b w.partitions (slice_set w.partitions number served.state)) number)
            ≡ Some served.state
        by true h = refl
        by false h = get_new w.partitions number p served.state h

    partition_others : (other : NodeId) → other ≢ node.Partition number
        → node_in partition_done.0 other ≡ node_in s other
    partition_others node.Coordinator apart = refl
    partition_others (node.Client n) apart = refl
    partition_others (node.Partition n) apart =
        ap (partition_with n)
        (placed_with w number (served.state, served.messages) (λ o. o ≡ partition_at w n) n
        (λ same. absurd (apart (ap (λ (k : ℕ). node.Partition k) same))) refl)

    partition_goes : Goes s (node.Partition number) (node_step (AtPartition number p) store input)
        (handed_in s (node.Partition number) store input)
    partition_goes =
        subst (Goes s (node.Partition number) (node_step (AtPartition number p) store input))
        (sym (ap (λ o. after_turn s (at_partition w number store input o) None) there))
        (record {
          node_is = ap (partition_with number) placed_there;
          others = partition_others;
          sent = refl;
          note_is = refl;
        })

  ------ a client

  module _ (number : ℕ) (c : Client) (there : client_at w number ≡ Some c) where
    own_number : c.number ≡ number
    own_number = found_number (λ (x : Client). x.number) number w.clients c there

    -- whoever takes its place is found by its number, as are all others
    client_there : (after : Client) (sent : List Message) → after.number ≡ c.number
        → client_at (with_client w after sent) number ≡ Some after
    client_there after sent same =
        look_put (λ (x : Client). x.number) number after c w.clients (same ∙ own_number) there

    client_other : (after : Client) (sent : List Message) → after.number ≡ c.number → (n : ℕ)
        → node.Client n ≢ node.Client number
        → client_at (with_client w after sent) n ≡ client_at w n
    client_other after sent same n apart =
        look_other (λ (x : Client). x.number) n after w.clients
        (λ h. apart (ap (λ (k : ℕ). node.Client k) (sym h ∙ same ∙ own_number)))

    -- that is no processor
    module _ (beside : processing_at s number ≡ None) where
      abbrev stepped : NodeStep Client
      stepped = client_step c input

      abbrev client_done : SystemStepped
      client_done = (
        record s { world = with_client w stepped.state stepped.messages },
        stepped.note,
      )

      client_steps : handed_in s (node.Client number) store input ≡ client_done
      client_steps =
          ap (λ o. after_turn s (at_client w input o) (turn_with input o (processing_at s number)))
          there
          ∙ ap (λ o. after_turn s (at_client w input (Some c)) (turn_with input (Some c) o)) beside

      client_others : (other : NodeId) → other ≢ node.Client number
          → node_in client_done.0 other ≡ node_in s other
      client_others node.Coordinator apart = refl
      client_others (node.Partition n) apart = refl
      client_others (node.Client n) apart =
          ap (λ o. node_with o (processing_at s n))
          (client_other stepped.state stepped.messages (step_number c input) n apart)

      client_goes : Goes s (node.Client number) (node_step (AtClient c) store input)
          (handed_in s (node.Client number) store input)
      client_goes =
          subst (Goes s (node.Client number) (node_step (AtClient c) store input))
          (sym client_steps)
          (record {
            node_is = ap (λ o. node_with o (processing_at s number))
                (client_there stepped.state stepped.messages (step_number c input))
                ∙ ap (node_with (Some stepped.state)) beside;
            others = client_others;
            sent = refl;
            note_is = refl;
          })

    -- that is one
    module _ (q : Processing) (beside : processing_at s number ≡ Some q) where
      abbrev processor : Processor
      processor = record { client = c; processing = q }

      abbrev turned : NodeStep Processor
      turned = processor_step processor input

      abbrev turn_done : SystemStepped
      turn_done = (with_processor s turned.state turned.messages, turned.note)

      turn_steps : handed_in s (node.Client number) store input ≡ turn_done
      turn_steps =
          ap (λ o. after_turn s (at_client w input (client_at w number))
          (turn_with input o (processing_at s number))) there
          ∙ ap (λ o. after_turn s (at_client w input (client_at w number))
          (turn_with input (Some c) o)) beside

      q_number : turned.state.processing.number ≡ number
      q_number =
          processing_number processor input
          ∙ found_number (λ (x : Processing). x.number) number s.processors q beside

      turn_others : (other : NodeId) → other ≢ node.Client number
          → node_in turn_done.0 other ≡ node_in s other
      turn_others node.Coordinator apart = refl
      turn_others (node.Partition n) apart = refl
      turn_others (node.Client n) apart =
          ap (λ o. node_with o (processing_at turn_done.0 n))
          (client_other turned.state.client turned.messages (turn_number processor input) n apart)
          ∙ ap (node_with (client_at w n))
          (look_other (λ (x : Processing). x.number) n turned.state.processing s.processors
          (λ h. apart (ap (λ (k : ℕ). node.Client k) (sym h ∙ q_number))))

      turn_goes : Goes s (node.Client number) (node_step (AtProcessor processor) store input)
          (handed_in s (node.Client number) store input)
      turn_goes =
          subst (Goes s (node.Client number) (node_step (AtProcessor processor) store input))
          (sym turn_steps)
          (record {
            node_is = ap (λ o. node_with o (processing_at turn_done.0 number))
                (client_there turned.state.client turned.messages (turn_number processor input))
                ∙ ap (node_with (Some turned.state.client))
                (look_put (λ (x : Processing). x.number) number turned.state.processing q
                s.processors q_number beside);
            others = turn_others;
            sent = refl;
            note_is = refl;
          })

  ------ a node of any kind

  abbrev Gone : NodeId → NodeState → Type 0
  Gone to before = Goes s to (node_step before store input) (handed_in s to store input)

  partition_by : (number : ℕ) (before : NodeState) (o : Option Partition)
      → partition_at w number ≡ o → partition_with number o ≡ Some before
      → Gone (node.Partition number) before
  partition_by number before None there is = absurd cc
  partition_by number before (Some p) there is =
      let same : AtPartition number p ≡ before = cc in
      subst (Gone (node.Partition number)) same (partition_goes number p there)

  client_by : (number : ℕ) (before : NodeState) (o : Option Client) (beside : Option Processing)
      → client_at w number ≡ o → processing_at s number ≡ beside
      → node_with o beside ≡ Some before → Gone (node.Client number) before
  client_by number before None beside there e is = absurd cc
  client_by number before (Some c) None there e is =
      let same : AtClient c ≡ before = cc in
      subst (Gone (node.Client number)) same (client_goes number c there e)
  client_by number before (Some c) (Some q) there e is =
      let same : AtProcessor (record { client = c; processing = q }) ≡ before = cc in
      subst (Gone (node.Client number)) same (turn_goes number c there q e)

  -- wherever the node stands
  pub goes : (to : NodeId) (before : NodeState) → node_in s to ≡ Some before → Gone to before
  goes node.Coordinator before is =
      let same : AtCoordinator w.coordinator ≡ before = cc in
      subst (Gone node.Coordinator) same coordinator_goes
  goes (node.Partition number) before is =
      partition_by number before (partition_at w number) refl is
  goes (node.Client number) before is =
      client_by number before (client_at w number) (processing_at s number) refl refl is
