-- What a world in memory begins as, and where the logs of its partitions are.
use Rattle.std.proofs.Common.{◌≡◌, ◌<◌, ◌++◌, ◌==◌, ◌⊎◌, ℕ, Bool, true, false, cond, List, []}
use Rattle.std.proofs.Common.{◌∷◌, refl, sym, ap, ◌∙◌, subst, length, Some, None, arith, inl}
use Rattle.std.proofs.Common.{inr, zero, suc}
use Rattle.std.specs.Prelude.{slice_get, replicate}
use Rattle.std.proofs.lemmas.Bool.Decides.{Decides-eqb}
use Rattle.kx_broker.specs.Offsets.{StandsForGroups}
use Rattle.kx_broker.specs.Serving.{Serving, StandsFor}
use Rattle.kx_coord.specs.CoordinatorState.{CoordinatorState}
use Rattle.kx_coord_node.specs.Stands.{Stands}
use Rattle.kx_core.specs.Internal.{AreServers}
use Rattle.kx_core.specs.World.{StandForAll}
use Rattle.kx_machine.specs.Meaning.{AtCoordinator, AtPartition}
use Rattle.kx_message.specs.Ranges.{data_partitions, offsets_partition}
use Rattle.kx_model.specs.CoordinatorNode.{new_coordinator}
use Rattle.kx_model.specs.PartitionNode.{Partition, empty_partition}
use Rattle.kx_model.specs.World.{World, data_partition_at, log_at, log_in}
use Rattle.kx_system.specs.Processor.{Images}
use Rattle.kx_system.specs.System.{start_system}

------ servers

got_of : {A : Type 0} (xs : List A) (x y : A) (i : ℕ) → slice_get (xs ++ x ∷ []) i ≡ Some y
    → (slice_get xs i ≡ Some y) ⊎ ((i ≡ length xs) × (y ≡ x))
got_of [] x y zero is = inr (refl, cc)
got_of [] x y (suc i) is = absurd cc
got_of (z ∷ xs) x y zero is = inl is
got_of (z ∷ xs) x y (suc i) is = elim (got_of xs x y i is) [
  | inl there ↦ inl there
  | inr last ↦ inr (ap (λ (n : ℕ). suc n) last.0, last.1)
]

pub none_yet : AreServers []
none_yet = record { each = λ number server is. absurd (cc) }

pub one_more : (servers : List Serving) (server : Serving) (number : ℕ)
    → AreServers servers → length servers ≡ number
    → StandsFor (AtPartition number empty_partition) server
    → AreServers (servers ++ server ∷ [])
one_more servers server number are many stands = record {
  each = λ k other is. elim (got_of servers server other k is) [
    | inl there ↦ are.each k other there
    | inr last ↦ subst (λ (s : Serving). StandsFor (AtPartition k empty_partition) s) (sym last.1)
        (subst (λ (n : ℕ). StandsFor (AtPartition n empty_partition) server)
        (sym (last.0 ∙ many)) stands)
  ];
}

------ the world

replicated : {A : Type 0} (n i : ℕ) (x y : A) → slice_get (replicate n x) i ≡ Some y → y ≡ x
replicated zero i x y is = absurd cc
replicated (suc n) zero x y is = cc
replicated (suc n) (suc i) x y is = replicated n i x y is

length_replicate : {A : Type 0} (n : ℕ) (x : A) → length (replicate n x) ≡ n
length_replicate zero x = refl
length_replicate (suc n) x = omega (arith, length_replicate n x)

pub starts : {F : Type 0} (image_of : F → Images) (coordinator : CoordinatorState)
    (servers : List Serving) (offsets : Serving)
    → Stands (AtCoordinator new_coordinator) coordinator → AreServers servers
    → length servers < offsets_partition
    → StandsForGroups (AtPartition offsets_partition empty_partition) offsets
    → StandForAll Stands StandsFor StandsForGroups image_of (record {
      coordinator = coordinator;
      partitions = servers;
      offsets = offsets;
      clients = [];
      clock = 0;
    }) (start_system (length servers))
starts image_of coordinator servers offsets stands are few groups = record {
  world = record {
    coordinator = stands;
    count = length_replicate (length servers) empty_partition;
    few = subst (λ (n : ℕ). n < offsets_partition)
        (sym (length_replicate (length servers) empty_partition)) few;
    partitions = λ number p server is there.
        subst (λ (q : Partition). StandsFor (AtPartition number q) server)
        (sym (replicated (length servers) number empty_partition p is))
        (are.each number server there);
    offsets = groups;
    clients = refl;
    clock = refl;
  };
  processors = refl;
}

------ readers

by_number : (w : World) (number : ℕ) (p : Partition) (b : Bool)
    → (number == offsets_partition) ≡ b → data_partition_at w number ≡ Some p
    → log_at w number ≡ p.disk.kept
by_number w number p true e is =
    let none : data_partition_at w number ≡ None =
    ap (λ (b : Bool). cond b None (slice_get w.partitions number)) e in
    absurd (cc (is, none))
by_number w number p false e is =
    let one : data_partition_at w number ≡ slice_get w.partitions number =
    ap (λ (b : Bool). cond b None (slice_get w.partitions number)) e in
    ap (λ (b : Bool). log_in (cond b (Some w.offsets) (slice_get w.partitions number))) e
    ∙ ap log_in (sym one ∙ is)

-- the log of a data partition is what its disk keeps
pub log_of : (w : World) (number : ℕ) (p : Partition) → data_partition_at w number ≡ Some p
    → log_at w number ≡ p.disk.kept
log_of w number p is = by_number w number p (number == offsets_partition) refl is
