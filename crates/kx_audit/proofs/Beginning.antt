-- The clients are made first: then each node stands as its trace begins.
use Rattle.std.proofs.Common.{◌≡◌, ◌≢◌, ◌<◌, ◌+◌, ◌++◌, ℕ, zero, suc, true, cond}
use Rattle.std.proofs.Common.{List, [], ◌∷◌, map, Option, Some, None, inl, inr, refl, sym, ap, ◌∙◌}
use Rattle.std.proofs.Common.{subst, arith, ◌⊎◌}
use Rattle.std.specs.Prelude.{slice_get, replicate}
use Rattle.kx_audit.specs.Joined.{AreApart}
use Rattle.kx_audit.specs.Making.{ClientMaking, NodeMaking, OfClient, OfCoordinator, OfPartition}
use Rattle.kx_audit.specs.Making.{Processes, Trail, client_by, client_with, clients_of, event_with}
use Rattle.kx_audit.specs.Making.{in_order, making_event, makings, named, node_of, processing_by}
use Rattle.kx_audit.specs.Nodes.{node_in, node_with, partition_with}
use Rattle.kx_audit.specs.Schedule.{IsUntraced, start_with}
use Rattle.kx_message.specs.Ranges.{offsets_partition}
use Rattle.kx_message.specs.declared.message.Message.{Message}
use Rattle.kx_message.specs.declared.message.NodeId.{NodeId}
use Rattle.kx_message.specs.declared.message.NodeId.TheVariants as node
use Rattle.kx_model.specs.Client.{Client}
use Rattle.kx_model.specs.PartitionNode.{empty_partition}
use Rattle.kx_model.specs.World.{World, client_at, is_new, partition_at, step}
use Rattle.kx_system.specs.Processor.{Processing, new_processing}
use Rattle.kx_system.specs.System.{System, processing_at, run_system}
use Rattle.kx_system.specs.System.{start_system, system_step}
use Rattle.kx_audit.proofs.Lookups.{AreBelow, all_below, below_more, below_push, differ, equal}
use Rattle.kx_audit.proofs.Lookups.{look_above, look_push, look_push_other}
use Rattle.kx_audit.proofs.Ordering.{From, IsIn, are_distinct, from_least, in_clients}
use Rattle.kx_audit.proofs.Ordering.{in_order_from, order_has, order_only, trail_of}

abbrev client_number : Client → ℕ
client_number c = c.number

abbrev its_number : Processing → ℕ
its_number p = p.number

-- all numbers of clients and processors are below this one
pub record IsBelow (n : ℕ) (s : System) : Type 0 where
  pub clients : AreBelow client_number n s.world.clients
  pub processors : AreBelow its_number n s.processors

-- the client stands as it was made, and no other node changed
pub record IsMade (s : System) (c : ClientMaking) (t : System) : Type 0 where
  pub there : node_in t (node.Client c.number) ≡ Some (node_of (OfClient c))
  pub others : (name : NodeId) → name ≢ node.Client c.number → node_in t name ≡ node_in s name
  pub below : IsBelow (c.number + 1) t
  pub sent : t.world.sent ≡ s.world.sent

------ one client

module _ (s : System) (c : ClientMaking) (below : IsBelow c.number s) where
  abbrev more : List Client
  more = s.world.clients ++ client_by c ∷ []

  abbrev new_world : World
  new_world = record s.world { clients = more }

  new_is : is_new c.number s.world.clients ≡ true
  new_is = all_below client_number c.number s.world.clients below.clients

  client_there : client_at new_world c.number ≡ Some (client_by c)
  client_there =
      look_push client_number c.number s.world.clients (client_by c) refl below.clients

  client_other : (n : ℕ) → node.Client n ≢ node.Client c.number
      → client_at new_world n ≡ client_at s.world n
  client_other n apart =
      look_push_other client_number n s.world.clients (client_by c)
      (λ h. apart (ap (λ (k : ℕ). node.Client k) (sym h)))

  clients_below : AreBelow client_number (c.number + 1) more
  clients_below =
      below_push client_number c.number s.world.clients (client_by c) (c.number + 1)
      below.clients (omega arith) (omega arith)

  ------ that is no processor

  abbrev plain : System
  plain = record s { world = new_world }

  plain_others : (name : NodeId) → name ≢ node.Client c.number
      → node_in plain name ≡ node_in s name
  plain_others node.Coordinator apart = refl
  plain_others (node.Partition n) apart = refl
  plain_others (node.Client n) apart =
      ap (λ o. node_with o (processing_at s n)) (client_other n apart)

  plain_there : node_in plain (node.Client c.number) ≡ Some (client_with (client_by c) None)
  plain_there =
      ap (λ o. node_with o (processing_at s c.number)) client_there
      ∙ ap (node_with (Some (client_by c)))
      (look_above its_number c.number s.processors below.processors)

  plain_below : IsBelow (c.number + 1) plain
  plain_below = record {
    clients = clients_below;
    processors = below_more its_number c.number s.processors (c.number + 1) below.processors
        (omega arith);
  }

  plain_made : (system_step s (event_with c None)).0 ≡ plain
  unfolding system_step step
  plain_made =
      ap (λ b. record s {
        world = record s.world { clients = cond b more s.world.clients };
      }) new_is

  ------ that is one

  module _ (p : Processes) where
    abbrev new : Processing
    new = new_processing c.number p.group p.inputs p.image

    abbrev processing : System
    processing = record { world = new_world; processors = s.processors ++ new ∷ [] }

    processing_others : (name : NodeId) → name ≢ node.Client c.number
        → node_in processing name ≡ node_in s name
    processing_others node.Coordinator apart = refl
    processing_others (node.Partition n) apart = refl
    processing_others (node.Client n) apart =
        ap (λ o. node_with o (processing_at processing n)) (client_other n apart)
        ∙ ap (node_with (client_at s.world n))
        (look_push_other its_number n s.processors new
        (λ h. apart (ap (λ (k : ℕ). node.Client k) (sym h))))

    processing_there : node_in processing (node.Client c.number)
        ≡ Some (client_with (client_by c) (Some new))
    processing_there =
        ap (λ o. node_with o (processing_at processing c.number)) client_there
        ∙ ap (node_with (Some (client_by c)))
        (look_push its_number c.number s.processors new refl below.processors)

    processing_below : IsBelow (c.number + 1) processing
    processing_below = record {
      clients = clients_below;
      processors = below_push its_number c.number s.processors new (c.number + 1)
          below.processors (omega arith) (omega arith);
    }

    processing_made : (system_step s (event_with c (Some p))).0 ≡ processing
    unfolding system_step step
    processing_made =
        ap (λ b. record {
          world = record s.world { clients = cond b more s.world.clients };
          processors = cond b (s.processors ++ new ∷ []) s.processors;
        }) new_is

  abbrev MadeBy : Option Processes → System → Type 0
  MadeBy p t =
      (node_in t (node.Client c.number)
      ≡ Some (client_with (client_by c) (processing_by c.number p)))
      × ((name : NodeId) → name ≢ node.Client c.number → node_in t name ≡ node_in s name)
      × IsBelow (c.number + 1) t × (t.world.sent ≡ s.world.sent)

  made_by : (p : Option Processes) → MadeBy p (system_step s (event_with c p)).0
  made_by None =
      subst (MadeBy None) (sym plain_made) (plain_there, plain_others, plain_below, refl)
  made_by (Some p) =
      subst (MadeBy (Some p)) (sym (processing_made p))
      (processing_there p, processing_others p, processing_below p, refl)

  pub is_made : IsMade s c (system_step s (making_event c)).0
  is_made = let all = made_by c.processes in record {
    there = all.0;
    others = all.1;
    below = all.2;
    sent = all.3;
  }

------ all clients

pub record AreMade (s : System) (cs : List ClientMaking) (t : System) : Type 0 where
  pub there : (c : ClientMaking) → IsIn c cs
      → node_in t (node.Client c.number) ≡ Some (node_of (OfClient c))
  pub others : (name : NodeId) → ((c : ClientMaking) → IsIn c cs → name ≢ node.Client c.number)
      → node_in t name ≡ node_in s name
  pub sent : t.world.sent ≡ s.world.sent

client_is : (m n : ℕ) → node.Client m ≡ node.Client n → m ≡ n
client_is m n e = cc

all_made : (cs : List ClientMaking) (low : ℕ) (s : System) → From low cs → IsBelow low s
    → AreMade s cs (run_system (map making_event cs) s)
unfolding run_system
all_made [] low s from below = record {
  there = λ c is. absurd is;
  others = λ name apart. refl;
  sent = refl;
}
all_made (c ∷ cs) low s from below =
    let own : IsBelow c.number s = record {
      clients = below_more client_number low s.world.clients c.number below.clients from.0;
      processors = below_more its_number low s.processors c.number below.processors from.0;
    } in
    let one = is_made s c own in
    let rest = all_made cs (c.number + 1) (system_step s (making_event c)).0 from.1 one.below in
    let first = rest.others (node.Client c.number) (λ d is same.
    let high = from_least (c.number + 1) cs d from.1 is in
    let at = client_is c.number d.number same in omega (arith, high, at)) ∙ one.there in
    record {
      there = λ d is. there_by d is (run_system (map making_event cs)
          (system_step s (making_event c)).0) first rest.there;
      others = λ name apart. rest.others name (λ d is. apart d (inr is))
          ∙ one.others name (apart c (inl refl));
      sent = rest.sent ∙ one.sent;
    }
  where
    there_by : (d : ClientMaking) → IsIn d (c ∷ cs) → (t : System)
        → node_in t (node.Client c.number) ≡ Some (node_of (OfClient c))
        → ((x : ClientMaking) → IsIn x cs
        → node_in t (node.Client x.number) ≡ Some (node_of (OfClient x)))
        → node_in t (node.Client d.number) ≡ Some (node_of (OfClient d))
    there_by d (inl same) t first rest =
        subst (λ (x : ClientMaking). node_in t (node.Client x.number)
        ≡ Some (node_of (OfClient x))) (sym same) first
    there_by d (inr is) t first rest = rest d is

pub makings_made : (trails : List Trail) (s : System) → AreApart trails → IsBelow 0 s
    → AreMade s (in_order (clients_of trails)) (run_system (makings trails) s)
makings_made trails s apart below =
    all_made (in_order (clients_of trails)) 0 s
    (in_order_from (clients_of trails) (are_distinct trails apart)) below

------ partitions

replicated : {A : Type 0} (count i : ℕ) (x : A) → i < count
    → slice_get (replicate count x) i ≡ Some x
replicated zero i x lt = absurd (omega arith)
replicated (suc count) zero x lt = refl
replicated (suc count) (suc i) x lt = replicated count i x (omega arith)

partition_there : (count n : ℕ) → count < offsets_partition
    → (n < count) ⊎ (n ≡ offsets_partition)
    → partition_at (start_system count).world n ≡ Some empty_partition
partition_there count n few (inl lt) =
    ap (λ b. cond b (Some empty_partition) (slice_get (replicate count empty_partition) n))
    (differ n offsets_partition (λ h. omega (arith, h, lt, few)))
    ∙ replicated count n empty_partition lt
partition_there count n few (inr is) =
    ap (λ b. cond b (Some empty_partition) (slice_get (replicate count empty_partition) n))
    (equal n offsets_partition is)

------ the node of each trace

module _ (arrived : List Message) (count : ℕ) (few : count < offsets_partition) where
  abbrev begin : System
  begin = start_with arrived count

  abbrev begun : List Trail → System
  begun trails = run_system (makings trails) begin

  nothing_below : IsBelow 0 begin
  nothing_below = record { clients = tt; processors = tt }

  -- a partition that is there, if it is one
  abbrev pub IsThere : NodeMaking → Type 0
  IsThere OfCoordinator = Unit {0}
  IsThere (OfPartition n) = (n < count) ⊎ (n ≡ offsets_partition)
  IsThere (OfClient c) = Unit {0}

  begins_by : (trails : List Trail) → AreApart trails → (k : ℕ) (t : Trail)
      → slice_get trails k ≡ Some t → (m : NodeMaking) → t.made ≡ m → IsThere m
      → node_in (begun trails) (named m) ≡ Some (node_of m)
  begins_by trails apart k t at OfCoordinator is there =
      (makings_made trails begin apart nothing_below).others node.Coordinator
      (λ c h same. absurd cc)
  begins_by trails apart k t at (OfPartition n) is there =
      (makings_made trails begin apart nothing_below).others (node.Partition n)
      (λ c h same. absurd cc)
      ∙ ap (partition_with n) (partition_there count n few there)
  begins_by trails apart k t at (OfClient c) is there =
      (makings_made trails begin apart nothing_below).there c
      (order_has (clients_of trails) c (in_clients trails k t c at is))

  pub begins : (trails : List Trail) → AreApart trails → (k : ℕ) (t : Trail)
      → slice_get trails k ≡ Some t → IsThere t.made
      → node_in (begun trails) (named t.made) ≡ Some (node_of t.made)
  begins trails apart k t at there = begins_by trails apart k t at t.made refl there

  pub begun_sent : (trails : List Trail) → AreApart trails → (begun trails).world.sent ≡ arrived
  begun_sent trails apart =
      (makings_made trails begin apart nothing_below).sent

  -- what arrived from outside changes no node
  same_nodes : (name : NodeId) → node_in begin name ≡ node_in (start_system count) name
  same_nodes node.Coordinator = refl
  same_nodes (node.Partition n) = refl
  same_nodes (node.Client n) = refl

  -- a node of no trace is as in the beginning
  pub begun_others : (trails : List Trail) → AreApart trails → (name : NodeId)
      → IsUntraced trails name → node_in (begun trails) name ≡ node_in (start_system count) name
  begun_others trails apart name none =
      (makings_made trails begin apart nothing_below).others name
      (λ c is same.
      let t = trail_of trails c (order_only (clients_of trails) c is) in
      none t.place t.trail t.at (same ∙ sym (ap named t.made)))
      ∙ same_nodes name
