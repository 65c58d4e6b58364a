-- The nodes with which traces begin, and the steps that may have led to them.
use Rattle.std.specs.Prelude.{◌≡◌, ◌++◌, ℕ, All, IsSome, List, [], ◌∷◌, Option, None, Some, map}
use Rattle.std.specs.Prelude.{slice_get}
use Rattle.kx_audit.specs.Joined.{GoesOn, Passed, TakesInOrder, at_node, led_to, steps_in}
use Rattle.kx_audit.specs.Making.{NodeMaking, node_of}
use Rattle.kx_audit.specs.Schedule.{IsStep}
use Rattle.kx_follow.specs.Following.{Followed, arrived_in}
use Rattle.kx_log.specs.Log.{log_in}
use Rattle.kx_machine.specs.Meaning.{AtCoordinator, AtPartition, NodeState}
use Rattle.kx_model.specs.Coordinator.{TxnEntry}
use Rattle.kx_model.specs.Disk.{made}
use Rattle.kx_model.specs.Markers.{reopen}
use Rattle.kx_outside.specs.Requests.{IsRequest}
use Rattle.kx_trace.specs.declared.node.TracedNode.{TracedNode}
use Rattle.kx_trace.specs.declared.node.TracedNode.TheVariants as traced
use Rattle.kx_trace_audit.specs.Servers.{making_of, name_of}
use Rattle.kx_trace_audit.specs.declared.refusal.TraceRefusal.{TraceRefusal}
use Rattle.kx_trace_audit.specs.declared.refusal.TraceRefusal.TheVariants as refusal
use Rattle.kx_trace_audit.specs.declared.servers.TraceOf.{TraceOf}
use Rattle.kx_trace_files.specs.Beginning.{begun_text}
use Rattle.kx_trace_files.specs.declared.reading.OpenedOn.{OpenedOn}
use Rattle.kx_txnlog.specs.Reading.{notes_in}

-- a coordinator whose log had these entries when it was opened at this time, and has now the entry
-- of its opening too
pub record IsOpenedCoordinator (time : ℕ) (log : List TxnEntry) (state : NodeState) : Type 0 where
  pub entry : TxnEntry
  pub next : reopen log ≡ Some entry
  pub state_is : state ≡ AtCoordinator (record {
    disk = made (log ++ entry ∷ []);
    clock = time;
    answered = [];
  })

-- the node was opened at this time, on a log of these bytes
abbrev pub IsOpenedOn : TracedNode → ℕ → List ℕ → NodeState → Type 0
IsOpenedOn traced.Coordinator time bytes state =
    IsOpenedCoordinator time (notes_in bytes).notes state
IsOpenedOn (traced.Partition number) time bytes state =
    state ≡ AtPartition number (record { disk = made (log_in bytes).batches; parked = [] })

-- the node when its trace was begun: as it was made, with an empty log, or as it was opened
abbrev pub BeginsAt : TracedNode → Option OpenedOn → NodeState → Type 0
BeginsAt node None start = start ≡ node_of (making_of node)
BeginsAt node (Some opened) start = IsOpenedOn node opened.time opened.log.items start

-- the nodes of these traces when those were begun, in order
abbrev pub AreStarts : List TraceOf → List NodeState → Type 0
AreStarts [] [] = Unit {0}
AreStarts (t ∷ of) (start ∷ starts) = BeginsAt t.node t.opened start × AreStarts of starts
AreStarts [] (start ∷ starts) = ⊥
AreStarts (t ∷ of) [] = ⊥

-- what the traces begin with
abbrev pub heads_of : List TraceOf → List (List ℕ)
heads_of of = map (λ t. begun_text t.node t.opened) of

------ the steps before those that the traces tell

-- the step is of the node of one of these traces
pub record IsOfTrace (of : List TraceOf) (p : Passed) : Type 0 where
  pub number : ℕ
  pub trace : TraceOf
  pub there : slice_get of number ≡ Some trace
  pub name_is : p.node ≡ name_of trace.node

-- these steps of the traces' nodes led from the nodes as they were made to those at which the traces
-- begin, and each took in a request of a client or what one before it sent. If all were as they were
-- made, no steps at all may have come before
pub record CameBefore (before : List Passed) (of : List TraceOf) (starts : List NodeState)
    : Type 0 where
  pub goes : (k : ℕ) (t : TraceOf) → slice_get of k ≡ Some t
      → GoesOn (node_of (making_of t.node)) (at_node (name_of t.node) before)
  pub leads : (k : ℕ) (t : TraceOf) (start : NodeState) → slice_get of k ≡ Some t
      → slice_get starts k ≡ Some start
      → led_to (node_of (making_of t.node)) (at_node (name_of t.node) before) ≡ start
  pub no_others : (j : ℕ) (p : Passed) → slice_get before j ≡ Some p → IsOfTrace of p
  pub in_order : TakesInOrder (arrived_in before) before
  pub requests : All IsRequest (arrived_in before)
  pub fits : All IsStep (steps_in before)

-- all of the nodes were as they were made when their traces were begun
abbrev pub AreAsMade : List TraceOf → List NodeState → Type 0
AreAsMade of starts = (k : ℕ) (t : TraceOf) (start : NodeState) → slice_get of k ≡ Some t
    → slice_get starts k ≡ Some start → node_of (making_of t.node) ≡ start

------ the nodes, before they make a step again

-- the machine stands for the node when the trace was begun
pub record StandsAsBegun {M : Type 0} (stands : NodeState → M → Type 0) (t : TraceOf) (machine : M)
    : Type 0 where
  pub start : NodeState
  pub begins : BeginsAt t.node t.opened start
  pub stands_so : stands start machine

-- why it isn't made: the trace begins with a log, which can't be opened
abbrev pub BeginRefused : TraceOf → TraceRefusal → Type 0
BeginRefused t refusal.Bytes = IsSome t.opened
BeginRefused t refusal.Memory = Unit {0}
BeginRefused t other = ⊥

-- no two of these traces are of one node
abbrev pub AreApart : List TraceOf → Type 0
AreApart of = (j k : ℕ) (t u : TraceOf) → slice_get of j ≡ Some t → slice_get of k ≡ Some u
    → t.node ≡ u.node → j ≡ k

-- why the audit of these traces isn't begun
abbrev pub NotBegun : List TraceOf → TraceRefusal → Type 0
NotBegun of refusal.DuplicateNode = AreApart of → ⊥
NotBegun of refusal.Bytes = (k : ℕ) × (t : TraceOf) × (slice_get of k ≡ Some t) × IsSome t.opened
NotBegun of refusal.Memory = Unit {0}
NotBegun of other = ⊥

module _ {B M : Type 0} (making : B → NodeMaking) (stands : NodeState → M → Type 0) where
  pub record IsNodeOf (t : TraceOf) (start : NodeState) (n : Followed B M) : Type 0 where
    pub making_is : making n.made ≡ making_of t.node
    pub begins : BeginsAt t.node t.opened start
    pub stands_so : stands start n.machine

  -- the nodes are those of the traces, in order, each as it was in the beginning
  abbrev pub AreNodesOf : List TraceOf → List NodeState → List (Followed B M) → Type 0
  AreNodesOf [] [] [] = Unit {0}
  AreNodesOf (t ∷ of) (start ∷ starts) (n ∷ nodes) =
      IsNodeOf t start n × AreNodesOf of starts nodes
  AreNodesOf of starts nodes = ⊥
