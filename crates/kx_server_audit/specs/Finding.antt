-- What a server left, as an audit finds it.
use Rattle.std.specs.Prelude.{◌≡◌, ◌⊎◌, ◌++◌, ◌∷◌, [], ℕ, All, IsTrue, Bool, false, List, Option}
use Rattle.std.specs.Prelude.{Some, length, map, slice_get}
use Rattle.std.specs.List.{range_with_len}
use Rattle.kx_message.specs.Ranges.{data_partitions, offsets_partition}
use Rattle.kx_server_audit.specs.Contents.{CanBeLog, CanBegin, CanLack, Left}
use Rattle.kx_server_audit.specs.Logs.{HasWhole}
use Rattle.kx_server_audit.specs.Reads.{Origin, head_of, traces_of}
use Rattle.kx_server_audit.specs.declared.file.AuditFile.TheVariants as file
use Rattle.kx_server_audit.specs.declared.sources.Source.{Source}
use Rattle.kx_trace.specs.declared.node.TracedNode.{TracedNode}
use Rattle.kx_trace.specs.declared.node.TracedNode.TheVariants.{Coordinator, Partition}
use Rattle.kx_trace_audit.specs.declared.servers.TraceOf.{TraceOf}
use Rattle.kx_trace_files.specs.Beginning.{begun_text}

-- the coordinator, each data partition, and the offsets partition
abbrev pub all_nodes : List TracedNode
all_nodes =
    Coordinator ∷ map Partition (range_with_len 0 data_partitions)
    ++ Partition offsets_partition ∷ []

-- each trace has its source, of which nothing was read after the head
pub record AreBegun {I : Type 0} (of : List TraceOf) (sources : List (Source I)) : Type 0 where
  pub count : length of ≡ length sources
  pub unread : All (λ s. s.is_ended ≡ false) sources

-- one of these traces is of this node
pub record HasTrace (of : List TraceOf) (node : TracedNode) : Type 0 where
  pub number : ℕ
  pub trace : TraceOf
  pub there : slice_get of number ≡ Some trace
  pub node_is : trace.node ≡ node

------ the traces

-- these traces are all that there are of these nodes: each is that in the file of its node, whose
-- front is its head, and a node that has none of them has no such file
pub record AreTraces {I : Type 0} (remaining : I → Option (List ℕ)) (left : Left)
    (nodes : List TracedNode) (of : List TraceOf) (sources : List (Source I)) : Type 0 where
  pub begun : AreBegun of sources
  pub each : (j : ℕ) (node : TracedNode) → slice_get nodes j ≡ Some node
      → HasTrace of node ⊎ CanLack (left (file.Trace node))
  pub heads : (k : ℕ) (t : TraceOf) (s : Source I) → slice_get of k ≡ Some t
      → slice_get sources k ≡ Some s → CanBegin (left (file.Trace t.node))
      (begun_text t.node t.opened) (remaining s.reader)

------ the logs

-- it is noted how many bytes of whole entries the log of the trace's node has
pub record IsNoted (left : Left) (t : TraceOf) : Type 0 where
  pub len : ℕ
  pub len_is : t.log_len ≡ Some len
  pub bytes : List ℕ
  pub bytes_are : CanBeLog (left (file.Log t.node)) bytes
  pub whole : HasWhole t.node bytes (Some len)

-- the node's log is of this length, which is noted in its trace; or it has no trace, and no log
pub data IsSeen (left : Left) (of : List TraceOf) (node : TracedNode) : Type 0 where
  Traced : (is : HasTrace of node) → IsNoted left is.trace → IsSeen left of node
  Untraced : (HasTrace of node → ⊥) → CanBeLog (left (file.Log node)) [] → IsSeen left of node

-- the logs of these nodes are
abbrev pub AreSeen : Left → List TraceOf → List TracedNode → Type 0
AreSeen left of nodes = (j : ℕ) (node : TracedNode) → slice_get nodes j ≡ Some node
    → IsSeen left of node

-- these traces, with their sources, are what an audit finds
pub record IsFound {I : Type 0} (remaining : I → Option (List ℕ)) (left : Left) (compares : Bool)
    (of : List TraceOf) (sources : List (Source I)) : Type 0 where
  pub traces : AreTraces remaining left all_nodes of sources
  pub logs : IsTrue compares → AreSeen left of all_nodes

------ all that a server left

-- these are all traces that the server left, each read from the file of its node; and if logs are
-- compared, each log has a trace beside it, in which its length is noted, or is empty
pub record AreAllLeft (left : Left) (compares : Bool) (origins : List Origin) : Type 0 where
  pub each : (j : ℕ) (node : TracedNode) → slice_get all_nodes j ≡ Some node
      → HasTrace (traces_of origins) node ⊎ CanLack (left (file.Trace node))
  pub files : (k : ℕ) (o : Origin) → slice_get origins k ≡ Some o
      → CanBegin (left (file.Trace o.trace.node)) (head_of o) o.rest
  pub logs : IsTrue compares → AreSeen left (traces_of origins) all_nodes
