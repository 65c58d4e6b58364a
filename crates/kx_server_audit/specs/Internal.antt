-- What this crate's own functions ensure; no contract of a public call names it.
use Rattle.std.specs.Prelude.{◌≡◌, ◌≢◌, ◌⊎◌, ◌++◌, ◌∷◌, [], ℕ, false, List, None, Option, Some}
use Rattle.std.specs.Prelude.{slice_get, slice_set}
use Rattle.std.specs.Io.KnownBytes.{Consumes}
use Rattle.kx_log.specs.Store.{StoreState}
use Rattle.kx_machine.specs.Meaning.{NodeState}
use Rattle.kx_machines.specs.Brokers.{broker_stands}
use Rattle.kx_machines.specs.declared.broker.BrokerMachine.{BrokerMachine}
use Rattle.kx_server_audit.specs.Contents.{CanBeLog, CanBegin, CanLack, Left}
use Rattle.kx_server_audit.specs.Finding.{HasTrace}
use Rattle.kx_server_audit.specs.Logs.{HasWhole}
use Rattle.kx_server_audit.specs.declared.denial.Denial.{Denial}
use Rattle.kx_server_audit.specs.declared.denial.Denial.TheVariants.{OtherLog, OtherNode}
use Rattle.kx_server_audit.specs.declared.file.AuditFile.TheVariants as file
use Rattle.kx_server_audit.specs.declared.sources.Source.{Source}
use Rattle.kx_trace.specs.declared.node.TracedNode.{TracedNode}
use Rattle.kx_trace_audit.specs.Beginnings.{IsOpenedOn}
use Rattle.kx_trace_audit.specs.declared.refusal.TraceRefusal.{TraceRefusal}
use Rattle.kx_trace_audit.specs.declared.refusal.TraceRefusal.TheVariants as refusal
use Rattle.kx_trace_audit.specs.declared.servers.TraceOf.{TraceOf}
use Rattle.kx_trace_files.specs.Beginning.{begun_text}
use Rattle.kx_trace_files.specs.declared.reading.OpenedOn.{OpenedOn}

------ nodes that are opened

-- the machine stands for the node that was opened at this time, on a log of these bytes
pub record IsOpenedSo (node : TracedNode) (time : ℕ) (bytes : List ℕ)
    (machine : BrokerMachine StoreState) : Type 0 where
  pub start : NodeState
  pub opened : IsOpenedOn node time bytes start
  pub stands_so : broker_stands start machine

-- why it isn't opened
abbrev pub OpenRefused : TraceRefusal → Type 0
OpenRefused refusal.Bytes = Unit {0}
OpenRefused refusal.Memory = Unit {0}
OpenRefused other = ⊥

------ traces that are found

-- there is one trace more, whose source reads on with this reader
pub record HasOneMore {I : Type 0} (t : TraceOf) (reader : I) (of : List TraceOf)
    (sources : List (Source I)) (new_of : List TraceOf) (new_sources : List (Source I))
    : Type 0 where
  pub source : Source I
  pub of_are : new_of ≡ of ++ t ∷ []
  pub sources_are : new_sources ≡ sources ++ source ∷ []
  pub reader_is : source.reader ≡ reader
  pub unread : source.is_ended ≡ false

-- it is the one of this node, whose head the reader gave
pub record AddsTrace {I : Type 0} (remaining : I → Option (List ℕ)) (node : TracedNode)
    (reader : I) (of : List TraceOf) (sources : List (Source I)) (new_of : List TraceOf)
    (new_sources : List (Source I)) : Type 0 where
  pub trace : TraceOf
  pub to : I
  pub node_is : trace.node ≡ node
  pub consumed : Consumes (remaining reader) (remaining to) (begun_text trace.node trace.opened)
  pub more : HasOneMore trace to of sources new_of new_sources

-- the reader gave the head of another node's trace
pub record IsOtherHead {I : Type 0} (remaining : I → Option (List ℕ)) (node : TracedNode)
    (reader : I) (d : Denial) : Type 0 where
  pub denial_is : d ≡ OtherNode node
  pub other : TracedNode
  pub opened : Option OpenedOn
  pub rest : Option (List ℕ)
  pub consumed : Consumes (remaining reader) rest (begun_text other opened)
  pub is_other : other ≢ node

-- the trace of this node is found, or there is none
pub data FindsTrace {I : Type 0} (remaining : I → Option (List ℕ)) (left : Left)
    (node : TracedNode) (of : List TraceOf) (sources : List (Source I)) (new_of : List TraceOf)
    (new_sources : List (Source I)) : Type 0 where
  Found : (t : TraceOf) (reader : I) → t.node ≡ node
      → CanBegin (left (file.Trace node)) (begun_text t.node t.opened) (remaining reader)
      → HasOneMore t reader of sources new_of new_sources
      → FindsTrace remaining left node of sources new_of new_sources
  NotFound : CanLack (left (file.Trace node)) → new_of ≡ of → new_sources ≡ sources
      → FindsTrace remaining left node of sources new_of new_sources

------ lengths of logs

-- a trace as its head says it
abbrev pub head_in : TraceOf → TracedNode × Option OpenedOn
head_in t = (t.node, t.opened)

-- the length of the node's log, which is these bytes, is noted in its trace; or it has none, and the
-- log is empty
pub data Notes (node : TracedNode) (bytes : List ℕ) (old new : List TraceOf) : Type 0 where
  NotedAt : (k : ℕ) (t : TraceOf) (len : ℕ) → slice_get old k ≡ Some t → t.node ≡ node
      → HasWhole node bytes (Some len) → new ≡ slice_set old k (record t { log_len = Some len })
      → Notes node bytes old new
  NoTrace : (HasTrace old node → ⊥) → bytes ≡ [] → new ≡ old → Notes node bytes old new

-- these bytes are no log of the node: it has no trace, and they are some; or they are damaged
abbrev pub AreBad : List TraceOf → TracedNode → List ℕ → Type 0
AreBad of node bytes = ((HasTrace of node → ⊥) × (bytes ≢ [])) ⊎ HasWhole node bytes None

-- the log of one of these nodes is bad
pub record HasBadLog (left : Left) (nodes : List TracedNode) (of : List TraceOf) (d : Denial)
    : Type 0 where
  pub number : ℕ
  pub node : TracedNode
  pub there : slice_get nodes number ≡ Some node
  pub denial_is : d ≡ OtherLog node
  pub bytes : List ℕ
  pub bytes_are : CanBeLog (left (file.Log node)) bytes
  pub bad : AreBad of node bytes
