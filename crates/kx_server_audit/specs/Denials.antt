-- Where and why an audit says no.
use Rattle.std.specs.Prelude.{◌≡◌, ◌≢◌, ℕ, Bool, IsTrue, List, [], None, Option, Some, slice_get}
use Rattle.kx_log.specs.Store.{StoreState}
use Rattle.kx_machine.specs.Meaning.{NodeState}
use Rattle.kx_machines.specs.Brokers.{broker_stands}
use Rattle.kx_machines.specs.declared.broker.BrokerMachine.{BrokerMachine}
use Rattle.kx_server_audit.specs.Contents.{CanBeLog, CanBegin, CanLack, Left}
use Rattle.kx_server_audit.specs.Logs.{HasWhole, IsUsedUp, LogIs}
use Rattle.kx_server_audit.specs.declared.auditing.Ending.{Ending}
use Rattle.kx_server_audit.specs.declared.auditing.Ending.TheVariants as ending
use Rattle.kx_server_audit.specs.declared.denial.Denial.{Denial}
use Rattle.kx_server_audit.specs.declared.denial.Denial.TheVariants as denial
use Rattle.kx_server_audit.specs.declared.denial.Stop.{Stop}
use Rattle.kx_server_audit.specs.declared.denial.Stop.TheVariants as stop
use Rattle.kx_server_audit.specs.declared.file.AuditFile.TheVariants as file
use Rattle.kx_server_audit.specs.declared.findings.Findings.{Findings}
use Rattle.kx_trace.specs.declared.node.TracedNode.{TracedNode}
use Rattle.kx_trace_audit.specs.Faults.{refusal_number}
use Rattle.kx_trace_audit.specs.declared.refusal.TraceRefusal.TheVariants as refusal
use Rattle.kx_trace_audit.specs.declared.servers.TraceOf.{TraceOf}
use Rattle.kx_trace_files.specs.Beginning.{begun_text}
use Rattle.kx_trace_files.specs.declared.reading.OpenedOn.{OpenedOn}

abbrev pub denial_number : Denial → ℕ
denial_number (denial.Item node item why) = refusal_number why
denial_number (denial.OtherNode node) = refusal_number refusal.DuplicateNode
denial_number (denial.OtherLog node) = refusal_number refusal.Log

-- what holds if an audit is stopped by a no
abbrev pub IfNo : Stop → (Denial → Type 0) → Type 0
IfNo (stop.No d) P = P d
IfNo (stop.Fault why) P = Unit {0}

-- a no is found after the rest, and with a fault nothing is found
abbrev pub IsStopped : Stop → Findings → Findings → Type 0
IsStopped (stop.No d) found f = f ≡ record found { denial = Some d }
IsStopped (stop.Fault why) found f = ⊥

-- a no names the item that was refused, and the node of its trace
abbrev pub IsItemOf : List TraceOf → Ending → Denial → Type 0
IsItemOf of (ending.Refused r) (denial.Item node item why) =
    (t : TraceOf) × (slice_get of r.trace ≡ Some t) × (node ≡ t.node) × (item ≡ r.item)
    × (why ≡ r.why)
IsItemOf of e d = ⊥

------ before the audit

-- the trace in the file of this node names another one
pub record IsOtherNode (left : Left) (node : TracedNode) : Type 0 where
  pub other : TracedNode
  pub opened : Option OpenedOn
  pub rest : Option (List ℕ)
  pub file_is : CanBegin (left (file.Trace node)) (begun_text other opened) rest
  pub is_other : other ≢ node

-- the node's log can't be one to which a trace of it leads: it has no trace, and the log isn't empty;
-- or the log is damaged
pub data IsBadLog (left : Left) (node : TracedNode) : Type 0 where
  Untraced : (bytes : List ℕ) → CanLack (left (file.Trace node))
      → CanBeLog (left (file.Log node)) bytes → bytes ≢ [] → IsBadLog left node
  Damaged : (bytes : List ℕ) → CanBeLog (left (file.Log node)) bytes
      → HasWhole node bytes None → IsBadLog left node

-- before the audit a trace is of another node than its file, or a log can't be that of its node, if
-- logs are compared
abbrev pub IsNoAtOnce : Left → Bool → Denial → Type 0
IsNoAtOnce left compares (denial.OtherLog node) = IsTrue compares × IsBadLog left node
IsNoAtOnce left compares (denial.OtherNode node) = IsOtherNode left node
IsNoAtOnce left compares (denial.Item node item why) = ⊥

------ logs

-- these bytes aren't the log of a node for which the machine stands, unless a restart of it fails
abbrev pub IsOther : List ℕ → BrokerMachine StoreState → Type 0
IsOther bytes machine =
    (state : NodeState) → broker_stands state machine → LogIs state bytes → IsUsedUp state

-- the log of this node, which is that of the machine, has other bytes
abbrev pub IsOtherLogOf : Left → BrokerMachine StoreState → TracedNode → Denial → Type 0
IsOtherLogOf left machine node d = (d ≡ denial.OtherLog node) × ((bytes : List ℕ)
    × CanBeLog (left (file.Log node)) bytes × IsOther bytes machine)

-- the log of one of these machines' nodes, which is that of the trace of the same number, has other
-- bytes
pub record IsOtherLog (left : Left) (machines : List (BrokerMachine StoreState))
    (of : List TraceOf) (node : TracedNode) : Type 0 where
  pub trace : ℕ
  pub one : TraceOf
  pub machine : BrokerMachine StoreState
  pub bytes : List ℕ
  pub one_there : slice_get of trace ≡ Some one
  pub machine_there : slice_get machines trace ≡ Some machine
  pub node_is : node ≡ one.node
  pub bytes_are : CanBeLog (left (file.Log node)) bytes
  pub other : IsOther bytes machine

abbrev pub IsLogDenied : Left → List (BrokerMachine StoreState) → List TraceOf → Denial → Type 0
IsLogDenied left machines of (denial.OtherLog node) = IsOtherLog left machines of node
IsLogDenied left machines of d = ⊥
