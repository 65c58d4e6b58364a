-- What an audit of a server finds, and what it prints.
use Rattle.std.specs.Prelude.{◌≡◌, ℕ, Bool, IsTrue, List, [], ◌∷◌, Option, Some, None, map}
use Rattle.std.specs.Prelude.{true, false, Result, Ok, Err, slice_get}
use Rattle.std.specs.Io.KnownBytes.{Appends}
use Rattle.kx_log.specs.Store.{StoreState}
use Rattle.kx_machine.specs.Meaning.{NodeState}
use Rattle.kx_machines.specs.Brokers.{broker_stands}
use Rattle.kx_machines.specs.declared.broker.BrokerMachine.{BrokerMachine}
use Rattle.kx_server_audit.specs.Contents.{CanBeLog, Left}
use Rattle.kx_server_audit.specs.Counting.{decided_in}
use Rattle.kx_server_audit.specs.Denials.{IsNoAtOnce, IsOther}
use Rattle.kx_server_audit.specs.Driving.{SaysNo, SaysYes}
use Rattle.kx_server_audit.specs.Finding.{AreAllLeft}
use Rattle.kx_server_audit.specs.Lines.{findings_text}
use Rattle.kx_server_audit.specs.Logs.{LogIs}
use Rattle.kx_server_audit.specs.Reads.{IsOfNode, Start, traces_of}
use Rattle.kx_server_audit.specs.declared.auditing.ServerAudit.{ServerAudit}
use Rattle.kx_server_audit.specs.declared.counts.Counts.{Counts}
use Rattle.kx_server_audit.specs.declared.denial.Denial.{Denial}
use Rattle.kx_server_audit.specs.declared.denial.Denial.TheVariants as denial
use Rattle.kx_server_audit.specs.declared.fault.AuditFault.{AuditFault}
use Rattle.kx_server_audit.specs.declared.file.AuditFile.TheVariants as file
use Rattle.kx_server_audit.specs.declared.findings.Findings.{Findings}
use Rattle.kx_trace.specs.declared.node.TracedNode.{TracedNode}
use Rattle.kx_trace_audit.specs.declared.refusal.TraceRefusal.{TraceRefusal}
use Rattle.kx_trace_audit.specs.declared.servers.TraceOf.{TraceOf}

-- the machines of the nodes, in the order of their traces
abbrev pub machines_in : ServerAudit → List (BrokerMachine StoreState)
machines_in a = map (λ n. n.machine) a.audit.following.nodes

-- the log of this node is that of each node for which the machine stands
pub record HasLog (left : Left) (node : TracedNode) (m : BrokerMachine StoreState) : Type 0 where
  pub bytes : List ℕ
  pub bytes_are : CanBeLog (left (file.Log node)) bytes
  pub is_log : (state : NodeState) → broker_stands state m → LogIs state bytes

-- the logs of these traces' nodes are those of the machines
abbrev pub HaveLogs : Left → List TraceOf → List (BrokerMachine StoreState) → Type 0
HaveLogs left of [] = Unit {0}
HaveLogs left [] (m ∷ machines) = ⊥
HaveLogs left (t ∷ of) (m ∷ machines) = HasLog left t.node m × HaveLogs left of machines

-- all traces that the server left were audited to their ends, and the audit said yes; what was counted
-- is counted in its steps, and the logs are those to which the traces lead, if they were compared
pub record IsYesOf (left : Left) (compares : Bool) (f : Findings) : Type 0 where
  pub start : Start
  pub audit : ServerAudit
  pub all : AreAllLeft left compares start.origins
  pub says : SaysYes start audit
  pub counts_are : f.counts ≡ audit.counts
  pub transactions_are : f.transactions ≡ decided_in (machines_in audit)
  pub logs : IsTrue compares → HaveLogs left (traces_of start.origins) (machines_in audit)

------ a no

-- the audit of all traces that the server left says no at this item of the node's trace, after these
-- steps
pub record IsNoAt (left : Left) (compares : Bool) (counts : Counts) (transactions : ℕ)
    (node : TracedNode) (item : ℕ) (why : TraceRefusal) : Type 0 where
  pub start : Start
  pub audit : ServerAudit
  pub all : AreAllLeft left compares start.origins
  pub trace : ℕ
  pub of_node : IsOfNode start.origins trace node
  pub says : SaysNo start audit (record { trace = trace; item = item; why = why })
  pub counts_are : counts ≡ audit.counts
  pub transactions_are : transactions ≡ decided_in (machines_in audit)

-- the audit of all traces that the server left says yes, but the log to which the node's trace leads
-- isn't what was read
pub record LeadsElsewhere (left : Left) (compares : Bool) (counts : Counts) (transactions : ℕ)
    (node : TracedNode) : Type 0 where
  pub start : Start
  pub audit : ServerAudit
  pub all : AreAllLeft left compares start.origins
  pub says : SaysYes start audit
  pub counts_are : counts ≡ audit.counts
  pub transactions_are : transactions ≡ decided_in (machines_in audit)
  pub trace : ℕ
  pub of_node : IsOfNode start.origins trace node
  pub machine : BrokerMachine StoreState
  pub there : slice_get (machines_in audit) trace ≡ Some machine
  pub bytes : List ℕ
  pub bytes_are : CanBeLog (left (file.Log node)) bytes
  pub other : IsOther bytes machine

-- nothing was counted
pub record AreNone (counts : Counts) (transactions : ℕ) : Type 0 where
  pub steps : counts.steps ≡ 0
  pub messages : counts.messages ≡ 0
  pub transactions_are : transactions ≡ 0

-- why an audit of a server says no
pub data SaysNoOf (left : Left) (compares : Bool) (counts : Counts) (transactions : ℕ)
    : Denial → Type 0 where
  AtOnce : (d : Denial) → IsNoAtOnce left compares d → AreNone counts transactions
      → SaysNoOf left compares counts transactions d
  AtItem : (node : TracedNode) (item : ℕ) (why : TraceRefusal)
      → IsNoAt left compares counts transactions node item why
      → SaysNoOf left compares counts transactions (denial.Item node item why)
  AtLog : (node : TracedNode) → IsTrue compares
      → LeadsElsewhere left compares counts transactions node
      → SaysNoOf left compares counts transactions (denial.OtherLog node)

------ what is found and told

abbrev pub IsFoundBy : Left → Bool → Findings → Option Denial → Type 0
IsFoundBy left compares f None = IsYesOf left compares f
IsFoundBy left compares f (Some d) = SaysNoOf left compares f.counts f.transactions d

abbrev pub AreFindings : Left → Bool → Findings → Type 0
AreFindings left compares f = IsFoundBy left compares f f.denial

-- what is printed of an audit of what a server left
pub data Tells (left : Left) (compares : Bool) (old new : Option (List ℕ))
    : Result Bool AuditFault → Type 0 where
  TellsYes : (f : Findings) (words : List ℕ) → f.denial ≡ None → IsYesOf left compares f
      → Appends old new (findings_text f words) → Tells left compares old new (Ok true)
  TellsNo : (f : Findings) (words : List ℕ) (d : Denial) → f.denial ≡ Some d
      → SaysNoOf left compares f.counts f.transactions d
      → Appends old new (findings_text f words) → Tells left compares old new (Ok false)
  Fails : (why : AuditFault) → Tells left compares old new (Err why)
