-- Logs that are compared, and what an audit then finds and tells.
use Rattle.std.proofs.Common.{◌≡◌, ◌∷◌, ℕ, zero, suc, Bool, IfErr, IsTrue, List, []}
use Rattle.std.proofs.Common.{Option, Result, Some, drop, false, length, refl, slice_get, subst, sym}
use Rattle.std.proofs.lemmas.Bool.{false≢true}
use Rattle.std.proofs.lemmas.Result.{IfErr-weaker}
use Rattle.kx_log.specs.Store.{StoreState}
use Rattle.kx_machines.specs.declared.broker.BrokerMachine.{BrokerMachine}
use Rattle.kx_machine.specs.Meaning.{NodeState}
use Rattle.kx_server_audit.specs.Contents.{Left}
use Rattle.kx_server_audit.specs.Counting.{decided_in}
use Rattle.kx_server_audit.specs.Denials.{IfNo, IsItemOf, IsLogDenied, IsNoAtOnce, IsOtherLogOf}
use Rattle.kx_server_audit.specs.Denials.{IsStopped}
use Rattle.kx_server_audit.specs.Driving.{EndsBy, SaysNo, SaysYes}
use Rattle.kx_server_audit.specs.Finding.{IsFound}
use Rattle.kx_server_audit.specs.Reads.{IsOfNode, Start, origins_of}
use Rattle.kx_server_audit.specs.Telling.{AreFindings, AreNone, AtItem, AtLog, AtOnce, HasLog}
use Rattle.kx_server_audit.specs.Telling.{HaveLogs, IsFoundBy, SaysNoOf, machines_in}
use Rattle.kx_server_audit.specs.declared.auditing.Ending.{Ending}
use Rattle.kx_server_audit.specs.declared.auditing.Ending.TheVariants as ending
use Rattle.kx_server_audit.specs.declared.auditing.ServerAudit.{ServerAudit}
use Rattle.kx_server_audit.specs.declared.counts.Counts.{Counts}
use Rattle.kx_server_audit.specs.declared.denial.Denial.{Denial}
use Rattle.kx_server_audit.specs.declared.denial.Denial.TheVariants as denial
use Rattle.kx_server_audit.specs.declared.denial.Stop.{Stop}
use Rattle.kx_server_audit.specs.declared.denial.Stop.TheVariants as stop
use Rattle.kx_server_audit.specs.declared.findings.Findings.{Findings}
use Rattle.kx_server_audit.specs.declared.sources.Source.{Source}
use Rattle.kx_server_audit.proofs.Finding.{are_all}
use Rattle.kx_server_audit.proofs.Reading.{of_node}
use Rattle.kx_trace_audit.specs.declared.refusal.TraceRefusal.{TraceRefusal}
use Rattle.kx_trace_audit.specs.declared.servers.TraceOf.{TraceOf}

-- no machine is left
pub logs_none : (left : Left) (of : List TraceOf) (ms : List (BrokerMachine StoreState)) → ms ≡ []
    → HaveLogs left of ms
logs_none left of [] e = tt
logs_none left of (m ∷ ms) e = absurd cc

-- the next machine's log was compared
pub logs_more : (left : Left) (of : List TraceOf) (m : BrokerMachine StoreState)
    (ms old : List (BrokerMachine StoreState)) → old ≡ m ∷ ms → HaveLogs left of (m ∷ [])
    → HaveLogs left (drop 1 of) ms → HaveLogs left of old
logs_more left [] m ms old e has all = absurd has
logs_more left (t ∷ of) m ms old e has all =
    subst (λ (l : List (BrokerMachine StoreState)). HaveLogs left (t ∷ of) l) (sym e) (has.0, all)

-- the first trace's log is that of the machine
pub logs_first : (left : Left) (of : List TraceOf) (t : TraceOf) (m : BrokerMachine StoreState)
    → slice_get of 0 ≡ Some t → HasLog left t.node m → HaveLogs left of (m ∷ [])
logs_first left [] t m there has = absurd cc
logs_first left (u ∷ of) t m there has =
    let same : u ≡ t = cc in
    (subst (λ (x : TraceOf). HasLog left x.node m) (sym same) has, tt)

------ a no

pub if_no : (s : Stop) (P Q : Denial → Type 0) → ((d : Denial) → P d → Q d) → IfNo s P → IfNo s Q
if_no (stop.No d) P Q so h = so d h
if_no (stop.Fault why) P Q so h = tt

pub if_err_no : {T : Type 0} (r : Result T Stop) (P Q : Denial → Type 0) → ((d : Denial) → P d → Q d)
    → IfErr r (λ s. IfNo s P) → IfErr r (λ s. IfNo s Q)
if_err_no r P Q so h = IfErr-weaker r (λ s. IfNo s P) (λ s. IfNo s Q) (λ s. if_no s P Q so) h

in_front : (m : BrokerMachine StoreState) (ms : List (BrokerMachine StoreState)) (k : ℕ)
    (x : BrokerMachine StoreState) → slice_get (m ∷ []) k ≡ Some x → slice_get (m ∷ ms) k ≡ Some x
in_front m ms zero x e = e
in_front m ms (suc k) x e = cc

-- the first machine's log is other bytes
pub first_denied : (left : Left) (m : BrokerMachine StoreState)
    (ms : List (BrokerMachine StoreState)) (of : List TraceOf) (d : Denial)
    → IsLogDenied left (m ∷ []) of d → IsLogDenied left (m ∷ ms) of d
first_denied left m ms of (denial.OtherLog node) h = record {
  trace = h.trace;
  one = h.one;
  machine = h.machine;
  bytes = h.bytes;
  one_there = h.one_there;
  machine_there = in_front m ms h.trace h.machine h.machine_there;
  node_is = h.node_is;
  bytes_are = h.bytes_are;
  other = h.other;
}
first_denied left m ms of (denial.OtherNode node) h = absurd h
first_denied left m ms of (denial.Item node item why) h = absurd h

-- that of a machine after the first
pub next_denied : (left : Left) (m : BrokerMachine StoreState)
    (ms : List (BrokerMachine StoreState)) (of rest : List TraceOf) (d : Denial)
    → ((k : ℕ) (t : TraceOf) → slice_get rest k ≡ Some t → slice_get of (suc k) ≡ Some t)
    → IsLogDenied left ms rest d → IsLogDenied left (m ∷ ms) of d
next_denied left m ms of rest (denial.OtherLog node) is_next h = record {
  trace = suc h.trace;
  one = h.one;
  machine = h.machine;
  bytes = h.bytes;
  one_there = is_next h.trace h.one h.one_there;
  machine_there = h.machine_there;
  node_is = h.node_is;
  bytes_are = h.bytes_are;
  other = h.other;
}
next_denied left m ms of rest (denial.OtherNode node) is_next h = absurd h
next_denied left m ms of rest (denial.Item node item why) is_next h = absurd h

pub after_first : (of : List TraceOf) (k : ℕ) (t : TraceOf) → slice_get (drop 1 of) k ≡ Some t
    → slice_get of (suc k) ≡ Some t
after_first [] k t e = e
after_first (x ∷ of) k t e = e

-- this node's log is other bytes
pub one_denied : (left : Left) (m : BrokerMachine StoreState) (t : TraceOf) (of : List TraceOf)
    (d : Denial) → slice_get of 0 ≡ Some t → IsOtherLogOf left m t.node d
    → IsLogDenied left (m ∷ []) of d
one_denied left m t of d there h = subst (IsLogDenied left (m ∷ []) of) (sym h.0) (record {
  trace = 0;
  one = t;
  machine = m;
  bytes = h.1.0;
  one_there = there;
  machine_there = refl;
  node_is = refl;
  bytes_are = h.1.1;
  other = h.1.2;
})

-- a no before the audit, whether logs are compared or not
pub no_sooner : (left : Left) (compares : Bool) (d : Denial) → IsNoAtOnce left false d
    → IsNoAtOnce left compares d
no_sooner left compares (denial.OtherLog node) h = absurd (false≢true h.0)
no_sooner left compares (denial.OtherNode node) h = h
no_sooner left compares (denial.Item node item why) h = absurd h

------ what is found

module _ {I : Type 0} (remaining : I → Option (List ℕ)) (left : Left) (compares : Bool)
    (of : List TraceOf) (sources : List (Source I))
    (found : IsFound remaining left compares of sources) (starts : List NodeState)
    (a : ServerAudit) (counts : Counts) (transactions : ℕ) (counts_are : counts ≡ a.counts)
    (transactions_are : transactions ≡ decided_in (machines_in a)) where
  abbrev start : Start
  start = record { origins = origins_of remaining of sources; starts = starts }

  abbrev count : length of ≡ length sources
  count = found.traces.begun.count

  -- the audit of traces says no
  pub item_no : (e : Ending) (d : Denial) → EndsBy start a e → IsItemOf of e d
      → SaysNoOf left compares counts transactions d
  item_no (ending.Refused r) (denial.Item node item why) ends is =
      AtItem node item why (record {
        start = start;
        audit = a;
        all = are_all remaining left compares of sources found;
        trace = r.trace;
        of_node = subst (IsOfNode start.origins r.trace) (sym is.2)
            (of_node remaining of sources r.trace is.0 count is.1);
        says = subst (λ (w : TraceRefusal). SaysNo start a
            (record { trace = r.trace; item = item; why = w })) (sym is.4)
            (subst (λ (n : ℕ). SaysNo start a
            (record { trace = r.trace; item = n; why = r.why })) (sym is.3) ends);
        counts_are = counts_are;
        transactions_are = transactions_are;
      })
  item_no (ending.Refused r) (denial.OtherNode node) ends is = absurd is
  item_no (ending.Refused r) (denial.OtherLog node) ends is = absurd is
  item_no (ending.Read trace) d ends is = absurd is
  item_no ending.Memory d ends is = absurd is

  -- a log isn't the one to which its trace leads
  pub log_no : (d : Denial) → SaysYes start a
      → IsTrue compares × IsLogDenied left (machines_in a) of d
      → SaysNoOf left compares counts transactions d
  log_no (denial.OtherLog node) says h =
      AtLog node h.0 (record {
        start = start;
        audit = a;
        all = are_all remaining left compares of sources found;
        says = says;
        counts_are = counts_are;
        transactions_are = transactions_are;
        trace = h.1.trace;
        of_node = subst (IsOfNode start.origins h.1.trace) (sym h.1.node_is)
            (of_node remaining of sources h.1.trace h.1.one count h.1.one_there);
        machine = h.1.machine;
        there = h.1.machine_there;
        bytes = h.1.bytes;
        bytes_are = h.1.bytes_are;
        other = h.1.other;
      })
  log_no (denial.OtherNode node) says h = absurd h.1
  log_no (denial.Item node item why) says h = absurd h.1

-- what is found if an audit is stopped
pub stopped_finds : (left : Left) (compares : Bool) (s : Stop) (found f : Findings)
    → IfNo s (SaysNoOf left compares found.counts found.transactions) → IsStopped s found f
    → AreFindings left compares f
stopped_finds left compares (stop.No d) found f says e =
    subst (AreFindings left compares) (sym e) says
stopped_finds left compares (stop.Fault why) found f says e = absurd e

-- what is found by a no before the audit
pub found_at_once : (left : Left) (compares : Bool) (f : Findings) (d : Denial)
    → f.denial ≡ Some d → IsNoAtOnce left compares d → AreNone f.counts f.transactions
    → AreFindings left compares f
found_at_once left compares f d is denied none =
    subst (λ (o : Option Denial). IsFoundBy left compares f o) (sym is) (AtOnce d denied none)
