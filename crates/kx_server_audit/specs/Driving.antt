-- The audit of a server's traces, as far as it has come, and how it ends.
use Rattle.std.specs.Prelude.{◌≡◌, ◌≢◌, ◌<◌, ◌+◌, ◌⊎◌, ◌++◌, ℕ, Bool, true, false, List, Option, Some}
use Rattle.std.specs.Prelude.{[], length, slice_get}
use Rattle.std.specs.Io.KnownBytes.{Consumes}
use Rattle.kx_audit.specs.Joined.{Passed}
use Rattle.kx_audit.specs.Making.{NodeMaking}
use Rattle.kx_log.specs.Store.{StoreState}
use Rattle.kx_machines.specs.Brokers.{broker_stands}
use Rattle.kx_machines.specs.declared.broker.BrokerMachine.{BrokerMachine}
use Rattle.kx_server_audit.specs.Counting.{AreCounts}
use Rattle.kx_server_audit.specs.Reads.{AreAllOf, ArePartsOf, AreReadOf, IsAllAt, IsEnded, Origin, Start}
use Rattle.kx_server_audit.specs.Reads.{traces_of}
use Rattle.kx_server_audit.specs.declared.auditing.Ending.{Ending}
use Rattle.kx_server_audit.specs.declared.auditing.Ending.TheVariants as ending
use Rattle.kx_server_audit.specs.declared.auditing.Refused.{Refused}
use Rattle.kx_server_audit.specs.declared.auditing.ServerAudit.{ServerAudit}
use Rattle.kx_server_audit.specs.declared.server_node.ServerNode.{ServerNode}
use Rattle.kx_server_audit.specs.declared.sources.Source.{Source}
use Rattle.kx_trace_audit.specs.Auditing.{Auditing, HasAudited, IsFirstLeft, IsRefused, IsYes}
use Rattle.kx_trace_audit.specs.Auditing.{NeedsBytes, WaitsAt, fed}
use Rattle.kx_trace_audit.specs.Readings.{Reading, in_64_bits}
use Rattle.kx_trace_audit.specs.Servers.{making_of}
use Rattle.kx_trace_audit.specs.declared.refusal.TraceRefusal.{TraceRefusal}
use Rattle.kx_trace_audit.specs.declared.refusal.TraceRefusal.TheVariants as refusal

abbrev pub making : ServerNode → NodeMaking
making server = making_of server.node

-- the traces of a server's nodes, as far as they were audited
abbrev pub Audited : Type 0
Audited = Auditing ServerNode (BrokerMachine StoreState)

-- the bytes that were fed of each trace tell of the steps that were made again, from the nodes at which
-- the traces begin
abbrev pub AreAudited : Start → List (List ℕ) → List Passed → Audited → Type 0
AreAudited start = HasAudited making broker_stands (traces_of start.origins) start.starts

-- a trace goes no further: its next step takes a message that was not sent; or more of its bytes are
-- needed, and there are none
abbrev pub GoesNoFurther : Start → List Passed → ℕ → Audited → Type 0 → Type 0
GoesNoFurther start history k a NoMore =
    WaitsAt making broker_stands (traces_of start.origins) start.starts history k a
    ⊎ (NeedsBytes making broker_stands (traces_of start.origins) start.starts history k a × NoMore)

------ the end of a source

-- if the source of this trace is read to its end, the audit was told so
abbrev pub IsTold : {I : Type 0} → ℕ → ServerAudit → Source I → Type 0
IsTold k a s =
    (r : Reading) → slice_get a.audit.traces k ≡ Some r → s.is_ended ≡ true → r.is_end ≡ true

abbrev pub AreTold : {I : Type 0} → ServerAudit → List (Source I) → Type 0
AreTold {I} a sources = (k : ℕ) (s : Source I) → slice_get sources k ≡ Some s → IsTold k a s

-- of the traces, at most this one was changed
abbrev pub OthersStay : ℕ → Audited → Audited → Type 0
OthersStay k old new = (j : ℕ) → j ≢ k → slice_get new.traces j ≡ slice_get old.traces j

-- these bytes of this trace were fed, and no bytes tell that it ends
pub record IsFed (k : ℕ) (bytes : List ℕ) (old new : Audited) : Type 0 where
  pub others : OthersStay k old new
  pub ends : (r : Reading) → slice_get new.traces k ≡ Some r → bytes ≡ [] → r.is_end ≡ true

------ more of the traces

module _ {I : Type 0} (remaining : I → Option (List ℕ)) where
  -- more of this trace's source was read, and more steps were made
  pub record Advances (start : Start) (texts : List (List ℕ)) (history : List Passed) (k : ℕ)
      (old new : ServerAudit) (from to : Source I) : Type 0 where
    pub read : List ℕ
    pub more : List Passed
    pub consumed : Consumes (remaining from.reader) (remaining to.reader) read
    pub ended : IsEnded remaining from → IsEnded remaining to
    pub told : IsTold k old from → IsTold k new to
    pub others : OthersStay k old.audit new.audit
    pub audited : AreAudited start (fed texts k read) (history ++ more) new.audit
    pub counted : (done : List Passed) → AreCounts done old.counts
        → AreCounts (done ++ more) new.counts

  -- the same, whatever was audited before
  abbrev pub GoesOn : ℕ → ServerAudit → ServerAudit → Source I → Source I → Type 0
  GoesOn k old new from to = (start : Start) (texts : List (List ℕ)) (history : List Passed)
      → AreAudited start texts history old.audit
      → Advances start texts history k old new from to

  -- what was read of the sources is audited, and the steps that it tells are counted
  pub record IsUnderWay (start : Start) (a : ServerAudit) (sources : List (Source I))
      : Type 0 where
    pub texts : List (List ℕ)
    pub more : List Passed
    pub audited : AreAudited start texts more a.audit
    pub read : AreReadOf remaining start.origins texts sources
    pub told : AreTold a sources
    pub counted : AreCounts more a.counts

------ a trace that is stuck

-- whatever was audited, the trace of this number goes no further, and its source is read to its end
abbrev pub IsStuck : {I : Type 0} → ℕ → ServerAudit → Source I → Type 0
IsStuck k a s = (start : Start) (texts : List (List ℕ)) (history : List Passed)
    → AreAudited start texts history a.audit
    → GoesNoFurther start history k a.audit (s.is_ended ≡ true)

-- each trace is stuck, whose source is at its number
abbrev pub AreStuck : {I : Type 0} → ServerAudit → List (Source I) → Type 0
AreStuck {I} a sources = (k : ℕ) (s : Source I) → slice_get sources k ≡ Some s → IsStuck k a s

-- nothing was done, since the trace goes no further
pub record Stays {I : Type 0} (start : Start) (history : List Passed) (k : ℕ)
    (old new : ServerAudit) (from to : Source I) : Type 0 where
  pub audit_is : new ≡ old
  pub source_is : to ≡ from
  pub stuck : GoesNoFurther start history k old.audit (from.is_ended ≡ true)

-- the trace went on, or it is stuck
abbrev pub HasGoneOn : {I : Type 0} → (I → Option (List ℕ)) → ℕ → ServerAudit → ServerAudit
    → Source I → Source I → Bool → Type 0
HasGoneOn remaining k old new from to true = GoesOn remaining k old new from to
HasGoneOn remaining k old new from to false = (start : Start) (texts : List (List ℕ))
    (history : List Passed) → AreAudited start texts history old.audit
    → Stays start history k old new from to

------ how an audit ends

-- it refuses at this item of this trace for this reason
abbrev pub RefusesAt : ℕ → ℕ → TraceRefusal → Ending → Type 0
RefusesAt k items why (ending.Refused r) =
    (r.trace ≡ k) × (r.item ≡ in_64_bits (items + 1)) × (r.why ≡ why) × (why ≢ refusal.Memory)
RefusesAt k items why (ending.Read trace) = ⊥
RefusesAt k items why ending.Memory = why ≡ refusal.Memory

-- the source of this trace can't be read, or memory ran out
abbrev pub CannotRead : ℕ → Ending → Type 0
CannotRead k (ending.Read trace) = trace ≡ k
CannotRead k ending.Memory = Unit {0}
CannotRead k (ending.Refused r) = ⊥

-- the next item of this trace was refused, after those that are done with
pub record RefusesItem (start : Start) (history : List Passed) (old new : Audited) (r : Refused)
    : Type 0 where
  pub known : r.why ≢ refusal.Memory
  pub refused : IsRefused making broker_stands (traces_of start.origins) start.starts history r.trace
      old new r.why
  pub item_is : r.item ≡ in_64_bits (refused.reading.items + 1)

-- this trace went on, and then its next item was refused
pub record RefusesNext {I : Type 0} (remaining : I → Option (List ℕ)) (k : ℕ)
    (old new : ServerAudit) (from : Source I) (r : Refused) : Type 0 where
  pub before : ServerAudit
  pub to : Source I
  pub goes : GoesOn remaining k old before from to
  pub trace_is : r.trace ≡ k
  pub counts_are : new.counts ≡ before.counts
  pub refuses : (start : Start) (texts : List (List ℕ)) (history : List Passed)
      → AreAudited start texts history before.audit
      → RefusesItem start history before.audit new.audit r

-- how going on in this trace ended the audit
abbrev pub EndsIn : {I : Type 0} → (I → Option (List ℕ)) → ℕ → ServerAudit → ServerAudit
    → Source I → Ending → Type 0
EndsIn remaining k old new from (ending.Refused r) = RefusesNext remaining k old new from r
EndsIn remaining k old new from (ending.Read trace) = trace ≡ k
EndsIn remaining k old new from ending.Memory = Unit {0}

-- some of what the sources had to give was audited, and then the next item of a trace was refused
pub record IsItemRefused (start : Start) (a : ServerAudit) (r : Refused) : Type 0 where
  pub texts : List (List ℕ)
  pub history : List Passed
  pub before : Audited
  pub parts : ArePartsOf start.origins texts
  pub audited : AreAudited start texts history before
  pub counted : AreCounts history a.counts
  pub refuses : RefusesItem start history before a.audit r

-- all of this trace was read, and the audit was told so
pub record IsWhole (origins : List Origin) (texts : List (List ℕ)) (k : ℕ) (a : Audited) : Type 0
  where
    pub all : IsAllAt origins texts k
    pub reading : Reading
    pub there : slice_get a.traces k ≡ Some reading
    pub is_end : reading.is_end ≡ true

-- no trace goes on any more, since a message is missing or all was read, and items are left; this
-- trace is the first that has one
pub record IsItemLeft (start : Start) (a : ServerAudit) (r : Refused) : Type 0 where
  pub texts : List (List ℕ)
  pub history : List Passed
  pub parts : ArePartsOf start.origins texts
  pub audited : AreAudited start texts history a.audit
  pub counted : AreCounts history a.counts
  pub why_is : r.why ≡ refusal.Unsent
  pub first : IsFirstLeft a.audit.traces r.trace
  pub item_is : r.item ≡ in_64_bits (first.reading.items + 1)
  pub stuck : (k : ℕ) → k < length a.audit.traces
      → GoesNoFurther start history k a.audit (IsWhole start.origins texts k a.audit)

-- the audit says no
pub data SaysNo (start : Start) (a : ServerAudit) (r : Refused) : Type 0 where
  ItemRefused : IsItemRefused start a r → SaysNo start a r
  ItemLeft : IsItemLeft start a r → SaysNo start a r

-- the audit ends otherwise than by a yes; a source may fail at any time, and so may memory
abbrev pub EndsBy : Start → ServerAudit → Ending → Type 0
EndsBy start a (ending.Refused r) = SaysNo start a r
EndsBy start a (ending.Read trace) = trace < length start.origins
EndsBy start a ending.Memory = Unit {0}

-- all that the sources had to give is audited, and the audit says yes of the steps that it tells
pub record SaysYes (start : Start) (a : ServerAudit) : Type 0 where
  pub texts : List (List ℕ)
  pub history : List Passed
  pub whole : AreAllOf start.origins texts
  pub counted : AreCounts history a.counts
  pub says : IsYes making broker_stands (traces_of start.origins) start.starts texts history a.audit
