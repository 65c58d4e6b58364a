-- Traces that are audited, and what a yes says.
use Rattle.std.specs.Prelude.{◌≡◌, ◌<◌, ◌≤◌, ◌++◌, ℕ, zero, suc, List, [], ◌∷◌, length, map}
use Rattle.std.specs.Prelude.{MatchOption, slice_get, slice_set, Some}
use Rattle.kx_audit.specs.Joined.{Passed, at_node}
use Rattle.kx_audit.specs.Making.{NodeMaking}
use Rattle.kx_follow.specs.Following.{Following, HasMade, makings_of}
use Rattle.kx_follow.specs.Pending.{IsUnsent}
use Rattle.kx_follow.specs.Whole.{IsWholeRun}
use Rattle.kx_machine.specs.Meaning.{NodeState}
use Rattle.kx_machine.specs.declared.input.Input.{Input}
use Rattle.kx_system.specs.System.{System}
use Rattle.kx_trace.specs.Reading.{More, record_at}
use Rattle.kx_trace_audit.specs.Beginnings.{AreAsMade, AreStarts, CameBefore}
use Rattle.kx_trace_audit.specs.Items.{BeginsTold}
use Rattle.kx_trace_audit.specs.Readings.{Reading, advanced, ending_of, fed_on, in_64_bits}
use Rattle.kx_trace_audit.specs.Servers.{making_of, name_of}
use Rattle.kx_trace_audit.specs.Stepping.{HasRefused, NeedsMore}
use Rattle.kx_trace_audit.specs.Told.{IsStepOf, TellsOf, Told, Untaken, input_in}
use Rattle.kx_trace_audit.specs.declared.progress.Progress.{Progress}
use Rattle.kx_trace_audit.specs.declared.progress.Progress.TheVariants as progress
use Rattle.kx_trace_audit.specs.declared.refusal.TraceRefusal.{TraceRefusal}
use Rattle.kx_trace_audit.specs.declared.servers.TraceOf.{TraceOf}

-- the nodes that make their steps again, and the traces that are read
pub record Auditing (B M : Type 0) : Type 0 where
  pub following : Following B M
  pub traces : List Reading

-- these bytes follow those of this trace, which were fed before
abbrev pub fed : List (List ℕ) → ℕ → List ℕ → List (List ℕ)
fed [] trace bytes = []
fed (text ∷ texts) zero bytes = (text ++ bytes) ∷ texts
fed (text ∷ texts) (suc trace) bytes = text ∷ fed texts trace bytes

-- these bytes of this trace were fed; if there is no such trace, nothing was done
abbrev pub IsFedAt : {B M : Type 0} → Auditing B M → ℕ → List ℕ → Auditing B M → Type 0
IsFedAt old k bytes new = MatchOption (slice_get old.traces k) (new ≡ old)
    (λ r. new ≡ record old { traces = slice_set old.traces k (fed_on bytes r) })

-- what was read of this trace tells of the node's steps in this history, by as many items as are done
-- with
pub record TellsOfIts (of : TraceOf) (history : List Passed) (text : List ℕ) (r : Reading)
    : Type 0 where
  pub told : List Told
  pub tells : TellsOf of text r.unread told (at_node (name_of of.node) history)
  pub items_are : r.items ≡ in_64_bits (length told)

-- all of a trace was read, but for a record that was torn off
abbrev pub IsRead : Reading → Type 0
IsRead r = record_at r.unread ≡ More

-- it is the first that was not read so
pub record IsFirstLeft (traces : List Reading) (k : ℕ) : Type 0 where
  pub reading : Reading
  pub there : slice_get traces k ≡ Some reading
  pub left : IsRead reading → ⊥
  pub before : (j : ℕ) (r : Reading) → j < k → slice_get traces j ≡ Some r → IsRead r

module _ {B M : Type 0} (making : B → NodeMaking) (stands : NodeState → M → Type 0)
    (of : List TraceOf) (starts : List NodeState) where
  -- these traces begin at these nodes, and the bytes that were fed of each tell of the steps that were
  -- made again: steps of those nodes, in one order, each of which takes in a request of a client or
  -- what one before it sent
  pub record HasAudited (texts : List (List ℕ)) (history : List Passed) (a : Auditing B M)
      : Type 0 where
    pub begun : AreStarts of starts
    pub made : HasMade making stands starts history a.following
    pub of_are : map (λ r. r.node) a.traces ≡ map (λ t. t.node) of
    pub nodes_are : map making (makings_of a.following.nodes)
        ≡ map (λ r. making_of r.node) a.traces
    pub count : length texts ≡ length a.traces
    pub tells : (k : ℕ) (text : List ℕ) (r : Reading) (t : TraceOf)
        → slice_get texts k ≡ Some text → slice_get a.traces k ≡ Some r
        → slice_get of k ≡ Some t → TellsOfIts t history text r

  abbrev pub AreRead : List Reading → Type 0
  AreRead traces = (k : ℕ) (r : Reading) → slice_get traces k ≡ Some r → IsRead r

  -- an audit's yes: the bytes of each trace, up to a record that was torn off, tell of the steps of its
  -- node in this history. After whatever steps may have come before, it is an open schedule, which
  -- keeps the promises that need no trust in clients, and leads to the nodes for which the machines
  -- stand; it is one alone if the traces tell all steps of their nodes
  pub record IsYes (texts : List (List ℕ)) (history : List Passed) (a : Auditing B M) : Type 0 where
    pub audited : HasAudited texts history a
    pub read : AreRead a.traces
    pub run : (before : List Passed) → CameBefore before of starts
        → (s : System) × IsWholeRun making stands (before ++ history) a.following s
    pub alone : AreAsMade of starts
        → (s : System) × IsWholeRun making stands history a.following s

  ------ one more item of a trace

  -- the trace of this number goes on by what is told, and the others stay
  pub record ReadsOn (told : Told) (k : ℕ) (old new : Auditing B M) : Type 0 where
    pub reading : Reading
    pub there : slice_get old.traces k ≡ Some reading
    pub len : ℕ
    pub begins : BeginsTold reading.unread told len
    pub traces_are : new.traces ≡ slice_set old.traces k (advanced len reading)

  -- the node of this trace makes one more step, and sends this many messages
  pub record MakesNext (texts : List (List ℕ)) (history : List Passed) (k sent : ℕ)
      (old new : Auditing B M) : Type 0 where
    pub told : Told
    pub reads : ReadsOn told k old new
    pub passed : Passed
    pub is : IsStepOf told passed
    pub sent_is : sent ≡ length passed.taken.messages
    pub audited : HasAudited texts (history ++ passed ∷ []) new

  -- the next input of this trace was not taken
  pub record PassesOver (texts : List (List ℕ)) (history : List Passed) (k : ℕ)
      (old new : Auditing B M) : Type 0 where
    pub input : Input
    pub reads : ReadsOn (Untaken input) k old new
    pub following_is : new.following ≡ old.following
    pub audited : HasAudited texts history new

  -- the next step of this trace takes a message that no step sent, or that was taken as often as it
  -- was sent
  pub record WaitsAt (history : List Passed) (k : ℕ) (a : Auditing B M) : Type 0 where
    pub reading : Reading
    pub there : slice_get a.traces k ≡ Some reading
    pub told : Told
    pub len : ℕ
    pub begins : BeginsTold reading.unread told len
    pub unsent : IsUnsent history (input_in told)

  -- there is no such trace, or more of its bytes are needed
  pub data NeedsBytes (history : List Passed) (k : ℕ) (a : Auditing B M) : Type 0 where
    NoTrace : length a.traces ≤ k → NeedsBytes history k a
    OfTrace : (reading : Reading) → slice_get a.traces k ≡ Some reading
        → NeedsMore making stands starts k reading.unread (ending_of reading) history a.following
        → NeedsBytes history k a

  -- what became of the next item of this trace
  abbrev pub HasGone : List (List ℕ) → List Passed → ℕ → Auditing B M → Auditing B M → Progress
      → Type 0
  HasGone texts history k old new (progress.Made sent) = MakesNext texts history k sent old new
  HasGone texts history k old new progress.NotTaken = PassesOver texts history k old new
  HasGone texts history k old new progress.Waits = WaitsAt history k old × (new ≡ old)
  HasGone texts history k old new progress.NeedsMore = NeedsBytes history k old × (new ≡ old)

  -- why the next item of this trace is refused
  pub record IsRefused (history : List Passed) (k : ℕ) (old new : Auditing B M) (why : TraceRefusal)
      : Type 0 where
    pub reading : Reading
    pub there : slice_get old.traces k ≡ Some reading
    pub refused : HasRefused making stands starts k reading.unread (ending_of reading) history
        old.following new.following why
    pub traces_are : new.traces ≡ old.traces
