-- What each call does to the coordinator, and what it hands out.
use Rattle.std.specs.Prelude.{◌≡◌, ◌⊎◌, ℕ, ℤ, Bool, true, false, List, [], ◌∷◌, ◌++◌, max, Option}
use Rattle.std.specs.Prelude.{Some, None, is_some, if◌then◌else◌}
use Rattle.std.specs.List.{list_any}
use Rattle.kx_log.specs.Opening.{OpenFailed}
use Rattle.kx_log.specs.Store.{AppendFailed, MayLoad, StoreState}
use Rattle.kx_log.specs.declared.fault.OpenFault.{OpenFault}
use Rattle.kx_log.specs.declared.fault.OpenFault.TheVariants.{Device, Damaged, Memory, UsedUp}
use Rattle.kx_message.specs.declared.code.ErrorCode.{ErrorCode}
use Rattle.kx_message.specs.declared.code.ErrorCode.TheVariants as code
use Rattle.kx_message.specs.declared.message.Message.{Message}
use Rattle.kx_model.specs.Coordinator.{TxnEntry, Row, Written, coordinator_epoch}
use Rattle.kx_model.specs.CoordinatorNode.{Reply, has_no_id}
use Rattle.kx_model.specs.Markers.{Answered, Settled, Ignored, Noted, Completes, all_markers}
use Rattle.kx_model.specs.Markers.{expire, markers_after, noting, reopen, same_answered, settle}
use Rattle.kx_model.specs.Markers.{without_row}
use Rattle.kx_model.specs.Requests.{Answer}
use Rattle.kx_txnlog.specs.Layout.{entry_text}
use Rattle.kx_txnlog.specs.LogState.{AppendBreaks, IsAppendedTo, LogState}
use Rattle.kx_txnlog.specs.Opening.{IsDamaged, IsOpened}
use Rattle.kx_txnlog.specs.Ranges.{IsEntry}
use Rattle.kx_coord.specs.CoordinatorState.{CoordinatorState}
use Rattle.kx_coord.specs.declared.fault.RestartFault.{RestartFault}
use Rattle.kx_coord.specs.declared.fault.RestartFault.TheVariants.{Unopened, Unwritten}
use Rattle.kx_coord.specs.Noted.{SameAnswered}

------ appending

-- the entry was appended, and nothing else changed
pub record Appends (old new : CoordinatorState) (note : TxnEntry) : Type 0 where
  pub log : IsAppendedTo note old.log new.log
  pub rest : new ≡ record old { log = new.log }

-- the store failed: the log is closed
pub record Breaks (old new : CoordinatorState) (note : TxnEntry) : Type 0 where
  pub log : AppendBreaks note old.log new.log
  pub rest : new ≡ record old { log = new.log }

-- the entry was appended, or the log was closed before, or closed now
abbrev pub IsWritten : CoordinatorState → CoordinatorState → TxnEntry → Bool → Type 0
IsWritten old new note true = (has_no_id note ≡ false) × Appends old new note
IsWritten old new note false = ((old.log.closed ≡ true) × (new ≡ old))
    ⊎ ((has_no_id note ≡ false) × Breaks old new note)

-- these messages go out and the markers that the entry owes, if it was appended; else those
abbrev pub handed_out : Bool → ℤ → TxnEntry → List Message → List Message → List Message
handed_out appended epoch note done failed =
    if appended then done ++ markers_after epoch note else failed

-- a call that appends an entry first; if an id is missing for it, it is not appended
pub data Hands (old new : CoordinatorState) (note : TxnEntry) (done failed handed : List Message)
    : Type 0 where
  HasNoId : has_no_id note ≡ true → new ≡ old → handed ≡ failed
      → Hands old new note done failed handed
  HasId : (appended : Bool) → IsWritten old new note appended
      → handed ≡ handed_out appended (coordinator_epoch old.log.notes) note done failed
      → Hands old new note done failed handed

------ requests

abbrev pub RespondsBy : CoordinatorState → CoordinatorState → Answer → Reply → List Message
    → Option TxnEntry → Type 0
RespondsBy old new a reply handed None = (new ≡ old) × (handed ≡ reply a.code a.held ∷ [])
RespondsBy old new a reply handed (Some note) = Hands old new note (reply a.code a.held ∷ [])
    (reply code.KafkaStorageError None ∷ []) handed

-- a request was answered so, with its entry appended first
abbrev pub Responds : CoordinatorState → CoordinatorState → Answer → Reply → List Message → Type 0
Responds old new a reply handed = RespondsBy old new a reply handed a.note

-- an entry is to be appended, an id isn't missing for it, and the log isn't closed
pub record IsToAppend (co : CoordinatorState) (a : Answer) : Type 0 where
  pub note : TxnEntry
  pub is : a.note ≡ Some note
  pub has_id : has_no_id note ≡ false
  pub not_closed : co.log.closed ≡ false

------ replies to markers

-- the row's entry was appended, and its markers are forgotten; or it wasn't, and nothing else
-- changed
pub data CompletesRow (old new : CoordinatorState) (row : Row) : Type 0 where
  NeedsId : has_no_id (Written row) ≡ true → new ≡ old → CompletesRow old new row
  IsComplete : has_no_id (Written row) ≡ false → IsAppendedTo (Written row) old.log new.log
      → SameAnswered new.answered (without_row old.answered row)
      → new ≡ record old { log = new.log; answered = new.answered } → CompletesRow old new row
  StaysOpen : IsWritten old new (Written row) false → CompletesRow old new row

abbrev pub SettlesBy : CoordinatorState → CoordinatorState → Answered → Settled → Type 0
SettlesBy old new a Ignored = new ≡ old
SettlesBy old new a Noted = SameAnswered new.answered (noting old.answered a)
    × (new ≡ record old { answered = new.answered })
SettlesBy old new a (Completes row) = CompletesRow old new row

-- a marker was answered with this code
abbrev pub Settles : CoordinatorState → CoordinatorState → Answered → ErrorCode → Type 0
Settles old new a code.NoError = SettlesBy old new a (settle old.log.notes old.answered a)
Settles old new a other = new ≡ old

-- the answer to a marker is noted and wasn't before, or completes its row in a log that takes it
abbrev pub WantsMemory : CoordinatorState → Answered → Settled → Type 0
WantsMemory co a Ignored = ⊥
WantsMemory co a Noted = list_any (same_answered a) co.answered ≡ false
WantsMemory co a (Completes row) = co.log.closed ≡ false

------ time

abbrev pub ExpiresBy : CoordinatorState → CoordinatorState → List Message → Option Row → Type 0
ExpiresBy old new handed None = (new ≡ old) × (handed ≡ [])
ExpiresBy old new handed (Some row) = Hands old new (Written row) [] [] handed

-- the clock went on, and the first transaction that has lasted too long is aborted
abbrev pub Expires : CoordinatorState → CoordinatorState → ℕ → List Message → Type 0
Expires old new now handed =
    ExpiresBy (record old { clock = max old.clock now }) new handed (expire old.log.notes now)

------ opening

-- what a store held was read, and the entry of this opening is to be appended to it
pub record Reads (store : StoreState) (read : LogState) (note : TxnEntry) : Type 0 where
  pub opened : IsOpened store read.store read.notes
  pub not_closed : read.closed ≡ false
  pub next : reopen read.notes ≡ Some note

-- the coordinator is as its log was read, with the entry of this opening
pub record IsOpen (store : StoreState) (now : ℕ) (co : CoordinatorState) (sent : List Message)
    : Type 0 where
  pub read : LogState
  pub note : TxnEntry
  pub reads : Reads store read note
  pub log : IsAppendedTo note read co.log
  pub clock : co.clock ≡ now
  pub answered : co.answered ≡ []
  pub handed : sent ≡ all_markers co.log.notes

-- what a store held was read, and what was torn at its end is cut off; an epoch is left
pub record IsCutTo (old new : StoreState) : Type 0 where
  pub notes : List TxnEntry
  pub opened : IsOpened old new notes
  pub left : is_some (reopen notes) ≡ true

-- what a store held was read, but the coordinator's epochs are used up
pub record RunsOut (old new : StoreState) : Type 0 where
  pub notes : List TxnEntry
  pub opened : IsOpened old new notes
  pub last : reopen notes ≡ None

-- the entry of this opening failed
pub record OpenBreaks (old new : StoreState) : Type 0 where
  pub read : LogState
  pub note : TxnEntry
  pub reads : Reads old read note
  pub ranges : IsEntry note
  pub store : AppendFailed (entry_text note) read.store new

-- why a coordinator isn't opened, and what is left of the store
abbrev pub OpenRefuses : StoreState → StoreState → OpenFault → Type 0
OpenRefuses old new Device = OpenFailed old new ⊎ OpenBreaks old new
OpenRefuses old new (Damaged place) = IsDamaged old.bytes place × MayLoad old.loads × (new ≡ old)
OpenRefuses old new Memory = (new ≡ old) ⊎ IsCutTo old new
OpenRefuses old new UsedUp = RunsOut old new

-- nothing changed but the store
abbrev pub on_store : CoordinatorState → StoreState → CoordinatorState
on_store co store = record co { log = record co.log { store = store } }

-- closed, and nothing else changed but the store
abbrev pub closed_on : CoordinatorState → StoreState → CoordinatorState
closed_on co store = record co { log = record co.log { closed = true; store = store } }

-- the entry of a restart failed: the coordinator is as its log was read again, closed
pub record RestartBreaks (old new : CoordinatorState) (now : ℕ) : Type 0 where
  pub read : LogState
  pub note : TxnEntry
  pub reads : Reads old.log.store read note
  pub log : AppendBreaks note read new.log
  pub clock : new.clock ≡ now
  pub answered : new.answered ≡ []

-- why a restart failed, and what it leaves
abbrev pub RestartRefuses : CoordinatorState → CoordinatorState → ℕ → RestartFault → Type 0
RestartRefuses old new now (Unopened Device) =
    OpenFailed old.log.store new.log.store × (new ≡ closed_on old new.log.store)
RestartRefuses old new now (Unopened (Damaged place)) = IsDamaged old.log.store.bytes place
    × MayLoad old.log.store.loads × (new ≡ closed_on old old.log.store)
RestartRefuses old new now (Unopened Memory) = (new ≡ old)
    ⊎ (IsCutTo old.log.store new.log.store × (new ≡ on_store old new.log.store))
RestartRefuses old new now (Unopened UsedUp) =
    RunsOut old.log.store new.log.store × (new ≡ on_store old new.log.store)
RestartRefuses old new now Unwritten = RestartBreaks old new now
