-- What stands at the front of what is left of a trace.
use Rattle.std.specs.Prelude.{◌≡◌, ◌<◌, ◌≤◌, ◌⊎◌, ◌++◌, ℕ, List, drop, length}
use Rattle.kx_machine.specs.declared.input.Input.{Input}
use Rattle.kx_trace.specs.Layout.{record_text}
use Rattle.kx_trace.specs.Reading.{Bad, More, record_at}
use Rattle.kx_trace.specs.Records as spelled
use Rattle.kx_trace.specs.Records.{Record}
use Rattle.kx_trace.specs.declared.fault.TraceFault.{TraceFault}
use Rattle.kx_trace.specs.declared.fault.TraceFault.TheVariants as fault
use Rattle.kx_trace_audit.specs.Told.{Answered, Reopened, Told, Unanswered, Untaken, told_text}
use Rattle.kx_trace_audit.specs.declared.item.After.{After}
use Rattle.kx_trace_audit.specs.declared.item.After.TheVariants as after
use Rattle.kx_trace_audit.specs.declared.item.Item.{Item}
use Rattle.kx_trace_audit.specs.declared.item.Telling.{Telling}
use Rattle.kx_trace_audit.specs.declared.item.Telling.TheVariants as telling
use Rattle.kx_trace_audit.specs.declared.ending.Ending.{Ending}
use Rattle.kx_trace_audit.specs.declared.ending.Ending.TheVariants as ending
use Rattle.kx_trace_audit.specs.declared.refusal.TraceRefusal.{TraceRefusal}
use Rattle.kx_trace_audit.specs.declared.refusal.TraceRefusal.TheVariants as refusal

-- the bytes begin with this record, which takes the first `len` of them
pub record Begins (bytes : List ℕ) (r : Record) (len : ℕ) : Type 0 where
  pub some : 0 < len
  pub within : len ≤ length bytes
  pub text_is : bytes ≡ record_text r ++ drop len bytes

-- what stands there after an input
abbrev pub IsAfter : List ℕ → Ending → After → Type 0
IsAfter bytes end (after.Answer mark frames len) =
    Begins bytes (spelled.Answered mark frames.now) len
IsAfter bytes end (after.Untaken len) = Begins bytes spelled.Untaken len
IsAfter bytes end after.End = Unit {0}
IsAfter bytes end after.Unknown = (record_at bytes ≡ More) × (end ≡ ending.Unknown)

-- why nothing can stand there so
abbrev pub AfterRefused : List ℕ → TraceRefusal → Type 0
AfterRefused bytes refusal.Bytes =
    ((fault : TraceFault) × (record_at bytes ≡ Bad fault))
    ⊎ ((input : Input) × (rest : List ℕ) × (bytes ≡ record_text (spelled.Took input) ++ rest))
AfterRefused bytes refusal.Memory = Unit {0}
AfterRefused bytes other = ⊥

abbrev pub told_of : Telling → Told
told_of (telling.Answered input mark frames) = Answered input mark frames.now
told_of (telling.Untaken input) = Untaken input
told_of (telling.Unanswered input) = Unanswered input
told_of (telling.Reopened now log_len) = Reopened now log_len

-- the bytes begin with what is told, which takes the first `len` of them
pub record BeginsTold (bytes : List ℕ) (told : Told) (len : ℕ) : Type 0 where
  pub some : 0 < len
  pub within : len ≤ length bytes
  pub text_is : bytes ≡ told_text told ++ drop len bytes

abbrev pub IsItem : List ℕ → Item → Type 0
IsItem bytes item = BeginsTold bytes (told_of item.told) item.used

------ why nothing is told

-- a record isn't whole: the one at the front, or the one after an input, and more bytes may follow
pub data NeedsItem (bytes : List ℕ) (end : Ending) : Type 0 where
  NotWhole : record_at bytes ≡ More → NeedsItem bytes end
  NotAnswered : (input : Input) (len : ℕ) → Begins bytes (spelled.Took input) len
      → record_at (drop len bytes) ≡ More → end ≡ ending.Unknown → NeedsItem bytes end

-- they are damaged, maybe after some records
pub data AreDamaged : List ℕ → Type 0 where
  Here : (bytes : List ℕ) (fault : TraceFault) → record_at bytes ≡ Bad fault → AreDamaged bytes
  Later : (bytes : List ℕ) (r : Record) (rest : List ℕ) → bytes ≡ record_text r ++ rest
      → AreDamaged rest → AreDamaged bytes

-- what answers an input, with none before it
abbrev pub IsAnswer : Record → Type 0
IsAnswer (spelled.Answered mark frames) = Unit {0}
IsAnswer spelled.Untaken = Unit {0}
IsAnswer (spelled.Took input) = ⊥
IsAnswer (spelled.Reopened now log_len) = ⊥

-- no trace goes on with the bytes
pub data IsNoTrace (bytes : List ℕ) : Type 0 where
  Damaged : AreDamaged bytes → IsNoTrace bytes
  AnswersNothing : (r : Record) (rest : List ℕ) → IsAnswer r → bytes ≡ record_text r ++ rest
      → IsNoTrace bytes
  TakesTwo : (input other : Input) (rest : List ℕ)
      → bytes ≡ record_text (spelled.Took input) ++ (record_text (spelled.Took other) ++ rest)
      → IsNoTrace bytes

abbrev pub refusal_of : TraceFault → TraceRefusal
refusal_of fault.Memory = refusal.Memory
refusal_of other = refusal.Bytes

-- why no record is read
abbrev pub RecordRefused : List ℕ → TraceRefusal → Type 0
RecordRefused bytes refusal.Bytes = (fault : TraceFault) × (record_at bytes ≡ Bad fault)
RecordRefused bytes refusal.Memory = Unit {0}
RecordRefused bytes other = ⊥

-- why nothing is read of what is told, or of what follows it
abbrev pub ItemRefused : List ℕ → TraceRefusal → Type 0
ItemRefused bytes refusal.Bytes = IsNoTrace bytes
ItemRefused bytes refusal.Memory = Unit {0}
ItemRefused bytes other = ⊥

abbrev pub RestRefused : List ℕ → TraceRefusal → Type 0
RestRefused bytes refusal.Bytes = AreDamaged bytes
RestRefused bytes refusal.Memory = Unit {0}
RestRefused bytes other = ⊥
