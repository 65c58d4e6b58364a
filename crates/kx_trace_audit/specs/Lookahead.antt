-- Whether an entry stood that a step leaves open: a failed append leaves nothing or its whole entry,
-- and what follows the step in its trace tells which.
use Rattle.std.specs.Prelude.{◌≡◌, ◌++◌, ℕ, Bool, true, false, List, [], ◌∷◌, Option, Some, None}
use Rattle.std.specs.Prelude.{nat_lt, if◌then◌else◌}
use Rattle.std.specs.Bool.{MatchBool}
use Rattle.std.specs.List.{flat_map}
use Rattle.kx_machine.specs.declared.input.Input.TheVariants.{Restart}
use Rattle.kx_machine.specs.declared.machine.StoreMode.{StoreMode}
use Rattle.kx_machine.specs.declared.machine.StoreMode.TheVariants as mode
use Rattle.kx_nodes.specs.Again.{meets_whole, mode_by}
use Rattle.kx_nodes.specs.declared.mark.Mark.{Mark}
use Rattle.kx_nodes.specs.declared.mark.Mark.TheVariants as mark
use Rattle.kx_trace.specs.Layout.{record_text}
use Rattle.kx_trace.specs.Reading.{More, record_at}
use Rattle.kx_trace.specs.Records.{Answered, Record, Reopened, Took}
use Rattle.kx_trace_audit.specs.Told as told
use Rattle.kx_trace_audit.specs.Told.{Told}
use Rattle.kx_trace_audit.specs.declared.ending.Ending.{Ending}
use Rattle.kx_trace_audit.specs.declared.ending.Ending.TheVariants as ending

------ the entry of an append

-- by the mark of the next restart, which tells nothing if it couldn't read the log
abbrev pub stood_by : Mark → Option Bool
stood_by mark.Unread = None
stood_by mark.Worked = Some (meets_whole (Some mark.Worked))
stood_by mark.Found = Some (meets_whole (Some mark.Found))
stood_by mark.Failed = Some (meets_whole (Some mark.Failed))
stood_by (mark.Unwritten found) = Some (meets_whole (Some (mark.Unwritten found)))
stood_by mark.UsedUp = Some (meets_whole (Some mark.UsedUp))

-- by a record: an opening finds a log that is longer than it was before the append
abbrev pub told_by : ℕ → Bool → Record → Option Bool
told_by log_len restarts (Reopened now found) = Some (nat_lt log_len found)
told_by log_len true (Answered mark frames) = stood_by mark
told_by log_len restarts other = None

abbrev pub is_restart : Record → Bool
is_restart (Took (Restart now)) = true
is_restart other = false

abbrev pub or_later : Option Bool → Option Bool → Option Bool
or_later None later = later
or_later (Some stood) later = Some stood

-- by the first record that tells it
abbrev pub stood_in : ℕ → Bool → List Record → Option Bool
stood_in log_len restarts [] = None
stood_in log_len restarts (r ∷ records) =
    or_later (told_by log_len restarts r) (stood_in log_len (is_restart r) records)

-- by the end of the trace, if no record tells it
abbrev pub stood_at : Ending → ℕ → Option Bool
stood_at ending.Unknown log_len = None
stood_at (ending.At None) log_len = Some false
stood_at (ending.At (Some found)) log_len = Some (nat_lt log_len found)

-- these bytes tell whether an entry stood after a log of this length, or tell nothing yet
pub data EntryIsTold (log_len : ℕ) (end : Ending) (bytes : List ℕ) : Option Bool → Type 0 where
  ByRecords : (records : List Record) (rest : List ℕ) (stood : Bool)
      → bytes ≡ flat_map record_text records ++ rest
      → stood_in log_len false records ≡ Some stood → EntryIsTold log_len end bytes (Some stood)
  ByEnd : (records : List Record) (rest : List ℕ)
      → bytes ≡ flat_map record_text records ++ rest → stood_in log_len false records ≡ None
      → record_at rest ≡ More → EntryIsTold log_len end bytes (stood_at end log_len)

------ the epoch of an opening

-- by the record after it: whatever else follows an opening, it wrote its epoch before
abbrev pub written_by : ℕ → Record → Bool
written_by log_len (Reopened now found) = nat_lt log_len found
written_by log_len other = true

abbrev pub written_at : Ending → ℕ → Option Bool
written_at ending.Unknown log_len = None
written_at (ending.At None) log_len = Some true
written_at (ending.At (Some found)) log_len = Some (nat_lt log_len found)

-- these bytes tell whether the epoch stood after a log of this length, or tell nothing yet
pub data EpochIsTold (log_len : ℕ) (end : Ending) (bytes : List ℕ) : Option Bool → Type 0 where
  ByRecord : (r : Record) (rest : List ℕ) → bytes ≡ record_text r ++ rest
      → EpochIsTold log_len end bytes (Some (written_by log_len r))
  AtEnd : record_at bytes ≡ More → EpochIsTold log_len end bytes (written_at end log_len)

------ what a step leaves open

abbrev pub is_open : Mark → Bool
is_open mark.Worked = false
is_open mark.Found = false
is_open mark.Failed = true
is_open mark.Unread = false
is_open (mark.Unwritten found) = true
is_open mark.UsedUp = false

-- what is told leaves open whether an entry stood, after a log of this length, and these bytes tell
-- it; or it leaves nothing open
abbrev pub IsDecided : Told → ℕ → Ending → List ℕ → Option Bool → Type 0
IsDecided (told.Answered input mark frames) log_len end rest stood =
    MatchBool (is_open mark) (EntryIsTold log_len end rest stood) (stood ≡ Some false)
IsDecided (told.Untaken input) log_len end rest stood = stood ≡ Some false
IsDecided (told.Unanswered input) log_len end rest stood = EntryIsTold log_len end rest stood
-- the log before the epoch is the one that the opening found
IsDecided (told.Reopened now found) log_len end rest stood = EpochIsTold found end rest stood

-- what the store is to do then
abbrev pub unanswered_mode : Bool → StoreMode
unanswered_mode stood = if stood then mode.Works else mode.Fails 0

abbrev pub mode_for : Told → Bool → StoreMode
mode_for (told.Answered input mark frames) stood = mode_by mark stood
mode_for (told.Untaken input) stood = mode.Works
mode_for (told.Unanswered input) stood = unanswered_mode stood
mode_for (told.Reopened now log_len) stood = unanswered_mode stood
