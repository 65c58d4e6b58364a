-- What happens to a grant, in turn.
use Rattle.std.specs.Prelude.{◌≡◌, ◌<◌, ◌+◌, ◌*◌, ℕ, ℤ, Bool, true, false, ◌&&◌, List, [], ◌∷◌, Some}
use Rattle.std.specs.Prelude.{◌==◌, if◌then◌else◌, ◌⊎◌}
use Rattle.kx_message.specs.declared.message.Held.{Held}
use Rattle.kx_message.specs.declared.outcome.Outcome.{Outcome}
use Rattle.kx_message.specs.declared.outcome.Outcome.TheVariants.{Abort}
use Rattle.kx_grant.specs.Sequences.{IsSequence, sequence_in}
use Rattle.kx_grant.specs.Grant.{after_add, after_batch, after_commit, after_end, after_refused}
use Rattle.kx_grant.specs.Grant.{after_taken, begun, counts, ended, listed_at, next_at}
use Rattle.kx_grant.specs.declared.grant.Grant.{Grant}
use Rattle.kx_grant.specs.declared.grant.Listed.{Listed}
use Rattle.kx_grant.specs.declared.grant.Phase.{Phase}
use Rattle.kx_grant.specs.declared.grant.Phase.TheVariants as phase

pub data Step : Type 0 where
  Adds : (held : Held) (partition : ℕ) → Step
  Batches : (held : Held) (partition : ℕ) (first : ℤ) (count : ℕ) → Step
  -- a batch was taken, or refused for good
  Takes : (held : Held) (partition : ℕ) (first : ℤ) (count : ℕ) → Step
  Refuses : (held : Held) (partition : ℕ) (first : ℤ) (count : ℕ) → Step
  Ends : (held : Held) (outcome : Outcome) → Step
  -- offsets are sent to the core
  Commits : (held : Held) → Step
  -- the core answered an end with code 0, and goes on with this pair
  Goes : (outcome : Outcome) (next : Held) → Step
  -- the core answered a request for an id anew
  Regrants : (asked : Held) (held : Held) → Step

abbrev pub after_step : Grant → Step → Grant
after_step g (Adds held partition) = after_add g held partition
after_step g (Batches held partition first count) = after_batch g held partition first count
after_step g (Takes held partition first count) = after_taken g held partition first count
after_step g (Refuses held partition first count) = after_refused g held partition first count
after_step g (Ends held outcome) = after_end g held outcome
after_step g (Commits held) = after_commit g held
after_step g (Goes outcome next) = ended outcome next g
after_step g (Regrants asked held) = begun (Some asked) held

abbrev pub after_all : Grant → List Step → Grant
after_all g [] = g
after_all g (step ∷ steps) = after_all (after_step g step) steps

-- the core goes on with the same pair
abbrev pub stays : Step → Bool
stays (Goes outcome next) = false
stays (Regrants asked held) = false
stays step = true

abbrev pub all_stay : List Step → Bool
all_stay [] = true
all_stay (step ∷ steps) = stays step && all_stay steps

-- the producer keeps its pair
abbrev pub keeps_grant : Step → Bool
keeps_grant (Regrants asked held) = false
keeps_grant step = true

abbrev pub all_keep_grant : List Step → Bool
all_keep_grant [] = true
all_keep_grant (step ∷ steps) = keeps_grant step && all_keep_grant steps

abbrev pub count_of : Grant → ℕ → Held → ℕ → ℤ → ℕ → ℕ
count_of g partition held q first count =
    if partition == q && counts g held q first then count else 0

-- by how many records a step moves the client's next sequence in a partition
abbrev pub records_in : Grant → ℕ → Step → ℕ
records_in g partition (Takes held q first count) = count_of g partition held q first count
records_in g partition (Refuses held q first count) = count_of g partition held q first count
records_in g partition step = 0

abbrev pub all_records_in : Grant → ℕ → List Step → ℕ
all_records_in g partition [] = 0
all_records_in g partition (step ∷ steps) =
    records_in g partition step + all_records_in (after_step g step) partition steps

-- pairs in the order in which the coordinator grants them: epochs are below 2^15
abbrev pub rank : Held → ℕ
rank held = held.id * 32768 + held.epoch

abbrev pub IsRaised : Held → Held → Type 0
IsRaised before held = rank before < rank held

-- the core's rule: each end raises the epoch, or goes on to a new id, and so does each new grant
abbrev pub Raises : Grant → Step → Type 0
Raises g (Goes outcome next) = IsRaised g.core next
Raises g (Regrants asked held) = IsRaised g.core held
Raises g step = Unit {0}

abbrev pub AllRaise : Grant → List Step → Type 0
AllRaise g [] = Unit {0}
AllRaise g (step ∷ steps) = Raises g step × AllRaise (after_step g step) steps

-- the step ends a transaction with an outcome: the core answered so, or nothing was sent
abbrev pub EndsSo : Grant → Step → Outcome → Type 0
EndsSo g (Goes decided next) outcome = decided ≡ outcome
EndsSo g (Ends held asked) outcome = (g.phase ≡ phase.Empty) × (asked ≡ outcome)
EndsSo g step outcome = ⊥

-- a grant by which an end is answered with code 0 and the core isn't asked: nothing was sent, the
-- transaction ended so, or all was decided before a restart, of which an abort has nothing left
abbrev pub EndsAtOnce : Phase → Outcome → Type 0
EndsAtOnce phase.Empty outcome = Unit {0}
EndsAtOnce phase.Sent outcome = ⊥
EndsAtOnce phase.Resumed outcome = ⊥
EndsAtOnce (phase.Ended last) outcome = last ≡ outcome
EndsAtOnce (phase.Decided last) outcome = (last ≡ outcome) ⊎ (outcome ≡ Abort)

-- the base sequence that a batch says is one
abbrev pub Fits : Step → Type 0
Fits (Batches held partition first count) = (n : ℕ) → sequence_in first ≡ Some n → IsSequence n
Fits step = Unit {0}

-- each sequence that is known is one
pub record IsGrant (g : Grant) : Type 0 where
  pub next : (partition n : ℕ) → next_at g partition ≡ Some n → IsSequence n
  pub base : (partition : ℕ) (listed : Listed) → listed_at g partition ≡ Some listed
      → (base : ℕ) → listed.base ≡ Some base → IsSequence base
