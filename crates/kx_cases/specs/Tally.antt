-- How the cases of a file are counted.
use Rattle.std.specs.Prelude.{◌≡◌, ◌≤◌, ◌<◌, ℕ, ◌+◌, ◌-◌, ◌^◌, Bool, true, false, Option}
use Rattle.std.specs.Prelude.{◌≢◌, ◌⊎◌, List, None, Result, Ok, Err, String, string_bytes}
use Rattle.std.specs.Prelude.{Some, IsSomeAnd, min, if◌then◌else◌}
use Rattle.kx_cases.specs.declared.fault.StepFault.{StepFault}
use Rattle.kx_cases.specs.declared.tally.Tally.{Tally}
use Rattle.kx_cases.specs.declared.tally.Running.{Running}

-- one more, or as many if no more fit
abbrev pub counted : ℕ → ℕ
counted n = min (n + 1) (2 ^ 64 - 1)

-- one more case was tried: it was right, or it failed
abbrev pub with_case : Bool → Tally → Tally
with_case is_right tally = record {
  tried = counted tally.tried;
  failed = if is_right then tally.failed else counted tally.failed;
}

-- the same if a case was being tried
abbrev pub ended : Option Bool → Tally → Tally
ended None tally = tally
ended (Some is_right) tally = with_case is_right tally

-- no more cases failed than were tried
abbrev pub IsWithin : Tally → Type 0
IsWithin tally = (tally.failed ≤ tally.tried) × (tally.tried < 2 ^ 64)

-- a step of the case that is being tried gave another answer, or none
abbrev pub IsWrong : Option Running → Type 0
IsWrong case = IsSomeAnd case (λ c. c.is_right ≡ false)

abbrev pub IsRight : Option Running → Type 0
IsRight case = IsSomeAnd case (λ c. c.is_right ≡ true)

-- the bytes that a step was answered, if it was
abbrev pub answer_of : {A : Type 0} → Result (String A) StepFault → Option (List ℕ)
answer_of (Ok answer) = Some (string_bytes answer)
answer_of (Err fault) = None

-- a case goes on as it was if the answer that is wanted came, else it's wrong
abbrev pub Judged : List ℕ → Option (List ℕ) → Option Running → Option Running → Type 0
Judged want given old new =
    ((given ≡ Some want) × (new ≡ old)) ⊎ ((given ≢ Some want) × IsWrong new)
