-- Answers to many inputs in a row, told by where they change.
use Rattle.std.specs.Prelude.{ℕ, List, [], ◌++◌, Option, None, Some, ◌==◌, bytes_eq, codes}
use Rattle.std.specs.Prelude.{decimal, length, if◌then◌else◌}

-- an answer, with the first and the last number that it was given for
pub record Run : Type 0 where
  pub first : ℕ
  pub last : ℕ
  pub answer : List ℕ

-- what is written of the answers that have ended, and the one that was given last
pub record Runs : Type 0 where
  pub text : List ℕ
  pub run : Option Run

abbrev pub no_runs : Runs
no_runs = record { text = []; run = None }

-- `68 1`, or `0..67 Short`
abbrev pub run_text : Run → List ℕ
run_text run =
    if run.first == run.last then decimal run.first ++ (codes " " ++ run.answer)
    else decimal run.first ++ (codes ".." ++ (decimal run.last ++ (codes " " ++ run.answer)))

-- what stands between those that have ended and the next
abbrev pub parted : List ℕ → List ℕ
parted text = if length text == 0 then [] else codes "; "

-- all of them in writing
abbrev pub written : List ℕ → Option Run → List ℕ
written text None = text
written text (Some run) = (text ++ parted text) ++ run_text run

-- an answer that was given for one number so far
abbrev pub single : ℕ → List ℕ → Run
single number answer = record { first = number; last = number; answer = answer }

-- one more answer: if it's that of the number before, that run goes on, else a new one begins
abbrev pub pushed : List ℕ → Option Run → ℕ → List ℕ → Runs
pushed text None number answer = record { text = text; run = Some (single number answer) }
pushed text (Some run) number answer =
    if bytes_eq run.answer answer
    then record { text = text; run = Some (record run { last = number }) }
    else record { text = written text (Some run); run = Some (single number answer) }
