-- A line that repeats every frame.
use Rattle.std.specs.Prelude.{ℕ, ◌++◌, ◌∷◌, [], List, length, nat_lt, Option, None}
use Rattle.std.specs.Prelude.{if◌then◌else◌, Bool}
use Rattle.kx_message.specs.declared.message.Message.{Message}

-- the copies of the last frames, none of one that was lost
pub record Holds : Type 0 where
  pub holding : ℕ
  pub copies : List (Option Message)

-- the copies with one more behind them
abbrev pub kept : Holds → Option Message → List (Option Message)
kept delayed copy = delayed.copies ++ copy ∷ []

-- more are kept than are held back
abbrev pub is_due : Holds → Option Message → Bool
is_due delayed copy = nat_lt delayed.holding (length (kept delayed copy))

abbrev pub first_of : List (Option Message) → Option Message
first_of [] = None
first_of (copy ∷ more) = copy

abbrev pub rest_of : List (Option Message) → List (Option Message)
rest_of [] = []
rest_of (copy ∷ more) = more

-- the copy that goes out with the frame
abbrev pub due_of : Holds → Option Message → Option Message
due_of delayed copy = if is_due delayed copy then first_of (kept delayed copy) else None

abbrev pub delayed_after : Holds → Option Message → Holds
delayed_after delayed copy = record delayed {
  copies = if is_due delayed copy then rest_of (kept delayed copy) else kept delayed copy;
}
