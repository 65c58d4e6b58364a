-- How a name lies in its room, and what a conversion to one answers.
use Rattle.std.specs.Prelude.{◌≡◌, ℕ, ◌-◌, ◌≤◌, List, ◌++◌, length, take, drop, replicate, Result}
use Rattle.std.specs.Prelude.{OkIff, IsOkUnless}
use Rattle.std.proofs.Common.{arith}
use Rattle.std.proofs.lemmas.List.{length-take-le, take-append-drop}
use Rattle.kx_message.specs.declared.fault.ValueFault.{ValueFault}
use Rattle.kx_message.specs.declared.fault.ValueFault.TheVariants as fault
use Rattle.kx_message.specs.Ranges.{IsName, longest_name}

-- the result is the text if that is a name, and else the fault
abbrev pub TakesName : List ℕ → Result (List ℕ) ValueFault → Type 0
TakesName text r = OkIff r (IsName text) text × IsOkUnless r fault.Name

-- the zeros after a text
abbrev pub padding : List ℕ → List ℕ
padding text = replicate (longest_name - length text) 0

-- the room holds a name of this length, and zeros after it
pub record HoldsName (room : List ℕ) (len : ℕ) : Type 0 where
  pub whole : length room ≡ longest_name
  pub within : len ≤ longest_name
  pub name : IsName (take len room)
  pub zeros : drop len room ≡ padding (take len room)

-- the name and the zeros after it are the whole room
pub name-padding : (room : List ℕ) (len : ℕ) → HoldsName room len
    → take len room ++ padding (take len room) ≡ room
name-padding room len h = rw (← h.zeros) (take-append-drop len room)

pub length-name : (room : List ℕ) (len : ℕ) → HoldsName room len → length (take len room) ≡ len
length-name room len h = length-take-le len room (omega (arith, h.whole, h.within))
