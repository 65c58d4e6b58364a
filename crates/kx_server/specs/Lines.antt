-- What a server prints.
use Rattle.std.specs.Prelude.{ℕ, List, ◌++◌, codes, Option}
use Rattle.std.specs.Fmt.{decimal}
use Rattle.std.specs.Io.KnownBytes.{Appends}

-- a word and a number
abbrev pub line_of : List ℕ → ℕ → List ℕ
line_of word number = word ++ codes " " ++ decimal number ++ codes "\n"

-- the port, and in the end how many connections were served
abbrev pub Prints : ℕ → Option (List ℕ) → Option (List ℕ) → Type 0
Prints connections old new = (port : ℕ) × Appends old new
    (line_of (codes "listening") port ++ line_of (codes "served") connections)

-- the port
abbrev pub Listens : Option (List ℕ) → Option (List ℕ) → Type 0
Listens old new = (port : ℕ) × Appends old new (line_of (codes "listening") port)
