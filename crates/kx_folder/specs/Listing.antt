-- A store in a file, whose appends put the file on the list of its folder.
use Rattle.std.specs.Prelude.{ℕ, List, Option, take}
use Rattle.std.specs.Io.KnownBytes.{Appends}
use Rattle.kx_files.specs.Summed.{SummedState}
use Rattle.kx_folder.specs.Folder.{line_text, listed_as, most_first}

-- the list of the folder of this number, for the file of this name, and what its writer holds, if it
-- shows that
pub record ListState : Type 0 where
  pub number : ℕ
  pub name : List ℕ
  pub contents : Option (List ℕ)

-- the line of a file that begins with these bytes was written
abbrev pub Lists : List ℕ → ListState → ListState → Type 0
Lists bytes old new = Appends old.contents new.contents
    (line_text (listed_as old.number old.name (take most_first bytes)))

-- the store, and the list, as long as it can be written
pub record ListedState : Type 0 where
  pub summed : SummedState
  pub list : Option ListState
