-- The file of topics: a line for each, in the table's order.
use Rattle.std.specs.Prelude.{◌≡◌, ◌+◌, ℕ, List, [], ◌∷◌, ◌++◌, length, Bool, IsTrue, IsSome}
use Rattle.std.specs.Prelude.{not, ◌==◌, decimal}
use Rattle.std.specs.List.{list_all, flat_map}
use Rattle.kx_gateway.specs.declared.table_file.TopicsFault.{TopicsFault}
use Rattle.kx_gateway.specs.declared.table_file.TopicsFault.TheVariants.{Damaged, Memory}
use Rattle.kx_gateway.specs.declared.topics.TopicFault.{TopicFault}
use Rattle.kx_gateway.specs.declared.topics.TopicFault.TheVariants as fault
use Rattle.kx_gateway.specs.Topics.{Entry, IsTable, add_fault}

-- a topic's name, a space and its number of partitions
abbrev pub words_of : Entry → List ℕ
words_of e = e.name ++ 32 ∷ decimal e.count

-- and a newline
abbrev pub line_text : Entry → List ℕ
line_text e = words_of e ++ 10 ∷ []

abbrev pub table_text : List Entry → List ℕ
table_text table = flat_map line_text table

-- no byte of the text is this
abbrev pub lacks : ℕ → List ℕ → Bool
lacks byte text = list_all (λ b. not (b == byte)) text

-- the text is the lines of this table, so many bytes, and then less than a line
abbrev pub AreLines : List ℕ → List Entry → ℕ → Type 0
AreLines text table len =
    (torn : List ℕ) × (text ≡ table_text table ++ torn) × (len ≡ length (table_text table))
    × IsTrue (lacks 10 torn)

-- a line says no topic that may follow those of a table
abbrev pub SaysNothing : List Entry → List ℕ → Type 0
SaysNothing table line = (e : Entry) → words_of e ≡ line → IsSome (add_fault table e.name e.count)

-- such a line comes after those of a table; lines are numbered from 1
pub record IsBadLine (text : List ℕ) (number : ℕ) : Type 0 where
  pub table : List Entry
  pub before : IsTable table
  pub counted : number ≡ length table + 1
  pub line : List ℕ
  pub rest : List ℕ
  pub parts : text ≡ table_text table ++ (line ++ 10 ∷ rest)
  pub whole : IsTrue (lacks 10 line)
  pub bad : SaysNothing table line

abbrev pub IsDamaged : List ℕ → TopicsFault → Type 0
IsDamaged text (Damaged number) = IsBadLine text number
IsDamaged text Memory = Unit {0}

-- all but out of memory is damage
abbrev pub line_fault : TopicFault → ℕ → TopicsFault
line_fault fault.Name number = Damaged number
line_fault fault.Twice number = Damaged number
line_fault fault.Count number = Damaged number
line_fault fault.Memory number = Memory

-- why a line isn't taken
abbrev pub Refuses : List Entry → List ℕ → TopicsFault → Type 0
Refuses table line (Damaged number) =
    IsTable table × (number ≡ length table + 1) × SaysNothing table line
Refuses table line Memory = Unit {0}
