-- Which numbers a server gives to the clients in whose name it speaks to the core.
use Rattle.std.specs.Prelude.{◌≡◌, ◌==◌, ◌<◌, ◌≤◌, ◌+◌, ◌-◌, ◌*◌, ◌/◌, ◌^◌, ◌&&◌, ◌||◌, ◌∷◌, []}
use Rattle.std.specs.Prelude.{ℕ, Bool, List, Option, None, Some, true, false}
use Rattle.std.specs.Prelude.{if◌then◌else◌, max, nat_lt}
use Rattle.kx_message.specs.declared.code.ErrorCode.{ErrorCode}
use Rattle.kx_message.specs.declared.code.ErrorCode.TheVariants as code
use Rattle.kx_kafka_server.specs.declared.span.Span.{Span}

-- a server's numbers are below this one
abbrev pub limit : ℕ
limit = 2 ^ 31

-- how many of them are left to a server, whatever numbers others had
abbrev pub spare : ℕ
spare = 2 ^ 20

-- how many numbers a block has
abbrev pub block : ℕ
block = 1024

-- the number is in one of the first blocks
abbrev pub is_within : ℕ → ℕ → Bool
is_within blocks number = nat_lt (number / block) blocks

-- with n blocks reserved, the owner of a transactional id leaves numbers above its own
abbrev pub leaves : ℕ → ℕ → Bool
leaves blocks owner = nat_lt owner limit && (is_within blocks owner || nat_lt owner (limit - spare))

-- where numbers begin in a folder in which n blocks are reserved: nowhere if no number is left
abbrev pub begun : ℕ → Option Span
begun blocks =
    if nat_lt blocks (limit / block) then Some (record { next = blocks * block; blocks = blocks })
    else None

-- an owner is known
abbrev pub noted : Span → ℕ → Span
noted span owner =
    if leaves span.blocks owner then record span { next = max span.next (owner + 1) } else span

abbrev pub noted_all : Span → List ℕ → Span
noted_all span [] = span
noted_all span (owner ∷ owners) = noted_all (noted span owner) owners

-- how many blocks are to be reserved before the next number is taken
abbrev pub missing : Span → ℕ
missing span = if nat_lt span.next limit then span.next / block + 1 - span.blocks else 0

-- they are reserved
abbrev pub reserved : Span → Span
reserved span = record span { blocks = span.blocks + missing span }

-- the next number can be taken
abbrev pub can_take : Span → Bool
can_take span = nat_lt span.next limit && is_within span.blocks span.next

abbrev pub taken : Span → Span
taken span = if can_take span then record span { next = span.next + 1 } else span

-- a number is used no more: it is the next again if it was the last
abbrev pub given_back : Span → ℕ → Span
given_back span number = if number + 1 == span.next then record span { next = number } else span

-- the coordinator keeps nothing of a client whose request for an id it answers so
abbrev pub keeps_nothing : ErrorCode → Bool
keeps_nothing code.ConcurrentTransactions = true
keeps_nothing code.ProducerFenced = true
keeps_nothing other = false

------ What is in use

-- the numbers of a server, and those of them that are in use
pub record Use : Type 0 where
  pub span : Span
  pub used : List ℕ

pub data Step : Type 0 where
  Reserves : Step
  Takes : Step
  GivesBack : ℕ → Step

abbrev pub without : ℕ → List ℕ → List ℕ
without number [] = []
without number (n ∷ ns) = if n == number then without number ns else n ∷ without number ns

abbrev pub after_take : Use → Use
after_take u =
    if can_take u.span then record { span = taken u.span; used = u.span.next ∷ u.used }
    else u

abbrev pub after_step : Use → Step → Use
after_step u Reserves = record { span = reserved u.span; used = u.used }
after_step u Takes = after_take u
after_step u (GivesBack number) =
    record { span = given_back u.span number; used = without number u.used }

abbrev pub after_steps : Use → List Step → Use
after_steps u [] = u
after_steps u (step ∷ steps) = after_steps (after_step u step) steps

abbrev pub AreBelow : ℕ → List ℕ → Type 0
AreBelow next [] = Unit {0}
AreBelow next (number ∷ numbers) = (number < next) × AreBelow next numbers

-- the next number is above all that are in use
abbrev pub NoneIsTakenTwice : Type 0
NoneIsTakenTwice = (span : Span) (steps : List Step)
    → let after = after_steps (record { span = span; used = [] }) steps in
    AreBelow after.span.next after.used

------ Where numbers begin

-- the next number is above each of these owners that leaves some
abbrev pub IsAboveAll : ℕ → ℕ → List ℕ → Type 0
IsAboveAll blocks next [] = Unit {0}
IsAboveAll blocks next (owner ∷ owners) =
    (leaves blocks owner ≡ true → owner < next) × IsAboveAll blocks next owners

-- numbers begin above each owner that leaves some, and not below where they began without owners
abbrev pub BeginAbove : Type 0
BeginAbove = (span : Span) (owners : List ℕ)
    → IsAboveAll span.blocks (noted_all span owners).next owners
    × (span.next ≤ (noted_all span owners).next)
