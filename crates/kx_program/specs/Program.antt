-- What the program does for its words: what it reads and writes, and how it ends.
use Rattle.std.specs.Prelude.{◌≡◌, ◌⊎◌, Bool, List, ℕ, Option, None, Some, Result, IfSome}
use Rattle.std.specs.Prelude.{◌||◌, IsTrue, MatchOption, OnOk, is_some}
use Rattle.std.specs.Io.KnownBytes.{Keeps}
use Rattle.std.specs.declared.io.ErrorKind.{ErrorKind as IoKind}
use Rattle.std.specs.declared.io.ErrorKind.TheVariants as io
use Rattle.clap.specs.Words.{Text}
use Rattle.kx_demo.specs.Telling.{Tells}
use Rattle.kx_demo.specs.declared.fault.DemoFault.{DemoFault}
use Rattle.kx_kafka_server.specs.Advertised.{Advertises}
use Rattle.kx_kafka_server.specs.declared.advertised.Advertised.{Advertised}
use Rattle.kx_program.specs.Asking.{EndsRefused, IsRefusedFor}
use Rattle.kx_program.specs.Endings.{ending_of_audit, ending_of_demo}
use Rattle.kx_program.specs.Tasks.{WordsAskFor}
use Rattle.kx_program.specs.declared.asking.Refusal.{Refusal}
use Rattle.kx_program.specs.declared.task.Pictures.{Pictures}
use Rattle.kx_program.specs.declared.task.Task.{Task}
use Rattle.kx_program.specs.declared.task.Task.TheVariants as task
use Rattle.kx_script.specs.Script.{EndsFlushed}
use Rattle.kx_server.specs.Lines.{Listens, Prints}
use Rattle.kx_serve.specs.declared.fault.ServeFault.{ServeFault}
use Rattle.kx_server_audit.specs.Contents.{unknown}
use Rattle.kx_server_audit.specs.Telling as audit
use Rattle.kx_server_audit.specs.declared.fault.AuditFault.{AuditFault}
use Rattle.kx_text.specs.Dump.{DumpsFlushed}
use Rattle.kx_text.specs.Statuses.{ending_of}
use Rattle.kx_text.specs.declared.dump.DumpFault.{DumpFault}
use Rattle.kx_text.specs.declared.fault.ScriptFault.{ScriptFault}
use Rattle.kx_text.specs.declared.program.Ending.{Ending}
use Rattle.kx_text.specs.declared.program.Ending.TheVariants as ending

-- a picture is asked for
abbrev pub asks_pictures : Pictures → Bool
asks_pictures asked = is_some asked.page || is_some asked.diagram

-- the script on standard input was run
abbrev pub Simulates : Option (List ℕ) → Option (List ℕ) → Option (List ℕ) → Ending → Type 0
Simulates input old new how = IfSome input (λ script. (ran : Result (Unit {0}) ScriptFault)
    × EndsFlushed script old new ran × (how ≡ ending_of ran))

-- the script's answers were written, as far as that could be done
abbrev pub Answers : Option (List ℕ) → Option (List ℕ) → Option (List ℕ) → Type 0
Answers input old new = IfSome input (λ script. (ran : Result (Unit {0}) ScriptFault)
    × EndsFlushed script old new ran)

-- the script was run, and drawn if that was asked for; or the program failed, since a picture
-- couldn't be written after the answers, or since the script couldn't be read
abbrev pub Draws : Pictures → Option (List ℕ) → Option (List ℕ) → Option (List ℕ) → Ending
    → Type 0
Draws asked input old new how =
    Simulates input old new how
    ⊎ (IsTrue (asks_pictures asked) × (how ≡ ending.Failed)
    × (Answers input old new ⊎ Keeps old new))

-- these bytes of a file were dumped
abbrev pub DumpsBytes : List ℕ → Option (List ℕ) → Option (List ℕ) → Ending → Type 0
DumpsBytes bytes old new how = (dumped : Result (Unit {0}) DumpFault)
    × DumpsFlushed bytes old new dumped × (how ≡ ending_of dumped)

-- a file was dumped, or couldn't be read, and nothing was written
abbrev pub DumpsFile : Option (List ℕ) → Option (List ℕ) → Ending → Type 0
DumpsFile old new how = (read : Option (List ℕ)) × MatchOption read
    ((how ≡ ending.Failed) × Keeps old new) (λ bytes. DumpsBytes bytes old new how)

-- a server served so many connections
abbrev pub ServesAll : ℕ → Option (List ℕ) → Option (List ℕ) → Ending → Type 0
ServesAll connections old new how = (served : Result (Unit {0}) ServeFault)
    × OnOk served (Prints connections old new) × (how ≡ ending_of served)

-- what is written is where clients are told to find the broker; nothing if nothing is written
abbrev pub IsAddressIn : Option Text → Option Advertised → Type 0
IsAddressIn None None = Unit {0}
IsAddressIn None (Some address) = ⊥
IsAddressIn (Some text) None = ⊥
IsAddressIn (Some text) (Some address) = Advertises text address

-- stock clients were served, from when the port was told; where the topics are wrong nothing was
-- written
abbrev pub ServesStock : Option (List ℕ) → Option (List ℕ) → Ending → Type 0
ServesStock old new ending.Done = Listens old new
ServesStock old new ending.WrongArguments = Keeps old new
ServesStock old new ending.Failed = Unit {0}

-- a demonstration was played and told; else the program failed
abbrev pub Plays : Option (List ℕ) → Option (List ℕ) → Ending → Type 0
Plays old new how = (how ≡ ending.Failed) ⊎ ((played : Result Bool DemoFault)
    × Tells old new played × (how ≡ ending_of_demo played))

-- a server was audited and told, its logs too if they were to be compared; else the program
-- failed
abbrev pub Audits : Bool → Option (List ℕ) → Option (List ℕ) → Ending → Type 0
Audits compares old new how = (how ≡ ending.Failed) ⊎ ((audited : Result Bool AuditFault)
    × audit.Tells unknown compares old new audited × (how ≡ ending_of_audit audited))

-- what was asked for was done
abbrev pub Performs : Option (List ℕ) → Option (List ℕ) → Option (List ℕ) → Task → Ending → Type 0
Performs input old new (task.Sim asked) how = Draws asked input old new how
Performs input old new (task.Dump path) how = DumpsFile old new how
Performs input old new (task.Serve options) how = ServesAll options.connections old new how
Performs input old new (task.Kafka asked) how = ServesStock old new how
Performs input old new (task.Demo asked) how = Plays old new how
Performs input old new (task.Audit asked) how = Audits (is_some asked.logs) old new how

-- where the words can't be had: one that isn't text is wrong
abbrev pub IsWithoutWords : IoKind → Ending → Type 0
IsWithoutWords io.InvalidData how = how ≡ ending.WrongArguments
IsWithoutWords _ how = how ≡ ending.Failed

-- the program did what the words ask for, or they ask for nothing
pub data DoesWords (words : List Text) (is_watched : Bool) (input old new : Option (List ℕ))
    (how : Ending) : Type 0 where
  Does : (what : Task) → WordsAskFor words is_watched what → Performs input old new what how
      → DoesWords words is_watched input old new how
  IsRefused : (why : Refusal) → IsRefusedFor words is_watched why → EndsRefused why how
      → DoesWords words is_watched input old new how
