-- What the words of a command line ask for, by what clap finds in them.
use Rattle.std.specs.Prelude.{◌≡◌, ◌<◌, ◌^◌, ◌&&◌, ◌||◌, ℕ, List, Bool, true, false, Option, None, Some, codes}
use Rattle.std.specs.Prelude.{if◌then◌else◌, not, option_map}
use Rattle.std.specs.Str.Parse.{IsNumeral, digits_value, without_leading_plus}
use Rattle.clap.specs.Words.{Row, Text, first_of, one_of, subcommand_of}
use Rattle.kx_bounded.specs.Bounds.{IsWithin}
use Rattle.kx_play.specs.declared.options.PlayOptions.{PlayOptions}
use Rattle.kx_program.specs.Usage.{program_app}
use Rattle.kx_program.specs.declared.task.Auditing.{Auditing}
use Rattle.kx_program.specs.declared.task.Demonstration.{Demonstration}
use Rattle.kx_program.specs.declared.task.Pictures.{Pictures}
use Rattle.kx_program.specs.declared.task.StockClients.{StockClients}
use Rattle.kx_program.specs.declared.task.Task.{Task}
use Rattle.kx_program.specs.declared.task.Task.TheVariants as task
use Rattle.kx_serve.specs.declared.options.KafkaOptions.{KafkaOptions}
use Rattle.kx_serve.specs.declared.options.ServeOptions.{ServeOptions}

-- the text is this number of so many bits, in decimal digits
abbrev pub Writes : ℕ → Option Text → ℕ → Type 0
Writes bits None n = ⊥
Writes bits (Some text) n = IsNumeral 10 (without_leading_plus text) × (n < 2 ^ bits)
    × (n ≡ digits_value 10 (without_leading_plus text))

-- a flag is on if it was given
abbrev pub Flags : Option Text → Bool → Type 0
Flags None on = on ≡ false
Flags (Some text) on = (text ≡ codes "true" → on ≡ true) × (text ≡ codes "false" → on ≡ false)

-- no timeout is written as 0
abbrev pub millis_of : Option ℕ → ℕ
millis_of None = 0
millis_of (Some timeout) = timeout

-- a timeout, if there is one, is within its range
abbrev pub FitsTimeout : Option ℕ → Type 0
FitsTimeout None = Unit {0}
FitsTimeout (Some timeout) = IsWithin 1 900000 timeout

-- the options of `serve`
pub record IsServe (rows : List Row) (is_watched : Bool) (options : ServeOptions) : Type 0 where
  pub partitions : Writes 16 (one_of (codes "partitions") rows) options.partitions
  pub partitions_fit : IsWithin 1 16 options.partitions
  pub connections : Writes 16 (one_of (codes "connections") rows) options.connections
  pub connections_fit : IsWithin 1 1024 options.connections
  pub port : Writes 16 (one_of (codes "port") rows) options.port
  pub dir : option_map (λ d. d.now) options.dir ≡ first_of (codes "dir") rows
  pub traces : option_map (λ d. d.now) options.traces ≡ first_of (codes "trace") rows
  pub renews : Flags (one_of (codes "new-traces") rows) options.new_traces
  pub tells : options.tells_progress ≡ is_watched
  pub notices : Flags (one_of (codes "log") rows) options.tells_notices
  pub expires : Flags (one_of (codes "expire") rows) options.expires
  pub session : Writes 32 (one_of (codes "session-timeout") rows)
      (millis_of options.session_timeout)
  pub session_fits : FitsTimeout options.session_timeout

-- the options of `kafka`
pub record IsKafka (rows : List Row) (is_watched : Bool) (asked : StockClients) : Type 0 where
  pub topics : option_map (λ t. t.now) asked.topics ≡ first_of (codes "topics") rows
  pub port : Writes 16 (one_of (codes "port") rows) asked.port
  pub advertise : option_map (λ a. a.now) asked.advertise ≡ first_of (codes "advertise") rows
  pub dir : option_map (λ d. d.now) asked.dir ≡ first_of (codes "dir") rows
  pub traces : option_map (λ d. d.now) asked.traces ≡ first_of (codes "trace") rows
  pub renews : Flags (one_of (codes "new-traces") rows) asked.new_traces
  pub makes : Writes 16 (one_of (codes "auto-topics") rows) asked.auto_topics
  pub makes_none : Flags (one_of (codes "no-auto-topics") rows) asked.no_auto_topics
  pub idle : Writes 32 (one_of (codes "idle") rows) (millis_of asked.idle)
  pub idle_fits : FitsTimeout asked.idle
  pub log : Flags (one_of (codes "log") rows) asked.log
  pub no_log : Flags (one_of (codes "no-log") rows) asked.no_log
  pub tells : asked.tells_progress ≡ is_watched

-- whether notices are written: they are asked for, or somebody watches and nobody asked for none
abbrev pub tells_notices : StockClients → Bool
tells_notices asked = asked.log || (asked.tells_progress && not asked.no_log)

-- how many topics are made when clients first ask for them
abbrev pub topics_made : StockClients → ℕ
topics_made asked = if asked.no_auto_topics then 0 else asked.auto_topics

-- what the server of stock clients is given of what was asked for
pub record IsGiven (asked : StockClients) (options : KafkaOptions) : Type 0 where
  pub port : options.port ≡ asked.port
  pub dir : options.dir ≡ asked.dir
  pub traces : options.traces ≡ asked.traces
  pub renews : options.new_traces ≡ asked.new_traces
  pub makes : options.auto_topics ≡ topics_made asked
  pub idle : options.idle ≡ asked.idle
  pub tells : options.tells_progress ≡ asked.tells_progress
  pub notices : options.tells_notices ≡ tells_notices asked

-- what is played
pub record IsPlay (rows : List Row) (options : PlayOptions) : Type 0 where
  pub workers : Writes 16 (one_of (codes "workers") rows) options.workers
  pub workers_fit : IsWithin 1 16 options.workers
  pub records : Writes 16 (one_of (codes "records") rows) options.records
  pub records_fit : IsWithin 1 10000 options.records
  pub seed : Writes 64 (one_of (codes "seed") rows) options.seed
  pub lose : Writes 16 (one_of (codes "lose") rows) options.lose
  pub lose_fits : IsWithin 0 50 options.lose
  pub hold : Writes 16 (one_of (codes "hold") rows) options.hold
  pub hold_fits : IsWithin 0 8 options.hold

-- the options of `demo`
pub record IsDemo (rows : List Row) (asked : Demonstration) : Type 0 where
  pub plays : IsPlay rows asked.options
  pub trace : option_map (λ t. t.now) asked.trace ≡ first_of (codes "trace") rows
  pub page : option_map (λ p. p.now) asked.page ≡ first_of (codes "page") rows

-- the pictures that `sim` is asked for
pub record IsSim (rows : List Row) (asked : Pictures) : Type 0 where
  pub page : option_map (λ p. p.now) asked.page ≡ first_of (codes "page") rows
  pub diagram : option_map (λ d. d.now) asked.diagram ≡ first_of (codes "svg") rows

-- the options of `audit`
pub record IsAudit (rows : List Row) (is_watched : Bool) (asked : Auditing) : Type 0 where
  pub traces : first_of (codes "DIR") rows ≡ Some asked.traces.now
  pub logs : option_map (λ d. d.now) asked.logs ≡ first_of (codes "dir") rows
  pub tells : asked.tells_progress ≡ is_watched
  pub page : option_map (λ p. p.now) asked.page ≡ first_of (codes "page") rows

-- the subcommand of this name asks for this, with these options
abbrev pub IsAsked : Text → List Row → Bool → Task → Type 0
IsAsked name rows is_watched (task.Sim asked) = (name ≡ codes "sim") × IsSim rows asked
IsAsked name rows is_watched (task.Dump path) =
    (name ≡ codes "dump") × (first_of (codes "FILE") rows ≡ Some path.now)
IsAsked name rows is_watched (task.Serve options) =
    (name ≡ codes "serve") × IsServe rows is_watched options
IsAsked name rows is_watched (task.Kafka asked) =
    (name ≡ codes "kafka") × IsKafka rows is_watched asked
IsAsked name rows is_watched (task.Demo asked) = (name ≡ codes "demo") × IsDemo rows asked
IsAsked name rows is_watched (task.Audit asked) =
    (name ≡ codes "audit") × IsAudit rows is_watched asked

-- what was found of a subcommand asks for this
abbrev pub AsksFor : Option (Text × List Row) → Bool → Task → Type 0
AsksFor None is_watched what = ⊥
AsksFor (Some found) is_watched what = IsAsked found.0 found.1 is_watched what

-- these words, of which the first is the program's name, ask for this
abbrev pub WordsAskFor : List Text → Bool → Task → Type 0
WordsAskFor words is_watched what = AsksFor (subcommand_of program_app words) is_watched what
