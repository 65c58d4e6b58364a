-- The command line as clap reads it: subcommands, options, and the ranges of their values.
use Rattle.std.specs.Prelude.{ℕ, ◌∷◌, [], Some, pos, true, codes}
use Rattle.clap.specs.Words.{App, Rule, Text, new_app, new_rule, with_rule, with_subcommand}
use Rattle.clap.specs.declared.builder.action.ArgAction.TheVariants.{Set, SetTrue}
use Rattle.clap.specs.declared.builder.value_parser.ValueParser.{ValueParser}
use Rattle.clap.specs.declared.builder.value_parser.ValueParser.TheVariants as parser

-- an option with a value, and a word for the value
abbrev pub option_of : Text → Rule
option_of name = record (new_rule name) { long = Some name; value_names = 1; action = Some Set }

-- an option without a value
abbrev pub flag_of : Text → Rule
flag_of name = record (new_rule name) { long = Some name; action = Some SetTrue }

-- its value is one that this parser takes
abbrev pub read_by : ValueParser → Rule → Rule
read_by how rule = record rule { parser = Some how }

abbrev pub with_default : Text → Rule → Rule
with_default text rule = record rule { defaults = text ∷ [] }

abbrev pub needed : Rule → Rule
needed rule = record rule { required = true }

-- a number in a range
abbrev pub between : ℕ → ℕ → ValueParser
between least most = parser.Signed (pos least) (pos most)

abbrev pub page_rule : Rule
page_rule = read_by parser.NonEmptyString (option_of (codes "page"))

abbrev pub svg_rule : Rule
svg_rule = read_by parser.NonEmptyString (option_of (codes "svg"))

abbrev pub sim_app : App
sim_app = with_rule (with_rule (new_app (codes "sim")) page_rule) svg_rule

-- an argument that has to be given, in its place
abbrev pub argument_of : Text → Rule
argument_of name =
    read_by parser.NonEmptyString (needed (record (new_rule name) { action = Some Set }))

abbrev pub dumped_rule : Rule
dumped_rule = argument_of (codes "FILE")

abbrev pub dump_app : App
dump_app = with_rule (new_app (codes "dump")) dumped_rule

abbrev pub partitions_rule : Rule
partitions_rule = read_by (between 1 16) (needed (option_of (codes "partitions")))

abbrev pub connections_rule : Rule
connections_rule = read_by (between 1 1024) (needed (option_of (codes "connections")))

abbrev pub port_rule : Rule
port_rule = read_by (between 0 65535) (with_default (codes "0") (option_of (codes "port")))

abbrev pub dir_rule : Rule
dir_rule = read_by parser.NonEmptyString (option_of (codes "dir"))

abbrev pub traces_rule : Rule
traces_rule = read_by parser.NonEmptyString (option_of (codes "trace"))

abbrev pub new_traces_rule : Rule
new_traces_rule = flag_of (codes "new-traces")

abbrev pub expire_rule : Rule
expire_rule = flag_of (codes "expire")

abbrev pub session_timeout_rule : Rule
session_timeout_rule =
    read_by (between 0 900000) (with_default (codes "0") (option_of (codes "session-timeout")))

abbrev pub log_rule : Rule
log_rule = flag_of (codes "log")

abbrev pub no_log_rule : Rule
no_log_rule = flag_of (codes "no-log")

abbrev pub serve_app : App
serve_app = with_rule (with_rule (with_rule (with_rule (with_rule (with_rule (with_rule (with_rule
    (with_rule (new_app (codes "serve")) partitions_rule) connections_rule) port_rule) dir_rule)
    traces_rule) new_traces_rule) expire_rule) session_timeout_rule) log_rule

abbrev pub topics_rule : Rule
topics_rule = read_by parser.NonEmptyString (option_of (codes "topics"))

abbrev pub kafka_port_rule : Rule
kafka_port_rule = read_by (between 0 65535) (with_default (codes "9092") (option_of (codes "port")))

abbrev pub advertise_rule : Rule
advertise_rule = read_by parser.NonEmptyString (option_of (codes "advertise"))

abbrev pub no_auto_topics_rule : Rule
no_auto_topics_rule = flag_of (codes "no-auto-topics")

abbrev pub auto_topics_rule : Rule
auto_topics_rule =
    read_by (between 0 65535) (with_default (codes "16") (option_of (codes "auto-topics")))

abbrev pub idle_rule : Rule
idle_rule = read_by (between 0 900000) (with_default (codes "600000") (option_of (codes "idle")))

abbrev pub kafka_app : App
kafka_app = with_rule (with_rule (with_rule (with_rule (with_rule (with_rule (with_rule (with_rule
    (with_rule (with_rule (with_rule (new_app (codes "kafka")) topics_rule) kafka_port_rule)
    advertise_rule) dir_rule) traces_rule) new_traces_rule) auto_topics_rule) no_auto_topics_rule)
    idle_rule) log_rule) no_log_rule

abbrev pub workers_rule : Rule
workers_rule = read_by (between 1 16) (with_default (codes "4") (option_of (codes "workers")))

abbrev pub records_rule : Rule
records_rule = read_by (between 1 10000) (with_default (codes "100") (option_of (codes "records")))

abbrev pub seed_rule : Rule
seed_rule = read_by (parser.Unsigned 0 18446744073709551615)
    (with_default (codes "1") (option_of (codes "seed")))

abbrev pub lose_rule : Rule
lose_rule = read_by (between 0 50) (with_default (codes "0") (option_of (codes "lose")))

abbrev pub hold_rule : Rule
hold_rule = read_by (between 0 8) (with_default (codes "0") (option_of (codes "hold")))

abbrev pub trace_rule : Rule
trace_rule = read_by parser.NonEmptyString (option_of (codes "trace"))

abbrev pub demo_app : App
demo_app = with_rule (with_rule (with_rule (with_rule (with_rule (with_rule (with_rule
    (new_app (codes "demo")) workers_rule) records_rule) seed_rule) lose_rule) hold_rule)
    trace_rule) page_rule

abbrev pub audited_rule : Rule
audited_rule = argument_of (codes "DIR")

abbrev pub logs_rule : Rule
logs_rule = read_by parser.NonEmptyString (option_of (codes "dir"))

abbrev pub audit_app : App
audit_app =
    with_rule (with_rule (with_rule (new_app (codes "audit")) audited_rule) logs_rule) page_rule

-- a subcommand has to be there
abbrev pub with_needed_subcommand : App → App
with_needed_subcommand app = record app { top = record app.top { subcommand_required = true } }

-- the whole command line
abbrev pub program_app : App
program_app = with_subcommand (with_subcommand (with_subcommand (with_subcommand (with_subcommand
    (with_subcommand (with_needed_subcommand (new_app (codes "kx"))) sim_app.top)
    dump_app.top) serve_app.top) kafka_app.top) demo_app.top) audit_app.top
