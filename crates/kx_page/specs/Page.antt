-- The page of a run, and its diagram alone, as texts.
use Rattle.std.specs.Prelude.{ℕ, ◌==◌, ◌%◌, ◌+◌, ◌-◌, ◌&&◌, List, [], ◌∷◌, ◌++◌, Option, Some}
use Rattle.std.specs.Prelude.{None, decimal, flat_map, if◌then◌else◌, length, min}
use Rattle.std.specs.Prelude.{nat_lt, string_bytes}
use Rattle.std.specs.Fmt.{signed_decimal}
use Rattle.kx_page.specs.Drawing.{about, between, class_of, image, lane_names, numbered, shown}
use Rattle.kx_page.specs.Pieces.{escaped, filled, fixed}
use Rattle.kx_page.specs.Places.{y_of}
use Rattle.kx_page.specs.declared.document.TheConstants.{ABOVE, AROUND, PART}
use Rattle.kx_page.specs.declared.places.TheConstants.{NAMES}
use Rattle.kx_page.specs.declared.rule.Rule.{Rule}
use Rattle.kx_page.specs.declared.rules.TheConstants.{RULES}
use Rattle.kx_page.specs.declared.run.Log.{Log}
use Rattle.kx_page.specs.declared.run.LoggedBatch.{LoggedBatch}
use Rattle.kx_page.specs.declared.run.Run.{Run}
use Rattle.kx_page.specs.declared.run.Step.{Step}
use Rattle.kx_page.specs.declared.script.TheConstants.{SCRIPT}
use Rattle.kx_page.specs.declared.style.TheConstants.{DIAGRAM, PAGE, TIPS}
use Rattle.kx_page.specs.declared.texts.TheConstants.{BATCH, DIAGRAM_HEAD, DIAGRAM_NAMES_END, END}
use Rattle.kx_page.specs.declared.texts.TheConstants.{FORM, HEAD, IMAGE_END, LIST_HEAD, LOG_END}
use Rattle.kx_page.specs.declared.texts.TheConstants.{LOG_HEAD, LOGS, NAMES_END, NAMES_HEAD}
use Rattle.kx_page.specs.declared.texts.TheConstants.{NEXT_TABLE, PART_END, PART_HEAD, ROW_END}
use Rattle.kx_page.specs.declared.texts.TheConstants.{ROW_HEAD, RULE_LINK, STEP_ROW}

abbrev pub head_of : Run → List ℕ
head_of run =
    let title = escaped run.title.now in
    filled HEAD.now (title ∷ DIAGRAM.now ∷ PAGE.now ∷ title ∷ decimal (length run.steps.items)
    ∷ decimal (length run.arrows.items) ∷ FORM.now ∷ [])

-- the names of the lanes
abbrev pub names_of : Run → List ℕ
names_of run =
    fixed NAMES_HEAD.now ++ image (length run.lanes.items) (decimal 0) NAMES ++ fixed TIPS.now
    ++ lane_names run.lanes.items ++ fixed NAMES_END.now

-- the link to the rule by which a step answered
abbrev pub rule_of : Option Rule → List ℕ
rule_of (Some rule) = filled RULE_LINK.now (rule.0.now ∷ rule.0.now ∷ [])
rule_of None = []

-- the row of a step: its number, what it did, what it took and sent, and its rule
abbrev pub row_of : ℕ → Step → List ℕ
row_of number step =
    fixed ROW_HEAD.now ++ about step.lane step.client step.producer
    ++ filled STEP_ROW.now (decimal number ∷ escaped (string_bytes step.title)
    ∷ escaped (string_bytes step.detail) ∷ [])
    ++ rule_of step.rule ++ fixed ROW_END.now

abbrev pub rows_in : ℕ → ℕ → List Step → List ℕ
rows_in first end steps = flat_map (λ step. row_of step.0 step.1) (between first end (numbered steps))

abbrev pub part_head : ℕ → ℕ → Run → List ℕ
part_head first end run =
    let height = y_of end 0 - y_of first 0 in
    filled PART_HEAD.now (decimal height ∷ [])
    ++ image (length run.lanes.items) (decimal (y_of first 0)) height

-- some steps: what their rows show, and the list of their rows
abbrev pub part_of : ℕ → ℕ → Run → List ℕ
part_of first end run =
    part_head first end run ++ shown first end run
    ++ filled LIST_HEAD.now (decimal first ∷ []) ++ rows_in first end run.steps.items
    ++ fixed PART_END.now

-- every so many steps a part begins
abbrev pub part_at : Run → ℕ → List ℕ
part_at run number =
    if number % PART == 0
    then part_of number (min (number + PART) (length run.steps.items)) run
    else []

-- the diagram with a row for each step, part by part
abbrev pub parts_of : Run → List ℕ
parts_of run = flat_map (λ step. part_at run step.0) (numbered run.steps.items)

-- a batch of a log as it ends: what became of its transaction is its class
abbrev pub batch_of : LoggedBatch → List ℕ
batch_of batch =
    filled BATCH.now (class_of batch.fate ∷ signed_decimal batch.offset
    ∷ escaped (string_bytes batch.kind) ∷ escaped batch.records.items ∷ escaped batch.reading.now
    ∷ [])

-- every so many batches a new table begins
abbrev pub table_at : ℕ → List ℕ
table_at number = if nat_lt 0 number && number % PART == 0 then fixed NEXT_TABLE.now else []

abbrev pub batch_in : ℕ → LoggedBatch → List ℕ
batch_in number batch = table_at number ++ batch_of batch

abbrev pub batches_of : List LoggedBatch → List ℕ
batches_of batches = flat_map (λ batch. batch_in batch.0 batch.1) (numbered batches)

abbrev pub log_head : Log → List ℕ
log_head log =
    filled LOG_HEAD.now (escaped (string_bytes log.name) ∷ signed_decimal log.stable
    ∷ signed_decimal log.end ∷ [])

abbrev pub log_of : Log → List ℕ
log_of log = log_head log ++ batches_of log.batches.items ++ fixed LOG_END.now

abbrev pub logs_of : List Log → List ℕ
logs_of logs = flat_map log_of logs

-- the logs as they end, the rules and the script
abbrev pub tail_of : Run → List ℕ
tail_of run =
    fixed LOGS.now ++ logs_of run.logs.items ++ filled END.now (RULES.now ∷ SCRIPT.now ∷ [])

abbrev pub page_of : Run → List ℕ
page_of run = head_of run ++ names_of run ++ parts_of run ++ tail_of run

-- the head of a diagram alone, which begins above the first step
abbrev pub diagram_head : Run → List ℕ
diagram_head run =
    image (length run.lanes.items) (signed_decimal ABOVE) (y_of (length run.steps.items) AROUND)
    ++ filled DIAGRAM_HEAD.now (escaped run.title.now ∷ DIAGRAM.now ∷ signed_decimal ABOVE
    ∷ TIPS.now ∷ signed_decimal ABOVE ∷ [])

abbrev pub diagram_of : Run → List ℕ
diagram_of run =
    diagram_head run ++ lane_names run.lanes.items ++ fixed DIAGRAM_NAMES_END.now
    ++ shown 0 (length run.steps.items) run ++ fixed IMAGE_END.now
