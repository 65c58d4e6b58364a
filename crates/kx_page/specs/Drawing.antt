-- The diagram of a run: the lanes from the left, time downwards, messages as arrows.
use Rattle.std.specs.Prelude.{ℕ, ℤ, ◌&&◌, List, [], ◌∷◌, ◌++◌, Option, Some, None, codes}
use Rattle.std.specs.Prelude.{decimal, flat_map, if◌then◌else◌, nat_le, nat_lt}
use Rattle.std.specs.Prelude.{drop, string_bytes, take}
use Rattle.std.specs.Fmt.{signed_decimal}
use Rattle.std.specs.List.{enumerate_from}
use Rattle.kx_page.specs.Pieces.{escaped, filled, fixed}
use Rattle.kx_page.specs.Places.{down, halfway, width_of, x_of, y_of}
use Rattle.kx_page.specs.declared.places.TheConstants.{BESIDE, BOX_WIDTH, CENTRE, LEFT, LOWER, MIDDLE}
use Rattle.kx_page.specs.declared.places.TheConstants.{NAME, RIGHT, ROW, UNDER, UPPER, WORDS}
use Rattle.kx_page.specs.declared.run.Arrow.{Arrow}
use Rattle.kx_page.specs.declared.run.Fate.{Fate}
use Rattle.kx_page.specs.declared.run.Fate.TheVariants.{Aborted, Committed, Open, Plain}
use Rattle.kx_page.specs.declared.run.Lane.{Lane}
use Rattle.kx_page.specs.declared.run.Mark.{Mark}
use Rattle.kx_page.specs.declared.run.Mark.TheVariants.{Batch, Dot, Failure, Marker, Restart}
use Rattle.kx_page.specs.declared.run.Run.{Run}
use Rattle.kx_page.specs.declared.run.Step.{Step}
use Rattle.kx_page.specs.declared.run.Way.{Way}
use Rattle.kx_page.specs.declared.run.Way.TheVariants.{Again, First, Lost, Outside}
use Rattle.kx_page.specs.declared.texts.TheConstants.{ACROSS, ARROW, ARROW_HEAD, BOX, DOT, HEAD_END}
use Rattle.kx_page.specs.declared.texts.TheConstants.{IMAGE, LANE_LINE, LANE_NAME, OF_CLIENT, OF_LANE}
use Rattle.kx_page.specs.declared.texts.TheConstants.{OF_PRODUCER, STABLE, STEP_HEAD, STEP_TITLE}
use Rattle.kx_page.specs.declared.texts.TheConstants.{WAITING}

-- the items of a list, each after its number
abbrev pub numbered : {X : Type 0} → List X → List (ℕ × X)
numbered xs = enumerate_from 0 xs

-- the items from one number on, up to another
abbrev pub between : {X : Type 0} → ℕ → ℕ → List X → List X
between first end xs = drop first (take end xs)

-- the class of what is about a transaction, which says what became of it
abbrev pub class_of : Fate → List ℕ
class_of Plain = codes "n"
class_of Open = codes "o"
class_of Committed = codes "c"
class_of Aborted = codes "a"

abbrev pub mark_class : Mark → List ℕ
mark_class Dot = codes "dot "
mark_class Batch = codes "batch "
mark_class Marker = codes "marker "
mark_class Restart = codes "restart "
mark_class Failure = codes "failure "

abbrev pub way_class : Way → List ℕ
way_class First = codes "m "
way_class Again = codes "m again "
way_class Lost = codes "m lost "
way_class Outside = codes "m out "

abbrev pub client_of : Option ℕ → List ℕ
client_of (Some client) = filled OF_CLIENT.now (decimal client ∷ [])
client_of None = []

abbrev pub producer_of : Option ℤ → List ℕ
producer_of (Some producer) = filled OF_PRODUCER.now (signed_decimal producer ∷ [])
producer_of None = []

-- what the page's script reads of a row, a step and an arrow
abbrev pub about : ℕ → Option ℕ → Option ℤ → List ℕ
about lane client producer =
    filled OF_LANE.now (decimal lane ∷ []) ++ client_of client ++ producer_of producer

-- the line from a batch down to the marker that ended its transaction
abbrev pub wait_until : ℕ → Step → Option ℕ → List ℕ
wait_until number step (Some ended) =
    filled WAITING.now (class_of step.fate ∷ decimal (x_of step.lane LEFT)
    ∷ decimal (y_of number CENTRE) ∷ decimal (y_of ended CENTRE) ∷ [])
wait_until number step None = []

abbrev pub waiting : ℕ → Step → List ℕ
waiting number step = wait_until number step step.ended

abbrev pub framed : ℕ → ℕ → List ℕ → List ℕ
framed number lane corners =
    filled BOX.now (decimal (x_of lane LEFT) ∷ decimal (y_of number UPPER) ∷ decimal BOX_WIDTH
    ∷ corners ∷ [])

abbrev pub across : ℕ → ℕ → List ℕ
across number lane =
    filled ACROSS.now (decimal (x_of lane LEFT) ∷ decimal (y_of number LOWER)
    ∷ decimal BOX_WIDTH ∷ [])

abbrev pub dot : ℕ → ℕ → List ℕ
dot number lane = filled DOT.now (decimal (x_of lane MIDDLE) ∷ decimal (y_of number CENTRE) ∷ [])

-- a batch is a box, a marker a round one, a restart and a failure a line across the lane
abbrev pub shape : ℕ → ℕ → Mark → List ℕ
shape number lane Dot = dot number lane
shape number lane Batch = framed number lane (codes "2")
shape number lane Marker = framed number lane (codes "9")
shape number lane Restart = across number lane
shape number lane Failure = across number lane

-- words are in the middle of a box, and beside a dot
abbrev pub words_at : Mark → ℕ
words_at Dot = BESIDE
words_at Batch = MIDDLE
words_at Marker = MIDDLE
words_at Restart = MIDDLE
words_at Failure = MIDDLE

abbrev pub title : ℕ → Step → List ℕ
title number step =
    filled STEP_TITLE.now (decimal (x_of step.lane (words_at step.mark))
    ∷ decimal (y_of number WORDS) ∷ escaped (string_bytes step.title) ∷ [])

-- the last stable offset that a step left, if it changed it
abbrev pub stable_at : ℕ → ℕ → Option ℤ → List ℕ
stable_at number lane (Some offset) =
    filled STABLE.now (decimal (x_of lane LEFT) ∷ decimal (y_of number ROW) ∷ decimal BOX_WIDTH
    ∷ decimal (x_of lane RIGHT) ∷ decimal (y_of number UNDER) ∷ signed_decimal offset ∷ [])
stable_at number lane None = []

abbrev pub stable : ℕ → Step → List ℕ
stable number step = stable_at number step.lane step.stable

abbrev pub link_head : ℕ → Step → List ℕ
link_head number step =
    filled STEP_HEAD.now (mark_class step.mark ∷ class_of step.fate ∷ decimal number ∷ [])
    ++ about step.lane step.client step.producer ++ fixed HEAD_END.now

-- a step, as a link to its row
abbrev pub step_of : ℕ → Step → List ℕ
step_of number step =
    waiting number step ++ link_head number step ++ shape number step.lane step.mark
    ++ title number step ++ stable number step

-- a message that arrived ends at the step that took it; one for a client outside in its lane; a lost
-- one halfway
abbrev pub end_by : Arrow → Way → ℕ × ℕ
end_by arrow First = (x_of arrow.to MIDDLE, y_of arrow.taken CENTRE)
end_by arrow Again = (x_of arrow.to MIDDLE, y_of arrow.taken CENTRE)
end_by arrow Outside = (x_of arrow.to MIDDLE, y_of arrow.sent ROW)
end_by arrow Lost = (halfway (x_of arrow.from MIDDLE) (x_of arrow.to MIDDLE), y_of arrow.sent ROW)

abbrev pub arrow_end : Arrow → ℕ × ℕ
arrow_end arrow = end_by arrow arrow.way

abbrev pub arrow_head : Arrow → List ℕ
arrow_head arrow =
    filled ARROW_HEAD.now (way_class arrow.way ∷ class_of arrow.fate ∷ decimal arrow.sent
    ∷ decimal arrow.taken ∷ [])
    ++ about arrow.to arrow.client arrow.producer ++ fixed HEAD_END.now

abbrev pub line_to : Arrow → ℕ × ℕ → List ℕ
line_to arrow end =
    let from = x_of arrow.from MIDDLE in
    let sent = y_of arrow.sent CENTRE in
    filled ARROW.now (decimal from ∷ decimal sent ∷ decimal end.0 ∷ decimal end.1
    ∷ escaped (string_bytes arrow.text) ∷ decimal (halfway from end.0)
    ∷ decimal (down (halfway sent end.1) NAME) ∷ escaped arrow.name.now ∷ [])

abbrev pub arrow_line : Arrow → List ℕ
arrow_line arrow = line_to arrow (arrow_end arrow)

-- an arrow, if it crosses the rows from one step on up to another
abbrev pub arrow_in : ℕ → ℕ → Arrow → List ℕ
arrow_in first end arrow =
    if nat_lt arrow.sent end && nat_le first arrow.taken
    then arrow_head arrow ++ arrow_line arrow
    else []

abbrev pub arrows_in : ℕ → ℕ → List Arrow → List ℕ
arrows_in first end arrows = flat_map (arrow_in first end) arrows

abbrev pub lane_line : ℕ → ℕ → ℕ → List ℕ
lane_line first end lane =
    filled LANE_LINE.now (decimal (x_of lane MIDDLE) ∷ decimal (y_of first 0) ∷ decimal (y_of end 0)
    ∷ [])

abbrev pub lane_lines : ℕ → ℕ → List Lane → List ℕ
lane_lines first end lanes = flat_map (λ lane. lane_line first end lane.0) (numbered lanes)

abbrev pub steps_in : ℕ → ℕ → List Step → List ℕ
steps_in first end steps = flat_map (λ step. step_of step.0 step.1) (between first end (numbered steps))

-- what the rows from one step on up to another show
abbrev pub shown : ℕ → ℕ → Run → List ℕ
shown first end run =
    lane_lines first end run.lanes.items ++ arrows_in first end run.arrows.items
    ++ steps_in first end run.steps.items

abbrev pub lane_name : ℕ → Lane → List ℕ
lane_name number lane =
    filled LANE_NAME.now (decimal (x_of number MIDDLE) ∷ escaped (string_bytes lane.name) ∷ [])

abbrev pub lane_names : List Lane → List ℕ
lane_names lanes = flat_map (λ lane. lane_name lane.0 lane.1) (numbered lanes)

-- the head of an image as wide as so many lanes, from a place on, of a height
abbrev pub image : ℕ → List ℕ → ℕ → List ℕ
image lanes top height =
    let width = width_of lanes in
    filled IMAGE.now (decimal width ∷ decimal height ∷ top ∷ decimal width ∷ decimal height ∷ [])
