-- The answers to a script over a whole world: line by line, and over a whole run.
use Rattle.std.specs.Prelude.{◌≡◌, ◌≤◌, ℕ, ◌+◌, Bool, true, false, List, [], ◌∷◌, ◌++◌, ◌⊎◌, length}
use Rattle.std.specs.Prelude.{ℤ, Option, None, Some, Result, Ok, Err, IfSome, option_map}
use Rattle.std.specs.Io.KnownBytes.{Appends, Keeps}
use Rattle.kx_varint.specs.Text.{◌>>=◌}
use Rattle.kx_machine.specs.Meaning.{note_of}
use Rattle.kx_message.specs.Ranges.{offsets_partition}
use Rattle.kx_message.specs.Values.{where_true}
use Rattle.kx_model.specs.Coordinator.{rows}
use Rattle.kx_model.specs.Groups.{OffsetAnswer, offset_fetch}
use Rattle.kx_model.specs.Page.{fetched}
use Rattle.kx_model.specs.World.{entries_at, log_at, notes}
use Rattle.kx_script.specs.Command.{event_in, order_in, world_in}
use Rattle.kx_script.specs.Printing.{dash_text, group_text, messages_text, rows_text, step_text}
use Rattle.kx_core.specs.World.{place_of}
use Rattle.kx_script.specs.Session.{Session, handed_out, has_node, has_partition, opening}
use Rattle.kx_script.specs.Session.{session_after, with_mark}
use Rattle.kx_script.specs.declared.order.Order.{Order}
use Rattle.kx_script.specs.declared.order.Order.TheVariants as order
use Rattle.kx_system.specs.System.{System, SystemEvent, system_step}
use Rattle.kx_text.specs.Lines.{LeavesWriter, bad_text, fetched_text}
use Rattle.kx_text.specs.Words.{lines_of}
use Rattle.kx_text.specs.Mode.{is_committed}
use Rattle.kx_text.specs.Pages.{lost_text}
use Rattle.kx_text.specs.Writing.{IsBroken, ThenFlushed}
use Rattle.kx_text.specs.declared.mode.Mode.{Mode}
use Rattle.kx_text.specs.declared.fault.ScriptFault.{ScriptFault}
use Rattle.kx_text.specs.declared.fault.ScriptFault.TheVariants.{Read, Write, BadLine, Memory}

-- the session, once there is a world
abbrev pub State : Type 0
State = Option Session

------ a line

abbrev pub event_text : System → SystemEvent → List ℕ
event_text s event = step_text (note_of (system_step s event).1)
    (messages_text (length s.world.sent) (place_of event) (handed_out s event))

abbrev pub offset_text : OffsetAnswer → List ℕ
offset_text answer = group_text answer.code answer.offset

abbrev pub happens : Session → SystemEvent → List ℕ × State
happens s event = (event_text s.system event, Some (session_after s event))

-- what is printed of a log, if there is the partition
abbrev pub fetches : Session → ℕ → ℤ → Mode → ℕ → List ℕ
fetches s partition from mode max =
    fetched_text from mode (fetched (log_at s.system.world partition) from max (is_committed mode))

-- what an order prints, and the state after it; none if what it names isn't there
abbrev pub performed : Session → Order → Option (List ℕ × State)
performed s (order.Fail place left) = where_true (has_node s.system.world place)
    (dash_text, Some (record s { marks = with_mark s.marks place (Some left) }))
performed s (order.Fetch partition from mode max) =
    where_true (has_partition s.system.world partition)
    (fetches s partition from mode max, Some s)
performed s (order.Offset group partition stable) =
    where_true (has_partition s.system.world partition) (
      offset_text
          (offset_fetch (entries_at s.system.world offsets_partition) group partition stable),
      Some s,
    )
performed s order.Rows = Some (rows_text (rows (notes s.system.world)), Some s)

-- the same of a line that is no event
abbrev pub ordered : Session → List ℕ → Option (List ℕ × State)
ordered s line = order_in line >>= performed s

-- a line is the event, if there is one
abbrev pub answer_by : Session → List ℕ → Option SystemEvent → Option (List ℕ × State)
answer_by s line (Some event) = Some (happens s event)
answer_by s line None = ordered s line

-- a world is made, if there is none
abbrev pub begun : State → ℕ → Option (List ℕ × State)
begun None count = Some (dash_text, Some (opening count))
begun (Some s) count = None

-- what a line of words prints, and the state after it; none for a bad line
abbrev pub answer_line : State → List ℕ → Option (List ℕ × State)
answer_line None line = world_in line >>= begun None
answer_line (Some s) line = answer_by s line (event_in s line)

-- the same of any line
abbrev pub answer : State → List ℕ → Option (List ℕ × State)
answer state [] = Some ([], state)
answer state (byte ∷ line) = answer_line state (byte ∷ line)

-- the state that stays if memory is refused for the line's event
abbrev pub kept_in : State → List ℕ → Option State
kept_in None line = None
kept_in (Some s) line = option_map (λ event. Some s) (event_in s line)

-- if memory is refused, an event may print `lost` and change nothing
abbrev pub MayGive : Option (List ℕ × State) → Option State → List ℕ → State → Type 0
MayGive wanted kept text new =
    (wanted ≡ Some (text, new)) ⊎ ((kept ≡ Some new) × (text ≡ lost_text))

-- the line may be answered by this text, with this state after it
abbrev pub Answers : State → List ℕ → List ℕ → State → Type 0
Answers state line text new = MayGive (answer state line) (kept_in state line) text new

------ a run

-- the lines may be answered by this text, in order, with this state in the end
abbrev pub Runs : State → List (List ℕ) → List ℕ → State → Type 0
Runs state [] text new = (text ≡ []) × (new ≡ state)
Runs state (line ∷ lines) text new =
    (first : List ℕ) × (rest : List ℕ) × (next : State) × (text ≡ first ++ rest)
    × Answers state line first next × Runs next lines rest new

-- what a line prints, and those behind it from the state after it on; a bad one is the last
abbrev pub with_more : ℕ → (State → List ℕ) → Option (List ℕ × State) → List ℕ
with_more number more None = bad_text number
with_more number more (Some first) = first.0 ++ more first.1

-- what the lines print from the one of a number on, if no memory is refused
abbrev pub printed : List (List ℕ) → ℕ → State → List ℕ
printed [] number state = []
printed (line ∷ lines) number state =
    with_more number (printed lines (number + 1)) (answer state line)

-- what a whole script prints, if no memory is refused
abbrev pub script_text : List ℕ → List ℕ
script_text input = printed (lines_of input) 1 None

-- all lines ran, and nothing but their answers was written
abbrev pub Finishes : List (List ℕ) → Option (List ℕ) → Option (List ℕ) → Type 0
Finishes lines old new =
    (text : List ℕ) × (state : State) × Runs None lines text state × Appends old new text

-- a front of the lines ran, and nothing but their answers was written
abbrev pub Stops : List (List ℕ) → Option (List ℕ) → Option (List ℕ) → Type 0
Stops lines old new =
    (before : List (List ℕ)) × (after : List (List ℕ)) × (lines ≡ before ++ after)
    × Finishes before old new

-- the lines in front of the line of this number ran, which is bad, and that was written behind
-- their answers
pub record FindsBad (lines : List (List ℕ)) (number : ℕ) (old new : Option (List ℕ))
    : Type 0 where
  pub before : List (List ℕ)
  pub line : List ℕ
  pub after : List (List ℕ)
  pub lines_are : lines ≡ before ++ line ∷ after
  pub number_is : number ≡ length before + 1
  pub text : List ℕ
  pub state : State
  pub runs : Runs None before text state
  pub bad : answer state line ≡ None
  pub written : Appends old new (text ++ bad_text number)

-- the lines print this text: what an empty writer holds after them, at their end or at a bad line
abbrev pub Prints : List (List ℕ) → List ℕ → Type 0
Prints lines text =
    Finishes lines (Some []) (Some text)
    ⊎ ((number : ℕ) × FindsBad lines number (Some []) (Some text))

-- a front of what the lines print is written, and not all of it
abbrev pub IsPrintedInPart : List (List ℕ) → Option (List ℕ) → Option (List ℕ) → Type 0
IsPrintedInPart lines old new = (text : List ℕ) × Prints lines text × IsBroken text old new

-- what was written when a script came to its end
abbrev pub Ends : List ℕ → Option (List ℕ) → Option (List ℕ) → Result (Unit {0}) ScriptFault
    → Type 0
Ends input old new (Ok done) = Finishes (lines_of input) old new
Ends input old new (Err (BadLine number)) = FindsBad (lines_of input) number old new
Ends input old new (Err Memory) = Stops (lines_of input) old new
Ends input old new (Err Read) = Stops (lines_of input) old new
Ends input old new (Err Write) = IsPrintedInPart (lines_of input) old new

-- a script, and a flush after it
abbrev pub EndsFlushed : List ℕ → Option (List ℕ) → Option (List ℕ)
    → Result (Unit {0}) ScriptFault → Type 0
EndsFlushed input old new = ThenFlushed (Ends input old new) Write

------ what the interpreter's parts say

-- an answer is written, and the state after it is one that stands
abbrev pub Answered : (State → Type 0) → Option (List ℕ × State) → Option State
    → Option (List ℕ) → Option (List ℕ) → Result Bool ScriptFault → Type 0
Answered Stands wanted kept old new (Ok true) = (text : List ℕ) × (next : State)
    × MayGive wanted kept text next × Stands next × Appends old new text
Answered Stands wanted kept old new (Ok false) = (wanted ≡ None) × Keeps old new
Answered Stands wanted kept old new (Err fault) = LeavesWriter old new fault

-- a line's answer is this text, and the state after it is one that stands; or the text is that the
-- line of this number is bad
abbrev pub MakesAnswer : (State → Type 0) → Option (List ℕ × State) → Option State → ℕ → List ℕ
    → Result Bool ScriptFault → Type 0
MakesAnswer Stands wanted kept number text (Ok true) =
    (next : State) × MayGive wanted kept text next × Stands next
MakesAnswer Stands wanted kept number text (Ok false) = (wanted ≡ None) × (text ≡ bad_text number)
MakesAnswer Stands wanted kept number text (Err fault) = Unit {0}

-- a known input has so many lines at least
abbrev pub HasLines : ℕ → Option (List ℕ) → Type 0
HasLines count input = IfSome input (λ bytes. count ≤ length (lines_of bytes))
