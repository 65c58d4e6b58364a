-- What a line is answered, by what was read of it.
use Rattle.std.proofs.Common.{◌≡◌, ◌==◌, ℕ, List, [], ◌∷◌, length, Bool, true, false, Option, None}
use Rattle.std.proofs.Common.{Some, Result, Ok, refl, inr, sym, subst}
use Rattle.std.specs.Prelude.{IsSome, option_map}
use Rattle.std.specs.Io.KnownBytes.{Appends}
use Rattle.kx_script.specs.Command.{event_in}
use Rattle.kx_script.specs.Running.{StandsFor, StandsIn}
use Rattle.kx_script.specs.Script.{Answered, State, answer, answer_by, answer_line, happens}
use Rattle.kx_script.specs.Script.{kept_in, ordered}
use Rattle.kx_script.specs.Session.{Session}
use Rattle.kx_script.specs.declared.world.Running.{Running}
use Rattle.kx_system.specs.System.{SystemEvent}
use Rattle.kx_text.specs.Pages.{lost_text}
use Rattle.kx_text.specs.declared.fault.ScriptFault.{ScriptFault}

-- the line, of which this event was read or none
abbrev pub AnswersBy : (State → Type 0) → Session → List ℕ → Option (List ℕ) → Option (List ℕ)
    → Result Bool ScriptFault → Option SystemEvent → Type 0
AnswersBy Stands s line old new r o =
    Answered Stands (answer_by s line o) (option_map (λ event. Some s) o) old new r

-- it is this event
pub is_event : (Stands : State → Type 0) (s : Session) (line : List ℕ) (event : SystemEvent)
    (old new : Option (List ℕ)) (r : Result Bool ScriptFault) → event_in s line ≡ Some event
    → Answered Stands (Some (happens s event)) (Some (Some s)) old new r
    → Answered Stands (answer_line (Some s) line) (kept_in (Some s) line) old new r
is_event Stands s line event old new r e a = subst (AnswersBy Stands s line old new r) (sym e) a

-- it is none
pub is_none : (Stands : State → Type 0) (s : Session) (line : List ℕ)
    (old new : Option (List ℕ)) (r : Result Bool ScriptFault) → event_in s line ≡ None
    → Answered Stands (ordered s line) None old new r
    → Answered Stands (answer_line (Some s) line) (kept_in (Some s) line) old new r
is_none Stands s line old new r e a = subst (AnswersBy Stands s line old new r) (sym e) a

lost_by : (s : Session) (line : List ℕ) (running : Running) (old new : Option (List ℕ))
    (o : Option SystemEvent) → IsSome o → StandsFor running s → Appends old new lost_text
    → AnswersBy (StandsIn (Some running)) s line old new (Ok true) o
lost_by s line running old new None i st a = absurd cc
lost_by s line running old new (Some event) i st a =
    (lost_text, Some s, inr (refl, refl), st, a)

-- it is an event for whose words there was no memory
pub is_lost : (s : Session) (line : List ℕ) (running : Running) (old new : Option (List ℕ))
    → IsSome (event_in s line) → StandsFor running s → Appends old new lost_text
    → Answered (StandsIn (Some running)) (answer_line (Some s) line) (kept_in (Some s) line) old
    new (Ok true)
is_lost s line running old new i st a = lost_by s line running old new (event_in s line) i st a

-- a line that isn't empty
pub has_words : (Stands : State → Type 0) (state : State) (line : List ℕ)
    (old new : Option (List ℕ)) (r : Result Bool ScriptFault) → (length line == 0) ≡ false
    → Answered Stands (answer_line state line) (kept_in state line) old new r
    → Answered Stands (answer state line) (kept_in state line) old new r
has_words Stands state [] old new r e a = absurd cc
has_words Stands state (byte ∷ line) old new r e a = a

-- there is a world
pub in_a_world : (Stands : State → Type 0) (running : Running) (line : List ℕ)
    (old new : Option (List ℕ)) (r : Result Bool ScriptFault)
    → ((s : Session) → StandsFor running s
    → Answered Stands (answer_line (Some s) line) (kept_in (Some s) line) old new r)
    → (state : State) → StandsIn (Some running) state
    → Answered Stands (answer_line state line) (kept_in state line) old new r
in_a_world Stands running line old new r h None st = absurd st
in_a_world Stands running line old new r h (Some s) st = h s st
