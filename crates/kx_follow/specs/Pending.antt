-- Messages that were sent and not taken yet, by their frames.
use Rattle.std.specs.Prelude.{◌≡◌, ◌+◌, ◌&&◌, ℕ, Bool, true, false, not, List, Contains, count_by}
use Rattle.std.specs.Prelude.{if◌then◌else◌, length, nat_lt, sum_by}
use Rattle.std.specs.List.{list_any}
use Rattle.std.specs.Str.{bytes_eq}
use Rattle.kx_audit.specs.Joined.{Passed, handed_out}
use Rattle.kx_audit.specs.Sent.{IsRead}
use Rattle.kx_machine.specs.declared.input.Input.{Input}
use Rattle.kx_machine.specs.declared.input.Input.TheVariants as input
use Rattle.kx_message.specs.Fields.{fields_of, frame_text}
use Rattle.kx_message.specs.Receiver.{receiver_of}
use Rattle.kx_message.specs.Sizes.{FitsFrame, longest_frame}
use Rattle.kx_message.specs.declared.message.Message.{Message}
use Rattle.kx_message.specs.declared.message.NodeId.{NodeId}
use Rattle.kx_message.specs.declared.message.NodeId.TheVariants as node
use Rattle.kx_outside.specs.Requests.{CanArrive, arrives}

-- frames that wait, each with how often more than once
abbrev pub Waiting : Type 0
Waiting = List (List ℕ × ℕ)

-- how often this frame waits
abbrev pub times : List ℕ → Waiting → ℕ
times frame waiting = sum_by (λ w. if bytes_eq frame w.0 then w.1 + 1 else 0) waiting

-- the message's frame is one of these
abbrev pub IsAmong : Waiting → Message → Type 0
IsAmong waiting m = list_any (λ w. bytes_eq (frame_text m) w.0) waiting ≡ true

-- whichever message has one of these frames was sent
abbrev pub AreSent : List Message → Waiting → Type 0
AreSent sent waiting = (m : Message) → FitsFrame m → IsRead m → IsAmong waiting m → Contains sent m

------ how often a message was sent, and taken

abbrev pub is_of_server : NodeId → Bool
is_of_server node.Coordinator = true
is_of_server (node.Partition number) = true
is_of_server (node.Client number) = false

-- the message is sent to a node of the server, in a frame
abbrev pub is_for_server : Message → Bool
is_for_server m = is_of_server (receiver_of m) && nat_lt (length (fields_of m)) longest_frame

-- how often a message of this frame is among these, which are sent
abbrev pub sent_among : List ℕ → List Message → ℕ
sent_among frame messages =
    count_by (λ m. is_for_server m && bytes_eq frame (frame_text m)) messages

-- the input is a message of this frame that can't arrive from outside
abbrev pub takes_sent : List ℕ → Input → Bool
takes_sent frame (input.Deliver m) = not (arrives m) && bytes_eq frame (frame_text m)
takes_sent frame other = false

-- how often these steps take in such a message
abbrev pub taken_in : List ℕ → List Passed → ℕ
taken_in frame history = count_by (λ p. takes_sent frame p.step.input) history

-- these wait after these steps: what they sent to the server's nodes, as often as they didn't take
-- it in
pub record AreLeft (history : List Passed) (waiting : Waiting) : Type 0 where
  pub sent : AreSent (handed_out history) waiting
  pub times_are : (frame : List ℕ)
      → times frame waiting + taken_in frame history ≡ sent_among frame (handed_out history)

------ a message that isn't taken

-- the input is a message that can't arrive from outside, and that these steps took in as often as
-- they sent it
abbrev pub IsUnsent : List Passed → Input → Type 0
IsUnsent history (input.Deliver m) = (CanArrive m → ⊥) × (FitsFrame m
    → taken_in (frame_text m) history ≡ sent_among (frame_text m) (handed_out history))
IsUnsent history other = ⊥

-- the input is a message that can't arrive from outside, and doesn't wait
abbrev pub MustWait : Waiting → Input → Type 0
MustWait waiting (input.Deliver m) = (CanArrive m → ⊥) × (FitsFrame m → IsAmong waiting m → ⊥)
MustWait waiting other = ⊥
