-- What this crate's own functions ensure; no contract of a public call names it.
use Rattle.std.specs.Prelude.{◌≡◌, ◌+◌, ℕ, List, Option, Some, None, Contains, map}
use Rattle.std.specs.Map.{lookup}
use Rattle.std.specs.Str.{bytes_eq}
use Rattle.kx_audit.specs.Sent.{IsRead}
use Rattle.kx_follow.specs.Pending.{Waiting}
use Rattle.kx_machine.specs.Meaning.{NodeState}
use Rattle.kx_machine.specs.declared.input.Input.{Input}
use Rattle.kx_machine.specs.declared.machine.StoreMode.{StoreMode}
use Rattle.kx_machine.specs.declared.taken.Taken.{Taken}
use Rattle.kx_message.specs.Fields.{frame_text}
use Rattle.kx_message.specs.Sizes.{FitsFrame}
use Rattle.kx_message.specs.declared.message.Message.{Message}
use Rattle.kx_nodes.specs.Again.{MayMeet}
use Rattle.kx_nodes.specs.Replay.{Takes, mark_of}

-- the frames that a map has as keys, each with its value
abbrev pub waiting_of : {K : Type 0} → (K → List ℕ) → List (K × ℕ) → Waiting
waiting_of bytes entries = map (λ e. (bytes e.0, e.1)) entries

-- how often what is found waits
abbrev pub found_times : Option ℕ → ℕ
found_times None = 0
found_times (Some further) = further + 1

-- how often the frame waits by its first entry
abbrev pub first_times : List ℕ → Waiting → ℕ
first_times frame waiting = found_times (lookup (λ key. bytes_eq frame key) waiting)

-- whichever message has this frame was sent
abbrev pub HasFrame : List Message → List ℕ → Type 0
HasFrame sent frame =
    (m : Message) → FitsFrame m → IsRead m → frame_text m ≡ frame → Contains sent m

-- the node takes the input, with a store that may meet the mode, gives this answer, and comes to one
-- for which the machine stands
pub record Steps {M : Type 0} (stands : NodeState → M → Type 0) (node : NodeState) (input : Input)
    (mode : StoreMode) (taken : Taken) (machine : M) : Type 0 where
  pub after : NodeState
  pub takes : Takes node (record { input = input; mark = mark_of taken }) taken after
  pub meets : MayMeet node mode takes.store
  pub stands_so : stands after machine
