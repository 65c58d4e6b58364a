-- Frames that are those of messages in a list.
use Rattle.std.specs.Prelude.{◌≡◌, ℕ, List, ◌++◌, Contains}
use Rattle.std.specs.List.{list_any}
use Rattle.std.specs.Bool.{Decides}
use Rattle.std.specs.Str.{bytes_eq}
use Rattle.kx_message.specs.Fields.{frame_text}
use Rattle.kx_message.specs.Sizes.{FitsFrame}
use Rattle.kx_message.specs.declared.message.Message.{Message}
use Rattle.kx_wire.specs.Frames.{Whole, frame_at}

-- its frame is read as this message, whatever follows
abbrev pub IsRead : Message → Type 0
IsRead m = (rest : List ℕ) → frame_at (frame_text m ++ rest) ≡ Whole m rest

-- a message that fits a frame is in the list just where its frame is among these
abbrev pub IsIndexed : {K : Type 0} → (K → List ℕ) → List K → List Message → Type 0
IsIndexed bytes frames messages = (m : Message) → FitsFrame m → IsRead m
    → Decides (list_any (λ frame. bytes_eq (frame_text m) (bytes frame)) frames)
    (Contains messages m)
