-- The messages that wait for a connection.
use Rattle.std.specs.Prelude.{◌≡◌, ◌≤◌, ℕ, ◌+◌, ◌*◌, List, All}
use Rattle.std.specs.List.{sum_by}
use Rattle.kx_message.specs.Sizes.{FitsFrame, longest_frame, size_of}
use Rattle.kx_message.specs.declared.message.Message.{Message}

-- how many bytes a message's frame has: before the fields stand its length and the kind
abbrev pub frame_len : Message → ℕ
frame_len message = size_of message + 5

-- how many bytes their frames have in all
abbrev pub frames_len : List Message → ℕ
frames_len = sum_by frame_len

-- two of the longest frames
abbrev pub most_waiting : ℕ
most_waiting = 2 * (longest_frame + 4)

-- so many bytes wait, of messages that frames hold
pub record IsBounded (messages : List Message) (bytes : ℕ) : Type 0 where
  pub fit : All FitsFrame messages
  pub bytes_are : bytes ≡ frames_len messages
  pub bound : bytes ≤ most_waiting
