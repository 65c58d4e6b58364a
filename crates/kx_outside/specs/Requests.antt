-- Which messages can arrive from outside.
use Rattle.std.specs.Prelude.{◌≡◌, ◌&&◌, Bool, true, length, nat_lt}
use Rattle.kx_message.specs.Fields.{fields_of}
use Rattle.kx_message.specs.Message.{IsMessage}
use Rattle.kx_message.specs.Sizes.{FitsFrame, longest_frame}
use Rattle.kx_message.specs.declared.message.Message.{Message}
use Rattle.kx_model.specs.Open.{is_request}

-- a client may send it, and its frame is within the limit
abbrev pub CanArrive : Message → Type 0
CanArrive m = (is_request m ≡ true) × FitsFrame m

-- whether it is so
unfoldable pub arrives : Message → Bool
arrives m = is_request m && nat_lt (length (fields_of m)) longest_frame

-- a client may send it, and each of its fields is in its range, as open schedules ask
abbrev pub IsRequest : Message → Type 0
IsRequest m = (is_request m ≡ true) × IsMessage m
