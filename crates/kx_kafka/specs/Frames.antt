-- Frames: a request or a response behind its length (Kafka protocol guide, "Protocol").
use Rattle.std.specs.Prelude.{◌≡◌, ℕ, ℤ, List, [], ◌∷◌, ◌++◌, length, take, drop}
use Rattle.std.specs.Prelude.{◌≤◌, Result, Ok, Err, nat_lt, if◌then◌else◌}
use Rattle.std.specs.List.{flat_map}
use Rattle.std.specs.Int.{w32}
use Rattle.kx_varint.specs.BigEndian.{unsigned_field, unsigned_text, signed_text}
use Rattle.kx_varint.specs.declared.fault.VarFault.{VarFault}
use Rattle.kx_message.specs.Sizes.{longest_frame}
use Rattle.kx_kafka_types.specs.declared.version.Version.{Version}
use Rattle.kx_kafka_types.specs.Schema.{Fields, Values}
use Rattle.kx_kafka_types.specs.Writing.{end_text, fields_text}

-- what stands at the front of some bytes
pub data Front : Type 0 where
  -- a text behind its length, and the bytes behind it
  Whole : List ℕ → List ℕ → Front
  -- less than that
  More : Front
  -- a length beyond the limit
  Beyond : Front

abbrev pub of_length : Result (ℕ × List ℕ) VarFault → Front
of_length (Err f) = More
of_length (Ok x) =
    if nat_lt longest_frame x.0 then Beyond
    else (if nat_lt (length x.1) x.0 then More else Whole (take x.0 x.1) (drop x.0 x.1))

unfoldable pub frame_at : List ℕ → Front
frame_at bytes = of_length (unsigned_field w32 bytes)

-- a text behind its length
unfoldable pub frame_text : List ℕ → List ℕ
frame_text text = unsigned_text w32 (length text) ++ text

-- no longer than the limit
abbrev pub FitsFrame : List ℕ → Type 0
FitsFrame text = length text ≤ longest_frame

-- a response: the correlation id of its request, in a flexible version that there are no tagged
-- fields, and its fields ("Response Header v0" and "v1")
unfoldable pub response_text : Version → ℤ → (fields : Fields) → Values fields → List ℕ
response_text version correlation fields v =
    signed_text w32 correlation ++ end_text version ++ fields_text version fields v

-- where a stream stands behind the frame at its front
abbrev pub Passed : Front → List ℕ → List ℕ → Type 0
Passed (Whole text rest) old new = new ≡ rest
Passed More old new = new ≡ old
Passed Beyond old new = new ≡ old

------ a stream in pieces

-- the pieces, one behind the other
abbrev pub joined : List (List ℕ) → List ℕ
joined = flat_map (λ piece. piece)

-- the frames of these texts, and then less than a frame
abbrev pub Splits : List ℕ → List (List ℕ) → List ℕ → Type 0
Splits bytes [] rest = (bytes ≡ rest) × (frame_at bytes ≡ More)
Splits bytes (text ∷ texts) rest =
    (behind : List ℕ) × (frame_at bytes ≡ Whole text behind) × Splits behind texts rest

-- a stream that holds these bytes is fed the pieces, and behind each piece whatever frames are
-- whole are passed: these texts come, and no others
abbrev pub Comes : List ℕ → List (List ℕ) → List (List ℕ) → Type 0
Comes held [] texts = texts ≡ []
Comes held (piece ∷ pieces) texts =
    (first others : List (List ℕ)) × (rest : List ℕ) × Splits (held ++ piece) first rest
    × (texts ≡ first ++ others) × Comes rest pieces others
