-- For what a reader of frames may want memory.
use Rattle.std.specs.Prelude.{◌≡◌, ◌≢◌, ◌⊎◌, ℕ, List, [], ◌∷◌, drop}
use Rattle.kx_wire.specs.Frames.{Front, Whole, Bad, More, frame_at}
use Rattle.kx_wire.specs.declared.fault.FrameFault.TheVariants as fault

-- the kinds whose messages hold bytes or a list
abbrev pub IsCarrier : ℕ → Type 0
IsCarrier kind = (kind ≡ 5) ⊎ ((kind ≡ 12) ⊎ (kind ≡ 17))

-- the first byte is such a kind
abbrev pub StartsCarrier : List ℕ → Type 0
StartsCarrier [] = ⊥
StartsCarrier (kind ∷ bytes) = IsCarrier kind

-- to read what stands at the front may take memory: to give a message, or to find the fields of
-- such a kind damaged; the bytes are those behind the frame's length
abbrev pub MayTake : Front → List ℕ → Type 0
MayTake (Whole m rest) bytes = Unit {0}
MayTake (Bad fault.Field) bytes = StartsCarrier bytes
MayTake (Bad fault.TooLong) bytes = ⊥
MayTake (Bad fault.Kind) bytes = ⊥
MayTake (Bad fault.Failed) bytes = ⊥
MayTake (Bad fault.Memory) bytes = ⊥
MayTake More bytes = ⊥

abbrev pub MayTakeFront : List ℕ → Type 0
MayTakeFront bytes = MayTake (frame_at bytes) (drop 4 bytes)

-- to take a piece behind the bytes that are held may want memory: to put it behind them; if
-- none are held, to read it or to hold it back
abbrev pub MayWant : List ℕ → List ℕ → Type 0
MayWant [] piece = MayTakeFront piece ⊎ ((frame_at piece ≡ More) × (piece ≢ []))
MayWant (byte ∷ partial) piece = piece ≢ []
