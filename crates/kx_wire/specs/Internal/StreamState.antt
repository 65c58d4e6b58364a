-- What a reader of frames keeps, as the stream that it stands for.
use Rattle.std.specs.Prelude.{◌≡◌, ℕ, List}
use Rattle.kx_wire.specs.Frames.{Stream, Reads, Faulty, Over, More, frame_at}
use Rattle.kx_wire.specs.declared.frames.State.{State}
use Rattle.kx_wire.specs.declared.frames.State.TheVariants as state

abbrev pub stream_of : State → List ℕ → Stream
stream_of state.Reading partial = Reads partial
stream_of (state.Faulty f) partial = Faulty f
stream_of state.Failed partial = Over

-- less than a frame is held while the stream is read
abbrev pub HoldsLess : State → List ℕ → Type 0
HoldsLess state.Reading partial = frame_at partial ≡ More
HoldsLess (state.Faulty f) partial = Unit {0}
HoldsLess state.Failed partial = Unit {0}
