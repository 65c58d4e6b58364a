use Rattle.std.proofs.Common.{◌≢◌, ◌<◌, ℕ, slice_index}
use Rattle.kx_text.proofs.words.cut_at.Given as goal

abbrev pub invariant-loop-i : goal.invariant-loop-i
invariant-loop-i l = (k : ℕ) → k < l.i → slice_index l.text k ≢ l.byte
