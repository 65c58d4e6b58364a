-- Messages that wait, one fewer.
use Rattle.std.proofs.Common.{◌≡◌, ◌<◌, ℕ, ◌-◌, List, ◌∷◌, arith, subst, ◌∙◌}
use Rattle.std.proofs.lemmas.List.Elements.{All-tail}
use Rattle.std.proofs.lemmas.List.Sums.{sum_by-cons}
use Rattle.kx_message.proofs.Sizes.{size_is}
use Rattle.kx_message.specs.Sizes.{FitsFrame, longest_frame, size_of}
use Rattle.kx_message.specs.declared.message.Message.{Message}
use Rattle.kx_server.specs.Queues.{IsBounded, frame_len}

-- a frame that fits
pub within : (m : Message) → FitsFrame m → size_of m < longest_frame
within m fits = subst (λ (n : ℕ). n < longest_frame) (size_is m) fits

-- the first message was taken out
pub bounded_rest : (m : Message) (all rest : List Message) (bytes : ℕ) → all ≡ m ∷ rest
    → IsBounded all bytes → IsBounded rest (bytes - frame_len m)
bounded_rest m all rest bytes parts is =
    let whole = subst (λ (l : List Message). IsBounded l bytes) parts is in
    let sum = whole.bytes_are ∙ sum_by-cons frame_len m rest in
    record {
      fit = All-tail FitsFrame m rest whole.fit;
      bytes_are = omega (arith, sum);
      bound = omega (arith, whole.bound);
    }
