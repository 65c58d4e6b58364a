-- For what a reader of frames may want memory.
use Rattle.std.proofs.Common.{◌≡◌, ◌≢◌, ℕ, ◌-◌, List, [], ◌++◌, length, take, drop, Option, Some}
use Rattle.std.proofs.Common.{None, Result, Err, true, sym, ap, ◌∙◌, ◌⊎◌, inl, inr, subst, arith}
use Rattle.std.proofs.Common.{length-drop}
use Rattle.std.specs.Option.{is_some}
use Rattle.kx_wire.specs.Frames.{Front, Whole, Bad, frame_at}
use Rattle.kx_wire.specs.Growing.{MayTake, MayTakeFront}
use Rattle.kx_message.specs.declared.message.Message.{Message}
use Rattle.kx_wire.specs.declared.fault.FrameFault.{FrameFault}
use Rattle.kx_wire.specs.declared.fault.FrameFault.TheVariants as fault
use Rattle.kx_wire.proofs.Feeding.{all_taken, IsFault, frame_fault}

-- the scan is at the front still, or a message was found there
abbrev pub Begun : ℕ → List ℕ → Type 0
Begun used bytes = (used ≡ 0) ⊎ MayTakeFront bytes

all_of : (bytes : List ℕ) (used : ℕ) → used ≡ 0
    → take (length bytes - used) (drop used bytes) ≡ bytes
all_of bytes used z =
    subst (λ (n : ℕ). take (length bytes - n) (drop n bytes) ≡ bytes) (sym z)
    (all_taken (length bytes - 0) bytes (omega arith))

pub found_first : (bytes : List ℕ) (used : ℕ) (m : Message) (rest : List ℕ) → Begun used bytes
    → frame_at (take (length bytes - used) (drop used bytes)) ≡ Whole m rest
    → MayTakeFront bytes
found_first bytes used m rest (inr h) e = h
found_first bytes used m rest (inl z) e =
    subst (λ (f : Front). MayTake f (drop 4 bytes))
    (sym (ap frame_at (sym (all_of bytes used z)) ∙ e)) tt

pub wanted_first : (bytes : List ℕ) (used : ℕ) → Begun used bytes
    → MayTakeFront (take (length bytes - used) (drop used bytes)) → MayTakeFront bytes
wanted_first bytes used (inr h) w = h
wanted_first bytes used (inl z) w = subst MayTakeFront (all_of bytes used z) w

pub some_first : (bytes : List ℕ) (used : ℕ) → Begun used bytes → used ≢ 0 → MayTakeFront bytes
some_first bytes used (inr h) n = h
some_first bytes used (inl z) n = absurd (n z)

-- ---- a piece behind nothing

pub only_rest : (partial piece : List ℕ) (used : ℕ) → partial ≡ []
    → partial ++ take (length piece - used) (drop used piece) ≡ drop used (partial ++ piece)
only_rest partial piece used none =
    subst (λ (h : List ℕ). h ++ take (length piece - used) (drop used piece)
    ≡ drop used (h ++ piece)) (sym none) (all_taken (length piece - used) (drop used piece)
    (omega (arith, length-drop used piece)))

pub none_some : {A : Type 0} (o : Option A) → o ≡ None → is_some o ≡ true → ⊥
none_some None e s = absurd cc
none_some (Some x) e s = absurd cc

-- ---- a fault that stands at the front is no want of memory

abbrev Answer : Type 0
Answer = Result (List Message) FrameFault

err_is : (f g : FrameFault) → ◌≡◌ {A = Answer} (Err f) (Err g) → f ≡ g
err_is f g e = cc

pub not_memory : (bytes : List ℕ) (f : FrameFault) → frame_at bytes ≡ Bad f
    → ◌≡◌ {A = Answer} (Err f) (Err fault.Memory) → ⊥
not_memory bytes f e m = subst IsFault (err_is f fault.Memory m) (frame_fault bytes f e)
