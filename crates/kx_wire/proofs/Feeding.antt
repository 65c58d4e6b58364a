-- Steps of reading a stream.
use Rattle.std.proofs.Common.{◌≡◌, ℕ, ◌+◌, ◌-◌, ◌≤◌, ltb, eqb, List, [], ◌∷◌}
use Rattle.std.proofs.Common.{◌++◌, length, take, drop, Option, Some, None, Err, refl, sym, ap, ◌∙◌}
use Rattle.std.proofs.Common.{subst, arith, inl, inr, length-drop}
use Rattle.std.proofs.lemmas.List.{take_at, append-nil, drop-drop}
use Rattle.kx_varint.specs.Text.{IsBytes}
use Rattle.kx_varint.proofs.FixedWidth.{IsBytes-drop}
use Rattle.kx_message.specs.Sizes.{longest_frame}
use Rattle.kx_message.specs.Reader.{unsigned, whole}
use Rattle.kx_wire.specs.Reading.{is_kind, fields_at}
use Rattle.std.specs.Int.{w32}
use Rattle.kx_varint.proofs.Laws.{chosen}
use Rattle.kx_wire.specs.Frames.{Whole, Bad, More, of_fields, of_length, of_number, frame_at}
use Rattle.kx_wire.specs.Frames.{Splits, Fed, Reads, Over}
use Rattle.kx_message.specs.declared.message.Message.{Message}
use Rattle.kx_wire.specs.declared.fault.FrameFault.{FrameFault}
use Rattle.kx_wire.specs.declared.fault.FrameFault.TheVariants as fault
use Rattle.kx_wire.proofs.FrameLaws.{splits_more}

pub all_taken : (n : ℕ) (xs : List ℕ) → length xs ≡ n → take n xs ≡ xs
all_taken n xs e = ap (take n) (sym (append-nil xs)) ∙ take_at xs [] n e

pub scan_step : (bytes : List ℕ) (used : ℕ) (ms : List Message) (m : Message) (len : ℕ)
    → used ≤ length bytes → IsBytes bytes → Splits bytes ms (drop used bytes)
    → (frame_at (take (length bytes - used) (drop used bytes))
    ≡ Whole m (drop len (take (length bytes - used) (drop used bytes))))
    → len ≤ length (take (length bytes - used) (drop used bytes))
    → record {
      splits : Splits bytes (ms ++ m ∷ []) (drop (used + len) bytes);
      within : used + len ≤ length bytes;
    }
scan_step bytes used ms m len le fits s e room =
    let all : take (length bytes - used) (drop used bytes) ≡ drop used bytes =
    all_taken (length bytes - used) (drop used bytes) (omega (arith, length-drop used bytes)) in
    let f : frame_at (drop used bytes) ≡ Whole m (drop len (drop used bytes)) =
    subst (λ (x : List ℕ). frame_at x ≡ Whole m (drop len x)) all e in
    let r : len ≤ length (drop used bytes) =
    subst (λ (x : List ℕ). len ≤ length x) all room in
    let next = splits_more bytes ms (drop used bytes) m (drop len (drop used bytes)) s
    (IsBytes-drop used bytes fits) f in
    record {
      splits = subst (λ (x : List ℕ). Splits bytes (ms ++ m ∷ []) x) (drop-drop len used bytes)
          next;
      within = omega (arith, length-drop used bytes);
    }

-- ---- the faults of a frame

abbrev pub IsFault : FrameFault → Type 0
IsFault fault.TooLong = Unit {0}
IsFault fault.Kind = Unit {0}
IsFault fault.Field = Unit {0}
IsFault fault.Failed = ⊥
IsFault fault.Memory = ⊥

bad_is : (f g : FrameFault) → Bad f ≡ Bad g → f ≡ g
bad_is f g e = cc

pub more_not_bad : (f : FrameFault) → More ≡ Bad f → ⊥
more_not_bad f e = absurd cc

pub whole_not_bad : (f : FrameFault) (m : Message) (rest : List ℕ) → Whole m rest ≡ Bad f → ⊥
whole_not_bad f m rest e = absurd cc

fields_fault : (o : Option Message) (r : List ℕ) (f : FrameFault) → of_fields o r ≡ Bad f
    → IsFault f
fields_fault None r f e = subst IsFault (bad_is fault.Field f e) tt
fields_fault (Some m) r f e = absurd (whole_not_bad f m r e)

length_fault : (n : ℕ) (tail : List ℕ) (f : FrameFault) → of_length n tail ≡ Bad f → IsFault f
length_fault n [] f e = absurd (more_not_bad f e)
length_fault n (k ∷ bytes) f e =
    elim (chosen (is_kind k) _ _ (Bad f) e) [
      | inr h ↦ subst IsFault (bad_is fault.Kind f h.1) tt
      | inl h ↦ elim (chosen (ltb (length bytes + 1) n) _ _ (Bad f) h.1) [
        | inl g ↦ absurd (more_not_bad f g.1)
        | inr g ↦ fields_fault (whole (fields_at k (take (n - 1) bytes))) (drop (n - 1) bytes) f g.1
      ]
    ]

number_fault : (o : Option (ℕ × List ℕ)) (f : FrameFault) → of_number o ≡ Bad f → IsFault f
number_fault None f e = absurd (more_not_bad f e)
number_fault (Some (n, tail)) f e =
    elim (chosen (ltb longest_frame n) _ _ (Bad f) e) [
      | inl h ↦ subst IsFault (bad_is fault.TooLong f h.1) tt
      | inr h ↦ elim (chosen (eqb n 0) _ _ (Bad f) h.1) [
        | inl g ↦ subst IsFault (bad_is fault.Kind f g.1) tt
        | inr g ↦ length_fault n tail f g.1
      ]
    ]

pub frame_fault : (bytes : List ℕ) (f : FrameFault) → frame_at bytes ≡ Bad f → IsFault f
unfolding frame_at
frame_fault bytes f e = number_fault (unsigned w32 bytes) f e

answered : (partial piece : List ℕ) (f : FrameFault) → IsFault f
    → frame_at (partial ++ piece) ≡ Bad f → Fed (Reads partial) piece (Err f) Over
answered partial piece fault.TooLong h e = (e, refl)
answered partial piece fault.Kind h e = (e, refl)
answered partial piece fault.Field h e = (e, refl)
answered partial piece fault.Failed h e = absurd h
answered partial piece fault.Memory h e = absurd h

-- a fault before which nothing comes is answered at once
pub fed_fault : (partial piece rest : List ℕ) (ms : List Message) (f : FrameFault)
    → Splits (partial ++ piece) ms rest → ms ≡ [] → frame_at rest ≡ Bad f
    → Fed (Reads partial) piece (Err f) Over
fed_fault partial piece rest ms f s none e =
    let nothing = subst (λ (xs : List Message). Splits (partial ++ piece) xs rest) none s in
    answered partial piece f (frame_fault rest f e) (ap frame_at nothing.whole ∙ e)
