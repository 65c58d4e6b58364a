-- The frame of a message is read as that message, and nothing else is.
use Rattle.std.proofs.Common.{◌≡◌, ℕ, suc, ◌+◌, ◌-◌, ◌<◌, ◌≤◌, true, false, ltb, eqb}
use Rattle.std.proofs.Common.{List, [], ◌∷◌, ◌++◌, length, take, drop, Option, Some, None, refl}
use Rattle.std.proofs.Common.{sym}
use Rattle.std.proofs.Common.{ap, ◌∙◌, subst, append_assoc, arith, inl, inr, length-append}
use Rattle.std.specs.List.{flat_map, AllByRecursion}
use Rattle.std.specs.Int.{w8, w32}
use Rattle.std.proofs.lemmas.Bool.{ltb-false, le-ltb, ne_eqb}
use Rattle.std.proofs.lemmas.Bool.Decides.{nat_tests}
use Rattle.std.proofs.lemmas.List.{take_at, drop_at, take-append-drop, length-take, append-nil}
use Rattle.std.proofs.lemmas.List.Concat.{flat_map-cons}
use Rattle.kx_varint.specs.BigEndian.{unsigned_text}
use Rattle.kx_varint.specs.Text.{IsBytes}
use Rattle.kx_varint.proofs.FixedWidth.{IsBytes-take}
use Rattle.kx_varint.proofs.Laws.{chosen}
use Rattle.kx_message.specs.Fields.{kind_of, fields_of, frame_text}
use Rattle.kx_message.specs.Sizes.{longest_frame}
use Rattle.kx_message.specs.Message.{IsMessage, IsSendable}
use Rattle.kx_message.specs.Reader.{unsigned, whole}
use Rattle.kx_wire.specs.Reading.{is_kind, fields_at}
use Rattle.kx_wire.specs.Frames.{Whole, Bad, More, of_fields, of_length, of_number, frame_at}
use Rattle.kx_wire.specs.Frames.{Splits}
use Rattle.kx_message.specs.declared.message.Message.{Message}
use Rattle.kx_wire.specs.declared.fault.FrameFault.{FrameFault}
use Rattle.kx_wire.proofs.Exact.{some_is}
use Rattle.kx_wire.proofs.FieldLaws.{u32_exact}
use Rattle.kx_wire.proofs.Messages.{kind_takes, message_again, kind_again}

byte_text : (k : ℕ) → k < 256 → unsigned_text w8 k ≡ k ∷ []
unfolding unsigned_text
byte_text k lt = ap (λ (b : ℕ). b ∷ []) (omega arith)

small_kind : (k : ℕ) → is_kind k ≡ true → k < 256
small_kind k e = grind (arith, nat_tests)

-- ---- a message that is spelled is read

length_again : (m : Message) (rest : List ℕ) → IsMessage m
    → of_length (length (fields_of m) + 1) (kind_of m ∷ (fields_of m ++ rest)) ≡ Whole m rest
length_again m rest h =
    let t = fields_of m in
    let n : length t + 1 - 1 ≡ length t = omega arith in
    let long : ltb (length (t ++ rest) + 1) (length t + 1) ≡ false =
    le-ltb _ _ (omega (arith, length-append t rest)) in
    let read : fields_at (kind_of m) t ≡ Some (m, []) =
    ap (fields_at (kind_of m)) (sym (append-nil t)) ∙ (message_again m h).back [] in
    rw (
      kind_again m,
      long,
      n,
      take_at t rest (length t) refl,
      drop_at t rest (length t) refl,
      read,
    ) refl

number_again : (n : ℕ) (tail : List ℕ) → 0 < n → n ≤ longest_frame
    → of_number (Some (n, tail)) ≡ of_length n tail
number_again n tail some most =
    rw (le-ltb longest_frame n most, ne_eqb n 0 (λ e. omega arith)) refl

pub frame_again : (m : Message) (rest : List ℕ) → IsSendable m
    → frame_at (frame_text m ++ rest) ≡ Whole m rest
unfolding frame_at frame_text
frame_again m rest h =
    let t = fields_of m in
    let n : ℕ = length t + 1 in
    let room : length t < longest_frame = h.fits in
    let regrouped : ((unsigned_text w32 n ++ unsigned_text w8 (kind_of m)) ++ t) ++ rest
    ≡ unsigned_text w32 n ++ (kind_of m ∷ (t ++ rest)) =
    rw (byte_text (kind_of m) (small_kind (kind_of m) (kind_again m))) (simp append_assoc) in
    ap (λ b. of_number (unsigned w32 b)) regrouped
    ∙ ap of_number ((u32_exact.again n (omega arith)).back (kind_of m ∷ (t ++ rest)))
    ∙ number_again n (kind_of m ∷ (t ++ rest)) (omega arith) (omega arith)
    ∙ length_again m rest h.ranges

------ what is read is spelled so

pub bad_not_whole : (f : FrameFault) (m : Message) (rest : List ℕ) → Bad f ≡ Whole m rest → ⊥
bad_not_whole f m rest e = absurd cc

pub more_not_whole : (m : Message) (rest : List ℕ) → More ≡ Whole m rest → ⊥
more_not_whole m rest e = absurd cc

pub whole_is : (m n : Message) (r s : List ℕ) → Whole m r ≡ Whole n s → (m ≡ n) × (r ≡ s)
whole_is m n r s e = (cc, cc)

-- a frame tells its message
pub frames_apart : (a b : Message) → IsSendable a → IsSendable b → frame_text a ≡ frame_text b
    → a ≡ b
frames_apart a b first second same =
    let read = sym (frame_again a [] first)
    ∙ ap (λ (text : List ℕ). frame_at (text ++ [])) same ∙ frame_again b [] second in
    (whole_is a b [] [] read).0

fields_take : (o : Option Message) (r : List ℕ) (m : Message) (rest : List ℕ)
    → of_fields o r ≡ Whole m rest → (o ≡ Some m) × (r ≡ rest)
fields_take None r m rest e = absurd (bad_not_whole _ _ _ e)
fields_take (Some n) r m rest e = let p = whole_is n m r rest e in (ap (λ x. Some x) p.0, p.1)

whole_takes : (o : Option (Message × List ℕ)) (m : Message) → whole o ≡ Some m → o ≡ Some (m, [])
whole_takes None m e = absurd cc
whole_takes (Some (x, [])) m e = ap (λ (y : Message). Some (y, [])) (some_is x m e)
whole_takes (Some (x, b ∷ bs)) m e = absurd cc

-- what a frame that is read has behind its length
pub record Framed (n : ℕ) (tail : List ℕ) (m : Message) (rest : List ℕ) : Type 0 where
  pub kind : ℕ
  pub bytes : List ℕ
  pub is : tail ≡ kind ∷ bytes
  pub known : is_kind kind ≡ true
  pub long : n ≤ length bytes + 1
  pub read : fields_at kind (take (n - 1) bytes) ≡ Some (m, [])
  pub behind : drop (n - 1) bytes ≡ rest

length_takes : (n : ℕ) (tail : List ℕ) (m : Message) (rest : List ℕ)
    → of_length n tail ≡ Whole m rest → Framed n tail m rest
length_takes n [] m rest e = absurd (more_not_whole m rest e)
length_takes n (k ∷ bytes) m rest e =
    elim (chosen (is_kind k) _ _ (Whole m rest) e) [
      | inr h ↦ absurd (bad_not_whole _ _ _ h.1)
      | inl h ↦ elim (chosen (ltb (length bytes + 1) n) _ _ (Whole m rest) h.1) [
        | inl g ↦ absurd (more_not_whole m rest g.1)
        | inr g ↦
            let p = fields_take (whole (fields_at k (take (n - 1) bytes))) (drop (n - 1) bytes) m
            rest g.1 in
            record {
              kind = k;
              bytes = bytes;
              is = refl;
              known = h.0;
              long = ltb-false (length bytes + 1) n g.0;
              read = whole_takes (fields_at k (take (n - 1) bytes)) m p.0;
              behind = p.1;
            }
      ]
    ]

-- and its length
pub record Numbered (o : Option (ℕ × List ℕ)) (m : Message) (rest : List ℕ) : Type 0 where
  pub n : ℕ
  pub tail : List ℕ
  pub is : o ≡ Some (n, tail)
  pub most : n ≤ longest_frame
  pub some : eqb n 0 ≡ false
  pub framed : Framed n tail m rest

number_takes : (o : Option (ℕ × List ℕ)) (m : Message) (rest : List ℕ)
    → of_number o ≡ Whole m rest → Numbered o m rest
number_takes None m rest e = absurd (more_not_whole m rest e)
number_takes (Some (n, tail)) m rest e =
    elim (chosen (ltb longest_frame n) _ _ (Whole m rest) e) [
      | inl h ↦ absurd (bad_not_whole _ _ _ h.1)
      | inr h ↦ elim (chosen (eqb n 0) _ _ (Whole m rest) h.1) [
        | inl g ↦ absurd (bad_not_whole _ _ _ g.1)
        | inr g ↦ record {
          n = n;
          tail = tail;
          is = refl;
          most = ltb-false longest_frame n h.0;
          some = g.0;
          framed = length_takes n tail m rest g.1;
        }
      ]
    ]

not_zero : (n : ℕ) → eqb n 0 ≡ false → 0 < n
not_zero n e = grind (arith, nat_tests)

pub frame_takes : (bytes : List ℕ) (m : Message) (rest : List ℕ) → IsBytes bytes
    → frame_at bytes ≡ Whole m rest → IsSendable m × (bytes ≡ frame_text m ++ rest)
unfolding frame_at frame_text
frame_takes bytes m rest fits e =
    let a = number_takes (unsigned w32 bytes) m rest e in
    let f = a.framed in
    let some : 0 < a.n = not_zero a.n a.some in
    let most : a.n ≤ longest_frame = a.most in
    let long : a.n ≤ length f.bytes + 1 = f.long in
    let t = u32_exact.takes bytes (a.n, a.tail) fits a.is in
    let inner : IsBytes f.bytes = λ i. subst IsBytes f.is t.others (suc i) in
    let text = take (a.n - 1) f.bytes in
    let k = (kind_takes f.kind).takes text (m, []) (IsBytes-take (a.n - 1) f.bytes inner) f.read in
    let fields : text ≡ fields_of m = k.parts ∙ append-nil (fields_of m) in
    let size : length (fields_of m) ≡ a.n - 1 =
    ap length (sym fields) ∙ omega (arith, length-take (a.n - 1) f.bytes) in
    let n-is : a.n ≡ length (fields_of m) + 1 = omega arith in
    let behind : f.bytes ≡ fields_of m ++ rest =
    sym (take-append-drop (a.n - 1) f.bytes)
    ∙ ap (λ (x : List ℕ). x ++ drop (a.n - 1) f.bytes) fields
    ∙ ap (λ (x : List ℕ). fields_of m ++ x) f.behind in
    let kind-is : f.kind ∷ f.bytes ≡ unsigned_text w8 (kind_of m) ++ (fields_of m ++ rest) =
    rw (k.fits.1, byte_text f.kind (small_kind f.kind f.known)) (ap (λ (x : List ℕ). f.kind ∷ x)
    behind) in
    let parts : bytes ≡ unsigned_text w32 (length (fields_of m) + 1)
    ++ (unsigned_text w8 (kind_of m) ++ (fields_of m ++ rest)) =
    t.parts ∙ ap (λ (x : List ℕ). unsigned_text w32 a.n ++ x) (f.is ∙ kind-is)
    ∙ ap (λ j. unsigned_text w32 j ++ (unsigned_text w8 (kind_of m) ++ (fields_of m ++ rest)))
    n-is in
    (record { ranges = k.fits.0; fits = omega arith }, parts ∙ simp append_assoc)

-- ---- a loop that reads messages

pub splits_none : (bytes : List ℕ) → Splits bytes [] bytes
splits_none bytes = record { whole = refl; each = tt }

all_push : {A : Type 0} (P : A → Type 0) (xs : List A) (x : A) → AllByRecursion P xs → P x
    → AllByRecursion P (xs ++ x ∷ [])
all_push P [] x h p = (p, tt)
all_push P (y ∷ xs) x h p = (h.0, all_push P xs x h.1 p)

flat_push : (xs : List Message) (x : Message)
    → flat_map frame_text (xs ++ x ∷ []) ≡ flat_map frame_text xs ++ frame_text x
flat_push [] x = flat_map-cons frame_text x [] ∙ append-nil (frame_text x)
flat_push (y ∷ xs) x =
    flat_map-cons frame_text y (xs ++ x ∷ [])
    ∙ ap (λ (t : List ℕ). frame_text y ++ t) (flat_push xs x)
    ∙ sym (append_assoc (frame_text y) (flat_map frame_text xs) (frame_text x))
    ∙ ap (λ (t : List ℕ). t ++ frame_text x) (sym (flat_map-cons frame_text y xs))

pub splits_more : (bytes : List ℕ) (ms : List Message) (rest : List ℕ) (m : Message)
    (behind : List ℕ) → Splits bytes ms rest → IsBytes rest → frame_at rest ≡ Whole m behind
    → Splits bytes (ms ++ m ∷ []) behind
splits_more bytes ms rest m behind s fits e =
    let f = frame_takes rest m behind fits e in
    record {
      whole = s.whole ∙ ap (λ (t : List ℕ). flat_map frame_text ms ++ t) f.1
          ∙ sym (append_assoc (flat_map frame_text ms) (frame_text m) behind)
          ∙ ap (λ (t : List ℕ). t ++ behind) (sym (flat_push ms m));
      each = all_push IsSendable ms m s.each f.0;
    }
