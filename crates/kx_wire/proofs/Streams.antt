-- A stream of frames comes as its messages, however it is cut into pieces.
use Rattle.std.proofs.Common.{◌≡◌, ℕ, ◌+◌, ◌-◌, ◌<◌, ◌≤◌, Bool, true, false, cond, ltb, eqb, List}
use Rattle.std.proofs.Common.{[], ◌∷◌}
use Rattle.std.proofs.Common.{◌++◌, length, take, drop, Option, Some, None, Result, Ok, Err, refl}
use Rattle.std.proofs.Common.{sym, ap, ◌∙◌, subst, append_assoc, arith, inl, inr, length-append}
use Rattle.std.specs.Prelude.{MatchResult}
use Rattle.std.specs.List.{flat_map, AllByRecursion}
use Rattle.std.specs.Int.{w32}
use Rattle.std.proofs.lemmas.Bool.{ltb-false, ltb-true, le-ltb}
use Rattle.std.proofs.lemmas.List.{append-nil, take-append-le}
use Rattle.std.proofs.lemmas.List.Concat.{flat_map-cons}
use Rattle.kx_varint.specs.BigEndian.{unsigned_text, place_value}
use Rattle.kx_varint.specs.declared.fault.VarFault.TheVariants.{Short}
use Rattle.kx_message.proofs.Sizes.{of_unsigned}
use Rattle.kx_varint.specs.Text.{IsBytes}
use Rattle.kx_varint.proofs.Agree.{IsBytes-front, IsBytes-back}
use Rattle.kx_varint.proofs.Laws.{chosen}
use Rattle.kx_message.specs.Sizes.{longest_frame}
use Rattle.kx_message.specs.Fields.{frame_text}
use Rattle.kx_message.specs.Message.{IsSendable}
use Rattle.kx_message.specs.Reader.{unsigned, whole, found}
use Rattle.kx_wire.specs.Reading.{is_kind, fields_at}
use Rattle.kx_wire.specs.Frames.{Front, Whole, Bad, More, of_fields, of_length, of_number, frame_at}
use Rattle.kx_wire.specs.Frames.{Stream, Reads, Stands, Fed}
use Rattle.kx_wire.specs.Pieces.{joined, Comes}
use Rattle.kx_message.specs.declared.message.Message.{Message}
use Rattle.kx_wire.specs.declared.fault.FrameFault.{FrameFault}
use Rattle.kx_wire.specs.declared.fault.FrameFault.TheVariants as fault
use Rattle.kx_wire.proofs.FieldLaws.{u32_exact}
use Rattle.kx_wire.proofs.FrameLaws.{frame_again, more_not_whole, whole_is}
use Rattle.kx_wire.proofs.Feeding.{more_not_bad, whole_not_bad}

-- ---- a fault stays, whatever comes behind it

unsigned_more : (x y : List ℕ) (n : ℕ) (tail : List ℕ) → IsBytes x
    → unsigned w32 x ≡ Some (n, tail) → unsigned w32 (x ++ y) ≡ Some (n, tail ++ y)
unsigned_more x y n tail fits e =
    let t = u32_exact.takes x (n, tail) fits e in
    ap (λ (b : List ℕ). unsigned w32 (b ++ y)) t.parts
    ∙ ap (unsigned w32) (append_assoc (unsigned_text w32 n) tail y)
    ∙ (u32_exact.again n t.fits).back (tail ++ y)

fields_stay : (o : Option Message) (r s : List ℕ) (f : FrameFault) → of_fields o r ≡ Bad f
    → of_fields o s ≡ Bad f
fields_stay None r s f e = e
fields_stay (Some m) r s f e = absurd (whole_not_bad f m r e)

length_stays : (n : ℕ) (tail y : List ℕ) (f : FrameFault) → of_length n tail ≡ Bad f
    → of_length n (tail ++ y) ≡ Bad f
length_stays n [] y f e = absurd (more_not_bad f e)
length_stays n (k ∷ bytes) y f e =
    elim (chosen (is_kind k) _ _ (Bad f) e) [
      | inr h ↦ rw h.0 h.1
      | inl h ↦ elim (chosen (ltb (length bytes + 1) n) _ _ (Bad f) h.1) [
        | inl g ↦ absurd (more_not_bad f g.1)
        | inr g ↦
            let room : n ≤ length bytes + 1 = ltb-false (length bytes + 1) n g.0 in
            let within : n - 1 ≤ length bytes = omega arith in
            let long : ltb (length (bytes ++ y) + 1) n ≡ false =
            le-ltb _ _ (omega (arith, length-append bytes y)) in
            let same : take (n - 1) (bytes ++ y) ≡ take (n - 1) bytes =
            take-append-le (n - 1) bytes y within in
            rw (h.0, long, same) (fields_stay (whole (fields_at k (take (n - 1) bytes)))
            (drop (n - 1) bytes) (drop (n - 1) (bytes ++ y)) f g.1)
      ]
    ]

number_stays : (n : ℕ) (tail y : List ℕ) (f : FrameFault) → of_number (Some (n, tail)) ≡ Bad f
    → of_number (Some (n, tail ++ y)) ≡ Bad f
number_stays n tail y f e =
    elim (chosen (ltb longest_frame n) _ _ (Bad f) e) [
      | inl h ↦ rw h.0 h.1
      | inr h ↦ elim (chosen (eqb n 0) _ _ (Bad f) h.1) [
        | inl g ↦ rw (h.0, g.0) g.1
        | inr g ↦ rw (h.0, g.0) (length_stays n tail y f g.1)
      ]
    ]

front_stays : (x y : List ℕ) (f : FrameFault) (o : Option (ℕ × List ℕ)) → IsBytes x
    → unsigned w32 x ≡ o → of_number o ≡ Bad f → of_number (unsigned w32 (x ++ y)) ≡ Bad f
front_stays x y f None fits is e = absurd (more_not_bad f e)
front_stays x y f (Some (n, tail)) fits is e =
    ap of_number (unsigned_more x y n tail fits is) ∙ number_stays n tail y f e

bad_stays : (x y : List ℕ) (f : FrameFault) → IsBytes x → frame_at x ≡ Bad f
    → frame_at (x ++ y) ≡ Bad f
unfolding frame_at
bad_stays x y f fits e = front_stays x y f (unsigned w32 x) fits refl e

-- ---- frames one behind the other are those frames

abbrev frames_of : List Message → List ℕ
frames_of = flat_map frame_text

pub nothing : frame_at [] ≡ More
unfolding frame_at unsigned
nothing = refl

first_is : (m : Message) (ms : List Message) (rest : List ℕ) → IsSendable m
    → frame_at (frames_of (m ∷ ms) ++ rest) ≡ Whole m (frames_of ms ++ rest)
first_is m ms rest h =
    ap (λ (t : List ℕ). frame_at (t ++ rest)) (flat_map-cons frame_text m ms)
    ∙ ap frame_at (append_assoc (frame_text m) (frames_of ms) rest)
    ∙ frame_again m (frames_of ms ++ rest) h

first_alone : (m : Message) (ms : List Message) → IsSendable m
    → frame_at (frames_of (m ∷ ms)) ≡ Whole m (frames_of ms)
first_alone m ms h = ap frame_at (flat_map-cons frame_text m ms) ∙ frame_again m (frames_of ms) h

not_bad : (ms : List Message) (f : FrameFault) → AllByRecursion IsSendable ms
    → frame_at (frames_of ms) ≡ Bad f → ⊥
not_bad [] f all e = more_not_bad f (sym nothing ∙ e)
not_bad (m ∷ ms) f all e =
    whole_not_bad f m (frames_of ms) (sym (first_alone m ms all.0) ∙ e)

not_more : (ms : List Message) → AllByRecursion IsSendable ms → frame_at (frames_of ms) ≡ More
    → ms ≡ []
not_more [] all e = refl
not_more (m ∷ ms) all e =
    absurd (more_not_whole m (frames_of ms) (sym e ∙ first_alone m ms all.0))

record Others (ms xs : List Message) (rest : List ℕ) : Type 0 where
  pub others : List Message
  pub is : ms ≡ xs ++ others
  pub left : rest ≡ frames_of others
  pub all : AllByRecursion IsSendable others

decode : (ms xs : List Message) (rest : List ℕ) → AllByRecursion IsSendable ms
    → AllByRecursion IsSendable xs → frames_of xs ++ rest ≡ frames_of ms → Others ms xs rest
decode ms [] rest all each e = record { others = ms; is = refl; left = e; all = all }
decode [] (x ∷ xs) rest all each e =
    absurd (more_not_whole x (frames_of xs ++ rest)
    (sym nothing ∙ ap frame_at (sym e) ∙ first_is x xs rest each.0))
decode (m ∷ ms) (x ∷ xs) rest all each e =
    let same = whole_is x m (frames_of xs ++ rest) (frames_of ms)
    (sym (first_is x xs rest each.0) ∙ ap frame_at e ∙ first_alone m ms all.0) in
    let d = decode ms xs rest all.1 each.1 same.1 in
    record {
      others = d.others;
      is = ap (λ (y : Message). y ∷ ms) (sym same.0) ∙ ap (λ (ys : List Message). x ∷ ys) d.is;
      left = d.left;
      all = d.all;
    }

-- ---- pieces

-- what is known of the pieces behind this one
abbrev Behind : List (List ℕ) → Type 0
Behind pieces = (ms : List Message) (partial : List ℕ) → AllByRecursion IsSendable ms
    → IsBytes (frames_of ms) → partial ++ joined pieces ≡ frames_of ms → frame_at partial ≡ More
    → Comes (Reads partial) pieces ms

stands_on : (front : Front) (pieces : List (List ℕ)) (xs others : List Message) (rest : List ℕ)
    (new : Stream) → Behind pieces → AllByRecursion IsSendable others
    → IsBytes (frames_of others) → rest ++ joined pieces ≡ frames_of others
    → frame_at rest ≡ front → Stands front xs rest new → Comes new pieces others
stands_on (Whole m behind) pieces xs others rest new more all fits e is s = absurd s
stands_on (Bad f) pieces xs others rest new more all fits e is s =
    let front : IsBytes rest = IsBytes-front (frames_of others) rest (joined pieces) (sym e) fits in
    absurd (not_bad others f all (ap frame_at (sym e) ∙ bad_stays rest (joined pieces) f front is))
stands_on More pieces xs others rest new more all fits e is s =
    subst (λ (t : Stream). Comes t pieces others) (sym s) (more others rest all fits e is)

goes : (piece : List ℕ) (pieces : List (List ℕ)) (ms : List Message) (partial : List ℕ)
    (answer : Result (List Message) FrameFault) (new : Stream) → Behind pieces
    → AllByRecursion IsSendable ms → IsBytes (frames_of ms)
    → (partial ++ piece) ++ joined pieces ≡ frames_of ms → Fed (Reads partial) piece answer new
    → MatchResult answer
    (λ first. (others : List Message) × (ms ≡ first ++ others) × Comes new pieces others)
    (λ f. f ≡ fault.Memory)
goes piece pieces ms partial (Ok xs) new more all fits e (rest, s, stands) =
    let whole : frames_of xs ++ (rest ++ joined pieces) ≡ frames_of ms =
    sym (append_assoc (frames_of xs) rest (joined pieces))
    ∙ ap (λ (t : List ℕ). t ++ joined pieces) (sym s.whole) ∙ e in
    let d = decode ms xs (rest ++ joined pieces) all s.each whole in
    let bytes : IsBytes (frames_of d.others) =
    IsBytes-back (frames_of ms) (frames_of xs) (frames_of d.others)
    (sym whole ∙ ap (λ (t : List ℕ). frames_of xs ++ t) d.left) fits in (
      d.others,
      d.is,
      stands_on (frame_at rest) pieces xs d.others rest new more d.all bytes d.left refl stands,
    )
goes piece pieces ms partial (Err fault.Memory) new more all fits e fed = refl
goes piece pieces ms partial (Err fault.TooLong) new more all fits e fed =
    absurd (not_bad ms fault.TooLong all (ap frame_at (sym e) ∙ bad_stays (partial ++ piece)
    (joined pieces) fault.TooLong
    (IsBytes-front (frames_of ms) (partial ++ piece) (joined pieces) (sym e) fits) fed.0))
goes piece pieces ms partial (Err fault.Kind) new more all fits e fed =
    absurd (not_bad ms fault.Kind all (ap frame_at (sym e) ∙ bad_stays (partial ++ piece)
    (joined pieces) fault.Kind
    (IsBytes-front (frames_of ms) (partial ++ piece) (joined pieces) (sym e) fits) fed.0))
goes piece pieces ms partial (Err fault.Field) new more all fits e fed =
    absurd (not_bad ms fault.Field all (ap frame_at (sym e) ∙ bad_stays (partial ++ piece)
    (joined pieces) fault.Field
    (IsBytes-front (frames_of ms) (partial ++ piece) (joined pieces) (sym e) fits) fed.0))
goes piece pieces ms partial (Err fault.Failed) new more all fits e fed = absurd fed

come : (pieces : List (List ℕ)) → Behind pieces
come [] ms partial all fits e more =
    not_more ms all (ap frame_at (sym e ∙ append-nil partial) ∙ more)
come (piece ∷ pieces) ms partial all fits e more = λ answer new fed.
    let regrouped : (partial ++ piece) ++ joined pieces ≡ frames_of ms =
    append_assoc partial piece (joined pieces)
    ∙ ap (λ (t : List ℕ). partial ++ t) (sym (flat_map-cons (λ p. p) piece pieces)) ∙ e in
    goes piece pieces ms partial answer new (come pieces) all fits regrouped fed

pub pieces_come : (pieces : List (List ℕ)) (ms : List Message) → AllByRecursion IsSendable ms
    → IsBytes (joined pieces) → joined pieces ≡ frames_of ms → Comes (Reads []) pieces ms
pieces_come pieces ms all fits e = come pieces ms [] all (subst IsBytes e fits) e nothing

-- ---- what is held back

fields_not_more : (o : Option Message) (r : List ℕ) → of_fields o r ≡ More → ⊥
fields_not_more None r e = more_not_bad fault.Field (sym e)
fields_not_more (Some m) r e = more_not_whole m r (sym e)

length_more : (n : ℕ) (tail : List ℕ) → n ≤ longest_frame → of_length n tail ≡ More
    → length tail ≤ longest_frame
length_more n [] most e = omega arith
length_more n (k ∷ bytes) most e =
    elim (chosen (is_kind k) _ _ More e) [
      | inr h ↦ absurd (more_not_bad fault.Kind (sym h.1))
      | inl h ↦ elim (chosen (ltb (length bytes + 1) n) _ _ More h.1) [
        | inl g ↦ let less : length bytes + 1 < n = ltb-true _ _ g.0 in omega arith
        | inr g ↦ absurd (fields_not_more (whole (fields_at k (take (n - 1) bytes)))
            (drop (n - 1) bytes) g.1)
      ]
    ]

number_more : (o : Option (ℕ × List ℕ)) (size : ℕ) → of_number o ≡ More
    → (o ≡ None → size < 4) → ((n : ℕ) (tail : List ℕ) → o ≡ Some (n, tail)
    → size ≡ 4 + length tail)
    → size ≤ 4 + longest_frame
number_more None size e short long = let less : size < 4 = short refl in omega arith
number_more (Some (n, tail)) size e short long =
    elim (chosen (ltb longest_frame n) _ _ More e) [
      | inl h ↦ absurd (more_not_bad fault.TooLong (sym h.1))
      | inr h ↦ elim (chosen (eqb n 0) _ _ More h.1) [
        | inl g ↦ absurd (more_not_bad fault.Kind (sym g.1))
        | inr g ↦
            let most : n ≤ longest_frame = ltb-false longest_frame n h.0 in
            let rest : length tail ≤ longest_frame = length_more n tail most g.1 in
            let all : size ≡ 4 + length tail = long n tail refl in omega arith
      ]
    ]

none_short : (b : Bool) (x : ℕ × List ℕ) → found (cond b (Err Short) (Ok x)) ≡ None → b ≡ true
none_short true x e = refl
none_short false x e = absurd cc

number_short : (bytes : List ℕ) → unsigned w32 bytes ≡ None → length bytes < 4
unfolding unsigned
number_short bytes e = ltb-true (length bytes) 4 (none_short (ltb (length bytes) 4)
    (place_value (take 4 bytes), drop 4 bytes) e)

pub more_is_short : (bytes : List ℕ) → IsBytes bytes → frame_at bytes ≡ More
    → length bytes ≤ 4 + longest_frame
unfolding frame_at
more_is_short bytes fits e = number_more (unsigned w32 bytes) (length bytes) e (number_short bytes)
    (λ n tail is. let t = u32_exact.takes bytes (n, tail) fits is in
    ap length t.parts ∙ omega (arith, length-append (unsigned_text w32 n) tail, of_unsigned w32 n))
