-- A frame that is written is read, and a stream of frames comes as their texts, however it is cut.
use Rattle.std.proofs.Common.{◌≡◌, ℕ, ◌+◌, ◌^◌, ◌<◌, ◌≤◌, List}
use Rattle.std.proofs.Common.{[], ◌∷◌, ◌++◌, length, take, drop, Ok, refl, sym, ap, ◌∙◌}
use Rattle.std.proofs.Common.{append_assoc, arith, inl, inr, length-append}
use Rattle.std.specs.List.{flat_map, AllByRecursion}
use Rattle.std.specs.Int.{w32}
use Rattle.std.proofs.lemmas.Bool.{lt-ltb, le-ltb, cases_lt}
use Rattle.std.proofs.lemmas.List.{take_at, drop_at, take-append-le, drop-append-le, take-append-drop}
use Rattle.std.proofs.lemmas.List.{length-take, length-drop, append-nil}
use Rattle.std.proofs.lemmas.List.Concat.{flat_map-cons}
use Rattle.kx_varint.specs.BigEndian.{place_value, unsigned_text}
use Rattle.kx_varint.specs.Text.{IsBytes}
use Rattle.kx_varint.proofs.FixedWidth.{wide32, IsBytes-take}
use Rattle.kx_message.specs.Sizes.{longest_frame}
use Rattle.kx_kafka.specs.Frames.{Whole, More, Beyond, of_length, frame_at, frame_text}
use Rattle.kx_kafka.specs.Frames.{FitsFrame, joined, Splits, Comes}
use Rattle.kx_kafka.proofs.Fronts.{read_of, beyond_of}

------ a length

text_size : (n : ℕ) → length (unsigned_text w32 n) ≡ 4
unfolding unsigned_text
text_size n = wide32.size n

text_value : (n : ℕ) → n < 2 ^ 32 → place_value (unsigned_text w32 n) ≡ n
unfolding unsigned_text
text_value n lt = wide32.again n lt

text_back : (bytes : List ℕ) → length bytes ≡ 4 → IsBytes bytes
    → unsigned_text w32 (place_value bytes) ≡ bytes
unfolding unsigned_text
text_back bytes size fits = wide32.back bytes size fits

frame_size : (text : List ℕ) → length (frame_text text) ≡ 4 + length text
unfolding frame_text
frame_size text =
    length-append (unsigned_text w32 (length text)) text
    ∙ ap (λ n. n + length text) (text_size (length text))

------ what stands at the front, by its length and the bytes behind it

record Stands (bytes : List ℕ) (n : ℕ) (tail : List ℕ) : Type 0 where
  long : 4 ≤ length bytes
  value : place_value (take 4 bytes) ≡ n
  behind : drop 4 bytes ≡ tail

at_length : (bytes : List ℕ) (n : ℕ) (tail : List ℕ) → Stands bytes n tail
    → frame_at bytes ≡ of_length (Ok (n, tail))
unfolding frame_at
at_length bytes n tail s = rw (le-ltb (length bytes) 4 s.long, s.value, s.behind) refl

at_whole : (bytes : List ℕ) (n : ℕ) (tail : List ℕ) → Stands bytes n tail → n ≤ longest_frame
    → n ≤ length tail → frame_at bytes ≡ Whole (take n tail) (drop n tail)
at_whole bytes n tail s most le =
    at_length bytes n tail s ∙ rw (le-ltb longest_frame n most, le-ltb (length tail) n le) refl

at_more : (bytes : List ℕ) (n : ℕ) (tail : List ℕ) → Stands bytes n tail → n ≤ longest_frame
    → length tail < n → frame_at bytes ≡ More
at_more bytes n tail s most lt =
    at_length bytes n tail s ∙ rw (le-ltb longest_frame n most, lt-ltb (length tail) n lt) refl

at_beyond : (bytes : List ℕ) (n : ℕ) (tail : List ℕ) → Stands bytes n tail → longest_frame < n
    → frame_at bytes ≡ Beyond
at_beyond bytes n tail s lt = at_length bytes n tail s ∙ rw (lt-ltb longest_frame n lt) refl

at_short : (bytes : List ℕ) → length bytes < 4 → frame_at bytes ≡ More
unfolding frame_at
at_short bytes lt = rw (lt-ltb (length bytes) 4 lt) refl

------ a frame that is written

-- a front of a frame that has its length
written : (text front more tail : List ℕ) → FitsFrame text → frame_text text ++ tail ≡ front ++ more
    → 4 ≤ length front → Stands front (length text) (drop 4 front)
unfolding frame_text
written text front more tail fits e long =
    let n = length text in
    let is : take 4 front ≡ unsigned_text w32 n =
    sym (take-append-le 4 front more long) ∙ ap (take 4) (sym e)
    ∙ ap (take 4) (append_assoc (unsigned_text w32 n) text tail)
    ∙ take_at (unsigned_text w32 n) (text ++ tail) 4 (text_size n) in
    record {
      long = long;
      value = ap place_value is ∙ text_value n (omega (arith, fits));
      behind = refl;
    }

behind_length : (text tail : List ℕ) → drop 4 (frame_text text ++ tail) ≡ text ++ tail
unfolding frame_text
behind_length text tail =
    ap (drop 4) (append_assoc (unsigned_text w32 (length text)) text tail)
    ∙ drop_at (unsigned_text w32 (length text)) (text ++ tail) 4 (text_size (length text))

pub frame_again : (text rest : List ℕ) → FitsFrame text
    → frame_at (frame_text text ++ rest) ≡ Whole text rest
frame_again text rest fits =
    let whole = frame_text text ++ rest in
    let size : length whole ≡ 4 + length text + length rest =
    length-append (frame_text text) rest ∙ ap (λ n. n + length rest) (frame_size text) in
    let s = written text whole [] rest fits (sym (append-nil whole)) (omega arith) in
    let le : length text ≤ length (drop 4 whole) = omega (arith, length-drop 4 whole) in
    at_whole whole (length text) (drop 4 whole) s fits le
    ∙ ap (λ (b : List ℕ). Whole (take (length text) b) (drop (length text) b))
    (behind_length text rest)
    ∙ rw (take_at text rest (length text) refl, drop_at text rest (length text) refl) refl

pub frame_cut : (text front more : List ℕ) → FitsFrame text → 0 < length more
    → frame_text text ≡ front ++ more → frame_at front ≡ More
frame_cut text front more fits some e =
    let size : 4 + length text ≡ length front + length more =
    sym (frame_size text) ∙ ap length e ∙ length-append front more in
    elim (cases_lt (length front) 4) [
      | inl lt ↦ at_short front lt
      | inr le ↦
          at_more front (length text) (drop 4 front)
          (written text front more [] fits (append-nil (frame_text text) ∙ e) le) fits
          (omega (arith, length-drop 4 front))
    ]

------ what is read

pub frame_only : (bytes text rest : List ℕ) → IsBytes bytes → frame_at bytes ≡ Whole text rest
    → FitsFrame text × (bytes ≡ frame_text text ++ rest)
unfolding frame_text
frame_only bytes text rest fits e =
    let r = read_of bytes text rest e in
    let size : length (take 4 bytes) ≡ 4 = omega (arith, length-take 4 bytes, r.long) in
    let front : take 4 bytes ≡ unsigned_text w32 (length text) =
    sym (text_back (take 4 bytes) size (IsBytes-take 4 bytes fits))
    ∙ ap (unsigned_text w32) r.value in
    let tail : drop 4 bytes ≡ text ++ rest =
    sym (take-append-drop (length text) (drop 4 bytes))
    ∙ ap (λ (t : List ℕ). t ++ drop (length text) (drop 4 bytes)) r.is
    ∙ ap (λ (t : List ℕ). text ++ t) r.behind in (
      r.most,
      sym (take-append-drop 4 bytes) ∙ ap (λ (t : List ℕ). t ++ drop 4 bytes) front
          ∙ ap (λ (t : List ℕ). unsigned_text w32 (length text) ++ t) tail
          ∙ sym (append_assoc (unsigned_text w32 (length text)) text rest),
    )

longer : (bytes more : List ℕ) (n : ℕ) → 4 ≤ length bytes → place_value (take 4 bytes) ≡ n
    → Stands (bytes ++ more) n (drop 4 bytes ++ more)
longer bytes more n long value = record {
  long = omega (arith, length-append bytes more, long);
  value = ap place_value (take-append-le 4 bytes more long) ∙ value;
  behind = drop-append-le 4 bytes more long;
}

pub frame_stays : (bytes more text rest : List ℕ) → frame_at bytes ≡ Whole text rest
    → frame_at (bytes ++ more) ≡ Whole text (rest ++ more)
frame_stays bytes more text rest e =
    let r = read_of bytes text rest e in
    let n = length text in
    let tail = drop 4 bytes in
    at_whole (bytes ++ more) n (tail ++ more) (longer bytes more n r.long r.value) r.most
    (omega (arith, length-append tail more, r.room))
    ∙ rw (take-append-le n tail more r.room, drop-append-le n tail more r.room, r.is, r.behind) refl

pub frame_beyond : (bytes more : List ℕ) → frame_at bytes ≡ Beyond
    → frame_at (bytes ++ more) ≡ Beyond
frame_beyond bytes more e =
    let b = beyond_of bytes e in
    at_beyond (bytes ++ more) (place_value (take 4 bytes)) (drop 4 bytes ++ more)
    (longer bytes more (place_value (take 4 bytes)) b.0 refl) b.1

------ pieces

abbrev frames_of : List (List ℕ) → List ℕ
frames_of = flat_map frame_text

nothing : frame_at [] ≡ More
nothing = at_short [] (omega arith)

more_not_whole : (text rest : List ℕ) → More ≡ Whole text rest → ⊥
more_not_whole text rest e = absurd cc

-- some bytes of a stream, by the texts whose frames are whole in them
record Divided (bytes more : List ℕ) (texts : List (List ℕ)) : Type 0 where
  first : List (List ℕ)
  others : List (List ℕ)
  rest : List ℕ
  split : Splits bytes first rest
  all : texts ≡ first ++ others
  left : rest ++ more ≡ frames_of others
  fit : AllByRecursion FitsFrame others
  more_wanted : frame_at rest ≡ More

divide : (texts : List (List ℕ)) (bytes more : List ℕ) → AllByRecursion FitsFrame texts
    → bytes ++ more ≡ frames_of texts → Divided bytes more texts
divide [] [] more fit e = record {
  first = [];
  others = [];
  rest = [];
  split = (refl, nothing);
  all = refl;
  left = e;
  fit = tt;
  more_wanted = nothing;
}
divide [] (byte ∷ bytes) more fit e = absurd cc
divide (text ∷ texts) bytes more fit e =
    let whole : bytes ++ more ≡ frame_text text ++ frames_of texts =
    e ∙ flat_map-cons frame_text text texts in
    elim (cases_lt (length bytes) (length (frame_text text))) [
      | inl lt ↦
          let n = length bytes in
          let behind = drop n (frame_text text) in
          let front : take n (frame_text text) ≡ bytes =
          sym (take-append-le n (frame_text text) (frames_of texts) (omega (arith, lt)))
          ∙ ap (take n) (sym whole) ∙ take_at bytes more n refl in
          let is : frame_text text ≡ bytes ++ behind =
          sym (take-append-drop n (frame_text text)) ∙ ap (λ (b : List ℕ). b ++ behind) front in
          let wanted = frame_cut text bytes behind fit.0
          (omega (arith, length-drop n (frame_text text), lt)) is in
          record {
            first = [];
            others = text ∷ texts;
            rest = bytes;
            split = (refl, wanted);
            all = refl;
            left = e;
            fit = fit;
            more_wanted = wanted;
          }
      | inr le ↦
          let n = length (frame_text text) in
          let behind = drop n bytes in
          let front : take n bytes ≡ frame_text text =
          sym (take-append-le n bytes more le) ∙ ap (take n) whole
          ∙ take_at (frame_text text) (frames_of texts) n refl in
          let is : bytes ≡ frame_text text ++ behind =
          sym (take-append-drop n bytes) ∙ ap (λ (b : List ℕ). b ++ behind) front in
          let left : behind ++ more ≡ frames_of texts =
          sym (drop-append-le n bytes more le) ∙ ap (drop n) whole
          ∙ drop_at (frame_text text) (frames_of texts) n refl in
          let d = divide texts behind more fit.1 left in
          record {
            first = text ∷ d.first;
            others = d.others;
            rest = d.rest;
            split = (behind, ap frame_at is ∙ frame_again text behind fit.0, d.split);
            all = ap (λ (ts : List (List ℕ)). text ∷ ts) d.all;
            left = d.left;
            fit = d.fit;
            more_wanted = d.more_wanted;
          }
    ]

none_left : (texts : List (List ℕ)) (held : List ℕ) → AllByRecursion FitsFrame texts
    → held ≡ frames_of texts → frame_at held ≡ More → texts ≡ []
none_left [] held fit e wanted = refl
none_left (text ∷ texts) held fit e wanted =
    absurd (more_not_whole text (frames_of texts) (sym wanted ∙ ap frame_at e
    ∙ ap frame_at (flat_map-cons frame_text text texts)
    ∙ frame_again text (frames_of texts) fit.0))

come : (pieces : List (List ℕ)) (held : List ℕ) (texts : List (List ℕ))
    → AllByRecursion FitsFrame texts → held ++ joined pieces ≡ frames_of texts
    → frame_at held ≡ More → Comes held pieces texts
come [] held texts fit e wanted = none_left texts held fit (sym (append-nil held) ∙ e) wanted
come (piece ∷ pieces) held texts fit e wanted =
    let d = divide texts (held ++ piece) (joined pieces) fit
    (append_assoc held piece (joined pieces)
    ∙ ap (λ (b : List ℕ). held ++ b) (sym (flat_map-cons (λ (b : List ℕ). b) piece pieces)) ∙ e) in
    let later = come pieces d.rest d.others d.fit d.left d.more_wanted in
    (d.first, d.others, d.rest, d.split, d.all, later)

pub pieces_come : (pieces texts : List (List ℕ)) → AllByRecursion FitsFrame texts
    → joined pieces ≡ frames_of texts → Comes [] pieces texts
pieces_come pieces texts fit e = come pieces [] texts fit e nothing
