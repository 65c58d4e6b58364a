-- The frame at the front of some bytes, and what is behind it.
use Rattle.std.proofs.Common.{◌≡◌, ℕ, ◌+◌, ◌<◌, ◌≤◌, Bool, true, false, cond, ltb, List}
use Rattle.std.proofs.Common.{length, take, drop, Ok, Err, refl, sym, ap, ◌∙◌, arith}
use Rattle.std.proofs.Common.{subst}
use Rattle.std.proofs.lemmas.Bool.{ltb-false, ltb-true}
use Rattle.std.proofs.lemmas.List.{length-take, length-drop, drop-drop}
use Rattle.kx_varint.specs.declared.fault.VarFault.TheVariants.{Short}
use Rattle.kx_varint.specs.BigEndian.{place_value}
use Rattle.kx_message.specs.Sizes.{longest_frame}
use Rattle.kx_kafka.specs.Frames.{Whole, More, Beyond, of_length, frame_at}

pub record Parts (bytes text rest : List ℕ) : Type 0 where
  pub room : 4 + length text ≤ length bytes
  pub behind : drop (4 + length text) bytes ≡ rest

whole_is : (t u text rest : List ℕ) → Whole t u ≡ Whole text rest → (t ≡ text) × (u ≡ rest)
whole_is t u text rest e = (cc, cc)

two : (a b : Bool) (t u text rest : List ℕ)
    → cond a Beyond (cond b More (Whole t u)) ≡ Whole text rest
    → (a ≡ false) × (b ≡ false) × (t ≡ text) × (u ≡ rest)
two true b t u text rest e = absurd cc
two false true t u text rest e = absurd cc
two false false t u text rest e =
    let h = whole_is t u text rest e in
    (refl, refl, h.0, h.1)

two_beyond : (a b : Bool) (t u : List ℕ) → cond a Beyond (cond b More (Whole t u)) ≡ Beyond
    → a ≡ true
two_beyond true b t u e = refl
two_beyond false true t u e = absurd cc
two_beyond false false t u e = absurd cc

short_or : (b : Bool) (n : ℕ) (r text rest : List ℕ)
    → of_length (cond b (Err Short) (Ok (n, r))) ≡ Whole text rest
    → (b ≡ false) × (of_length (Ok (n, r)) ≡ Whole text rest)
short_or true n r text rest e = absurd cc
short_or false n r text rest e = (refl, e)

short_beyond : (b : Bool) (n : ℕ) (r : List ℕ)
    → of_length (cond b (Err Short) (Ok (n, r))) ≡ Beyond
    → (b ≡ false) × (of_length (Ok (n, r)) ≡ Beyond)
short_beyond true n r e = absurd cc
short_beyond false n r e = (refl, e)

-- a text that stands at the front: its length, and the bytes behind that
pub record Read (bytes text rest : List ℕ) : Type 0 where
  pub long : 4 ≤ length bytes
  pub value : place_value (take 4 bytes) ≡ length text
  pub most : length text ≤ longest_frame
  pub room : length text ≤ length (drop 4 bytes)
  pub is : take (length text) (drop 4 bytes) ≡ text
  pub behind : drop (length text) (drop 4 bytes) ≡ rest

pub read_of : (bytes text rest : List ℕ) → frame_at bytes ≡ Whole text rest → Read bytes text rest
unfolding frame_at
read_of bytes text rest e =
    let n = place_value (take 4 bytes) in
    let r = drop 4 bytes in
    let s = short_or (ltb (length bytes) 4) n r text rest e in
    let t = two (ltb longest_frame n) (ltb (length r) n) (take n r) (drop n r) text rest s.1 in
    let le : n ≤ length r = ltb-false _ _ t.1 in
    let size : n ≡ length text = omega (arith, length-take n r) ∙ ap length t.2 in
    record {
      long = ltb-false _ _ s.0;
      value = size;
      most = subst (λ k. k ≤ longest_frame) size (ltb-false _ _ t.0);
      room = subst (λ k. k ≤ length r) size le;
      is = ap (λ k. take k r) (sym size) ∙ t.2;
      behind = ap (λ k. drop k r) (sym size) ∙ t.3;
    }

pub beyond_of : (bytes : List ℕ) → frame_at bytes ≡ Beyond
    → (4 ≤ length bytes) × (longest_frame < place_value (take 4 bytes))
unfolding frame_at
beyond_of bytes e =
    let n = place_value (take 4 bytes) in
    let r = drop 4 bytes in
    let s = short_beyond (ltb (length bytes) 4) n r e in
    let t = two_beyond (ltb longest_frame n) (ltb (length r) n) (take n r) (drop n r) s.1 in
    (ltb-false _ _ s.0, ltb-true _ _ t)

pub parts_of : (bytes text rest : List ℕ) → frame_at bytes ≡ Whole text rest
    → Parts bytes text rest
parts_of bytes text rest e =
    let r = read_of bytes text rest e in
    record {
      room = omega (arith, length-drop 4 bytes, r.room, r.long);
      behind = sym (drop-drop (length text) 4 bytes) ∙ r.behind;
    }

pub record Behind (held : List ℕ) (passed n : ℕ) (rest : List ℕ) : Type 0 where
  pub within : passed + (4 + n) ≤ length held
  pub is : drop (passed + (4 + n)) held ≡ rest

pub passes : (held : List ℕ) (passed : ℕ) (now text rest : List ℕ) → passed ≤ length held
    → drop passed held ≡ now → frame_at now ≡ Whole text rest
    → Behind held passed (length text) rest
passes held passed now text rest le view e =
    let p = parts_of now text rest e in
    let size : length now + passed ≡ length held =
    ap (λ (b : List ℕ). length b + passed) (sym view) ∙ omega (arith, length-drop passed held) in
    record {
      within = omega (arith, p.room);
      is = ap (λ k. drop k held) (omega arith) ∙ sym (drop-drop (4 + length text) passed held)
          ∙ ap (drop (4 + length text)) view ∙ p.behind;
    }
