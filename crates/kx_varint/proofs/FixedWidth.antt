-- Fields of fixed width, by their places.
use Rattle.std.proofs.Common.{◌≡◌, ℕ, suc, ℤ, pos, negsuc, ◌+◌, ◌*◌, ◌^◌, ◌≤◌, ◌<◌}
use Rattle.std.proofs.Common.{List, [], ◌∷◌, ◌++◌, length, take, drop}
use Rattle.std.proofs.Common.{refl, sym, ap, ◌∙◌, subst, arith, lit<, inl, inr}
use Rattle.std.specs.Int.{Width, w8, w16, w32, w64, byte_len, cast_signed, cast_unsigned}
use Rattle.std.specs.Int.{from_be_bytes, to_be_bytes}
use Rattle.std.specs.Int.RustNames.{FitsSigned}
use Rattle.std.proofs.lemmas.Bool.{cases_lt}
use Rattle.std.proofs.lemmas.Int.{of_z-to_z, to_z-of_z}
use Rattle.std.proofs.lemmas.List.{take_at, drop_at, take-append-drop, length-append, length-take}
use Rattle.std.proofs.lemmas.List.{get_or-drop, get_or-take, get_or_past, length-drop, drop-drop}
use Rattle.std.proofs.lemmas.Nat.{be_bytes_2, be_bytes_4, be_bytes_8, from_be_bytes-to_be_bytes_2}
use Rattle.std.proofs.lemmas.Nat.{from_be_bytes-to_be_bytes_4, from_be_bytes-to_be_bytes_8}
use Rattle.std.proofs.Math.Facts.{sfits_to_z}
use Rattle.std.proofs.Math.Nat.{pow-suc, mul-le-mul_right}
use Rattle.kx_varint.specs.BigEndian.{Signed, place_value, signed_at, unsigned_at}
use Rattle.kx_varint.specs.Text.{IsBytes, ◌⊳◌, Exactly}

pub IsBytes-drop : (n : ℕ) (bytes : List ℕ) → IsBytes bytes → IsBytes (drop n bytes)
IsBytes-drop n bytes h i = rw get_or-drop (h (n + i))

pub IsBytes-take : (n : ℕ) (bytes : List ℕ) → IsBytes bytes → IsBytes (take n bytes)
IsBytes-take n bytes h i =
    elim (cases_lt i n) [
      | inl lt ↦ rw (get_or-take n bytes i 0 lt) (h i)
      | inr le ↦ rw (get_or_past (take n bytes) i 0 (omega (arith, length-take n bytes)))
          (omega arith)
    ]

-- bytes stand for less than 256 to the power of their number
pub place_value-below : (bytes : List ℕ) → IsBytes bytes → place_value bytes < 256 ^ length bytes
place_value-below [] fits = lit< tt
place_value-below (byte ∷ bytes) fits =
    let head : byte < 256 = fits 0 in
    let step : byte * 256 ^ length bytes ≤ 255 * 256 ^ length bytes =
    mul-le-mul_right (256 ^ length bytes) (omega arith) in
    omega (arith, place_value-below bytes (λ i. fits (suc i)), pow-suc 256 (length bytes))

-- what holds of the numbers of a width
pub record IsWide (w : Width) : Type 0 where
  pub size : (n : ℕ) → length (to_be_bytes w n) ≡ byte_len w
  pub back : (bytes : List ℕ) → length bytes ≡ byte_len w → IsBytes bytes
      → to_be_bytes w (place_value bytes) ≡ bytes
  pub again : (n : ℕ) → n < 256 ^ byte_len w → place_value (to_be_bytes w n) ≡ n
  pub unsigned : (n : ℕ) → n < 256 ^ byte_len w → cast_unsigned w (cast_signed w n) ≡ n
  pub fits : (n : ℕ) → n < 256 ^ byte_len w → FitsSigned w (cast_signed w n)
  pub within : (z : ℤ) → FitsSigned w z → cast_unsigned w z < 256 ^ byte_len w

-- bytes of a width stand for a number below its limit
pub below : (w : Width) (bytes : List ℕ) → length bytes ≡ byte_len w → IsBytes bytes
    → place_value bytes < 256 ^ byte_len w
below w bytes size fits = subst (λ n. place_value bytes < 256 ^ n) size
    (place_value-below bytes fits)

within_8 : (z : ℤ) → FitsSigned w8 z → cast_unsigned w8 z < 2 ^ 8
within_8 (pos n) f = omega arith
within_8 (negsuc n) f = omega arith

back_8 : (bytes : List ℕ) → length bytes ≡ 1 → IsBytes bytes
    → to_be_bytes w8 (place_value bytes) ≡ bytes
back_8 (byte ∷ []) size fits = ap (λ (b : ℕ). b ∷ []) (omega (arith, fits 0))
back_8 other size fits = absurd (omega arith)

again_8 : (n : ℕ) → n < 256 → place_value (to_be_bytes w8 n) ≡ n
again_8 n lt = omega arith

pub wide8 : IsWide w8
wide8 = record {
  size = λ n. refl;
  back = λ bytes size fits. back_8 bytes size fits;
  again = λ n lt. again_8 n lt;
  unsigned = λ n lt. of_z-to_z w8 n lt;
  fits = λ n lt. sfits_to_z (record { fits = lt });
  within = within_8;
}

value_16 : (bytes : List ℕ) → length bytes ≡ 2 → place_value bytes ≡ from_be_bytes w16 bytes
value_16 (a ∷ b ∷ []) size = omega arith
value_16 other size = absurd (omega arith)

within_16 : (z : ℤ) → FitsSigned w16 z → cast_unsigned w16 z < 2 ^ 16
within_16 (pos n) f = omega arith
within_16 (negsuc n) f = omega arith

pub wide16 : IsWide w16
wide16 = record {
  size = λ n. refl;
  back = λ bytes size fits. be_bytes_2 bytes _ size fits (value_16 bytes size);
  again = λ n lt. value_16 (to_be_bytes w16 n) refl ∙ from_be_bytes-to_be_bytes_2 n lt;
  unsigned = λ n lt. of_z-to_z w16 n lt;
  fits = λ n lt. sfits_to_z (record { fits = lt });
  within = within_16;
}

value_32 : (bytes : List ℕ) → length bytes ≡ 4 → place_value bytes ≡ from_be_bytes w32 bytes
value_32 (a ∷ b ∷ c ∷ d ∷ []) size = omega arith
value_32 other size = absurd (omega arith)

within_32 : (z : ℤ) → FitsSigned w32 z → cast_unsigned w32 z < 2 ^ 32
within_32 (pos n) f = omega arith
within_32 (negsuc n) f = omega arith

pub wide32 : IsWide w32
wide32 = record {
  size = λ n. refl;
  back = λ bytes size fits. be_bytes_4 bytes _ size fits (value_32 bytes size);
  again = λ n lt. value_32 (to_be_bytes w32 n) refl ∙ from_be_bytes-to_be_bytes_4 n lt;
  unsigned = λ n lt. of_z-to_z w32 n lt;
  fits = λ n lt. sfits_to_z (record { fits = lt });
  within = within_32;
}

value_64 : (bytes : List ℕ) → length bytes ≡ 8 → place_value bytes ≡ from_be_bytes w64 bytes
value_64 (a ∷ b ∷ c ∷ d ∷ e ∷ f ∷ g ∷ h ∷ []) size = omega arith
value_64 other size = absurd (omega arith)

within_64 : (z : ℤ) → FitsSigned w64 z → cast_unsigned w64 z < 2 ^ 64
within_64 (pos n) f = omega arith
within_64 (negsuc n) f = omega arith

pub wide64 : IsWide w64
wide64 = record {
  size = λ n. refl;
  back = λ bytes size fits. be_bytes_8 bytes _ size fits (value_64 bytes size);
  again = λ n lt. value_64 (to_be_bytes w64 n) refl ∙ from_be_bytes-to_be_bytes_8 n lt;
  unsigned = λ n lt. of_z-to_z w64 n lt;
  fits = λ n lt. sfits_to_z (record { fits = lt });
  within = within_64;
}

-- a field of a text stands for a number below its limit
pub unsigned_at-below : (w : Width) (at : ℕ) (text : List ℕ) → at + byte_len w ≤ length text
    → IsBytes text → unsigned_at w at text < 256 ^ byte_len w
unsigned_at-below w at text room fits =
    let size : length (take (byte_len w) (drop at text)) ≡ byte_len w =
    omega (arith, length-take (byte_len w) (drop at text), length-drop at text) in
    below w (take (byte_len w) (drop at text)) size
    (IsBytes-take (byte_len w) (drop at text) (IsBytes-drop at text fits))

-- ---- a field, and what stands behind it

-- at and behind are n apart; the text is known from at on
pub plain_part : {Q : List ℕ → Type 0} (t : List ℕ) (at n behind : ℕ) → at + n ≡ behind
    → Q (drop behind t) → (Exactly (take n (drop at t)) ⊳ Q) (drop at t)
plain_part {Q = Q} t at n behind e q =
    record {
      front = take n (drop at t);
      back = drop behind t;
      first = refl;
      second = q;
      parts =
          sym (take-append-drop n (drop at t))
          ∙ ap (λ (x : List ℕ). take n (drop at t) ++ x) (drop-drop n at t ∙ ap (λ k. drop k t) e);
    }

pub parts_at : (t : List ℕ) (at n behind : ℕ) → at + n ≡ behind
    → drop at t ≡ take n (drop at t) ++ drop behind t
parts_at t at n behind e = sym (take-append-drop n (drop at t))
    ∙ ap (λ (x : List ℕ). take n (drop at t) ++ x) (drop-drop n at t ∙ ap (λ k. drop k t) e)

pub signed_part : {Q : List ℕ → Type 0} (w : Width) → IsWide w → (t : List ℕ) (at behind : ℕ)
    → at + byte_len w ≡ behind → behind ≤ length t → IsBytes t → Q (drop behind t)
    → (Signed w (signed_at w at t) ⊳ Q) (drop at t)
signed_part w wide t at behind e long fits q =
    let bytes = take (byte_len w) (drop at t) in
    let ok : IsBytes bytes = IsBytes-take (byte_len w) (drop at t) (IsBytes-drop at t fits) in
    let len : length bytes ≡ byte_len w = omega
    (arith, length-take (byte_len w) (drop at t), length-drop at t) in
    let n = place_value bytes in
    let lt : n < 256 ^ byte_len w = below w bytes len ok in
    record {
      front = bytes;
      back = drop behind t;
      first = record {
        fits = wide.fits n lt;
        is = sym (ap (to_be_bytes w) (wide.unsigned n lt) ∙ wide.back bytes len ok);
      };
      second = q;
      parts = parts_at t at (byte_len w) behind e;
    }

-- ---- and back

pub record Apart (Q : List ℕ → Type 0) (t : List ℕ) (at n behind : ℕ)
    (field : List ℕ) : Type 0 where
  pub field_is : take n (drop at t) ≡ field
  pub others : Q (drop behind t)
  pub room : behind ≤ length t

pub part_back : {Q : List ℕ → Type 0} (t : List ℕ) (at n behind : ℕ) (field : List ℕ)
    → at + n ≡ behind → length field ≡ n → at ≤ length t → (Exactly field ⊳ Q) (drop at t)
    → Apart Q t at n behind field
part_back {Q = Q} t at n behind field e len le j =
    let parts : drop at t ≡ field ++ j.back = j.parts ∙ ap (λ (x : List ℕ). x ++ j.back) j.first in
    let back : drop behind t ≡ j.back = sym (drop-drop n at t ∙ ap (λ k. drop k t) e)
    ∙ ap (drop n) parts ∙ drop_at field j.back n len in
    record {
      field_is = ap (take n) parts ∙ take_at field j.back n len;
      others = subst Q (sym back) j.second;
      room = omega (
        arith,
        ap length parts,
        length-append field j.back,
        length-drop at t,
        len,
        e,
        le,
      );
    }

pub signed_back : {Q : List ℕ → Type 0} (w : Width) → IsWide w
    → (z : ℤ) (t : List ℕ) (at behind : ℕ) → at + byte_len w ≡ behind → at ≤ length t
    → (Signed w z ⊳ Q) (drop at t) → (signed_at w at t ≡ z) × Q (drop behind t)
    × (behind ≤ length t)
signed_back {Q = Q} w wide z t at behind e le j =
    let n = cast_unsigned w z in
    let p : (Exactly (to_be_bytes w n) ⊳ Q) (drop at t) =
    record {
      front = j.front;
      back = j.back;
      first = j.first.is;
      second = j.second;
      parts = j.parts;
    } in
    let a = part_back t at (byte_len w) behind (to_be_bytes w n) e (wide.size n) le p in (
      ap (λ (x : List ℕ). cast_signed w (place_value x)) a.field_is
          ∙ ap (cast_signed w) (wide.again n (wide.within z j.first.fits))
          ∙ to_z-of_z w z j.first.fits,
      a.others,
      a.room,
    )
