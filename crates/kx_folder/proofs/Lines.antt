-- The parts of lines, and lines that are read again.
use Rattle.std.proofs.Common.{◌≡◌, ◌∙◌, ◌≤◌, ◌+◌, ◌-◌, ◌*◌, ℕ, List, [], ◌∷◌, ◌++◌, length}
use Rattle.std.proofs.Common.{take, drop, codes, Result, Ok, refl, sym, ap, arith, inl, inr, append_assoc, append-nil, min, zero, suc}
use Rattle.std.proofs.Common.{Bool, true, false, not, nat_eq}
use Rattle.std.specs.Cmp.Lexicographic.{pointwise}
use Rattle.std.proofs.lemmas.Bool.{false≢true}
use Rattle.std.proofs.lemmas.Bool.Decides.{Decides-eqb}
use Rattle.std.proofs.lemmas.Slice.Eq.{slice_eq-Decides}
use Rattle.std.specs.Result.{IsErr, is_err}
use Rattle.std.specs.Int.{w16, w32, w64, byte_len, from_be_bytes}
use Rattle.std.proofs.lemmas.List.{drop-drop, length-append, length-drop, length-take-le, take-append-le, take_all}
use Rattle.std.proofs.lemmas.Bool.{cases_lt}
use Rattle.std.proofs.lemmas.Nat.{be_bytes_2, be_bytes_4, be_bytes_8}
use Rattle.std.proofs.lemmas.List.Concat.{flat_map-append}
use Rattle.std.proofs.Math.Seq.{take-append-add, take-append_seam, drop-append_seam}
use Rattle.kx_varint.specs.BigEndian.{unsigned_text}
use Rattle.kx_varint.proofs.FixedWidth.{wide16, wide32, wide64}
use Rattle.kx_batch.proofs.Based.{bytes_high_first-are_bytes}
use Rattle.hex.specs.Hex.{IsBytes, decode_sized, encode_lower, lower_digits}
use Rattle.hex.proofs.HexLemmas.{decode_of-ok, decode_sized-encode_lower, decode_sized-ok}
use Rattle.hex.proofs.HexLemmas.{decode_sized-twice, length-encode_with}
use Rattle.kx_folder.specs.Folder.{HasRoom, head_text, line_text, lines_text, padded}
use Rattle.kx_folder.specs.Internal.Parts.{HasLine, HasNoParts, HasNumber, HasParts}
use Rattle.kx_folder.specs.declared.file.ListedFile.{ListedFile}

------ texts at their places

front_of : (front back : List ℕ) (n : ℕ) → length front ≡ n → take n (front ++ back) ≡ front
front_of front back n size =
    ap (λ k. take k (front ++ back)) (sym size) ∙ take-append_seam front back

back_of : (front back : List ℕ) (n : ℕ) → length front ≡ n → drop n (front ++ back) ≡ back
back_of front back n size =
    ap (λ k. drop k (front ++ back)) (sym size) ∙ drop-append_seam front back

-- a text of so many bytes that begins a longer one
pub begins : (text front back : List ℕ) (n : ℕ) → length front ≡ n → text ≡ front ++ back
    → take n text ≡ front
begins text front back n size is = ap (take n) is ∙ front_of front back n size

------ comparing

not_false : (test : Bool) → not test ≡ false → test ≡ true
not_false true is = refl
not_false false is = absurd (false≢true (sym is))

-- by what `!=` answers
pub differ : (a b : List ℕ) (answer : Bool) → answer ≡ not (pointwise nat_eq a b) → answer ≡ true
    → a ≡ b → ⊥
differ a b answer is says same =
    let test = (slice_eq-Decides Decides-eqb a b (pointwise nat_eq a b) refl).1 same in
    false≢true (sym (ap not test) ∙ sym is ∙ says)

pub agree : (a b : List ℕ) (answer : Bool) → answer ≡ not (pointwise nat_eq a b) → answer ≡ false
    → a ≡ b
agree a b answer is says =
    (slice_eq-Decides Decides-eqb a b (pointwise nat_eq a b) refl).0
    (not_false (pointwise nat_eq a b) (sym is ∙ says))

------ texts put together

pub built : (name len space crc end : List ℕ) → (((name ++ len) ++ space) ++ crc) ++ end
    ≡ name ++ (len ++ (space ++ (crc ++ end)))
built name len space crc end =
    append_assoc ((name ++ len) ++ space) crc end ∙ append_assoc (name ++ len) space (crc ++ end)
    ∙ append_assoc name len (space ++ (crc ++ end))

-- the first bytes, so many at most
pub first_is : (bytes : List ℕ) (count most : ℕ) → count ≡ min (length bytes) most
    → (take count bytes ≡ take most bytes) × (count ≡ length (take most bytes))
first_is bytes count most is = elim (cases_lt (length bytes) most) [
  | inl less ↦
      let whole : take most bytes ≡ bytes = take_all most bytes (omega arith) in
      (take_all count bytes (omega arith) ∙ sym whole, omega (arith, ap length whole))
  | inr more ↦
      let size = length-take-le most bytes (omega arith) in
      let same : count ≡ most = omega arith in
      (ap (λ n. take n bytes) same, same ∙ sym size)
]

-- spaces after a name
spaces : (count : ℕ) → count ≤ 8 → drop count (codes "        ") ≡ take (8 - count) (codes "        ")
spaces zero fits = refl
spaces (suc zero) fits = refl
spaces (suc (suc zero)) fits = refl
spaces (suc (suc (suc zero))) fits = refl
spaces (suc (suc (suc (suc zero)))) fits = refl
spaces (suc (suc (suc (suc (suc zero))))) fits = refl
spaces (suc (suc (suc (suc (suc (suc zero)))))) fits = refl
spaces (suc (suc (suc (suc (suc (suc (suc zero))))))) fits = refl
spaces (suc (suc (suc (suc (suc (suc (suc (suc zero)))))))) fits = refl
spaces (suc (suc (suc (suc (suc (suc (suc (suc (suc count))))))))) fits = absurd (omega arith)

pub is_padded : (name : List ℕ) (count : ℕ) → count ≡ min (length name) 8
    → take count name ++ drop count (codes "        ") ≡ padded name
is_padded name count is = elim (cases_lt 8 (length name)) [
  | inl longer ↦
      let whole : count ≡ 8 = omega arith in
      ap (λ n. take n name ++ drop n (codes "        ")) whole
      ∙ append-nil (take 8 name) ∙ sym (take-append-le 8 name (codes "        ") (omega arith))
  | inr within ↦
      let size : count ≡ length name = omega arith in
      let rest : 8 ≡ length name + (8 - length name) = omega arith in
      ap (λ n. take n name ++ drop n (codes "        ")) size
      ∙ ap (λ t. t ++ drop (length name) (codes "        "))
      (take_all (length name) name (omega arith))
      ∙ ap (λ t. name ++ t) (spaces (length name) (omega arith))
      ∙ sym (take-append-add name (codes "        ") (8 - length name))
      ∙ ap (λ n. take n (name ++ codes "        ")) (sym rest)
]

------ digits

size_16 : (n : ℕ) → length (encode_lower (unsigned_text w16 n)) ≡ 4
unfolding unsigned_text
size_16 n = length-encode_with lower_digits (unsigned_text w16 n) ∙ ap (λ k. 2 * k) (wide16.size n)

size_32 : (n : ℕ) → length (encode_lower (unsigned_text w32 n)) ≡ 8
unfolding unsigned_text
size_32 n = length-encode_with lower_digits (unsigned_text w32 n) ∙ ap (λ k. 2 * k) (wide32.size n)

size_64 : (n : ℕ) → length (encode_lower (unsigned_text w64 n)) ≡ 16
unfolding unsigned_text
size_64 n = length-encode_with lower_digits (unsigned_text w64 n) ∙ ap (λ k. 2 * k) (wide64.size n)

again_16 : (n : ℕ) → decode_sized (encode_lower (unsigned_text w16 n)) 2 ≡ Ok (unsigned_text w16 n)
unfolding unsigned_text
again_16 n = decode_sized-encode_lower (unsigned_text w16 n) 2 (wide16.size n)
    (bytes_high_first-are_bytes (byte_len w16) n)

again_32 : (n : ℕ) → decode_sized (encode_lower (unsigned_text w32 n)) 4 ≡ Ok (unsigned_text w32 n)
unfolding unsigned_text
again_32 n = decode_sized-encode_lower (unsigned_text w32 n) 4 (wide32.size n)
    (bytes_high_first-are_bytes (byte_len w32) n)

again_64 : (n : ℕ) → decode_sized (encode_lower (unsigned_text w64 n)) 8 ≡ Ok (unsigned_text w64 n)
unfolding unsigned_text
again_64 n = decode_sized-encode_lower (unsigned_text w64 n) 8 (wide64.size n)
    (bytes_high_first-are_bytes (byte_len w64) n)

decoded_bytes : (text bytes : List ℕ) (n : ℕ) → decode_sized text n ≡ Ok bytes → IsBytes bytes
decoded_bytes text bytes n decoded =
    let twice = decode_sized-twice text n (decode_sized-ok text n bytes decoded) in
    (decode_of-ok text bytes (sym twice ∙ decoded)).3

-- a number whose bytes some digits are
pub number_16 : (text bytes : List ℕ) (n : ℕ) → length bytes ≡ 2 → n ≡ from_be_bytes w16 bytes → decode_sized text 2 ≡ Ok bytes
    → decode_sized text 2 ≡ Ok (unsigned_text w16 n)
unfolding unsigned_text
number_16 text bytes n size is decoded =
    decoded ∙ ap Ok (sym (be_bytes_2 bytes n size (decoded_bytes text bytes 2 decoded) is))

pub number_32 : (text bytes : List ℕ) (n : ℕ) → length bytes ≡ 4 → n ≡ from_be_bytes w32 bytes → decode_sized text 4 ≡ Ok bytes
    → decode_sized text 4 ≡ Ok (unsigned_text w32 n)
unfolding unsigned_text
number_32 text bytes n size is decoded =
    decoded ∙ ap Ok (sym (be_bytes_4 bytes n size (decoded_bytes text bytes 4 decoded) is))

pub number_64 : (text bytes : List ℕ) (n : ℕ) → length bytes ≡ 8 → n ≡ from_be_bytes w64 bytes → decode_sized text 8 ≡ Ok bytes
    → decode_sized text 8 ≡ Ok (unsigned_text w64 n)
unfolding unsigned_text
number_64 text bytes n size is decoded =
    decoded ∙ ap Ok (sym (be_bytes_8 bytes n size (decoded_bytes text bytes 8 decoded) is))

------ lines

-- what is after the name of a line, and after its length
abbrev after_name : ListedFile → List ℕ
after_name file = encode_lower (unsigned_text w16 file.len)
    ++ (codes " " ++ (encode_lower (unsigned_text w32 file.crc) ++ codes "\n"))

abbrev after_len : ListedFile → List ℕ
after_len file = codes " " ++ (encode_lower (unsigned_text w32 file.crc) ++ codes "\n")

pub line_size : (file : ListedFile) → HasRoom file → length (line_text file) ≡ 22
line_size file room =
    length-append file.name (after_name file)
    ∙ omega (
      arith,
      room.name,
      length-append (encode_lower (unsigned_text w16 file.len)) (after_len file),
      size_16 file.len,
      length-append (encode_lower (unsigned_text w32 file.crc)) (codes "\n"),
      size_32 file.crc,
    )

pub line_parts : (file : ListedFile) → HasRoom file → HasParts (line_text file) file
line_parts file room =
    let len = encode_lower (unsigned_text w16 file.len) in
    let crc = encode_lower (unsigned_text w32 file.crc) in
    let to_len : drop 8 (line_text file) ≡ after_name file =
    back_of file.name (after_name file) 8 room.name in
    let to_crc : drop 13 (line_text file) ≡ crc ++ codes "\n" =
    sym (drop-drop 5 8 (line_text file)) ∙ ap (drop 5) to_len
    ∙ sym (drop-drop 1 4 (after_name file))
    ∙ ap (drop 1) (back_of len (after_len file) 4 (size_16 file.len)) in
    record {
      name = sym (front_of file.name (after_name file) 8 room.name);
      len = ap (λ t. decode_sized (take 4 t) 2) to_len
          ∙ ap (λ t. decode_sized t 2) (front_of len (after_len file) 4 (size_16 file.len))
          ∙ again_16 file.len;
      crc = ap (λ t. decode_sized (take 8 t) 4) to_crc
          ∙ ap (λ t. decode_sized t 4) (front_of crc (codes "\n") 8 (size_32 file.crc))
          ∙ again_32 file.crc;
    }

ok_is : {A E : Type 0} (r : Result A E) (x y : A) → r ≡ Ok x → r ≡ Ok y → x ≡ y
ok_is r x y of_x of_y = grind arith

-- two files with the parts of one line have one line
pub one_line : (line : List ℕ) (a b : ListedFile) → HasParts line a → HasParts line b
    → line_text a ≡ line_text b
one_line line a b of_a of_b =
    let name : a.name ≡ b.name = of_a.name ∙ sym of_b.name in
    let len : unsigned_text w16 a.len ≡ unsigned_text w16 b.len = ok_is _ _ _ of_a.len of_b.len in
    let crc : unsigned_text w32 a.crc ≡ unsigned_text w32 b.crc = ok_is _ _ _ of_a.crc of_b.crc in
    rw (name, len, crc) refl

-- a line whose parts aren't hexadecimal is that of no file
pub no_line : (file : ListedFile) → HasRoom file → HasNoParts (line_text file) → ⊥
no_line file room (inl none) =
    let is_ok = ap is_err (line_parts file room).len in
    grind arith
no_line file room (inr none) =
    let is_ok = ap is_err (line_parts file room).crc in
    grind arith

pub head_size : (number : ℕ) → length (head_text number) ≡ 25
head_size number =
    length-append (codes "folder  ") (encode_lower (unsigned_text w64 number) ++ codes "\n")
    ∙ omega (arith, length-append (encode_lower (unsigned_text w64 number)) (codes "\n"), size_64 number)

pub head_parts : (number : ℕ) → HasNumber (head_text number) number
head_parts number = ap (λ t. decode_sized t 8)
    (front_of (encode_lower (unsigned_text w64 number)) (codes "\n") 16 (size_64 number))
    ∙ again_64 number

pub one_head : (line : List ℕ) (a b : ℕ) → HasNumber line a → HasNumber line b
    → head_text a ≡ head_text b
one_head line a b of_a of_b = ap (λ (t : List ℕ). codes "folder  " ++ (encode_lower t ++ codes "\n"))
    (ok_is _ _ _ of_a of_b)

-- a first line whose number isn't hexadecimal is that of no list
pub no_head : (number : ℕ) → IsErr (decode_sized (take 16 (drop 8 (head_text number))) 8) → ⊥
no_head number none =
    let is_ok = ap is_err (head_parts number) in
    grind arith

------ several lines

pub rest_is : (text : List ℕ) (count : ℕ) → take (length text - count) (drop count text) ≡ drop count text
rest_is text count = take_all (length text - count) (drop count text) (omega (arith, length-drop count text))

pub passed : (text rest : List ℕ) (lines : List ListedFile) (file : ListedFile)
    → text ≡ lines_text lines ++ rest → HasLine rest file
    → text ≡ lines_text (lines ++ file ∷ []) ++ drop 22 rest
passed text rest lines file is line =
    is ∙ ap (λ t. lines_text lines ++ t) line.front
    ∙ sym (append_assoc (lines_text lines) (line_text file) (drop 22 rest))
    ∙ ap (λ t. t ++ drop 22 rest) (sym (flat_map-append line_text lines (file ∷ [])
    ∙ ap (λ t. lines_text lines ++ t) (append-nil (line_text file))))
