-- A file's checksum finds a byte that was changed.
use Rattle.std.proofs.Common.{◌≡◌, ◌∙◌, ◌<◌, ◌+◌, ◌-◌, ℕ, List, ◌∷◌, ◌++◌, length, take, ap, sym}
use Rattle.std.proofs.Common.{add-one, append_assoc, arith}
use Rattle.std.specs.Int.{w64}
use Rattle.std.proofs.Math.Seq.{take-append-add}
use Rattle.kx_varint.specs.BigEndian.{unsigned_text}
use Rattle.kx_batch.specs.Crc.{crc32c_of}
use Rattle.kx_sums.proofs.Changes.{crc_finds}
use Rattle.kx_folder.specs.Folder.{IsListed}
use Rattle.kx_folder.specs.declared.file.ListedFile.{ListedFile}

-- the first bytes, among which a byte is
first_around : (before after : List ℕ) (byte len : ℕ) → length before < len
    → take len (before ++ byte ∷ after) ≡ before ++ byte ∷ take (len - (length before + 1)) after
first_around before after byte len within =
    let more = len - (length before + 1) in
    let count : len ≡ length before + (more + 1) = omega arith in
    ap (λ n. take n (before ++ byte ∷ after)) count
    ∙ take-append-add before (byte ∷ after) (more + 1)
    ∙ ap (λ n. before ++ take n (byte ∷ after)) (add-one more)

pub finds : (number : ℕ) (file : ListedFile) (before after : List ℕ) (byte other : ℕ)
    → length before < file.len → byte < 256 → other < 256
    → IsListed number (before ++ byte ∷ after) file
    → IsListed number (before ++ other ∷ after) file → byte ≡ other
finds number file before after byte other within byte_fits other_fits of_byte of_other =
    let prefix = unsigned_text w64 number in
    let front = prefix ++ (file.name ++ before) in
    let back = take (file.len - (length before + 1)) after in
    let is : (n : ℕ) → IsListed number (before ++ n ∷ after) file
    → file.crc ≡ crc32c_of (front ++ n ∷ back) =
    λ n listed. ap (λ (f : ListedFile). f.crc) listed.same
    ∙ ap (λ first. crc32c_of (prefix ++ (file.name ++ first))) (first_around before after n file.len within)
    ∙ ap (λ t. crc32c_of (prefix ++ t)) (sym (append_assoc file.name before (n ∷ back)))
    ∙ ap crc32c_of (sym (append_assoc prefix (file.name ++ before) (n ∷ back))) in
    crc_finds front back byte other byte_fits other_fits (sym (is byte of_byte) ∙ is other of_other)
