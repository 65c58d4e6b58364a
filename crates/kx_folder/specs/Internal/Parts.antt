-- The parts of a line, each at its place.
use Rattle.std.specs.Prelude.{◌≡◌, ◌≤◌, ◌++◌, ◌⊎◌, ℕ, List, drop, length, take, Ok}
use Rattle.std.specs.Result.{IsErr}
use Rattle.std.specs.Int.{w16, w32, w64}
use Rattle.kx_varint.specs.BigEndian.{unsigned_text}
use Rattle.hex.specs.Hex.{decode_sized}
use Rattle.kx_folder.specs.Folder.{line_text}
use Rattle.kx_folder.specs.declared.file.ListedFile.{ListedFile}

-- a line has the name and the numbers of a file
pub record HasParts (line : List ℕ) (file : ListedFile) : Type 0 where
  pub name : file.name ≡ take 8 line
  pub len : decode_sized (take 4 (drop 8 line)) 2 ≡ Ok (unsigned_text w16 file.len)
  pub crc : decode_sized (take 8 (drop 13 line)) 4 ≡ Ok (unsigned_text w32 file.crc)

-- one of its numbers isn't hexadecimal
abbrev pub HasNoParts : List ℕ → Type 0
HasNoParts line = IsErr (decode_sized (take 4 (drop 8 line)) 2)
    ⊎ IsErr (decode_sized (take 8 (drop 13 line)) 4)

-- the line of a file begins a text
pub record HasLine (text : List ℕ) (file : ListedFile) : Type 0 where
  pub long : 22 ≤ length text
  pub front : text ≡ line_text file ++ drop 22 text

-- a first line has this number
abbrev pub HasNumber : List ℕ → ℕ → Type 0
HasNumber line number = decode_sized (take 16 (drop 8 line)) 8 ≡ Ok (unsigned_text w64 number)
