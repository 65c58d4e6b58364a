-- The list `folder` of the files in a server's folder: a number that was drawn as the list was made,
-- and for each file the CRC-32C (RFC 3720, appendix B.4) of its first bytes.
use Rattle.std.specs.Prelude.{◌≡◌, ◌≢◌, ◌<◌, ◌≤◌, ◌-◌, ◌+◌, ◌^◌, ℕ, List, ◌++◌, codes, length}
use Rattle.std.specs.Prelude.{take, Option, Some, None, ◌⊎◌, Bool, true, false, bytes_eq, nat_lt, not, ◌==◌, ◌||◌}
use Rattle.std.specs.Int.{w16, w32, w64}
use Rattle.std.specs.List.{flat_map, list_any}
use Rattle.kx_varint.specs.BigEndian.{unsigned_text}
use Rattle.kx_batch.specs.Crc.{crc32c_of}
use Rattle.hex.specs.Hex.{encode_lower}
use Rattle.kx_folder.specs.declared.fault.FileFault.{FileFault}
use Rattle.kx_folder.specs.declared.fault.FileFault.TheVariants as fault
use Rattle.kx_folder.specs.declared.fault.ListFault.{ListFault}
use Rattle.kx_folder.specs.declared.fault.ListFault.TheVariants as list_fault
use Rattle.kx_folder.specs.declared.file.ListedFile.{ListedFile}
use Rattle.kx_folder.specs.declared.list.FolderList.{FolderList}

------ a file

-- the most bytes of a file that its checksum is of
abbrev pub most_first : ℕ
most_first = 4096

-- eight bytes: the name, and then spaces
abbrev pub padded : List ℕ → List ℕ
padded name = take 8 (name ++ codes "        ")

-- a file of this name with these first bytes, in the folder of this number
abbrev pub listed_as : ℕ → List ℕ → List ℕ → ListedFile
listed_as number name first = record {
  name = name;
  len = length first;
  crc = crc32c_of (unsigned_text w64 number ++ (name ++ first));
}

-- its numbers have room in a line
pub record HasRoom (file : ListedFile) : Type 0 where
  pub name : length file.name ≡ 8
  pub len : file.len < 2 ^ 16
  pub crc : file.crc < 2 ^ 32

-- the bytes begin as those that are listed
pub record IsListed (number : ℕ) (bytes : List ℕ) (file : ListedFile) : Type 0 where
  pub long : file.len ≤ length bytes
  pub same : file ≡ listed_as number file.name (take file.len bytes)

-- why the bytes that were found, if a file was, aren't those of the file
abbrev pub WhyNotListed : ℕ → Option (List ℕ) → ListedFile → FileFault → Type 0
WhyNotListed number None file why = why ≡ fault.Missing
WhyNotListed number (Some bytes) file fault.Missing = ⊥
WhyNotListed number (Some bytes) file (fault.Short len) =
    (len ≡ file.len) × (length bytes < file.len)
WhyNotListed number (Some bytes) file (fault.Other len) =
    (len ≡ file.len) × (file.len ≤ length bytes)
    × (file.crc ≢ (listed_as number file.name (take file.len bytes)).crc)
WhyNotListed number (Some bytes) file fault.Memory = Unit {0}

------ the list as text

abbrev pub head_text : ℕ → List ℕ
head_text number = codes "folder  " ++ (encode_lower (unsigned_text w64 number) ++ codes "\n")

abbrev pub line_text : ListedFile → List ℕ
line_text file = file.name ++ (encode_lower (unsigned_text w16 file.len)
    ++ (codes " " ++ (encode_lower (unsigned_text w32 file.crc) ++ codes "\n")))

abbrev pub lines_text : List ListedFile → List ℕ
lines_text files = flat_map line_text files

-- whether one of the files has this name
abbrev pub has_name : List ℕ → List ListedFile → Bool
has_name name files = list_any (λ (file : ListedFile). bytes_eq file.name name) files

-- no head begins the text
abbrev pub HasNoHead : List ℕ → Type 0
HasNoHead text = (number : ℕ) (rest : List ℕ) → number < 2 ^ 64 → text ≢ head_text number ++ rest

-- no line begins the text
abbrev pub HasNoLine : List ℕ → Type 0
HasNoLine text = (file : ListedFile) (rest : List ℕ) → HasRoom file → text ≢ line_text file ++ rest

-- whether one of the bytes isn't zero
abbrev pub has_text : List ℕ → Bool
has_text bytes = list_any (λ byte. not (byte == 0)) bytes

-- whether bytes at the end count for nothing, as a crash leaves them: less than a line, or zeros
abbrev pub is_unwritten : List ℕ → Bool
is_unwritten bytes = nat_lt (length bytes) 22 || not (has_text bytes)

-- the text is the head and these lines, and then nothing that counts
pub record IsListIn (text : List ℕ) (list : FolderList) : Type 0 where
  pub torn : List ℕ
  pub parts : text ≡ head_text list.number ++ (lines_text list.files.items ++ torn)
  pub unwritten : is_unwritten torn ≡ true
  pub len_is : list.len ≡ length text - length torn

-- the first line, which is whole, is no head
pub record HasBadHead (text : List ℕ) (line : ℕ) : Type 0 where
  pub whole : 25 ≤ length text
  pub no_head : HasNoHead text
  pub first : line ≡ 1

-- the line of this number, which is whole, is no line
pub record HasBadLine (text : List ℕ) (line : ℕ) : Type 0 where
  pub number : ℕ
  pub files : List ListedFile
  pub rest : List ℕ
  pub parts : text ≡ head_text number ++ (lines_text files ++ rest)
  pub written : is_unwritten rest ≡ false
  pub no_line : HasNoLine rest
  pub line_is : line ≡ length files + 2

-- why the text is no list
abbrev pub WhyNoList : List ℕ → ListFault → Type 0
WhyNoList text list_fault.Torn = length text < 25
WhyNoList text (list_fault.Damaged line) = HasBadHead text line ⊎ HasBadLine text line
WhyNoList text list_fault.Memory = Unit {0}
