-- How answers tell bytes.
use Rattle.std.specs.Prelude.{ℕ, List, ◌==◌, codes, length, if◌then◌else◌}
use Rattle.hex.specs.Hex.{encode_lower}

-- hexadecimal digits, `-` for no bytes
abbrev pub bytes_text : List ℕ → List ℕ
bytes_text bytes = if length bytes == 0 then codes "-" else encode_lower bytes
