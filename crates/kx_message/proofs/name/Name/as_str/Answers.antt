use Rattle.std.proofs.Common.{ℕ, List, All, IsUtf8, rules, arith}
use Rattle.std.specs.Char.{IsAsciiGraphic}
use Rattle.std.proofs.lemmas.Str.{IsUtf8-from_ascii}
use Rattle.std.proofs.lemmas.Str.Ascii.{IsAscii-from_all}
use Rattle.kx_message.proofs.name.Name.as_str.Goals as goal

-- visible ASCII is UTF-8
IsUtf8-graphic : (bytes : List ℕ) → All IsAsciiGraphic bytes → IsUtf8 bytes
IsUtf8-graphic bytes graphic =
    IsUtf8-from_ascii bytes
    (IsAscii-from_all bytes (λ k d within. omega (arith, (graphic k d within).1)))

pub unwrap-requires : goal.unwrap-requires
unwrap-requires c =
    let text : IsUtf8 c.as_bytes.result.now =
    rw c.as_bytes.ensures.value (IsUtf8-graphic _ c.as_bytes.ensures.within.graphic) in
    search rules
