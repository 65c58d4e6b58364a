-- A batch has bytes.
use Rattle.std.proofs.Common.{◌≡◌, ◌<◌, ◌++◌, ℕ, List, ap, arith, length, length-append}
use Rattle.kx_batch.specs.Batch.{Batch, SpellsBatch}

has_bytes : (v : Batch) (text : List ℕ) → SpellsBatch v text → 0 < length text
has_bytes v text spells =
    let offset = spells.fields in
    let size = offset.second in
    let epoch = size.second in
    let magic = epoch.second in
    omega (
      arith,
      ap length offset.parts,
      length-append offset.front offset.back,
      ap length size.parts,
      length-append size.front size.back,
      ap length epoch.parts,
      length-append epoch.front epoch.back,
      ap length magic.parts,
      length-append magic.front magic.back,
      ap length magic.first,
    )

-- what follows a batch is shorter
pub fewer_left : (v : Batch) (text rest behind : List ℕ) → SpellsBatch v text
    → rest ≡ text ++ behind → length behind < length rest
fewer_left v text rest behind spells parts =
    omega (arith, has_bytes v text spells, ap length parts, length-append text behind)
