-- What the processors of a script make of records.
use Rattle.std.specs.Prelude.{◌%◌, ℕ, zero, suc, List, [], ◌∷◌, ◌++◌, codes, map, unwrap_or}
use Rattle.std.proofs.Common.{arith, lit<}
use Rattle.kx_batch.specs.Record.{Record}
use Rattle.kx_processor.specs.declared.prefixed.Prefixed.{Prefixed}
use Rattle.kx_system.specs.Processor.{Images}
use Rattle.kx_varint.specs.Text.{IsBytes}

-- numbers as bytes, which those that are bytes are already
abbrev pub as_bytes : List ℕ → List ℕ
as_bytes numbers = map (λ n. n % 256) numbers

-- the byte `o`, and then the value, if there is one
abbrev pub image_of : Record → List ℕ
image_of r = codes "o" ++ as_bytes (unwrap_or r.value [])

-- the same of the process
abbrev pub images_of : Prefixed → Images
images_of process = image_of

as_bytes_are : (numbers : List ℕ) → IsBytes (as_bytes numbers)
as_bytes_are [] i = lit< tt
as_bytes_are (n ∷ numbers) zero = omega arith
as_bytes_are (n ∷ numbers) (suc i) = as_bytes_are numbers i

-- an image is bytes, whatever numbers the value is
pub image_is_bytes : (r : Record) → IsBytes (image_of r)
image_is_bytes r zero = lit< tt
image_is_bytes r (suc i) = as_bytes_are (unwrap_or r.value []) i
