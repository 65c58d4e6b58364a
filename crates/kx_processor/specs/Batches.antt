-- Batches of images in a row.
use Rattle.std.specs.Prelude.{List, [], ◌∷◌}
use Rattle.kx_client.specs.declared.values.Values.{Values}

abbrev pub without_first : List Values → List Values
without_first [] = []
without_first (values ∷ rest) = rest
