-- Which records a fetch shows, by its word, and how many bytes of them.
use Rattle.std.specs.Prelude.{ℕ, Bool, true, false, List, Option, None, Some, codes, bytes_eq}
use Rattle.std.specs.Prelude.{if◌then◌else◌}
use Rattle.kx_text.specs.declared.mode.Mode.{Mode}
use Rattle.kx_text.specs.declared.mode.Mode.TheVariants.{All, Committed}

-- how many bytes a fetch shows if it doesn't say
abbrev pub default_max : ℕ
default_max = 1048588

abbrev pub mode_of : List ℕ → Option Mode
mode_of word =
    if bytes_eq word (codes "all") then Some All
    else if bytes_eq word (codes "committed") then Some Committed
    else None

abbrev pub is_committed : Mode → Bool
is_committed All = false
is_committed Committed = true
