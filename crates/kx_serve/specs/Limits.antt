-- How many connections a process may have beside its files.
use Rattle.std.specs.Prelude.{ℕ, ◌-◌, max, min}

-- of the connections that are asked for, as many as may be open beside those files and eight more
abbrev pub fitting : ℕ → ℕ → ℕ → ℕ
fitting asked held limit = min asked (max (limit - held - 8) 1)
