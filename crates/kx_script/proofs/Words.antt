-- What words spell, by what was read of them.
use Rattle.std.proofs.Common.{◌≡◌, ℕ, List, Option, None, Some, Bool, false, ap, ◌∙◌}
use Rattle.std.specs.Prelude.{bytes_eq, codes, option_map, if◌then◌else◌}
use Rattle.kx_script.specs.Command.{name_of, txn_of}

-- a word that isn't `-` is a name, or none
pub txn_named : (word : List ℕ) (name : Option (List ℕ)) → bytes_eq word (codes "-") ≡ false
    → name_of word ≡ name → txn_of word ≡ option_map Some name
txn_named word name e h =
    ap (λ (b : Bool). if b then Some None else option_map Some (name_of word)) e
    ∙ ap (option_map Some) h
