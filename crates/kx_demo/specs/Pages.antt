-- The page of a run that is written.
use Rattle.std.specs.Prelude.{◌≡◌, ℕ, List, Option}
use Rattle.std.specs.Io.KnownBytes.{Appends}
use Rattle.kx_page.specs.Page.{page_of}
use Rattle.kx_page.specs.declared.run.Run.{Run}

-- the page of this run was added to what was written
abbrev pub WritesPage : Run → Option (List ℕ) → Option (List ℕ) → Type 0
WritesPage run old new = (text : List ℕ) × (text ≡ page_of run) × Appends old new text
