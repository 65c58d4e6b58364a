-- Reading a script's lines, what is printed of a bad line and of a fetch, and what a fault leaves
-- of the writer.
use Rattle.std.specs.Prelude.{◌≡◌, ℕ, ℤ, Bool, true, false, List, [], ◌∷◌, ◌++◌}
use Rattle.std.specs.Prelude.{Option, Some, Result, Ok, Err, codes, decimal}
use Rattle.std.specs.Io.KnownBytes.{Keeps}
use Rattle.kx_message.specs.declared.code.ErrorCode.{ErrorCode}
use Rattle.kx_model.specs.Page.{Page}
use Rattle.kx_text.specs.Words.{before, lines_of}
use Rattle.kx_text.specs.Pages.{newline, page_text, refused_text}
use Rattle.kx_text.specs.declared.mode.Mode.{Mode}
use Rattle.kx_text.specs.declared.fault.ScriptFault.{ScriptFault}
use Rattle.kx_text.specs.declared.fault.ScriptFault.TheVariants.{Read, Write, BadLine, Memory}

-- what a fetch prints
abbrev pub fetched_text : ℤ → Mode → Result Page ErrorCode → List ℕ
fetched_text from mode (Ok page) = page_text from mode page
fetched_text from mode (Err code) = refused_text code

abbrev pub bad_text : ℕ → List ℕ
bad_text number = codes "bad line " ++ decimal number ++ newline

-- what a fault leaves of the writer: want of memory leaves it as it was. A script's answers are made
-- in memory, where no write fails, so nothing is said of one
abbrev pub LeavesWriter : Option (List ℕ) → Option (List ℕ) → ScriptFault → Type 0
LeavesWriter old new Memory = Keeps old new
LeavesWriter old new Write = Unit {0}
LeavesWriter old new Read = ⊥
LeavesWriter old new (BadLine number) = ⊥

-- a line was read of some bytes, if there was one
abbrev pub ReadsLine : List ℕ → Option (List ℕ) → List ℕ → Result Bool ScriptFault → Type 0
ReadsLine bytes left line (Ok true) =
    (rest : List ℕ) × (left ≡ Some rest) × (lines_of bytes ≡ before 10 line ∷ lines_of rest)
ReadsLine bytes left line (Ok false) = lines_of bytes ≡ []
ReadsLine bytes left line (Err Read) = Unit {0}
ReadsLine bytes left line (Err Memory) = Unit {0}
ReadsLine bytes left line (Err Write) = ⊥
ReadsLine bytes left line (Err (BadLine number)) = ⊥
