use Rattle.std.proofs.Common.{◌≡◌, ◌++◌, List, length}
use Rattle.kx_folder.specs.Folder.{lines_text}
use Rattle.kx_folder.specs.declared.file.ListedFile.{ListedFile}
use Rattle.kx_folder.proofs.list.read_lines.Given as goal

abbrev pub invariant-loop-file : goal.invariant-loop-file
invariant-loop-file l = (lines : List ListedFile) × (l.files.items ≡ l.fn.files.items ++ lines)
    × (l.text ≡ lines_text lines ++ l.rest)

abbrev pub decreases-loop-file : goal.decreases-loop-file
decreases-loop-file l = length l.rest
