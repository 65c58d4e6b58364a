-- What is printed of an audit.
use Rattle.std.specs.Prelude.{◌++◌, ℕ, List, Option, Some, None, codes}
use Rattle.std.specs.Fmt.{decimal}
use Rattle.kx_server_audit.specs.Denials.{denial_number}
use Rattle.kx_server_audit.specs.Files.{file_name}
use Rattle.kx_server_audit.specs.declared.counts.Counts.{Counts}
use Rattle.kx_server_audit.specs.declared.denial.Denial.{Denial}
use Rattle.kx_server_audit.specs.declared.denial.Denial.TheVariants as denial
use Rattle.kx_server_audit.specs.declared.file.AuditFile.{AuditFile}
use Rattle.kx_server_audit.specs.declared.file.AuditFile.TheVariants as file
use Rattle.kx_server_audit.specs.declared.findings.Findings.{Findings}

-- words and a number
abbrev pub line : List ℕ → ℕ → List ℕ
line words number = words ++ codes " " ++ decimal number ++ codes "\n"

abbrev pub counts_text : Counts → ℕ → List ℕ
counts_text counts transactions =
    line (codes "steps") counts.steps ++ line (codes "messages") counts.messages
    ++ line (codes "transactions") transactions

-- what is said of a file
abbrev pub file_line : AuditFile → List ℕ → List ℕ
file_line file words = file_name file ++ codes ": " ++ words ++ codes "\n"

-- what is said of an item of a trace
abbrev pub item_line : AuditFile → ℕ → List ℕ → List ℕ
item_line file item words =
    file_name file ++ codes ": step " ++ decimal item ++ codes ": " ++ words ++ codes "\n"

-- where and why an audit says no, in the words of the refusal
abbrev pub place_text : Denial → List ℕ → List ℕ
place_text (denial.Item node item why) words = item_line (file.Trace node) item words
place_text (denial.OtherNode node) words =
    file_line (file.Trace node) (codes "the trace is of another node")
place_text (denial.OtherLog node) words = file_line (file.Log node) words

abbrev pub denial_text : Denial → List ℕ → List ℕ
denial_text denial words =
    line (codes "audit no") (denial_number denial) ++ place_text denial words

abbrev pub verdict_text : Option Denial → List ℕ → List ℕ
verdict_text None words = codes "audit yes\n"
verdict_text (Some denial) words = denial_text denial words

abbrev pub findings_text : Findings → List ℕ → List ℕ
findings_text f words = counts_text f.counts f.transactions ++ verdict_text f.denial words
