-- What is known of the files that a server left.
use Rattle.std.specs.Prelude.{◌≡◌, ℕ, List, [], Option, Some, None}
use Rattle.std.specs.Io.KnownBytes.{Consumes}
use Rattle.kx_server_audit.specs.declared.file.AuditFile.{AuditFile}

-- of one file: nothing, that there is none, or its bytes
pub data Contents : Type 0 where
  Unknown : Contents
  Absent : Contents
  Bytes : (bytes : List ℕ) → Contents

-- of each file
abbrev pub Left : Type 0
Left = AuditFile → Contents

-- of no file
abbrev pub unknown : Left
unknown file = Unknown

-- the file was opened, and is read from its front; or there is none
abbrev pub IsOpened : {I : Type 0} → (I → Option (List ℕ)) → Contents → Option I → Type 0
IsOpened remaining Unknown o = Unit {0}
IsOpened remaining Absent o = o ≡ None
IsOpened remaining (Bytes bytes) None = ⊥
IsOpened remaining (Bytes bytes) (Some reader) = remaining reader ≡ Some bytes

-- there may be no such file
abbrev pub CanLack : Contents → Type 0
CanLack Unknown = Unit {0}
CanLack Absent = Unit {0}
CanLack (Bytes bytes) = ⊥

-- the file may begin with these bytes, after which it has the rest, if that is known
abbrev pub CanBegin : Contents → List ℕ → Option (List ℕ) → Type 0
CanBegin Unknown front rest = Unit {0}
CanBegin Absent front rest = ⊥
CanBegin (Bytes bytes) front rest = Consumes (Some bytes) rest front

-- the file of a log may have these bytes; if there is none, the log is empty
abbrev pub CanBeLog : Contents → List ℕ → Type 0
CanBeLog Unknown bytes = Unit {0}
CanBeLog Absent bytes = bytes ≡ []
CanBeLog (Bytes known) bytes = known ≡ bytes
