-- What a failed read is to a script, and when no more is read.
use Rattle.std.specs.Prelude.{◌≡◌, ◌⊎◌, ◌≤◌, ◌^◌, true}
use Rattle.std.specs.declared.io.ErrorKind.{ErrorKind}
use Rattle.std.specs.declared.io.ErrorKind.TheVariants as kind
use Rattle.kx_text.specs.declared.fault.ScriptFault.{ScriptFault}
use Rattle.kx_text.specs.declared.fault.ScriptFault.TheVariants.{Read, Memory}
use Rattle.kx_text.specs.declared.reads.CountedReads.{CountedReads}

abbrev pub fault_of_kind : ErrorKind → ScriptFault
fault_of_kind kind.OutOfMemory = Memory
fault_of_kind _ = Read

-- no more is read: the last read failed, or 2^32 reads were made
abbrev pub IsOver : {R : Type 0} → CountedReads R → Type 0
IsOver reader = (reader.failed ≡ true) ⊎ (2 ^ 32 ≤ reader.made)
