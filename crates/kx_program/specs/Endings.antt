-- How the program ends.
use Rattle.std.specs.Prelude.{◌≡◌, ◌≢◌, Bool, true, false, Result, Ok, Err}
use Rattle.clap.specs.declared.error.kind.ErrorKind.{ErrorKind}
use Rattle.clap.specs.declared.error.kind.ErrorKind.TheVariants as usage
use Rattle.kx_demo.specs.declared.fault.DemoFault.{DemoFault}
use Rattle.kx_server_audit.specs.declared.fault.AuditFault.{AuditFault}
use Rattle.kx_text.specs.declared.program.Ending.{Ending}
use Rattle.kx_text.specs.declared.program.Ending.TheVariants as ending

-- a demonstration ends well if the audit said yes
abbrev pub ending_of_demo : Result Bool DemoFault → Ending
ending_of_demo (Ok true) = ending.Done
ending_of_demo (Ok false) = ending.Failed
ending_of_demo (Err fault) = ending.Failed

-- an audit of a server ends well if it said yes
abbrev pub ending_of_audit : Result Bool AuditFault → Ending
ending_of_audit (Ok true) = ending.Done
ending_of_audit (Ok false) = ending.Failed
ending_of_audit (Err fault) = ending.Failed

-- help that was asked for is shown, or can't be written; memory ran out; any other words are wrong
abbrev pub IsUsageEnding : ErrorKind → Ending → Type 0
IsUsageEnding usage.DisplayHelp how = how ≢ ending.WrongArguments
IsUsageEnding usage.DisplayVersion how = how ≢ ending.WrongArguments
IsUsageEnding usage.OutOfMemory how = how ≡ ending.Failed
IsUsageEnding other how = how ≡ ending.WrongArguments
