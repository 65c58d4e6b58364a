-- How the program ends, and with which status.
use Rattle.std.specs.Prelude.{ℕ, Result, Ok, Err}
use Rattle.kx_text.specs.declared.program.Ending.{Ending}
use Rattle.kx_text.specs.declared.program.Ending.TheVariants as ending

abbrev pub ending_of : {E : Type 0} → Result (Unit {0}) E → Ending
ending_of (Ok done) = ending.Done
ending_of (Err fault) = ending.Failed

-- wrong arguments are 2, any other fault is 1
abbrev pub exit_status : Ending → ℕ
exit_status ending.Done = 0
exit_status ending.Failed = 1
exit_status ending.WrongArguments = 2
