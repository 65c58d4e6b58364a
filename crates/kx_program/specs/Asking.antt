-- Why words ask for nothing.
use Rattle.std.specs.Prelude.{◌≡◌, Bool, true, List}
use Rattle.clap.specs.Words.{Text, kind_of, takes}
use Rattle.clap.specs.declared.error.kind.ErrorKind.TheVariants as usage
use Rattle.kx_program.specs.Endings.{IsUsageEnding}
use Rattle.kx_program.specs.Tasks.{WordsAskFor}
use Rattle.kx_program.specs.Usage.{program_app}
use Rattle.kx_program.specs.declared.asking.Refusal.{Refusal}
use Rattle.kx_program.specs.declared.asking.Refusal.TheVariants as refusal
use Rattle.kx_program.specs.declared.task.Task.{Task}
use Rattle.kx_text.specs.declared.program.Ending.{Ending}
use Rattle.kx_text.specs.declared.program.Ending.TheVariants as ending

-- words that clap takes lack nothing but memory; words that it takes may still name no task
abbrev pub IsRefusedFor : List Text → Bool → Refusal → Type 0
IsRefusedFor words is_watched (refusal.Usage error) =
    takes program_app words ≡ true → kind_of error ≡ usage.OutOfMemory
IsRefusedFor words is_watched refusal.Nothing =
    (what : Task) → WordsAskFor words is_watched what → ⊥
IsRefusedFor words is_watched refusal.Memory = Unit {0}

-- how the program ends then
abbrev pub EndsRefused : Refusal → Ending → Type 0
EndsRefused (refusal.Usage error) how = IsUsageEnding (kind_of error) how
EndsRefused refusal.Nothing how = how ≡ ending.WrongArguments
EndsRefused refusal.Memory how = how ≡ ending.Failed
