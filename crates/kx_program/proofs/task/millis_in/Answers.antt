use Rattle.std.proofs.Common.{ℕ, Option, MatchOption, subst}
use Rattle.std.specs.Str.Parse.{ParsesUnsigned, ExplainsUnsignedError, HasUnsignedDigitsIfOk}
use Rattle.clap.specs.Words.{Text, found_of, one_text}
use Rattle.clap.proofs.WalkLemmas.{one_text-rows}
use Rattle.kx_program.specs.Tasks.{Writes}
use Rattle.kx_program.proofs.Reading.{reads_option}
use Rattle.kx_program.proofs.task.millis_in.Goals as goal

pub returns : goal.returns
returns c =
    let id : Text = c.args.id.now in
    subst (λ (text : Option Text). MatchOption c.get_one.result
    ((n : ℕ) → Writes 32 text n → ⊥) (Writes 32 text))
    (one_text-rows (found_of c.args.given.now) id)
    (reads_option (λ bs r. ParsesUnsigned 32 10 bs r × ExplainsUnsignedError 10 bs r
    × HasUnsignedDigitsIfOk bs r) 32 (one_text (found_of c.args.given.now) id)
    c.get_one.result (λ t r gives. gives.0) c.get_one.ensures.none c.get_one.ensures.value)
