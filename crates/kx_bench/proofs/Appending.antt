-- A new log, and a log with one more batch.
use Rattle.std.proofs.Common.{◌≡◌, ◌+◌, [], ◌∷◌, ap, ◌∙◌}
use Rattle.std.specs.Prelude.{ℕ, ℤ, List, Result, Ok, Err, Some, length, IfSome, MatchResult}
use Rattle.std.specs.Result.{result_ok}
use Rattle.std.proofs.lemmas.List.{length-append}
use Rattle.kx_model.specs.Log.{end, entries}
use Rattle.kx_model.specs.Produce.{Verdict, Next, Duplicate, Unverified, Refused}
use Rattle.kx_log.specs.Log.{log_from, log_in}
use Rattle.kx_log.specs.LogState.{LogState}
use Rattle.kx_log.specs.Store.{StoreState}
use Rattle.kx_partition.specs.Answer.{Breaks, FollowsVerdict, IsAnswered, IsAppended, answer_of}
use Rattle.kx_partition.specs.Opening.{Rebuilds}
use Rattle.kx_partition.specs.declared.answer.Produced.{Produced}
use Rattle.kx_partition.specs.declared.answer.Produced.TheVariants as produced

-- an empty store holds an empty log
pub new_log : {E : Type 0} (r : Result LogState E) (store : StoreState) (Q : E → Type 0)
    → store.bytes ≡ [] → MatchResult r (Rebuilds store) Q
    → IfSome (result_ok r) (λ log. log.batches ≡ [])
unfolding log_from
new_log (Ok log) store Q none rebuilds =
    rebuilds.opens.opened.log_is ∙ ap (λ bytes. (log_in bytes).batches) none
new_log (Err fault) store Q none faults = tt

-- what isn't appended isn't answered so
never_appended : (v : Verdict) (offset : ℤ) → answer_of v ≡ Some (produced.Appended offset) → ⊥
never_appended Next offset e = absurd cc
never_appended (Duplicate at) offset e = absurd cc
never_appended Unverified offset e = absurd cc
never_appended (Refused code) offset e = absurd cc

-- a batch that is appended makes the log one longer
pub one_more : {verdict : Verdict} {text : List ℕ} {old new : LogState} {answer : Produced}
    (offset : ℤ) → answer ≡ produced.Appended offset
    → FollowsVerdict verdict text old new answer → length new.batches ≡ length old.batches + 1
one_more {old = old} offset e (IsAppended at next appended) =
    ap (λ (log : LogState). length log.batches) appended.rest ∙ length-append old.batches _
one_more offset e (IsAnswered answer is same) =
    absurd (never_appended _ offset (is ∙ ap Some e))
one_more offset e (Breaks next breaks) = absurd cc
