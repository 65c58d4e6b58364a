-- What the calls below promise, in the words of the example.
use Rattle.std.proofs.Common.{◌≡◌, [], sym, ap, ◌∙◌, subst}
use Rattle.std.specs.Prelude.{ℤ, ℕ, pos, List, Bool, true, false, Some, None}
use Rattle.std.specs.Prelude.{Result, Ok, Err, IfOk, MatchResult, OnErr, if◌then◌else◌}
use Rattle.kx_batch.specs.Batch.{SpellsBatch}
use Rattle.kx_batch.specs.Build.{Builds, Draft, drafted, pushed_to}
use Rattle.kx_message.specs.declared.message.Held.{Held}
use Rattle.kx_model.specs.Produce.{Verdict}
use Rattle.kx_log.specs.Log.{log_from, log_in}
use Rattle.kx_log.specs.LogState.{LogState}
use Rattle.kx_log.specs.Store.{StoreState}
use Rattle.kx_partition.specs.Answer.{Breaks, FollowsVerdict, IsAnswered, IsAppended}
use Rattle.kx_partition.specs.Opening.{Rebuilds}
use Rattle.kx_partition.specs.declared.answer.Produced.{Produced}
use Rattle.kx_partition.specs.declared.answer.Produced.TheVariants as produced
use Rattle.kx_example.specs.Example.{batch_with}

-- an empty store holds an empty log
pub no_batches : {store : StoreState} {log : LogState} → store.bytes ≡ [] → Rebuilds store log
    → log.batches ≡ []
unfolding log_from
no_batches none rebuilds =
    rebuilds.opens.opened.log_is ∙ ap (λ bytes. (log_in bytes).batches) none

-- what is within a limit is what it was
kept : {A : Type 0} (over : Bool) {one other : A} → (if over then None else Some one) ≡ Some other
    → one ≡ other
kept true e = absurd cc
kept false e = cc

-- the text of a builder to which one record was pushed
pub spells_one : (held : Held) (first : ℤ) (value text : List ℕ) (empty one : Draft)
    → empty ≡ record {
      attributes = pos 16;
      producer_id = pos held.id;
      producer_epoch = pos held.epoch;
      base_sequence = first;
      records = Some [];
    }
    → one ≡ pushed_to empty None (Some value) [] → Builds one text
    → SpellsBatch (batch_with held first value) text
spells_one held first value text empty one starts pushes builds =
    let draft = pushes ∙ ap (λ (d : Draft). pushed_to d None (Some value) []) starts in
    let records = sym (kept _ (sym (ap (λ (d : Draft). d.records) draft) ∙ builds.1)) in
    subst (λ batch. SpellsBatch batch text) (λ i. drafted (draft i) (records i)) builds.3

-- what isn't verified changes nothing
pub unchanged : {verdict : Verdict} {text : List ℕ} {old new : LogState} {answer : Produced}
    → answer ≡ produced.Unverified → FollowsVerdict verdict text old new answer → new ≡ old
unchanged e (IsAppended at next appended) = absurd cc
unchanged e (IsAnswered answer is same) = same
unchanged e (Breaks next breaks) = absurd cc

pub if_ok : {A E : Type 0} (r : Result A E) (Q : E → Type 0) {P R : A → Type 0}
    → MatchResult r P Q → ((value : A) → P value → R value) → IfOk r R
if_ok (Ok value) Q p f = f value p
if_ok (Err fault) Q p f = tt

pub on_any : {A E : Type 0} (r : Result A E) {P : Type 0} → P → OnErr r P
on_any (Ok value) p = tt
on_any (Err fault) p = p
