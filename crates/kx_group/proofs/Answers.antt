-- What a partition's answer says of its log.
use Rattle.std.proofs.Common.{◌≡◌, ℕ, ℤ, Bool, List, [], ◌∷◌, ◌++◌, Some}
use Rattle.std.proofs.Common.{refl, ap, subst, length, arith, length-append}
use Rattle.std.specs.Prelude.{Result, Ok, Err, IfOk, OnErr}
use Rattle.kx_log.specs.LogState.{IsAppendedTo, LogState}
use Rattle.kx_model.specs.Log.{end, entries}
use Rattle.kx_model.specs.Produce.{Verdict, Next, Duplicate, Unverified, Refused, stored_at}
use Rattle.kx_partition.specs.Answer.{Breaks, FollowsVerdict, IsAnswered, IsAppended, answer_of}
use Rattle.kx_partition.specs.Answer.{unless_closed}
use Rattle.kx_partition.specs.declared.answer.Produced.{Produced}
use Rattle.kx_partition.specs.declared.answer.Produced.TheVariants as produced

-- the batch is the last one now
pub record AppendsNow (verdict : Verdict) (text : List ℕ) (old new : LogState) (at : ℤ)
    : Type 0 where
  pub next : verdict ≡ Next
  pub appended : IsAppendedTo text old new at
  pub batches : new.batches ≡ old.batches ++ stored_at (end (entries old.batches)) text ∷ []

never_appended : (verdict : Verdict) (answer : Produced) (at : ℤ)
    → answer_of verdict ≡ Some answer → answer ≡ produced.Appended at → ⊥
never_appended Next answer at e is = absurd cc
never_appended (Duplicate offset) answer at e is = cc
never_appended Unverified answer at e is = cc
never_appended (Refused code) answer at e is = cc

pub appends_now : (verdict : Verdict) (text : List ℕ) (old new : LogState) (answer : Produced)
    (at : ℤ) → FollowsVerdict verdict text old new answer → answer ≡ produced.Appended at
    → AppendsNow verdict text old new at
appends_now verdict text old new answer at (IsAppended offset next appended) e =
    let same : offset ≡ at = cc in
    record {
      next = next;
      appended = subst (IsAppendedTo text old new) same appended;
      batches = ap (λ (l : LogState). l.batches) appended.rest;
    }
appends_now verdict text old new answer at (IsAnswered answer2 told same) e =
    absurd (never_appended verdict answer at told e)
appends_now verdict text old new answer at (Breaks next broken) e = absurd cc

-- what isn't appended leaves the batches
pub leaves_batches : (verdict : Verdict) (text : List ℕ) (old new : LogState) (answer : Produced)
    → FollowsVerdict verdict text old new answer
    → ((at : ℤ) → answer ≡ produced.Appended at → ⊥) → new.batches ≡ old.batches
leaves_batches verdict text old new answer (IsAppended offset next appended) never =
    absurd (never offset refl)
leaves_batches verdict text old new answer (IsAnswered answer2 told same) never =
    ap (λ (l : LogState). l.batches) same
leaves_batches verdict text old new answer (Breaks next broken) never =
    ap (λ (l : LogState). l.batches) broken.rest

-- if the verdict isn't that it comes next, nothing changes
pub unless_next : (verdict : Verdict) (text : List ℕ) (old new : LogState) (answer : Produced)
    → FollowsVerdict verdict text old new answer → (verdict ≡ Next → ⊥) → new ≡ old
unless_next verdict text old new answer (IsAppended offset next appended) other =
    absurd (other next)
unless_next verdict text old new answer (IsAnswered answer2 told same) other = same
unless_next verdict text old new answer (Breaks next broken) other = absurd (other next)

-- what a closed log would append, it judges to be next
pub next_judged : (closed : Bool) (verdict : Verdict) → unless_closed closed verdict ≡ Next
    → verdict ≡ Next
next_judged closed Next e = refl
next_judged closed (Duplicate offset) e = absurd cc
next_judged closed Unverified e = absurd cc
next_judged closed (Refused code) e = absurd cc

-- a longer list is another
pub longer_is_other : {A : Type 0} (xs : List A) (x : A) → xs ++ x ∷ [] ≡ xs → ⊥
longer_is_other xs x e =
    let more : length (xs ++ x ∷ []) ≡ length xs = ap length e in
    omega (arith, more, length-append xs (x ∷ []))

------ results

pub on_any : {A E : Type 0} (r : Result A E) {P : Type 0} → P → OnErr r P
on_any (Ok x) p = tt
on_any (Err e) p = p

pub on_err : {A E : Type 0} (r : Result A E) {P Q : Type 0} → OnErr r P → (P → Q) → OnErr r Q
on_err (Ok x) p f = tt
on_err (Err e) p f = f p

pub if_ok : {A E : Type 0} (r : Result A E) {P Q : A → Type 0} → IfOk r P
    → ((x : A) → P x → Q x) → IfOk r Q
if_ok (Ok x) p f = f x p
if_ok (Err e) p f = p
