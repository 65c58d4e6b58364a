-- The commits of offsets that are parked: those of one id and epoch are alike.
use Rattle.std.proofs.Common.{◌≡◌, ◌++◌, pos, Bool, true, false, cond, List, [], ◌∷◌}
use Rattle.std.proofs.Common.{refl, sym, ap, ◌∙◌, subst, not}
use Rattle.std.specs.List.{All}
use Rattle.std.specs.Prelude.{Err, MatchResult, Ok, Result}
use Rattle.std.proofs.lemmas.List.Elements.{All-contains, All-filter, All-head, All-push, All-tail}
use Rattle.std.proofs.lemmas.List.Elements.{All-weaker}
use Rattle.kx_batch.specs.Batch.{Batch, batch_of}
use Rattle.kx_broker.specs.Offsets.{CommitsAt0, ParksCommit}
use Rattle.kx_broker.proofs.Parked.{is_for_held, same_there}
use Rattle.kx_group.specs.Calls.{AreAlike, IsCommitOf, IsResumed, IsResumedHere, IsToGroup}
use Rattle.kx_group.specs.Calls.{NoneLeft, OneMore, verdict_again, verdict_for}
use Rattle.kx_laws.proofs.Lists.{All-from_contains}
use Rattle.kx_laws.proofs.Membership.{filter_holds}
use Rattle.kx_log.specs.LogState.{LogState}
use Rattle.kx_message.specs.declared.message.Held.{Held}
use Rattle.kx_model.specs.Produce.{Verdict}
use Rattle.kx_model.specs.Verification.{Parked, Target, ToGroup, ToPartition, is_for, is_full}
use Rattle.kx_model.specs.Verification.{parked_for, with_parked, without}
use Rattle.kx_offsets.proofs.Commits.{commit_built}
use Rattle.kx_partition.specs.Answer.{FollowsVerdict}
use Rattle.kx_partition.specs.declared.answer.Produced.{Produced}
use Rattle.kx_verify.specs.Guard.{SameParked, after, waits}

commit_at : (held : Held) (q : Parked) → q.held ≡ held → CommitsAt0 q.request
    → IsCommitOf held (pos 0) q
commit_at held q own h = record {
  held_is = own;
  target = subst (λ (t : Target). IsToGroup t) (sym h.target) tt;
  first_is = ap (λ t. (batch_of t).base_sequence) h.text
      ∙ ap (λ (b : Batch). b.base_sequence)
      (commit_built h.group h.held (pos 0) h.offsets h.fits).read;
}

pub alike_for : (parked : List Parked) (held : Held) → All ParksCommit parked
    → AreAlike (parked_for parked held)
alike_for parked held all = record {
  held = held;
  first = pos 0;
  each = All-from_contains (IsCommitOf held (pos 0)) (parked_for parked held)
      (λ q c. let there = filter_holds (is_for held) parked q c in
      commit_at held q (is_for_held held q there.1)
      (All-contains ParksCommit parked q all there.0));
}

------ what stays so

all_same : (some others : List Parked) → SameParked some others → All ParksCommit others
    → All ParksCommit some
all_same some others same all =
    All-from_contains ParksCommit some
    (λ q c. All-contains ParksCommit others q all (same_there some others same q c))

cond_all : (b : Bool) (x y : List Parked) → All ParksCommit x → All ParksCommit y
    → All ParksCommit (cond b x y)
cond_all true x y f g = f
cond_all false x y f g = g

all_after : (p : Parked) (parked : List Parked) → All ParksCommit parked → CommitsAt0 p.request
    → All ParksCommit (after parked p)
all_after p parked all commits =
    cond_all (is_full parked p.held p.request) parked (with_parked parked p.held p.request) all
    (cond_all (waits parked p) parked (parked ++ p ∷ []) all
    (All-push ParksCommit parked p all commits))

-- with one more
asked_all : (given parked : List Parked) (p : Parked) → SameParked given (after parked p)
    → All ParksCommit parked → CommitsAt0 p.request → All ParksCommit given
asked_all given parked p same all commits =
    all_same given (after parked p) same (all_after p parked all commits)

-- whatever came of it
pub asked_by : {A E : Type 0} (r : Result A E) (given parked : List Parked) (p : Parked)
    (Is : A → Type 0) (Faults : E → Type 0)
    → MatchResult r (λ asked. Is asked × SameParked given (after parked p))
    (λ refused. (given ≡ parked) × Faults refused)
    → All ParksCommit parked → CommitsAt0 p.request → All ParksCommit given
asked_by (Ok asked) given parked p Is Faults h all commits =
    asked_all given parked p h.1 all commits
asked_by (Err refused) given parked p Is Faults h all commits =
    subst (λ (l : List Parked). All ParksCommit l) (sym h.0) all

-- without those of an id and epoch
pub forgotten_all : (given parked : List Parked) (held : Held)
    → SameParked given (without parked held) → All ParksCommit parked → All ParksCommit given
forgotten_all given parked held same all =
    all_same given (without parked held) same
    (All-filter (λ q. not (is_for held q)) ParksCommit parked all)

------ commits that run again

here_is : (log : LogState) (q : Parked) (target : Target) → IsToGroup target
    → verdict_for log q target ≡ verdict_again log q
here_is log q (ToPartition partition) to_group = absurd to_group
here_is log q (ToGroup group member generation) to_group = refl

-- each runs again as a request of any partition does
each_again : (requests : List Parked) (old new : LogState) (answers : List Produced)
    → IsResumedHere requests old new answers → All (λ q. IsToGroup q.request.target) requests
    → IsResumed requests old new answers
each_again requests old new answers (NoneLeft log) all = NoneLeft log
each_again requests old new answers (OneMore q rest o b n a others one more) all =
    let P = λ (p : Parked). IsToGroup p.request.target in
    OneMore q rest o b n a others
    (subst (λ (v : Verdict). FollowsVerdict v q.request.text o b a)
    (here_is o q q.request.target (All-head P q rest all)) one)
    (each_again rest b n others more (All-tail P q rest all))

pub resumed_as : (requests : List Parked) (old new : LogState) (answers : List Produced)
    → AreAlike requests → IsResumedHere requests old new answers
    → IsResumed requests old new answers
resumed_as requests old new answers alike run =
    each_again requests old new answers run
    (All-weaker (IsCommitOf alike.held alike.first) (λ q. IsToGroup q.request.target)
    (λ q like. like.target) requests alike.each)
