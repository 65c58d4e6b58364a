-- What was passed on stays a beginning of the machine's log.
use Rattle.std.proofs.Common.{◌≡◌, ℕ, List, [], ◌∷◌, ◌++◌, Option, Some, None, Result, Ok, Err}
use Rattle.std.proofs.Common.{MatchResult, ◌∙◌, ap, append-nil, inl, inr, is_ok, refl, subst, sym}
use Rattle.std.proofs.Common.{true}
use Rattle.std.specs.Prelude.{OnErr}
use mathlib.Core.List.{IsPrefix}
use Rattle.kx_machine.specs.Logs.{batches_of}
use Rattle.kx_machine.specs.Meaning.{IsTaken, NodeState, node_step}
use Rattle.kx_machine.specs.declared.taken.Taken.{Taken}
use Rattle.kx_model.specs.Disk.{Store}
use Rattle.kx_model.specs.Log.{Stored}
use Rattle.kx_model.specs.Step.{Input}
use Rattle.kx_published.specs.Failing.{MayHaveAdded, one_more}
use Rattle.kx_published.specs.Written.{IsWritten, MarkerComesRight}
use Rattle.kx_published.specs.declared.known.Known.{Known}
use Rattle.kx_published.specs.declared.publisher.Done.{Done}
use Rattle.kx_publishing.proofs.Publishing.{OnlyAdds, prefix_more, wrote_log, wrote_step}
use Rattle.kx_publishing.specs.Publishing.{BeginsLog, Runs, Shows, ShowsBeginning, WroteItself}
use Rattle.kx_publishing.specs.Publishing.{comes_with}

------ a step

begins_more : OnlyAdds → (node : NodeState) (store : Store) (input : Input)
    → MarkerComesRight (comes_with input) → (o : Option Done) → BeginsLog node o
    → BeginsLog (node_step node store input).state o
begins_more adds node store input right None begins = tt
begins_more adds node store input right (Some done) begins = (
  wrote_step node store input begins.0 right,
  prefix_more done.sent (batches_of node) (batches_of (node_step node store input).state)
      begins.1 (adds node store input),
  prefix_more done.shown (batches_of node) (batches_of (node_step node store input).state)
      begins.2 (adds node store input),
)

module _ {M : Type 0} (Stands : NodeState → M → Type 0) where
  pub runs_on : OnlyAdds → (input : Input) → MarkerComesRight (comes_with input)
      → (Allows : Option ℕ → Store → Type 0) (before after : M) (taken : Taken) (o : Option Done)
      → (runs : Runs Stands before o)
      → IsTaken runs.node input Allows (λ s. Stands s after) taken → Runs Stands after o
  runs_on adds input right Allows before after taken o runs took = record {
    node = (node_step runs.node took.store input).state;
    stands = took.stands;
    begins = begins_more adds runs.node took.store input right o runs.begins;
  }

------ a publish

module _ {M : Type 0} (Stands : NodeState → M → Type 0) (log : M → List Stored)
    (log_is : (machine : M) (state : NodeState) → Stands state machine
    → log machine ≡ batches_of state) where
  -- the log of a node that wrote it
  pub log_written : (machine : M) (node : NodeState) → Stands node machine → WroteItself node
      → IsWritten (log machine)
  log_written machine node stands wrote =
      subst IsWritten (sym (log_is machine node stands)) (wrote_log node wrote)

  pub runs_written : (machine : M) (o : Option Done) (done : Done) → Runs Stands machine o
      → o ≡ Some done → IsWritten (log machine)
  runs_written machine o done runs is =
      log_written machine runs.node runs.stands (subst (BeginsLog runs.node) is runs.begins).0

  pub runs_prefix : (machine : M) (o : Option Done) (done : Done) → Runs Stands machine o
      → o ≡ Some done → IsPrefix done.sent (log machine)
  runs_prefix machine o done runs is =
      subst (IsPrefix done.sent) (sym (log_is machine runs.node runs.stands))
      (subst (BeginsLog runs.node) is runs.begins).1

  -- what readers take begins it
  shown_prefix : (machine : M) (o : Option Done) (done : Done) → Runs Stands machine o
      → o ≡ Some done → IsPrefix done.shown (log machine)
  shown_prefix machine o done runs is =
      subst (IsPrefix done.shown) (sym (log_is machine runs.node runs.stands))
      (subst (BeginsLog runs.node) is runs.begins).2

  pub shows_beginning : (machine : M) (o : Option Done) → Runs Stands machine o
      → ShowsBeginning (log machine) o
  shows_beginning machine None runs = tt
  shows_beginning machine (Some done) runs = shown_prefix machine (Some done) done runs refl

  -- more of it was passed on
  pub runs_with : (machine : M) (node : NodeState) → Stands node machine → WroteItself node
      → (done : Done) → IsPrefix done.sent (log machine) → IsPrefix done.shown (log machine)
      → Runs Stands machine (Some done)
  runs_with machine node stands wrote done sent shown = record {
    node = node;
    stands = stands;
    begins = (
      wrote,
      subst (IsPrefix done.sent) (log_is machine node stands) sent,
      subst (IsPrefix done.shown) (log_is machine node stands) shown,
    );
  }

  still_shown : {E : Type 0} (machine : M) (old new : Done) (told : Result Known E)
      → IsPrefix old.shown (log machine) → MatchResult told (λ (t : Known). (t ≡ new.known)
      × (new.known.logs ≡ old.known.logs ++ record { log = log machine } ∷ [])
      × (new.shown ≡ log machine)) (λ (refused : E). new.shown ≡ old.shown)
      → IsPrefix new.shown (log machine)
  still_shown machine old new (Ok t) begins done = ([], append-nil new.shown ∙ done.2)
  still_shown machine old new (Err refused) begins same =
      subst (λ (l : List Stored). IsPrefix l (log machine)) (sym same) begins

  pub runs_sent : {E : Type 0} (machine : M) (o : Option Done) (done after : Done)
      (told : Result Known E) → Runs Stands machine o → o ≡ Some done
      → IsPrefix after.sent (log machine) → MatchResult told (λ (t : Known). (t ≡ after.known)
      × (after.known.logs ≡ done.known.logs ++ record { log = log machine } ∷ [])
      × (after.shown ≡ log machine)) (λ (refused : E). after.shown ≡ done.shown)
      → Runs Stands machine (Some after)
  runs_sent machine o done after told runs is sent published =
      runs_with machine runs.node runs.stands (subst (BeginsLog runs.node) is runs.begins).0 after
      sent
      (still_shown machine done after told (shown_prefix machine o done runs is) published)

-- what it told, of a log that readers didn't take
pub shows_told : {E : Type 0} (told : Result Known E) (log : List Stored) (old new : Done)
    → new.known.partition ≡ old.known.partition
    → MatchResult told (λ (t : Known). (t ≡ new.known)
    × (new.known.logs ≡ old.known.logs ++ record { log = log } ∷ []) × (new.shown ≡ log))
    (λ (refused : E). new.shown ≡ old.shown)
    → MatchResult told (λ (t : Known). new.failed ≡ old.failed)
    (λ (refused : E). new.failed ≡ one_more old.failed)
    → OnErr told (MayHaveAdded log old.known.logs new.known.logs) → (old.shown ≡ log → ⊥)
    → Shows (is_ok told) log (Some old) (Some new)
shows_told (Ok t) log old new partition done counted added unseen = inr (
  t,
  record {
    old = old;
    new = new;
    before_is = refl;
    after_is = refl;
    told_is = done.0;
    partition = partition;
    logs = done.1;
    shown = done.2;
    failed = counted;
  },
)
shows_told (Err refused) log old new partition same counted added unseen = (
  unseen,
  record {
    old = old;
    new = new;
    before_is = refl;
    after_is = refl;
    partition = partition;
    logs = added;
    shown = same;
    failed = counted;
  },
)

-- what is seen already is shown, and nothing is published
pub shows_seen : (log : List Stored) (done : Done) → done.shown ≡ log
    → Shows true log (Some done) (Some done)
shows_seen log done seen = inl (seen, refl)
