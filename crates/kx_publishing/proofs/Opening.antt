-- A log that was opened, as it is published at once.
use Rattle.std.proofs.Common.{◌≡◌, ℕ, List, [], ◌∷◌, ◌++◌, Option, Some, ◌∙◌, ap, inl, inr, sym}
use Rattle.std.proofs.Common.{refl, subst, true}
use Rattle.kx_model.specs.Log.{Stored}
use Rattle.kx_published.specs.declared.known.Shown.{Shown}
use Rattle.kx_published.specs.declared.publisher.Done.{Done}
use Rattle.kx_publishing.specs.Publishing.{IsOpened, IsSeen, Shows, partition_of}

-- the first log is the empty one
pub record IsNew (partition : ℕ) (done : Done) : Type 0 where
  pub partition_is : done.known.partition ≡ partition
  pub logs : done.known.logs ≡ record { log = [] } ∷ []
  pub shown : done.shown ≡ []
  pub failed : done.failed ≡ 0

pub opened : (partition : ℕ) (log : List Stored) (first : Done) (after : Option Done)
    → IsNew partition first → Shows true log (Some first) after
    → (IsSeen log (Some first) → after ≡ Some first) → IsOpened partition log after
opened partition [] first after new shows quiet = record {
  done = first;
  published_is = quiet new.shown;
  partition_is = new.partition_is;
  logs = new.logs;
  shown = new.shown;
  failed = new.failed;
}
opened partition (s ∷ log) first after new (inl seen) quiet =
    let same : [] ≡ s ∷ log = sym new.shown ∙ seen.0 in absurd cc
opened partition (s ∷ log) first after new (inr told) quiet =
    let it = told.1 in
    let same : it.old ≡ first = cc in record {
      done = it.new;
      published_is = it.after_is;
      partition_is = it.partition ∙ ap (λ (d : Done). d.known.partition) same ∙ new.partition_is;
      logs = it.logs
          ∙ ap (λ (d : Done). d.known.logs ++ record { log = s ∷ log } ∷ []) same
          ∙ ap (λ (l : List Shown). l ++ record { log = s ∷ log } ∷ []) new.logs;
      shown = it.shown;
      failed = it.failed ∙ ap (λ (d : Done). d.failed) same ∙ new.failed;
    }
