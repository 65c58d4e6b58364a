-- Runs that differ in values alone: in names, records and the words that are said of them.
use Rattle.std.specs.Prelude.{◌≡◌, List, [], ◌∷◌}
use Rattle.kx_page.specs.declared.run.Arrow.{Arrow}
use Rattle.kx_page.specs.declared.run.Lane.{Lane}
use Rattle.kx_page.specs.declared.run.Log.{Log}
use Rattle.kx_page.specs.declared.run.LoggedBatch.{LoggedBatch}
use Rattle.kx_page.specs.declared.run.Run.{Run}
use Rattle.kx_page.specs.declared.run.Step.{Step}

-- two lists are as long, and their items alike, each with the one in its place
abbrev pub AreAlike : {X : Type 0} → (X → X → Type 0) → List X → List X → Type 0
AreAlike IsLike [] [] = Unit {0}
AreAlike IsLike [] (y ∷ ys) = ⊥
AreAlike IsLike (x ∷ xs) [] = ⊥
AreAlike IsLike (x ∷ xs) (y ∷ ys) = IsLike x y × AreAlike IsLike xs ys

abbrev pub IsLikeLane : Lane → Lane → Type 0
IsLikeLane one other = other ≡ record one { name = other.name }

abbrev pub IsLikeStep : Step → Step → Type 0
IsLikeStep one other = other ≡ record one { title = other.title; detail = other.detail }

abbrev pub IsLikeArrow : Arrow → Arrow → Type 0
IsLikeArrow one other = other ≡ record one { name = other.name; text = other.text }

abbrev pub IsLikeBatch : LoggedBatch → LoggedBatch → Type 0
IsLikeBatch one other =
    other ≡ record one { kind = other.kind; records = other.records; reading = other.reading }

pub record IsLikeLog (one other : Log) : Type 0 where
  pub stable : other.stable ≡ one.stable
  pub end : other.end ≡ one.end
  pub batches : AreAlike IsLikeBatch one.batches.items other.batches.items

-- all but their values is the same
pub record DifferInValues (one other : Run) : Type 0 where
  pub lanes : AreAlike IsLikeLane one.lanes.items other.lanes.items
  pub steps : AreAlike IsLikeStep one.steps.items other.steps.items
  pub arrows : AreAlike IsLikeArrow one.arrows.items other.arrows.items
  pub logs : AreAlike IsLikeLog one.logs.items other.logs.items
