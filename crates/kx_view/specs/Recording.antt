-- The steps that a recorder keeps.
use Rattle.std.specs.Prelude.{◌≡◌, ℕ, List, [], ◌∷◌, ◌++◌, map, string_bytes}
use Rattle.kx_page.specs.declared.run.Step.{Step}

-- one more step
abbrev pub AddsStep : List Step → List Step → Type 0
AddsStep old new = (step : Step) × (new ≡ old ++ step ∷ [])

-- what is told of a step: what it did, and what it took and sent
pub record Words : Type 0 where
  pub title : List ℕ
  pub detail : List ℕ

abbrev pub words_of : Step → Words
words_of step = record { title = string_bytes step.title; detail = string_bytes step.detail }

-- the same is told, step by step
abbrev pub TellSame : List Step → List Step → Type 0
TellSame before after = map words_of after ≡ map words_of before
