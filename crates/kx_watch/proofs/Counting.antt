-- How many steps are recorded.
use Rattle.std.proofs.Common.{◌≡◌, ◌∙◌, ◌+◌, ◌++◌, ◌∷◌, [], ℕ, List, ap, arith, append_assoc, length}
use Rattle.std.proofs.Common.{length-append, refl, sym}
use Rattle.std.proofs.lemmas.List.{length-map}
use Rattle.std.specs.Prelude.{Err, IfOk, IsOk, Ok, OnOk, Result}
use Rattle.kx_page.specs.declared.run.Run.{Run}
use Rattle.kx_page.specs.declared.run.Step.{Step}
use Rattle.kx_view.specs.Recording.{AddsStep, TellSame, words_of}
use Rattle.kx_watch.specs.Steps.{AddsSteps}

pub one_step : (old new : List Step) → AddsStep old new → AddsSteps 1 old new
one_step old new adds = (adds.0 ∷ [], refl, adds.1)

pub one_more : (old new : List Step) → AddsStep old new → length new ≡ length old + 1
one_more old new adds = ap length adds.1 ∙ length-append old (adds.0 ∷ [])

pub then_more : (a b : ℕ) (old mid new : List Step) → AddsSteps a old mid → AddsSteps b mid new
    → AddsSteps (a + b) old new
then_more a b old mid new first second = (
  first.0 ++ second.0,
  length-append first.0 second.0 ∙ omega (arith, first.1, second.1),
  second.2 ∙ ap (λ (s : List Step). s ++ second.0) first.2 ∙ append_assoc old first.0 second.0,
)

pub as_many : (before after : List Step) → TellSame before after → length after ≡ length before
as_many before after same =
    sym (length-map after words_of) ∙ ap length same ∙ length-map before words_of

-- a run has as many steps as were recorded, since there is one only if watching didn't fail
pub has_steps : {T E F : Type 0} (n : ℕ) (recorded : List Step) (watched : Result T E)
    (result : Result Run F) → OnOk watched (length recorded ≡ n)
    → IfOk result (λ run. TellSame recorded run.steps.items) → OnOk result (IsOk watched)
    → IfOk result (λ run. length run.steps.items ≡ n)
has_steps n recorded watched (Err failed) counted same ok = tt
has_steps n recorded (Err failed) (Ok run) counted same ok = absurd cc
has_steps n recorded (Ok done) (Ok run) counted same ok =
    as_many recorded run.steps.items same ∙ counted
