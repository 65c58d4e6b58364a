use Rattle.std.proofs.Common.{◌≡◌, ℕ, Some, List, length, refl, arith, subst}
use Rattle.std.specs.Prelude.{slice_get}
use Rattle.std.proofs.lemmas.Option.{slice_get_read, slice_get_within}
use Rattle.kx_audit.specs.Joined.{WasHandedOut}
use Rattle.kx_nodes.specs.declared.trace.Step.{Step}
use Rattle.kx_audit.proofs.Places.{more_places}
use Rattle.kx_audit.proofs.Strangers.{no_stranger_in, stranger}
use Rattle.kx_audit.proofs.origins.takes_stranger.Goals as goal

pub returns-then-not-branch-clause-some : goal.returns-then-not-branch-clause-some
returns-then-not-branch-clause-some g c = λ _.
    let items = c.steps-step-items.result.now in
    let n = c.loop-step.step-index in
    let step = c.step-item.result in
    let at : slice_get items n ≡ Some step =
    slice_get_read items (length items) n step refl (omega arith) c.step-item.is in
    let unsent : WasHandedOut c.args.all.now step.input → ⊥ =
    λ was. (let e = c.in_ok-may_take.ensures.1 was in cc) in
    let other = stranger c.args.all.now step.input unsent in
    record {
      place = n;
      step = step;
      message = other.0;
      there = subst (λ (l : List Step). slice_get l n ≡ Some step) c.steps-step-items.ensures at;
      takes = other.1;
      unsent = other.2;
    }

pub loop-step-preserved : goal.loop-step-preserved
loop-step-preserved g c =
    let items = c.steps-step-items.result.now in
    let n = c.loop-step.step-index in
    let step = c.step-item.result in
    let at : slice_get items n ≡ Some step =
    slice_get_read items (length items) n step refl (omega arith) c.step-item.is in
    let was : WasHandedOut c.args.all.now step.input = c.in_ok-may_take.ensures.0 cc in
    more_places items n step (λ k s. WasHandedOut c.args.all.now s.input) at c.loop-step.invariant
    was

pub returns-clause-none : goal.returns-clause-none
returns-clause-none g c = λ _.
    no_stranger_in c.args.all.now c.args.node.now.trace.steps
    (subst (λ (l : List Step). (k : ℕ) (step : Step) → slice_get l k ≡ Some step
    → WasHandedOut c.args.all.now step.input) c.steps-step-items.ensures
    (λ k step at. let lt = slice_get_within c.steps-step-items.result.now k step at in
    c.loop-step.invariant k step (omega (arith, lt)) at))
