use Rattle.std.proofs.Common.{◌≡◌, ◌∙◌, ◌+◌, [], ℕ, ap, append-nil, refl, subst, sym, take}
use Rattle.std.proofs.lemmas.List.Sums.{sum_by_more}
use Rattle.kx_trace_audit.specs.declared.peek.ToldStep.{ToldStep}
use Rattle.kx_watch.specs.Steps.{AddsSteps, steps_of}
use Rattle.kx_watch.proofs.Counting.{then_more}
use Rattle.kx_program.specs.Drawing.{rows_of}
use Rattle.kx_program.proofs.drawing.take_all.Goals as goal

pub loop-step-init : goal.loop-step-init
loop-step-init c = ([], refl, sym (append-nil _))

pub loop-step-preserved : goal.loop-step-preserved
loop-step-preserved c =
    let i = c.loop-step.step-index in
    let steps = c.args.steps.now in
    let step = c.step-item.result in
    let more : rows_of (take (i + 1) steps) ≡ rows_of (take i steps) + steps_of step.input =
    sum_by_more (λ (s : ToldStep). steps_of s.input) steps i step c.loop-step-test.true
    ∙ ap (λ (s : ToldStep). rows_of (take i steps) + steps_of s.input) (sym c.step-item.is) in
    subst (λ (n : ℕ). AddsSteps n c.args.watched.now c.take.new.self) (sym more)
    (then_more (rows_of (take i steps)) (steps_of step.input) c.args.watched.now c.loop-step.watched
    c.take.new.self c.loop-step.invariant c.in_ok-take.ensures)
