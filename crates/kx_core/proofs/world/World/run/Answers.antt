use Rattle.std.proofs.Common.{◌≡◌, ◌∙◌, ◌++◌, ◌∷◌, [], List, ap, false, refl, subst, sym, arith}
use Rattle.std.proofs.Common.{suc, ◌+◌, ℕ}
use Rattle.std.specs.Prelude.{take}
use Rattle.std.specs.List.{list_any}
use Rattle.std.proofs.Math.Seq.{take-suc}
use Rattle.std.proofs.lemmas.List.{take_all}
use Rattle.kx_core.specs.World.{IsRun, NoneLeft, Runs, is_arrival}
use Rattle.kx_core.specs.declared.event.Event.{Event}
use Rattle.kx_core.proofs.Running.{none_before, none_more, promised, runs_more, runs_still}
use Rattle.kx_core.proofs.Running.{still_calm}
use Rattle.kx_core.proofs.world.World.run.Goals as goal

pub loop-at-init : goal.loop-at-init
loop-at-init g c = record { runs = λ s h. NoneLeft s h; arrived = λ calm. refl }

pub returns-in-Err-clause-run : goal.returns-in-Err-clause-run
returns-in-Err-clause-run g c = λ s h. (
  omega (arith, c.loop-at-test.true),
  runs_still g.C.Machine.stands g.P.Machine.stands g.O.Machine.stands g.F.Process.image_of
      c.loop-at.self c.happen.new.self s (take c.loop-at.at c.args.events.now)
      c.in-Err.ensures.step (c.loop-at.invariant.runs s h),
)

pub returns-in-Err-clause-arrived : goal.returns-in-Err-clause-arrived
returns-in-Err-clause-arrived g c = λ calm.
    c.in-Err.ensures.arrived
    ∙ c.loop-at.invariant.arrived (none_before is_arrival c.loop-at.at c.args.events.now calm)

pub loop-at-preserved : goal.loop-at-preserved
loop-at-preserved g c =
    let C = g.C.Machine.stands in
    let P = g.P.Machine.stands in
    let O = g.O.Machine.stands in
    let image_of = g.F.Process.image_of in
    let events = c.args.events.now in
    let at = c.loop-at.at in
    let one = c.index-events-at.result in
    let next : at + 1 ≡ suc at = omega arith in
    let longer : take (at + 1) events ≡ take at events ++ one ∷ [] =
    ap (λ (n : ℕ). take n events) next
    ∙ take-suc events at one (omega (arith, c.loop-at-test.true))
    ∙ ap (λ (e : Event _). take at events ++ e ∷ []) (sym c.index-events-at.is) in
    record {
      runs = λ s h.
          subst (Runs image_of (IsRun C P O image_of c.happen.new.self) s) (sym longer)
          (runs_more C P O image_of c.loop-at.self c.happen.new.self s (take at events) one
          (λ t before. c.in-Ok.field-0) c.in-Ok.ensures.step (c.loop-at.invariant.runs s h));
      arrived = λ calm.
          let both = none_more is_arrival (take at events) one
          (subst (λ (es : List (Event _)). list_any is_arrival es ≡ false) longer calm) in
          still_calm c.loop-at.self.arrived c.happen.new.self.arrived (is_arrival one)
          c.args.self.now.arrived c.in-Ok.ensures.arrived both.1
          (c.loop-at.invariant.arrived both.0);
    }

pub returns-clause-run : goal.returns-clause-run
returns-clause-run g c = λ s h.
    let C = g.C.Machine.stands in
    let P = g.P.Machine.stands in
    let O = g.O.Machine.stands in
    let image_of = g.F.Process.image_of in
    let all : take c.loop-at.at c.args.events.now ≡ c.args.events.now =
    take_all c.loop-at.at c.args.events.now (omega (arith, c.loop-at-test.false)) in
    subst (Runs image_of (IsRun C P O image_of c.loop-at.self) s) all
    (c.loop-at.invariant.runs s h)

pub returns-clause-arrived : goal.returns-clause-arrived
returns-clause-arrived g c = λ calm.
    c.loop-at.invariant.arrived (none_before is_arrival c.loop-at.at c.args.events.now calm)

pub returns-clause-promises : goal.returns-clause-promises
returns-clause-promises g c = λ s h closed.
    promised g.C.Machine.stands g.P.Machine.stands g.O.Machine.stands g.F.Process.image_of
    c.systems_keep_promises.ensures c.loop-at.self s h closed
