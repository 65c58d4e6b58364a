use Rattle.std.proofs.Common.{◌≡◌, Some, List, length, refl, sym, ap, arith, subst}
use Rattle.std.specs.Prelude.{slice_get}
use Rattle.std.proofs.lemmas.Option.{slice_get_read}
use Rattle.kx_audit.specs.Making.{named, node_of}
use Rattle.kx_nodes.specs.declared.trace.Step.{Step}
use Rattle.kx_audit.proofs.Rerunning.{run_ends, run_more, run_starts}
use Rattle.kx_audit.proofs.replayer.Replayer.new.Goals as goal

pub loop-place-preserved : goal.loop-place-preserved
loop-place-preserved g c =
    let making = g.B.Tells.making c.args.trace.made in
    let made = node_of making in
    let law = c.traces_run_again.ensures in
    let items = c.steps-steps.result.now in
    let step = c.index-steps-place.result in
    let at : slice_get items c.loop-place.place ≡ Some step = slice_get_read items (length items)
    c.loop-place.place step refl (omega arith) c.index-steps-place.is in
    let there = subst (λ (l : List Step). slice_get l c.loop-place.place ≡ Some step)
    c.steps-steps.ensures.value at in
    let took = rw (c.behind.ensures, c.steps-steps.ensures.value) at c.in_ok-taken.ensures in
    let all = run_more g.B.Machine.Machine.stands (named making) made c.args.trace.steps
    (record { marks = law.marks made; goes_on = law.goes_on made }) c.loop-place.place step
    c.loop-place.takens.items c.loop-place.machine c.take_again.new.machine
    c.in_ok-taken.taken there took c.loop-place.invariant in
    rw c.in_ok-push.ensures.items all

pub loop-place-init : goal.loop-place-init
loop-place-init g c =
    let making = g.B.Tells.making c.args.trace.made in
    let made = node_of making in
    let h = g.B.Machine.Machine.stands in
    let node = rw (c.made.ensures) at c.tells.ensures.node in
    let machine = rw (c.made-2.ensures, sym node) at c.in_ok-machine.ensures in
    let was = c.steps-steps.ensures.replays in
    let replays = rw (c.steps-steps.ensures.value, sym node) at was.1 in
    let runs = c.traces_run_again.ensures.at_first made c.args.trace.steps was.0 replays in
    rw c.new-takens.ensures.items
    (run_starts h (named making) made c.args.trace.steps c.in_ok-machine.machine machine runs)

pub invariant_of-result : goal.invariant_of-result
invariant_of-result g c =
    let last : c.loop-place.place ≡ length c.args.trace.steps =
    (let n = ap (λ (l : List Step). length l) c.steps-steps.ensures.value in omega (arith, n)) in
    run_ends g.B.Tells.making g.B.Machine.Machine.stands c.args.trace c.loop-place.takens.items
    c.loop-place.machine (rw last at c.loop-place.invariant)

pub returns : goal.returns
returns g c =
    let last : c.loop-place.place ≡ length c.args.trace.steps =
    (let n = ap (λ (l : List Step). length l) c.steps-steps.ensures.value in omega (arith, n)) in
    record {
      trace_is = refl;
      done_is = refl;
      replayed = run_ends g.B.Tells.making g.B.Machine.Machine.stands c.args.trace
          c.loop-place.takens.items c.loop-place.machine (rw last at c.loop-place.invariant);
    }
