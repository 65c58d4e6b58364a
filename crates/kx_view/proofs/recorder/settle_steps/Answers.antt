use Rattle.std.proofs.Common.{◌∙◌, ap, arith}
use Rattle.std.proofs.Math.Seq.{map-set_same}
use Rattle.std.proofs.lemmas.List.{length-set}
use Rattle.kx_view.specs.Recording.{words_of}
use Rattle.kx_view.proofs.recorder.settle_steps.Goals as goal

pub loop-number-preserved : goal.loop-number-preserved
loop-number-preserved c =
    let steps = c.loop-number.steps.items in
    let before = c.index_mut.result.now in
    let after = c.settle_step.new.step in
    let same = c.settle_step.ensures ∙ ap words_of c.index_mut.ensures.value in (
      map-set_same words_of steps c.loop-number.number after before same
          ∙ c.loop-number.invariant.0,
      omega (arith, c.loop-number.invariant.1, length-set steps c.loop-number.number after),
    )
