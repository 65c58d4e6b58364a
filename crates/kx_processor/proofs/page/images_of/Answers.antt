use Rattle.std.proofs.Common.{◌∙◌, map}
use Rattle.kx_model.specs.Reading.{committed_of}
use Rattle.kx_reader.specs.Pairs.{pairs}
use Rattle.kx_system.specs.Processor.{batches_of}
use Rattle.kx_processor.proofs.PageImages as image
use Rattle.kx_processor.proofs.page.images_of.Goals as goal

pub loop-of-init : goal.loop-of-init
loop-of-init g c =
    image.begins (g.P.Process.image_of c.args.process.now) c.new-batches.result.items
    c.into_iter-of-iterator.result (committed_of c.args.page) c.new-batches.ensures.items
    (c.into_iter-of-iterator.ensures.into_iter_gives ∙ c.in_ok-items.ensures)

pub loop-of-preserved : goal.loop-of-preserved
loop-of-preserved g c =
    let image_of = g.P.Process.image_of c.args.process.now in
    image.goes_on image_of c.loop-of.batches.items c.put.new.batches.items
    (pairs c.loop-of.of-iterator) (pairs c.next.new.self) c.in-Some.field-0-0 c.in-Some.of
    c.from_vec.result (batches_of (map (λ s. image_of s.shown) (committed_of c.args.page)))
    c.loop-of.invariant c.in-Some.ensures.steps (c.from_vec.ensures ∙ c.in_ok-image.ensures)
    c.in_ok-put.ensures

pub returns : goal.returns
returns g c =
    let image_of = g.P.Process.image_of c.args.process.now in
    image.ends image_of c.loop-of.batches.items
    (batches_of (map (λ s. image_of s.shown) (committed_of c.args.page)))
    (pairs c.loop-of.of-iterator) c.loop-of.invariant c.in-None.ensures.steps.0
