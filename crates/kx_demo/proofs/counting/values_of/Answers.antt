use Rattle.std.proofs.Common.{◌∙◌, map}
use Rattle.kx_model.specs.Reading.{committed_of}
use Rattle.kx_reader.specs.Pairs.{pairs}
use Rattle.kx_demo.specs.Counting.{value_of}
use Rattle.kx_demo.proofs.Doubling as values
use Rattle.kx_demo.proofs.counting.values_of.Goals as goal

pub loop-shown-init : goal.loop-shown-init
loop-shown-init c =
    values.begins c.new-values.result.items c.into_iter-shown-iterator.result
    (committed_of c.args.page) c.new-values.ensures.items
    (c.into_iter-shown-iterator.ensures.into_iter_gives ∙ c.in_ok-items.ensures)

pub loop-shown-preserved : goal.loop-shown-preserved
loop-shown-preserved c =
    values.goes_on c.loop-shown.values.items c.push.new.self.items
    (pairs c.loop-shown.shown-iterator) (pairs c.next.new.self) c.in-Some.field-0-0
    c.in-Some.shown c.value_in.result (map value_of (committed_of c.args.page))
    c.loop-shown.invariant c.in-Some.ensures.steps c.value_in.ensures c.in_ok-push.ensures.items

pub returns : goal.returns
returns c =
    values.ends c.loop-shown.values.items (map value_of (committed_of c.args.page))
    (pairs c.loop-shown.shown-iterator) c.loop-shown.invariant c.in-None.ensures.steps.0
