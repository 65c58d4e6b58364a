use Rattle.std.proofs.Common.{◌≡◌, ◌∙◌, map, ap}
use Rattle.std.proofs.lemmas.Result.{IfOk-weaker}
use Rattle.kx_cluster.specs.Any.{any_state}
use Rattle.kx_demo.specs.Counting.{AreCommitted, IsThere, committed_in, texts, value_of}
use Rattle.kx_model.specs.Reading.{committed_of}
use Rattle.kx_processor.specs.Prefixed.{images_of}
use Rattle.kx_demo.proofs.WholePage.{gets_whole}
use Rattle.kx_demo.proofs.counting.values_in.Goals as goal

pub returns-in-Ok : goal.returns-in-Ok
returns-in-Ok c =
    IfOk-weaker c.values_of.result
    (λ values. texts values.items ≡ map value_of (committed_of c.in-Ok.page))
    (λ values. AreCommitted (any_state images_of) c.args.run.now c.args.number
    (texts values.items))
    (λ values are. IsThere c.in-Some.server.now c.in-Some.ensures.some
    (are ∙ gets_whole c.partition.result.now.batches c.in-Ok.page c.in-Ok.ensures.answer
    ∙ ap (λ log. committed_in log.batches) c.partition.ensures.value))
    c.values_of.ensures
