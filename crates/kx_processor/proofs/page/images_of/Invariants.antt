use Rattle.std.proofs.Common.{◌≡◌, map}
use Rattle.kx_model.specs.Reading.{committed_of}
use Rattle.kx_reader.specs.Pairs.{pairs}
use Rattle.kx_system.specs.Processor.{batches_of}
use Rattle.kx_processor.proofs.PageImages.{filled}
use Rattle.kx_processor.proofs.page.images_of.Given as goal

abbrev pub invariant-loop-of : goal.invariant-loop-of
invariant-loop-of g l =
    filled (g.P.Process.image_of l.fn.process) l.batches.items (pairs l.of-iterator)
    ≡ batches_of (map (λ s. g.P.Process.image_of l.fn.process s.shown) (committed_of l.fn.page))
