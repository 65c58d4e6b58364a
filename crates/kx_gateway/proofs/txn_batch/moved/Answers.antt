use Rattle.std.proofs.Common.{◌≡◌, ◌∙◌, List, ℕ, ap, arith, length, FitsSigned, w16, w32, w64}
use Rattle.std.proofs.lemmas.Int.{to_z-of_z}
use Rattle.kx_batch.specs.Producer.{with_producer}
use Rattle.kx_gateway.proofs.Sent.{in_place}
use Rattle.kx_gateway.proofs.txn_batch.moved.Goals as goal

pub returns : goal.returns
returns c =
    let fits : FitsSigned w32 c.args.first = c.ranges.first in
    let fits_id : FitsSigned w64 c.args.id = c.ranges.id in
    let fits_epoch : FitsSigned w16 c.args.epoch = c.ranges.epoch in
    let same : length c.in_ok-moved.moved.items ≡ c.in_ok-moved.moved.len =
    omega (arith, ap length c.in_ok-moved.ensures.items, c.in_ok-moved.ensures.len) in
    let size : length c.set_producer.new.text ≡ c.in_ok-moved.moved.len =
    omega (arith, c.set_producer.auto.text, ap length c.deref_mut.ensures.value, same) in
    let written = simp to_z-of_z at c.set_producer.ensures.written in
    in_place c.in_ok-moved.moved.len c.set_producer.new.text c.in_ok-moved.moved.items size same
    ∙ written
    ∙ ap (λ (t : List ℕ). with_producer c.args.id c.args.epoch c.args.first t)
    (c.deref_mut.ensures.value ∙ c.in_ok-moved.ensures.items)
