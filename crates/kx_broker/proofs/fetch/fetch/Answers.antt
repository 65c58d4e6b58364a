use Rattle.std.proofs.Common.{◌≡◌, ℕ, ℤ, rules, subst}
use Rattle.std.specs.Int.{w64}
use Rattle.std.specs.Prelude.{min}
use Rattle.std.proofs.lemmas.Int.{to_z-of_z}
use Rattle.kx_batch.specs.Batch.{batch_limit}
use Rattle.kx_broker.proofs.Fetching.{filled, of_err}
use Rattle.kx_broker.specs.Fetching.{IsFetched, MayWantMemory}
use Rattle.kx_model.specs.Page.{fetched}
use mir.Val.{of_z, to_z}
use Rattle.kx_broker.proofs.fetch.fetch.Goals as goal

pub returns : goal.returns
returns g c =
    let it = c.args.it.now in
    let log = c.args.partition.now.batches in
    let from : to_z w64 (of_z w64 it.from) ≡ it.from = to_z-of_z w64 it.from (search rules) in
    let answer = fetched log it.from (min it.max batch_limit) it.committed in
    let is : IsFetched answer c.fetch-page.result =
    subst (λ (z : ℤ). IsFetched (fetched log z (min it.max batch_limit) it.committed)
    c.fetch-page.result) from
    (subst (λ (room : ℕ). IsFetched (fetched log (to_z w64 (of_z w64 it.from)) room it.committed)
    c.fetch-page.result) c.page_room.ensures c.fetch-page.ensures.answer) in
    record {
      ok = c.answer_fetch.ensures.defined answer is;
      memory = λ e.
          filled answer c.fetch-page.result is
          (of_err c.answer_fetch.result _ (MayWantMemory c.fetch-page.result) e
          c.answer_fetch.ensures.answer);
    }
