use Rattle.std.proofs.Common.{ap, sym, ◌∙◌, refl, List, ℕ}
use Rattle.kx_batch.specs.Batch.{batch_at, batch_of}
use Rattle.kx_model.specs.Log.{entry_in}
use Rattle.kx_model.specs.Verification.{pair_in}
use Rattle.kx_verify.specs.Request.{is_one_sequenced}
use Rattle.kx_verify.proofs.request.Request.of_produce.Goals as goal

pub invariant_of-result : goal.invariant_of-result
invariant_of-result c = record {
  own = ap (λ (text : List ℕ). pair_in (entry_in (batch_of text))) (sym c.as_slice.ensures)
      ∙ c.in-Some.ensures.1;
  fits = tt;
}

pub returns-in-Some : goal.returns-in-Some
returns-in-Some c = (
  record { request = refl; held = (invariant_of-result c).own },
  ap (λ (text : List ℕ). is_one_sequenced (batch_at text)) (sym c.as_slice.ensures)
      ∙ c.in-Some.ensures.0,
)
