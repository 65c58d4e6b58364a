use Rattle.std.proofs.Common.{◌++◌, ◌∷◌, [], ◌∙◌, List, ℕ, ap, sym}
use Rattle.std.specs.Prelude.{is_some}
use Rattle.kx_batch.specs.Build.{within_limit}
use Rattle.kx_client.proofs.Sizes.{more_pass, one_fits}
use Rattle.kx_model.specs.Client.{value_records}
use Rattle.kx_client.proofs.values.Values.fit_with.Goals as goal

pub returns-in_default : goal.returns-in_default
returns-in_default c =
    let old = c.args.self.now in
    sym (more_pass (old.first ∷ old.more) (c.args.value.now ∷ []) c.in_default.ensures)

pub returns : goal.returns
returns c =
    let old = c.args.self.now in
    c.is_some.ensures
    ∙ one_fits (old.first ∷ old.more) c.as_slice.result.now c.in-Some.len c.count.result
    c.in-Some.ensures c.count.ensures c.with_record.result c.with_record.ensures
    ∙ ap (λ (x : List ℕ). is_some (within_limit (value_records (old.first ∷ old.more ++ x ∷ []))))
    c.as_slice.ensures
