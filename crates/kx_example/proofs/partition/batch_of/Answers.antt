use Rattle.std.proofs.Common.{[], pos, rules, Some, ◌∙◌}
use Rattle.std.specs.Int.{w16, w32, w64}
use Rattle.std.specs.Int.RustNames.{FitsSigned}
use Rattle.std.proofs.lemmas.Int.{to_z-of_z}
use Rattle.kx_example.proofs.Answers.{if_ok, spells_one}
use Rattle.kx_example.proofs.partition.batch_of.Goals as goal

pub returns : goal.returns
returns c =
    let id : FitsSigned w64 c.get-id.result = search rules in
    let epoch : FitsSigned w16 c.get-epoch.result = search rules in
    let starts = c.new-builder.ensures ∙ λ i. record {
      attributes = pos 16;
      producer_id = (to_z-of_z w64 c.get-id.result id ∙ c.get-id.ensures.value) i;
      producer_epoch = (to_z-of_z w16 c.get-epoch.result epoch ∙ c.get-epoch.ensures.value) i;
      base_sequence = to_z-of_z w32 c.args.first c.ranges.first i;
      records = Some [];
    } in
    if_ok c.into_text.result _ c.into_text.ensures
    (λ text. spells_one c.args.held c.args.first c.args.value.now text.items c.new-builder.result
    c.push.new.self starts c.in_ok-push.ensures.ok)
