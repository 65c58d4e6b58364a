use Rattle.std.proofs.Common.{ap, rules, tests, ◌∙◌}
use Rattle.std.proofs.lemmas.Iterator.Consumers.{YieldsList-from_rest}
use Rattle.std.proofs.lemmas.Iterator.Search.{find_from_yields_List}
use Rattle.kx_producer.specs.Known.{Known}
use Rattle.kx_producer.specs.Verdicts.{has_sequences}
use Rattle.kx_producer.proofs.producer.Producer.batch_with.Goals as goal

pub returns : goal.returns
returns c =
    c.copied.ensures
    ∙ find_from_yields_List (has_sequences c.args.first c.args.last) _ _ c.find.result
    c.find.ensures.ran
    (YieldsList-from_rest c.args.self.now.remembered
    (c.iter.ensures.rest ∙ ap (λ (known : Known). known.remembered) c.self.view_is))
    (λ x b q k. search (rules, tests))
