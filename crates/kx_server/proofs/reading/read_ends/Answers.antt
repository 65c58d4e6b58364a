use Rattle.std.proofs.Common.{rules, ◌∙◌, sym, subst}
use Rattle.std.specs.Int.{w64}
use Rattle.std.proofs.lemmas.Int.{to_z-of_z}
use Rattle.kx_published.specs.History.{EndsIn}
use Rattle.kx_published.specs.declared.known.Known.{Known}
use Rattle.kx_server.proofs.Stable.{stable_answered}
use Rattle.kx_server.proofs.reading.read_ends.Goals as goal

-- src/reading.rt:65:1
pub returns : goal.returns
returns g c =
    let log = c.in-Ok.published.copy.now.partition.batches in record {
      log = log;
      last = subst (λ (k : Known). EndsIn k.logs log) (sym c.seen.ensures) c.in-Ok.ensures.last;
      partition_is = search rules;
      end_is = to_z-of_z w64 c.end-end.result (search rules) ∙ c.end-end.ensures.value;
      lso_is = to_z-of_z w64 c.last_stable_offset.result (search rules)
          ∙ c.last_stable_offset.ensures
          ∙ stable_answered log _ _ _ c.in-Ok-page.page c.in-Ok-page.ensures.answer;
    }
