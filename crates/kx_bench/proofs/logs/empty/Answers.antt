use Rattle.std.proofs.Common.{◌≡◌, [], sym, subst, ◌∙◌}
use Rattle.std.specs.Prelude.{IfSome}
use Rattle.kx_bench.proofs.Appending.{new_log}
use Rattle.kx_bench.proofs.logs.empty.Goals as goal

pub returns : goal.returns
returns c = subst (λ r. IfSome r (λ log. log.batches ≡ [])) (sym c.ok.ensures.value)
    (new_log c.rebuild.result _ _ (c.new-2.ensures ∙ c.new.ensures.items) c.rebuild.ensures)
