use Rattle.std.proofs.Common.{◌∙◌, ◌++◌, ℕ, List, ap}
use Rattle.std.specs.Prelude.{codes}
use Rattle.std.proofs.lemmas.Result.{IfOk-weaker}
use Rattle.kx_notices.proofs.Joined.{joined}
use Rattle.kx_notices.specs.Texts.{connection_text, escaped}
use Rattle.kx_notices.proofs.line.put_opened.Goals as goal

pub returns : goal.returns
returns c =
    let old = c.args.out.now.items in
    let number = connection_text c.args.connection in
    let from = escaped c.args.from.now.bytes.items in
    let e0 = joined old (number) (codes " from ") _ _ c.in_ok-put_connection.ensures (c.in_ok-put.ensures) in
    let e1 = joined old (number ++ codes " from ") (from) _ _ e0 (c.in_ok-put_escaped.ensures
    ∙ ap (λ (b : List ℕ). c.put.new.out.items ++ escaped b) c.as_slice.ensures.value) in
    IfOk-weaker c.put-2.result _ _
    (λ u e. joined old (number ++ codes " from " ++ from) (codes " opened") _ _ e1 (e)) c.put-2.ensures
