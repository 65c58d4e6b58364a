use Rattle.std.proofs.Common.{◌∙◌, ◌++◌, ℕ, List, ap}
use Rattle.std.specs.Prelude.{codes}
use Rattle.std.proofs.lemmas.Result.{IfOk-weaker}
use Rattle.kx_notices.proofs.Joined.{joined}
use Rattle.kx_notices.specs.Texts.{closing_words, connection_text}
use Rattle.kx_notices.proofs.line.put_closed.Goals as goal

pub returns : goal.returns
returns c =
    let old = c.args.out.now.items in
    let number = connection_text c.args.connection in
    let e0 = joined old (number) (codes " closed: ") _ _ c.in_ok-put_connection.ensures (c.in_ok-put.ensures) in
    IfOk-weaker c.put-2.result _ _
    (λ u e. joined old (number ++ codes " closed: ") (closing_words c.args.why) _ _ e0 (e ∙ ap (λ (w : List ℕ). c.put.new.out.items ++ w) c.words.ensures)) c.put-2.ensures
