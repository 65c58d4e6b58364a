use Rattle.std.proofs.Common.{◌∙◌, ◌++◌, ℕ, List, ap, w16}
use Rattle.std.specs.Prelude.{codes}
use Rattle.std.proofs.lemmas.Int.{to_z-of_z}
use Rattle.std.proofs.lemmas.Result.{IfOk-weaker}
use Rattle.kx_notices.proofs.Joined.{joined}
use Rattle.kx_notices.specs.Texts.{signed_text}
use Rattle.kx_notices.proofs.line.put_api.Goals as goal

pub returns : goal.returns
returns c =
    let old = c.args.out.now.items in
    let key = signed_text c.args.key in
    let same = ap signed_text (to_z-of_z w16 c.args.key c.ranges.key) in
    let e0 = joined old (codes "API ") (key) _ _ c.in_ok-put.ensures (c.in_ok-put_signed.ensures
    ∙ ap (λ (t : List ℕ). c.put.new.out.items ++ t) same) in
    IfOk-weaker c.put-2.result _ _
    (λ u e. joined old (codes "API " ++ key) (codes " isn't served") _ _ e0 (e)) c.put-2.ensures
