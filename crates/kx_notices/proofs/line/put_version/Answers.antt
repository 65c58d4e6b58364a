use Rattle.std.proofs.Common.{◌∙◌, ◌++◌, ℕ, List, ap, ap₂, w16}
use Rattle.std.specs.Prelude.{codes}
use Rattle.std.proofs.lemmas.Int.{to_z-of_z}
use Rattle.std.proofs.lemmas.Result.{IfOk-weaker}
use Rattle.kx_notices.proofs.Joined.{joined}
use Rattle.kx_notices.specs.Texts.{escaped, range_text, signed_text}
use Rattle.kx_notices.proofs.line.put_version.Goals as goal

pub returns : goal.returns
returns c =
    let old = c.args.out.now.items in
    let api = escaped c.args.api.now.bytes.items in
    let version = signed_text c.args.version in
    let ends = ap₂ range_text (to_z-of_z w16 c.args.least c.ranges.least)
    (to_z-of_z w16 c.args.greatest c.ranges.greatest) in
    let same = ap signed_text (to_z-of_z w16 c.args.version c.ranges.version) in
    let e0 = joined old (api) (codes " version ") _ _ (c.in_ok-put_escaped.ensures
    ∙ ap (λ (b : List ℕ). old ++ escaped b) c.as_slice.ensures.value) (c.in_ok-put.ensures) in
    let e1 = joined old (api ++ codes " version ") (version) _ _ e0 (c.in_ok-put_signed.ensures
    ∙ ap (λ (t : List ℕ). c.put.new.out.items ++ t) same) in
    let e2 = joined old (api ++ codes " version " ++ version) (codes " isn't served, ") _ _ e1 (c.in_ok-put-2.ensures) in
    IfOk-weaker c.put_range.result _ _
    (λ u e. joined old (api ++ codes " version " ++ version ++ codes " isn't served, ") (range_text c.args.least c.args.greatest) _ _ e2
    (e ∙ ap (λ (t : List ℕ). c.put-2.new.out.items ++ t) ends)) c.put_range.ensures
