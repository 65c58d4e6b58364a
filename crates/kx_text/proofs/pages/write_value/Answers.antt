use Rattle.std.proofs.Common.{◌≡◌, ◌∙◌, ◌++◌, ℕ, ℤ, List, [], Option, None, Some, ap, refl, subst}
use Rattle.std.specs.Int.{w128}
use Rattle.std.specs.Prelude.{codes, option_map}
use Rattle.std.specs.Option.{unwrap_or}
use Rattle.std.specs.Fmt.{signed_decimal}
use Rattle.std.specs.Io.KnownBytes.{Appends}
use Rattle.std.proofs.lemmas.Int.{to_z-of_z}
use Rattle.std.proofs.lemmas.Result.{on_ok_weaker}
use Rattle.std.proofs.KnownBytes.{Appends-trans}
use Rattle.kx_text.specs.Pages.{newline, value_text}
use Rattle.kx_text.proofs.pages.write_value.Goals as goal

text_is : {B : Type 0} (value : Option B) (default given : B) (text : B → List ℕ)
    → given ≡ unwrap_or value default → text default ≡ []
    → text given ≡ value_text (option_map text value)
text_is None default given text given_is empty = ap text given_is ∙ empty
text_is (Some b) default given text given_is empty = ap text given_is

pub returns : goal.returns
returns g c =
    let old = g.W.Write.contents c.args.writer.now in
    let mid = g.W.Write.contents c.write.new.self in
    let late = g.W.Write.contents c.write_all.new.self in
    let new = g.W.Write.contents c.write_all-2.new.self in
    let front = signed_decimal c.args.offset ++ codes " " in
    let value = value_text (option_map (λ s. s.now) c.args.value) in
    let first : Appends old mid front =
    subst (λ (z : ℤ). Appends old mid (signed_decimal z ++ codes " "))
    (to_z-of_z w128 c.args.offset c.ranges.offset) c.in_ok-write.ensures.bytes in
    let second : Appends mid late value =
    subst (Appends mid late)
    (text_is c.args.value _ c.unwrap_or.result (λ s. s.now) c.unwrap_or.ensures refl)
    c.in_ok-write_all.ensures.bytes in
    on_ok_weaker c.write_all-2.result (Appends-trans old late new (front ++ value) newline
    (Appends-trans old mid late front value first second)) c.write_all-2.ensures.bytes
