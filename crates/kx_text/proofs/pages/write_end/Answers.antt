use Rattle.std.proofs.Common.{◌≡◌, ◌++◌, ℕ, List, sym, ◌∙◌, subst, append_assoc}
use Rattle.std.specs.Prelude.{OnOk, codes}
use Rattle.std.specs.Fmt.{signed_decimal}
use Rattle.std.specs.Int.{w64}
use Rattle.std.specs.Io.KnownBytes.{Appends}
use Rattle.std.proofs.lemmas.Int.{to_z-of_z}
use Rattle.kx_text.specs.Pages.{newline}
use Rattle.kx_text.proofs.pages.write_end.Goals as goal

-- seven texts in a row, put together from the back and from the front
in_a_row : (a b c d e f g : List ℕ)
    → a ++ (b ++ (c ++ (d ++ (e ++ (f ++ g))))) ≡ (((((a ++ b) ++ c) ++ d) ++ e) ++ f) ++ g
in_a_row a b c d e f g =
    sym (append_assoc ((((a ++ b) ++ c) ++ d) ++ e) f g
    ∙ append_assoc (((a ++ b) ++ c) ++ d) e (f ++ g)
    ∙ append_assoc ((a ++ b) ++ c) d (e ++ (f ++ g))
    ∙ append_assoc (a ++ b) c (d ++ (e ++ (f ++ g)))
    ∙ append_assoc a b (c ++ (d ++ (e ++ (f ++ g)))))

pub returns : goal.returns
returns g c =
    subst (λ (text : List ℕ). OnOk c.writeln.result (Appends (g.W.Write.contents c.args.writer.now)
    (g.W.Write.contents c.writeln.new.self) text))
    (in_a_row (codes "next ") (signed_decimal c.args.next) (codes " lso ")
    (signed_decimal c.args.stable) (codes " end ") (signed_decimal c.args.end) newline)
    (rw (to_z-of_z w64 c.args.next c.ranges.next) at
    (rw (to_z-of_z w64 c.args.stable c.ranges.stable) at
    (rw (to_z-of_z w64 c.args.end c.ranges.end) at c.writeln.ensures.bytes)))
