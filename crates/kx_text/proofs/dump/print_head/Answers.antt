use Rattle.std.proofs.Common.{◌≡◌, ◌++◌, ℕ, List, subst, arith, append_assoc}
use Rattle.std.specs.Prelude.{OnOk, codes, decimal, length}
use Rattle.std.specs.Fmt.{signed_decimal}
use Rattle.std.specs.Io.KnownBytes.{Appends}
use Rattle.std.proofs.lemmas.Result.{on_ok_weaker}
use Rattle.std.proofs.lemmas.Grind.{common_steps}
use Rattle.std.proofs.KnownBytes.{Appends-trans}
use Rattle.kx_text.specs.Dump.{kind_of, producer_text}
use Rattle.kx_text.specs.Pages.{newline}
use Rattle.kx_text.proofs.dump.print_head.Goals as goal

joined : (x y z w : List ℕ) → x ++ (y ++ z ++ w) ≡ x ++ y ++ z ++ w
joined x y z w = simp append_assoc

pub returns : goal.returns
returns g c =
    let batch = c.args.batch.now.batch in
    let old = g.W.Write.contents c.args.line.now in
    let a = g.W.Write.contents c.write.new.self in
    let b = g.W.Write.contents c.print_producer.new.line in
    let new = g.W.Write.contents c.writeln.new.self in
    let front = codes "batch " ++ signed_decimal batch.base_offset ++ codes " "
    ++ decimal (length batch.records) ++ codes " " in
    let first : Appends old a front = grind (arith, common_steps) in
    let second = Appends-trans old a b front (producer_text batch) first
    c.in_ok-print_producer.ensures in
    let last : OnOk c.writeln.result (Appends b new (codes " " ++ kind_of batch ++ newline)) =
    grind (arith, common_steps) in
    on_ok_weaker c.writeln.result (λ h. subst (Appends old new)
    (joined (front ++ producer_text batch) (codes " ") (kind_of batch) newline)
    (Appends-trans old b new (front ++ producer_text batch)
    (codes " " ++ kind_of batch ++ newline) second h)) last
