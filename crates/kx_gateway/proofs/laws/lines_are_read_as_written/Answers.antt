use Rattle.std.proofs.Common.{◌≡◌, ◌∙◌, [], length, sym, ap, lit≤}
use Rattle.kx_gateway.specs.TableFile.{table_text}
use Rattle.kx_gateway.proofs.Lines.{lines_again, none_bad}
use Rattle.kx_gateway.proofs.laws.lines_are_read_as_written.Goals as goal

pub returns-clause-again : goal.returns-clause-again
returns-clause-again c = λ text table found torn len h f whole is lines.
    let same : found ≡ table =
    lines_again [] found table lines.0 torn (lit≤ tt) f h lines.3 whole (sym lines.1 ∙ is) in
    (same, lines.2 ∙ ap (λ t. length (table_text t)) same)

pub returns-clause-whole : goal.returns-clause-whole
returns-clause-whole c = λ text table torn number h whole is bad.
    none_bad [] table bad.table torn bad.line bad.rest (lit≤ tt) h bad.before whole bad.whole
    (sym is ∙ bad.parts) bad.bad
