use Rattle.std.proofs.Common.{◌++◌, [], Option, subst, sym}
use Rattle.std.specs.Prelude.{codes}
use Rattle.std.specs.Io.KnownBytes.{Appends}
use Rattle.std.proofs.KnownBytes.{Appends-trans}
use Rattle.std.proofs.lemmas.Result.{on_ok_weaker}
use Rattle.kx_server_audit.specs.Lines.{counts_text, denial_text, verdict_text}
use Rattle.kx_server_audit.specs.declared.denial.Denial.{Denial}
use Rattle.kx_server_audit.proofs.report.write_findings.Goals as goal

pub returns-in-None : goal.returns-in-None
returns-in-None g c =
    let old = g.W.Write.contents c.args.out.now in
    let new = g.W.Write.contents c.write_yes.new.out in
    let counted = counts_text c.args.findings.now.counts c.args.findings.now.transactions in
    on_ok_weaker c.write_yes.result (λ yes. (
      [],
      subst (λ (d : Option Denial). Appends old new (counted ++ verdict_text d []))
          (sym c.in-None.is)
          (Appends-trans old (g.W.Write.contents c.write_counts.new.out) new counted
          (codes "audit yes\n") c.in_ok-write_counts.ensures yes),
    )) c.write_yes.ensures

pub returns-in-Some : goal.returns-in-Some
returns-in-Some g c =
    let old = g.W.Write.contents c.args.out.now in
    let new = g.W.Write.contents c.write_no.new.out in
    let counted = counts_text c.args.findings.now.counts c.args.findings.now.transactions in
    let denial = c.in-Some.denial in
    on_ok_weaker c.write_no.result (λ said. (
      said.0,
      subst (λ (d : Option Denial). Appends old new (counted ++ verdict_text d said.0))
          (sym c.in-Some.is)
          (Appends-trans old (g.W.Write.contents c.write_counts.new.out) new counted
          (denial_text denial said.0) c.in_ok-write_counts.ensures said.1),
    )) c.write_no.ensures
