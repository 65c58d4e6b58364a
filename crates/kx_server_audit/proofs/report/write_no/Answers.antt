use Rattle.std.proofs.Common.{rules, ◌≡◌, ℕ, subst}
use Rattle.std.specs.Prelude.{codes}
use Rattle.std.specs.Io.KnownBytes.{Appends}
use Rattle.std.proofs.KnownBytes.{Appends-trans}
use Rattle.std.proofs.lemmas.Result.{on_ok_weaker}
use Rattle.kx_server_audit.specs.Denials.{denial_number}
use Rattle.kx_server_audit.specs.Lines.{line, place_text}
use Rattle.kx_server_audit.proofs.report.write_no.Goals as goal

pub returns : goal.returns
returns g c =
    let old = g.W.Write.contents c.args.out.now in
    let between = g.W.Write.contents c.write_line.new.out in
    let denial = c.args.denial.now in
    let number : c.from.result ≡ denial_number denial = search rules in
    let first = subst (λ (n : ℕ). Appends old between (line (codes "audit no") n)) number
    c.in_ok-write_line.ensures in
    on_ok_weaker c.write_place.result (λ said. (
      said.0,
      Appends-trans old between (g.W.Write.contents c.write_place.new.out)
          (line (codes "audit no") (denial_number denial)) (place_text denial said.0) first said.1,
    )) c.write_place.ensures
