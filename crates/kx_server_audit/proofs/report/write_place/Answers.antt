use Rattle.std.proofs.Common.{[], subst, sym}
use Rattle.std.proofs.lemmas.Result.{on_ok_weaker}
use Rattle.std.specs.Io.KnownBytes.{Appends}
use Rattle.kx_server_audit.specs.Lines.{place_text}
use Rattle.kx_server_audit.specs.declared.denial.Denial.{Denial}
use Rattle.kx_server_audit.proofs.report.write_place.Goals as goal

pub returns-in-OtherNode : goal.returns-in-OtherNode
returns-in-OtherNode g c = on_ok_weaker c.write_file.result (λ written. (
  [],
  subst (λ (d : Denial). Appends (g.W.Write.contents c.args.out.now)
      (g.W.Write.contents c.write_file.new.out) (place_text d [])) (sym c.in-OtherNode.is) written,
)) c.write_file.ensures
