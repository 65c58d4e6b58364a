use Rattle.std.proofs.Common.{◌≡◌, ◌∙◌, ap, sym, subst, pos, Ok, rules}
use Rattle.std.specs.Int.{w64}
use Rattle.std.specs.Int.RustNames.{FitsSigned}
use Rattle.std.proofs.lemmas.Int.{to_z-of_z}
use Rattle.kx_partition.specs.Reply.{page_in}
use Rattle.kx_processor.specs.Internal.{left_of, stage_of}
use Rattle.kx_processor.specs.Running.{processing_of}
use Rattle.kx_processor.proofs.Steps.{running}
use Rattle.kx_processor.proofs.Told.{at_page, has_page}
use Rattle.kx_system.specs.Processor.{fetched, from_offset}
use Rattle.kx_processor.proofs.processor.Processor.paged.Goals as goal

pub returns-in_ok-behind-in-Ok-clause-ok : goal.returns-in_ok-behind-in-Ok-clause-ok
returns-in_ok-behind-in-Ok-clause-ok g c =
    let at = c.in-Fetching in
    let reply = c.args.reply.now in
    let inside = c.self.inside in
    let here = running inside.group inside.inputs inside.process (stage_of inside.stage)
    inside.client in
    let offset_fits : FitsSigned w64 at.offset = search rules in
    let from_fits : FitsSigned w64 c.from_of.result = search rules in
    let page_is : page_in (pos (from_offset at.offset)) reply ≡ Ok c.in-Ok.page =
    ap (λ from. page_in from reply)
    (sym (to_z-of_z w64 c.from_of.result from_fits ∙ c.from_of.ensures
    ∙ ap (λ offset. pos (from_offset offset)) (to_z-of_z w64 at.offset offset_fits)))
    ∙ c.in-Ok.ensures in (
      has_page reply (pos (from_offset at.offset)) c.in-Ok.page page_is,
      subst (λ r. stage_of c.in_ok-behind-in-Ok.field-0
          ≡ fetched (processing_of g.P.Process.image_of r) r.stage reply) c.self.view_is
          (c.in_ok-behind-in-Ok.ensures at.offset
          ∙ at_page (processing_of g.P.Process.image_of here) reply c.in-Ok.page at.input
          (left_of at.left) at.offset (ap stage_of at.is) page_is),
    )
