use Rattle.std.proofs.Common.{◌≡◌, Some, true, ℤ, inl, subst, sym, ◌∙◌, rules}
use Rattle.std.specs.Int.{w64}
use Rattle.std.specs.Io.KnownBytes.{Appends}
use Rattle.std.proofs.lemmas.Int.{to_z-of_z}
use Rattle.kx_script.specs.Printing.{group_text}
use Rattle.kx_script.specs.Script.{offset_text}
use Rattle.kx_script.specs.Session.{has_partition}
use Rattle.kx_script.proofs.Performing.{shows_offset}
use Rattle.kx_text.proofs.Performing.{holds_at_ok}
use Rattle.kx_script.proofs.session.offset.Goals as goal

pub returns : goal.returns
returns g c = λ s st.
    let there : has_partition s.system.world c.args.partition ≡ true =
    sym (c.has_partition.ensures s.system st.0) ∙ c.if-not-has_partition.false in (
      offset_text (record { code = c.committed_offset-code.result.0; offset = c.committed_offset-code.result.1 }),
      Some s,
      inl (shows_offset s c.args.group c.args.partition c.args.stable _ there
          (c.committed_offset-code.ensures.answer s.system st.0)),
      st,
      subst (λ (z : ℤ). Appends (g.W.Write.contents c.args.writer.now)
          (g.W.Write.contents c.write_group.new.writer) (group_text c.committed_offset-code.result.0 z))
          (to_z-of_z w64 c.committed_offset-code.result.1 (search rules))
          (holds_at_ok c.write_group.result c.in_ok-written.ensures c.write_group.ensures),
    )
