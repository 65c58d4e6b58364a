use Rattle.std.proofs.Common.{◌≡◌, ◌∙◌, ℤ, Some, Bool, true, inl, subst, sym}
use Rattle.std.specs.Int.{w64}
use Rattle.std.specs.Io.KnownBytes.{Appends}
use Rattle.std.proofs.lemmas.Int.{to_z-of_z}
use Rattle.kx_model.specs.Page.{fetched}
use Rattle.kx_model.specs.World.{log_at}
use Rattle.kx_text.specs.Lines.{fetched_text}
use Rattle.kx_text.proofs.Performing.{holds_at_ok}
use Rattle.kx_script.specs.Script.{fetches}
use Rattle.kx_script.specs.Session.{has_partition}
use Rattle.kx_script.proofs.Performing.{page_shown, refusal_shown, shows_page}
use Rattle.kx_script.proofs.session.fetch.Goals as goal

pub returns-in_ok-show-in-Ok : goal.returns-in_ok-show-in-Ok
returns-in_ok-show-in-Ok g c = λ s st.
    let old = g.W.Write.contents c.args.writer.now in
    let new = g.W.Write.contents c.show.new.writer in
    let p = c.args.partition in
    let mode = c.args.mode in
    let log = log_at s.system.world p in
    let there : has_partition s.system.world p ≡ true =
    sym (c.has_partition.ensures s.system st.0) ∙ c.if-not-has_partition.false in
    let shown = page_shown _ mode _ c.in-Ok.page old new (c.in-Ok.ensures s.system st.0)
    c.in_ok-show-in-Ok.ensures in (
      fetches s p c.args.from mode c.args.max,
      Some s,
      inl (shows_page s p c.args.from mode c.args.max there),
      st,
      subst (λ (b : Bool). Appends old new
          (fetched_text c.args.from mode (fetched log c.args.from c.args.max b)))
          c.is_committed.ensures
          (subst (λ (z : ℤ). Appends old new (fetched_text z mode
          (fetched log z c.args.max c.is_committed.result)))
          (to_z-of_z w64 c.args.from c.ranges.from) shown),
    )

pub returns-in_ok-written-in-Err-Refused : goal.returns-in_ok-written-in-Err-Refused
returns-in_ok-written-in-Err-Refused g c = λ s st.
    let old = g.W.Write.contents c.args.writer.now in
    let new = g.W.Write.contents c.write_refusal.new.writer in
    let p = c.args.partition in
    let mode = c.args.mode in
    let log = log_at s.system.world p in
    let there : has_partition s.system.world p ≡ true =
    sym (c.has_partition.ensures s.system st.0) ∙ c.if-not-has_partition.false in
    let refused = rw c.in-Err-Refused.field-0-is at (c.in-Err-Refused.ensures s.system st.0) in
    let written = holds_at_ok c.write_refusal.result c.in_ok-written-in-Err-Refused.ensures
    c.write_refusal.ensures in (
      fetches s p c.args.from mode c.args.max,
      Some s,
      inl (shows_page s p c.args.from mode c.args.max there),
      st,
      subst (λ (b : Bool). Appends old new
          (fetched_text c.args.from mode (fetched log c.args.from c.args.max b)))
          c.is_committed.ensures
          (subst (λ (z : ℤ). Appends old new (fetched_text z mode
          (fetched log z c.args.max c.is_committed.result)))
          (to_z-of_z w64 c.args.from c.ranges.from)
          (refusal_shown _ mode _ c.in-Err-Refused.code old new refused
          (rw c.in-Err-Refused.field-0-is at written))),
    )
