use Rattle.std.proofs.Common.{◌≡◌, Some, true, sym, ap, ◌∙◌, inl}
use Rattle.kx_script.specs.Printing.{dash_text}
use Rattle.kx_script.specs.Session.{has_node, with_mark}
use Rattle.kx_script.specs.declared.marks.Marks.{Marks}
use Rattle.kx_text.proofs.Performing.{holds_at_ok}
use Rattle.kx_script.proofs.Performing.{lets_fail}
use Rattle.kx_script.proofs.session.fail.Goals as goal

pub returns : goal.returns
returns g c = λ s st.
    let place = c.args.place.now in
    let there : has_node s.system.world place ≡ true =
    sym (c.has_node.ensures s.system st.0) ∙ c.if-not-has_node.false in (
      dash_text,
      Some (record s { marks = with_mark s.marks place (Some c.args.left) }),
      inl (lets_fail s place c.args.left there),
      (st.0, c.set.ensures ∙ ap (λ (m : Marks). with_mark m place (Some c.args.left)) st.1),
      holds_at_ok c.write_dash.result c.in_ok-written.ensures c.write_dash.ensures,
    )
