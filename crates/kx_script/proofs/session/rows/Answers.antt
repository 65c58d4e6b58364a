use Rattle.std.proofs.Common.{List, Some, inl, sym, ap}
use Rattle.kx_model.specs.Coordinator.{Row}
use Rattle.kx_script.specs.Printing.{rows_text}
use Rattle.kx_text.proofs.Performing.{holds_at_ok}
use Rattle.kx_script.proofs.session.rows.Goals as goal

pub returns : goal.returns
returns g c = λ s st. (
  rows_text _,
  Some s,
  inl (ap (λ (rs : List Row). Some (rows_text rs, Some s)) (sym (c.rows.ensures s.system st.0))),
  st,
  holds_at_ok c.write_rows.result c.in_ok-written.ensures c.write_rows.ensures,
)
