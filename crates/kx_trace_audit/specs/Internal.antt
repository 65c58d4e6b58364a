-- What this crate's own functions ensure; no contract of a public call names it.
use Rattle.std.specs.Prelude.{◌≡◌, ℕ, Bool, List}
use Rattle.kx_trace.specs.Records.{Record}
use Rattle.kx_trace_audit.specs.Items.{Begins}
use Rattle.kx_trace_audit.specs.Lookahead.{is_restart, told_by}
use Rattle.kx_trace_audit.specs.declared.lookahead.Looked.{Looked}

-- what the record at the front tells of an entry after a log of this length
pub record LooksAt (log_len : ℕ) (restarts : Bool) (bytes : List ℕ) (looked : Looked)
    : Type 0 where
  pub next : Record
  pub begins : Begins bytes next looked.len
  pub told_is : looked.told ≡ told_by log_len restarts next
  pub restarts_is : looked.restarts ≡ is_restart next
