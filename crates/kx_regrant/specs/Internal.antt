-- What the code keeps of a log that it goes over once.
use Rattle.std.specs.Prelude.{ℕ, List, Option, Some, None, bytes_eq, if◌then◌else◌, option_map}
use Rattle.kx_message.specs.declared.message.Held.{Held}
use Rattle.kx_model.specs.Coordinator.{Row, TxnEntry, CoordinatorEpoch, Allot, Written, row_of}
use Rattle.kx_model.specs.Requests.{own_pair}
use Rattle.kx_grant.specs.Grant.{reopened}
use Rattle.kx_grant.specs.declared.grant.Grant.{Grant}
use Rattle.kx_regrant.specs.Regrant.{core_of, grant_row, grants, last_of}
use Rattle.kx_regrant.specs.declared.regrant.Last.{Last}
use Rattle.kx_regrant.specs.declared.regrant.Regrant.{Regrant}

abbrev pub none_seen : Regrant
none_seen = record { granted = None; last = None }

abbrev pub said_by : Row → Last
said_by r = record { core = core_of r; row = last_of r.state }

-- what a log says of a transactional id
abbrev pub seen_in : List ℕ → List TxnEntry → Regrant
seen_in txn log = record {
  granted = option_map own_pair (grant_row log txn);
  last = option_map said_by (row_of log txn);
}

abbrev pub after_row : Regrant → Row → Regrant
after_row s r = record {
  granted = if grants r then Some (own_pair r) else s.granted;
  last = Some (said_by r);
}

abbrev pub after_entry : List ℕ → Regrant → TxnEntry → Regrant
after_entry txn s (CoordinatorEpoch epoch) = s
after_entry txn s (Allot id) = s
after_entry txn s (Written r) = if bytes_eq r.txn txn then after_row s r else s

abbrev pub seen_grant : Option Held → Option Last → Option Grant
seen_grant None last = None
seen_grant (Some granted) None = None
seen_grant (Some granted) (Some last) = Some (reopened granted last.core last.row)
