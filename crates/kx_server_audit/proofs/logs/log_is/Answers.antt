use Rattle.std.proofs.Common.{◌∙◌, false, sym}
use Rattle.kx_server_audit.specs.Logs.{HoldsLog, IsUsedUp, LogIs}
use Rattle.kx_server_audit.proofs.Restarting.{is_kept, kept_is, no_by, shows_all, yes_by}
use Rattle.kx_server_audit.proofs.logs.log_is.Goals as goal

pub returns-then-is_closed-clause-yes : goal.returns-then-is_closed-clause-yes
returns-then-is_closed-clause-yes c = λ state stands.
    c.closed_log_is.ensures.yes state stands
    (sym (c.is_closed.ensures state stands) ∙ c.if-is_closed.true)

pub returns-then-is_closed-clause-no : goal.returns-then-is_closed-clause-no
returns-then-is_closed-clause-no c = λ state stands.
    c.closed_log_is.ensures.no state stands
    (sym (c.is_closed.ensures state stands) ∙ c.if-is_closed.true)

pub returns-else-is_closed-clause-yes : goal.returns-else-is_closed-clause-yes
returns-else-is_closed-clause-yes c = λ state stands.
    let bytes = c.args.bytes.items in
    let not_closed = sym (c.is_closed.ensures state stands) ∙ c.if-is_closed.false in
    let shown = shows_all state c.args.machine.now stands not_closed in
    yes_by c.holds.result (HoldsLog false state bytes) (LogIs state bytes)
    (HoldsLog false state bytes → ⊥) (kept_is state bytes shown) (c.holds.ensures state stands)

pub returns-else-is_closed-clause-no : goal.returns-else-is_closed-clause-no
returns-else-is_closed-clause-no c = λ state stands.
    let bytes = c.args.bytes.items in
    let not_closed = sym (c.is_closed.ensures state stands) ∙ c.if-is_closed.false in
    let shown = shows_all state c.args.machine.now stands not_closed in
    no_by c.holds.result (HoldsLog false state bytes) (LogIs state bytes) (IsUsedUp state)
    (is_kept state bytes shown) (c.holds.ensures state stands)
