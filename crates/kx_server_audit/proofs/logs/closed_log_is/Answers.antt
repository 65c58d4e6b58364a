use Rattle.std.proofs.Common.{◌∙◌, sym, true}
use Rattle.kx_server_audit.specs.Logs.{HoldsLog, IsUsedUp, LogIs, after_restart}
use Rattle.kx_server_audit.proofs.Restarting.{found_restart, no_by, restart_found, stays_closed}
use Rattle.kx_server_audit.proofs.Restarting.{yes_by}
use Rattle.kx_server_audit.proofs.logs.closed_log_is.Goals as goal

pub returns-then-is_closed-clause-no : goal.returns-then-is_closed-clause-no
returns-then-is_closed-clause-no c = λ state stands closed same is.
    let after = c.in_ok-restart.ensures state stands in
    stays_closed state c.args.bytes.items
    (sym (c.is_closed.ensures (after_restart state) after) ∙ c.if-is_closed.true) is

pub returns-clause-yes : goal.returns-clause-yes
returns-clause-yes c = λ state stands closed.
    let bytes = c.args.bytes.items in
    let after = c.in_ok-restart.ensures state stands in
    let not_closed = sym (c.is_closed.ensures (after_restart state) after) ∙ c.if-is_closed.false in
    yes_by c.holds.result (HoldsLog true (after_restart state) bytes) (LogIs state bytes)
    (HoldsLog true (after_restart state) bytes → ⊥)
    (restart_found state bytes closed not_closed) (c.holds.ensures (after_restart state) after)

pub returns-clause-no : goal.returns-clause-no
returns-clause-no c = λ state stands closed.
    let bytes = c.args.bytes.items in
    let after = c.in_ok-restart.ensures state stands in
    let not_closed = sym (c.is_closed.ensures (after_restart state) after) ∙ c.if-is_closed.false in
    no_by c.holds.result (HoldsLog true (after_restart state) bytes) (LogIs state bytes)
    (IsUsedUp state) (found_restart state bytes closed not_closed)
    (c.holds.ensures (after_restart state) after)
