use Rattle.std.proofs.Common.{◌∙◌}
use Rattle.kx_server_audit.proofs.OnLogs.{coordinator_opened}
use Rattle.kx_server_audit.proofs.opened.coordinator_on.Goals as goal

pub returns-in-Ok-clause-ok : goal.returns-in-Ok-clause-ok
returns-in-Ok-clause-ok c =
    let is = coordinator_opened c.in_ok-store.store c.args.opened.now.log.items
    c.args.opened.now.time c.in-Ok.machine c.in-Ok.markers
    (c.in_ok-store.ensures ∙ c.as_slice.ensures.value) c.in-Ok.ensures.value
    c.in-Ok.ensures.opened in
    record { start = is.0; opened = is.1; stands_so = is.2 }
