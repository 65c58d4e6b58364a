use Rattle.std.proofs.Common.{◌∙◌, sym}
use Rattle.kx_server_audit.proofs.Restarting.{but_last_of}
use Rattle.kx_server_audit.proofs.lengths.found_entries.Goals as goal

pub returns : goal.returns
returns c = but_last_of c.entries-entries.result.now c.args.coordinator.now.log
    c.entries-entries.ensures.value (sym c.is_closed.ensures ∙ c.if-is_closed.false)
