use Rattle.std.proofs.Common.{◌∙◌, ℕ, List, ap, refl, subst}
use Rattle.kx_broker.specs.Offsets.{KeepsOffsets}
use Rattle.kx_broker.specs.Serving.{opened_partition}
use Rattle.kx_log.specs.Log.{log_in}
use Rattle.kx_machine.specs.Meaning.{AtPartition}
use Rattle.kx_message.specs.Ranges.{offsets_partition}
use Rattle.kx_model.specs.Log.{Stored}
use Rattle.kx_server_audit.proofs.opened.offsets_on.Goals as goal

pub returns-in-Ok-clause-ok : goal.returns-in-Ok-clause-ok
returns-in-Ok-clause-ok c =
    let m = c.in-Ok.machine in
    let log = c.args.opened.now.log.items in
    let batches = c.in-Ok.ensures.value.1.rebuilds.opens.opened.log_is
    ∙ ap (λ (b : List ℕ). (log_in b).batches)
    (c.in_ok-store.ensures ∙ c.as_slice.ensures.value) in
    record {
      start = AtPartition offsets_partition (opened_partition (log_in log).batches);
      opened = refl;
      stands_so = (
        refl,
        subst (λ (found : List Stored). KeepsOffsets (opened_partition found) m) batches
            c.in-Ok.ensures.opened,
      );
    }
