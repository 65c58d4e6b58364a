use Rattle.std.proofs.Common.{◌∙◌, ℕ, List, ap, refl, subst}
use Rattle.kx_broker.specs.Serving.{IsServed, opened_partition}
use Rattle.kx_log.specs.Log.{log_in}
use Rattle.kx_machine.specs.Meaning.{AtPartition}
use Rattle.kx_model.specs.Log.{Stored}
use Rattle.kx_server_audit.proofs.opened.partition_on.Goals as goal

pub returns-in-Ok-clause-ok : goal.returns-in-Ok-clause-ok
returns-in-Ok-clause-ok c = λ is_data.
    let m = c.in-Ok.machine in
    let log = c.args.opened.now.log.items in
    let batches = c.in-Ok.ensures.value.1.opens.opened.log_is
    ∙ ap (λ (b : List ℕ). (log_in b).batches)
    (c.in_ok-store.ensures ∙ c.as_slice.ensures.value) in
    record {
      start = AtPartition c.args.number (opened_partition (log_in log).batches);
      opened = refl;
      stands_so = (
        is_data,
        subst (λ (found : List Stored). IsServed c.args.number (opened_partition found) m) batches
            c.in-Ok.ensures.opened,
      );
    }
