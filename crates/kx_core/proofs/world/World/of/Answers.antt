use Rattle.std.proofs.Common.{List, false, length, subst, sym}
use Rattle.kx_core.specs.World.{StandForAll}
use Rattle.kx_client_node.specs.declared.any_client.AnyClient.{AnyClient}
use Rattle.kx_core.proofs.Running.{begins}
use Rattle.kx_system.specs.System.{start_system}
use Rattle.kx_core.proofs.world.World.of.Goals as goal

pub invariant_of-result : goal.invariant_of-result
invariant_of-result g c =
    let C = g.C.Machine.stands in
    let P = g.P.Machine.stands in
    let O = g.O.Machine.stands in
    let image_of = g.F.Process.image_of in
    let count = length c.args.partitions.items in (
      start_system count,
      begins C P O image_of _ _ false count
          (subst (λ (clients : List (AnyClient _)). StandForAll C P O image_of (record {
            coordinator = c.args.coordinator;
            partitions = c.args.partitions.items;
            offsets = c.args.offsets;
            clients = clients;
            clock = 0;
          }) (start_system count)) (sym c.new.ensures) c.requires) c.new-2.ensures,
    )

pub returns-clause-run : goal.returns-clause-run
returns-clause-run g c =
    let C = g.C.Machine.stands in
    let P = g.P.Machine.stands in
    let O = g.O.Machine.stands in
    let image_of = g.F.Process.image_of in
    let count = length c.args.partitions.items in
    begins C P O image_of _ _ false count
    (subst (λ (clients : List (AnyClient _)). StandForAll C P O image_of (record {
      coordinator = c.args.coordinator;
      partitions = c.args.partitions.items;
      offsets = c.args.offsets;
      clients = clients;
      clock = 0;
    }) (start_system count)) (sym c.new.ensures) c.requires) c.new-2.ensures
