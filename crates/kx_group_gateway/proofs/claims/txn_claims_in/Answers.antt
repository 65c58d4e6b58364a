use Rattle.std.proofs.Common.{◌++◌, ◌∙◌, map, sym, ap}
use Rattle.kx_kafka_types.specs.Rows.{Rows, elements}
use Rattle.kx_kafka.specs.Layouts.{txn_offset_commit_partition}
use Rattle.kx_group_gateway.specs.Claims.{txn_claim}
use Rattle.kx_group_gateway.proofs.claims.txn_claims_in.Goals as goal

pub loop-partition-init : goal.loop-partition-init
loop-partition-init c =
    let rows = c.into_iter-partition-iterator.result in
    record {
      can = tt;
      finite = tt;
      claims = sym (ap (λ x. x ++ map txn_claim (elements txn_offset_commit_partition rows)) c.in_ok-claims.ensures.items
          ∙ ap (λ (r : Rows). map txn_claim (elements txn_offset_commit_partition r))
          c.into_iter-partition-iterator.ensures.into_iter_gives);
    }
