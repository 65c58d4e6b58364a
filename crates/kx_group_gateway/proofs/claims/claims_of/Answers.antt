use Rattle.std.proofs.Common.{◌++◌, ◌∙◌, map, sym, ap}
use Rattle.kx_kafka_types.specs.Rows.{Rows, elements}
use Rattle.kx_kafka.specs.Layouts.{offset_commit_topic}
use Rattle.kx_group_gateway.specs.Claims.{claimed}
use Rattle.kx_group_gateway.proofs.claims.claims_of.Goals as goal

pub loop-topic-init : goal.loop-topic-init
loop-topic-init c =
    let rows = c.into_iter-topic-iterator.result in
    record {
      can = tt;
      finite = tt;
      claims = sym (ap (λ x. x ++ map claimed (elements offset_commit_topic rows)) c.in_ok-list.ensures.items
          ∙ ap (λ (r : Rows). map claimed (elements offset_commit_topic r))
          c.into_iter-topic-iterator.ensures.into_iter_gives);
    }
