use Rattle.std.proofs.Common.{◌+◌, ◌++◌, ◌∙◌, List, drop, get_or, pos, sym, ap}
use Rattle.std.proofs.lemmas.List.{at_drop_more}
use Rattle.kx_message.specs.declared.payload.PartitionOffset.{PartitionOffset}
use Rattle.kx_gateway.specs.Topics.{partition_at}
use Rattle.kx_group_gateway.specs.Claims.{offsets_in}
use Rattle.kx_group_gateway.specs.declared.claims.Claim.{Claim}
use Rattle.kx_group_gateway.proofs.Known.{one_more}
use Rattle.kx_group_gateway.proofs.commits.add_offsets.Goals as goal

pub loop-claim-preserved : goal.loop-claim-preserved
loop-claim-preserved c =
    let table = c.args.table.now in
    let name = c.args.name.now in
    let claims = c.args.claims.now in
    let done = c.loop-claim.offsets.items in
    let claim = get_or claims c.loop-claim.claim-index (record { index = pos 0; offset = pos 0 }) in
    let more = offsets_in table name (drop (c.loop-claim.claim-index + 1) claims) in
    c.loop-claim.invariant
    ∙ ap (λ (x : List PartitionOffset). done ++ x)
    (at_drop_more (λ (l : List Claim). offsets_in table name l) claims c.loop-claim.claim-index
    (record { index = pos 0; offset = pos 0 })
    c.loop-claim-test.true)
    ∙ one_more done more (partition_at table name claim.index) claim.offset
    ∙ ap (λ (x : List PartitionOffset). x ++ more) (sym c.in_ok-add_offset.ensures)
