use Rattle.kx_membership.specs.Internal.Counting.{all_now}
use Rattle.kx_membership.proofs.Offering.{first_here, first_more}
use Rattle.kx_membership.proofs.votes.first_of.Goals as goal

pub returns-then-is_listed : goal.returns-then-is_listed
returns-then-is_listed c =
    first_here (all_now c.args.names.now) c.args.member.now c.as_slice-protocol-items.result.now
    c.loop-protocol.protocol-index c.protocol-item.result c.as_slice.result.now
    c.as_slice-then-is_listed.result.now c.is_listed.result c.as_slice-protocol-items.ensures
    c.loop-protocol-test.true c.loop-protocol.invariant c.protocol-item.is c.as_slice.ensures
    c.is_listed.ensures c.if-is_listed.true c.as_slice-then-is_listed.ensures

pub loop-protocol-preserved : goal.loop-protocol-preserved
loop-protocol-preserved c =
    first_more (all_now c.args.names.now) c.as_slice-protocol-items.result.now
    c.loop-protocol.protocol-index c.protocol-item.result c.as_slice.result.now c.is_listed.result
    c.loop-protocol-test.true c.loop-protocol.invariant c.protocol-item.is c.as_slice.ensures
    c.is_listed.ensures c.if-is_listed.false
