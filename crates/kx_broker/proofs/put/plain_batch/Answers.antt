use Rattle.std.proofs.Common.{◌∷◌}
use Rattle.kx_broker.proofs.Building.{all_pushed, made_of, never_empty, never_large}
use Rattle.kx_broker.proofs.put.plain_batch.Goals as goal

pub returns-in-Ok : goal.returns-in-Ok
returns-in-Ok c =
    let value = c.args.values.now.first in
    let more = c.args.values.now.more in
    let l = c.loop-value in
    let all = all_pushed (value ∷ more) c.as_slice-value-items.result.now l.value-index l.builder
    c.loop-value-test.false l.invariant.draft l.invariant.same in
    made_of value more l.builder all c.in-Ok.text.items c.in-Ok.ensures

pub unreachable-requires : goal.unreachable-requires
unreachable-requires c =
    let value = c.args.values.now.first in
    let more = c.args.values.now.more in
    let l = c.loop-value in
    let all = all_pushed (value ∷ more) c.as_slice-value-items.result.now l.value-index l.builder
    c.loop-value-test.false l.invariant.draft l.invariant.same in
    never_empty value more l.builder all (rw c.in-Err-Empty.field-0-is at c.in-Err-Empty.ensures)

pub unreachable-requires-in-Err-TooLarge : goal.unreachable-requires-in-Err-TooLarge
unreachable-requires-in-Err-TooLarge c =
    let value = c.args.values.now.first in
    let more = c.args.values.now.more in
    let l = c.loop-value in
    let all = all_pushed (value ∷ more) c.as_slice-value-items.result.now l.value-index l.builder
    c.loop-value-test.false l.invariant.draft l.invariant.same in
    never_large value more l.builder all c.requires
    (rw c.in-Err-TooLarge.field-0-is at c.in-Err-TooLarge.ensures)
