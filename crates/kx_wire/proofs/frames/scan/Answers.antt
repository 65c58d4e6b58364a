use Rattle.std.proofs.Common.{arith, inr}
use Rattle.kx_varint.specs.Text.{IsBytes}
use Rattle.kx_wire.proofs.Feeding.{scan_step}
use Rattle.kx_wire.proofs.Growing.{found_first, wanted_first, some_first}
use Rattle.kx_wire.proofs.Outcomes.{on_err}
use Rattle.kx_wire.proofs.frames.scan.Goals as goal

pub loop-message-preserved : goal.loop-message-preserved
loop-message-preserved c =
    let bytes : IsBytes c.args.bytes.now = λ i. omega (arith, c.type_inv.bytes i) in
    let front = rw c.in-Ok-Some.field-0-is at c.in-Ok-Some.ensures.read in
    let step = scan_step c.args.bytes.now c.loop-message.used c.loop-message.messages.items
    c.in-Ok-Some.message c.in-Ok-Some.len c.loop-message.invariant.within bytes
    c.loop-message.invariant.splits front.0 front.2 in
    rw c.in_ok-push-in-Ok-Some.ensures.items (record {
      splits = step.splits;
      within = step.within;
      begun = inr (found_first c.args.bytes.now c.loop-message.used _ _
          c.loop-message.invariant.begun front.0);
    })

pub returns-in_err-push-in-Ok-Some-clause-err : goal.returns-in_err-push-in-Ok-Some-clause-err
returns-in_err-push-in-Ok-Some-clause-err c =
    let front = rw c.in-Ok-Some.field-0-is at c.in-Ok-Some.ensures.read in
    on_err c.from_residual.result
    (found_first c.args.bytes.now c.loop-message.used _ _ c.loop-message.invariant.begun front.0)

pub returns-in-Err-Memory-clause-err : goal.returns-in-Err-Memory-clause-err
returns-in-Err-Memory-clause-err c =
    wanted_first c.args.bytes.now c.loop-message.used c.loop-message.invariant.begun
    (c.in-Err-Memory.ensures.memory c.in-Err-Memory.field-0-is)

pub returns-in-loop-message-clause-some : goal.returns-in-loop-message-clause-some
returns-in-loop-message-clause-some c =
    some_first c.args.bytes.now c.loop-message.used c.loop-message.invariant.begun
