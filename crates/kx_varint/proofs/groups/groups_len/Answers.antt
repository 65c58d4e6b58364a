use Rattle.std.proofs.Common.{◌∙◌, arith}
use Rattle.kx_varint.proofs.Writing.{counted_all, counted_more, left_more, room_more}
use Rattle.kx_varint.proofs.groups.groups_len.Goals as goal

pub loop-rest-preserved : goal.loop-rest-preserved
loop-rest-preserved c =
    let l = c.loop-rest in
    let room = room_more l.more l.rest l.invariant.room l.invariant.left (omega arith) in
    record {
      so_far = counted_more l.more l.rest room (omega arith) ∙ l.invariant.so_far;
      room = omega arith;
      left = left_more l.more l.rest room l.invariant.left;
    }

pub returns-clause-value : goal.returns-clause-value
returns-clause-value c =
    let l = c.loop-rest in
    counted_all l.more l.rest (omega arith) ∙ l.invariant.so_far
