use Rattle.std.proofs.Common.{◌≡◌, ◌∙◌, ◌++◌, ◌%◌, ◌+◌, ℕ, List, ap, Result, Ok, Err, cond, arith}
use Rattle.std.specs.Prelude.{OnOk, is_ok}
use Rattle.std.proofs.lemmas.List.{length-set}
use Rattle.kx_varint.specs.Varint.{groups_of}
use Rattle.kx_varint.proofs.Writing.{written_more, left_more, room_more, written_all}
use Rattle.kx_varint.proofs.groups.put_groups.Goals as goal

appended : {A E : Type 0} (r : Result A E) (new old t u : List ℕ)
    → new ≡ cond (is_ok r) (old ++ t) old → t ≡ u → OnOk r (new ≡ old ++ u)
appended (Ok x) new old t u e f = e ∙ ap (λ (v : List ℕ). old ++ v) f
appended (Err x) new old t u e f = tt

pub loop-rest-preserved : goal.loop-rest-preserved
loop-rest-preserved c =
    let l = c.loop-rest in
    let room = room_more l.len l.rest l.invariant.room l.invariant.left (omega arith) in
    record {
      so_far = written_more l.text l.len l.rest l.invariant.size room (omega arith)
          ∙ l.invariant.so_far;
      size = length-set l.text l.len (l.rest % 128 + 128) ∙ l.invariant.size;
      room = omega arith;
      left = left_more l.len l.rest room l.invariant.left;
    }

pub returns-clause-ok : goal.returns-clause-ok
returns-clause-ok c =
    let l = c.loop-rest in
    let text = written_all l.text l.len l.rest l.invariant.size l.invariant.room (omega arith)
    ∙ l.invariant.so_far in
    appended c.extend_from_slice.result c.extend_from_slice.new.self.items c.args.out.now.items _
    (groups_of 9 c.args.n) c.extend_from_slice.ensures.items text
