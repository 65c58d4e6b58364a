use Rattle.std.proofs.Common.{◌++◌, ℕ, List, length, ap, ◌∙◌}
use Rattle.std.specs.Int.{w16, w32}
use Rattle.kx_varint.specs.BigEndian.{unsigned_text}
use Rattle.kx_message.specs.Fields.{bytes_text, caller_text, optional_text}
use Rattle.kx_wire.proofs.Heads.{more, behind}
use Rattle.kx_wire.proofs.Outcomes.{on_ok_so}
use Rattle.kx_wire.proofs.writing.put_produce.Goals as goal

pub returns-clause-written : goal.returns-clause-written
unfolding bytes_text
returns-clause-written c =
    let it = c.args.produce.now in
    let old = c.args.out.now.items in
    let caller = caller_text it.caller in
    let txn = optional_text it.txn in
    let partition = unsigned_text w16 it.partition in
    on_ok_so c.put_u32.result (λ count.
    behind old (caller ++ txn ++ partition) (unsigned_text w32 (length it.batch)) it.batch
    (more old (caller ++ txn) partition
    (more old caller txn c.in_ok-put_caller.ensures.written c.in_ok-put_optional.ensures.written)
    (c.in_ok-put_u16.ensures.ok ∙ ap (λ (number : ℕ). c.put_optional.new.out.items
    ++ unsigned_text w16 number) c.get.ensures.value))
    (count ∙ ap (λ (bytes : List ℕ). c.put_u16.new.out.items
    ++ unsigned_text w32 (length bytes)) c.as_slice.ensures))
    c.put_u32.ensures.ok
