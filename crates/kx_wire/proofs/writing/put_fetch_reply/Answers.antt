use Rattle.std.proofs.Common.{rules, ◌++◌, ℕ, List, length, ap, ◌∙◌}
use Rattle.std.specs.Int.{w16, w32, w64}
use Rattle.kx_varint.specs.BigEndian.{unsigned_text, signed_text}
use Rattle.kx_message.specs.Fields.{aborted_text, bytes_text, caller_text, code_text}
use Rattle.kx_wire.proofs.Heads.{more, behind, signed_piece}
use Rattle.kx_wire.proofs.Outcomes.{on_ok_so}
use Rattle.kx_wire.proofs.writing.put_fetch_reply.Goals as goal

pub returns-clause-written : goal.returns-clause-written
unfolding bytes_text
returns-clause-written c =
    let it = c.args.reply.now in
    let old = c.args.out.now.items in
    let caller = caller_text it.caller in
    let partition = unsigned_text w16 it.partition in
    let code = code_text it.code in
    let next = signed_text w64 it.next in
    let lso = signed_text w64 it.lso in
    let end = signed_text w64 it.end in
    let aborted = aborted_text it.aborted in
    let to_partition = caller ++ partition in
    let to_code = to_partition ++ code in
    let to_next = to_code ++ next in
    let to_lso = to_next ++ lso in
    let to_end = to_lso ++ end in
    on_ok_so c.put_u32.result (λ count.
    behind old (to_end ++ aborted) (unsigned_text w32 (length it.batches)) it.batches
    (more old to_end aborted
    (more old to_lso end
    (more old to_next lso
    (more old to_code next
    (more old to_partition code
    (more old caller partition c.in_ok-put_caller.ensures.written
    (c.in_ok-put_u16.ensures.ok ∙ ap (λ (number : ℕ). c.put_caller.new.out.items
    ++ unsigned_text w16 number) c.get.ensures.value))
    c.in_ok-put_code.ensures)
    (signed_piece c.put_code.new.out.items it.next (search rules)
    c.in_ok-put_i64.ensures.ok))
    (signed_piece c.put_i64.new.out.items it.lso (search rules)
    c.in_ok-put_i64-2.ensures.ok))
    (signed_piece c.put_i64-2.new.out.items it.end (search rules)
    c.in_ok-put_i64-3.ensures.ok))
    c.in_ok-put_aborted.ensures.written)
    (count ∙ ap (λ (bytes : List ℕ). c.put_aborted.new.out.items
    ++ unsigned_text w32 (length bytes)) c.as_slice.ensures))
    c.put_u32.ensures.ok
