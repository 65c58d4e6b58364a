use Rattle.std.proofs.Common.{◌<◌, ◌≤◌, ◌+◌, ℕ, List, [], length, drop, subst, arith}
use Rattle.std.specs.Prelude.{slice_get}
use Rattle.std.proofs.KnownBytes.{Appends-nil}
use Rattle.kx_text.proofs.Writes.{IsBegun, begins, ends, goes_on}
use Rattle.kx_script.specs.Printing.{message_lines, optional_line}
use Rattle.kx_script.proofs.Lines.{none_more, one_more}
use Rattle.kx_script.proofs.session.write_lines.Goals as goal

pub loop-number-init : goal.loop-number-init
loop-number-init g c = λ s st. begins _ _

pub loop-number-preserved : goal.loop-number-preserved
loop-number-preserved g c = λ s st.
    let old = g.W.Write.contents c.args.writer.now in
    let mid = g.W.Write.contents c.loop-number.writer in
    let new = g.W.Write.contents c.write_one.new.writer in
    let from = c.args.from.now in
    let n = c.loop-number.number in
    let whole = message_lines c.args.first from (drop c.args.first s.world.sent) in
    let some : n < length s.world.sent = omega (arith, c.sent-number-end.ensures s st) in
    goes_on old mid new (optional_line n from (slice_get s.world.sent n))
    (message_lines (n + 1) from (drop (n + 1) s.world.sent)) whole
    (subst (λ (t : List ℕ). IsBegun old mid t whole) (one_more n from s.world.sent some)
    (c.loop-number.invariant s st))
    (c.in_ok-write_one.ensures s st)

pub returns : goal.returns
returns g c = λ s st.
    let old = g.W.Write.contents c.args.writer.now in
    let new = g.W.Write.contents c.loop-number.writer in
    let from = c.args.from.now in
    let n = c.loop-number.number in
    let whole = message_lines c.args.first from (drop c.args.first s.world.sent) in
    let none : length s.world.sent ≤ n = omega (arith, c.sent-number-end.ensures s st) in
    ends old new new [] whole
    (subst (λ (t : List ℕ). IsBegun old new t whole) (none_more n n from s.world.sent none)
    (c.loop-number.invariant s st))
    (Appends-nil new)
