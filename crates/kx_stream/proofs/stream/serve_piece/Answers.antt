use Rattle.std.proofs.Common.{◌∙◌, Result, Ok, Err, ap, subst, sym, refl}
use Rattle.std.proofs.lemmas.Result.{err_from_is_err_and}
use Rattle.kx_stream.specs.Stream.{PieceServed}
use Rattle.kx_stream.specs.declared.fault.StreamFault.{StreamFault}
use Rattle.kx_stream.proofs.Pieces.{checked_bad, checked_fine, piece_breaks, piece_fails}
use Rattle.kx_stream.proofs.Pieces.{piece_taken}
use Rattle.kx_wire.specs.Frames.{frame_at}
use Rattle.kx_stream.proofs.stream.serve_piece.Goals as goal

pub returns-in_err-serve_all : goal.returns-in_err-serve_all
returns-in_err-serve_all g c = λ partial piece fed.
    let old = g.W.Write.contents c.args.writer.now in
    let new = g.W.Write.contents c.serve_all.new.writer in
    let f = c.in_err-serve_all.field-0.0 in
    let p = err_from_is_err_and c.from_residual.result c.from_residual.ensures.1 in
    subst (λ (r : Result (Unit {0}) StreamFault). PieceServed g.M.Machine.stands g.M.Machine.allows
    partial piece c.args.machine.now c.serve_all.new.machine c.args.frames.now old new r)
    (sym (p.1 ∙ ap Err p.2))
    (piece_fails g.M.Machine.stands g.M.Machine.allows partial piece fed.0 c.args.messages.now
    c.args.machine.now c.serve_all.new.machine c.args.frames.now old new f fed.1
    c.in_err-serve_all.ensures)

pub returns-in_err-check : goal.returns-in_err-check
returns-in_err-check g c = λ partial piece fed.
    let old = g.W.Write.contents c.args.writer.now in
    let new = g.W.Write.contents c.serve_all.new.writer in
    let messages = c.args.messages.now in
    let f = c.in_err-check.field-0.0 in
    let p = err_from_is_err_and c.from_residual-in_err-check.result
    c.from_residual-in_err-check.ensures.1 in
    let bad = checked_bad (frame_at fed.0) messages fed.0 c.args.frames.now c.check.new.self (Err f) f
    fed.2 c.in_err-check.ensures.fine c.in_err-check.ensures.fault refl in
    subst (λ (r : Result (Unit {0}) StreamFault). PieceServed g.M.Machine.stands g.M.Machine.allows
    partial piece c.args.machine.now c.serve_all.new.machine c.check.new.self old new r)
    (sym (p.1 ∙ ap Err p.2))
    (piece_breaks g.M.Machine.stands g.M.Machine.allows partial piece fed.0 messages
    c.args.machine.now c.serve_all.new.machine c.check.new.self old new f fed.1
    c.in_ok-serve_all.ensures bad)

pub returns : goal.returns
returns g c = λ partial piece fed.
    let old = g.W.Write.contents c.args.writer.now in
    let new = g.W.Write.contents c.serve_all.new.writer in
    let messages = c.args.messages.now in
    let fine = checked_fine (frame_at fed.0) messages fed.0 c.args.frames.now c.check.new.self (Ok tt)
    fed.2 c.in_ok-check.ensures.fine c.in_ok-check.ensures.fault refl in
    piece_taken g.M.Machine.stands g.M.Machine.allows partial piece fed.0 messages
    c.args.machine.now c.serve_all.new.machine c.check.new.self old new fed.1
    c.in_ok-serve_all.ensures fine.0 fine.1
