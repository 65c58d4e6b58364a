use Rattle.std.proofs.Common.{◌∙◌, List, [], Some, Ok, Err, ap, subst, sym}
use Rattle.std.proofs.KnownBytes.{Consumes-nil}
use Rattle.std.proofs.lemmas.Result.{err_from_is_err_and}
use Rattle.kx_message.specs.declared.message.Message.{Message}
use Rattle.kx_stream.proofs.Streams.{along_more, along_start, at_end, ended, no_memory}
use Rattle.kx_stream.proofs.Streams.{read_breaks, read_failed, read_gives, reader_failed}
use Rattle.kx_wire.specs.Frames.{Fed, Reads}
use Rattle.kx_stream.proofs.stream.serve_pieces.Goals as goal

pub returns-in_err-frames : goal.returns-in_err-frames
returns-in_err-frames g c =
    let p = err_from_is_err_and c.from_residual.result c.from_residual.ensures.1 in
    let input = g.R.Read.remaining c.args.reader.now in
    let known = g.W.Write.contents c.args.writer.now in
    read_breaks g.M.Machine.stands g.M.Machine.allows c.args.machine.now c.args.machine.now input
    input known known _ c.from_residual.result (p.1 ∙ ap Err p.2) (
      [],
      Consumes-nil input,
      no_memory g.M.Machine.stands g.M.Machine.allows c.args.machine.now known,
    )

pub loop-reads-init : goal.loop-reads-init
loop-reads-init g c =
    along_start g.M.Machine.stands g.M.Machine.allows c.args.machine.now
    (g.R.Read.remaining c.args.reader.now) (g.W.Write.contents c.args.writer.now)
    c.in_ok-frames.frames c.in_ok-frames.ensures

pub returns-in-Ok-None : goal.returns-in-Ok-None
returns-in-Ok-None g c =
    at_end g.M.Machine.stands g.M.Machine.allows c.loop-reads.reads c.args.machine.now
    c.loop-reads.machine (g.R.Read.remaining c.args.reader.now)
    (g.R.Read.remaining c.loop-reads.reader) (g.R.Read.remaining c.next.new.reader)
    (g.W.Write.contents c.args.writer.now) (g.W.Write.contents c.loop-reads.writer)
    c.loop-reads.frames c.next.new.self c.loop-reads.invariant
    (rw c.in-Ok-None.field-0-is at c.in-Ok-None.ensures)

pub returns-in-Err-Read : goal.returns-in-Err-Read
returns-in-Err-Read g c =
    read_failed g.M.Machine.stands g.M.Machine.allows c.loop-reads.reads c.args.machine.now
    c.loop-reads.machine (g.R.Read.remaining c.args.reader.now)
    (g.R.Read.remaining c.loop-reads.reader) (g.R.Read.remaining c.next.new.reader)
    (g.W.Write.contents c.args.writer.now) (g.W.Write.contents c.loop-reads.writer)
    c.loop-reads.frames c.next.new.self c.loop-reads.invariant
    (rw c.in-Err-Read.field-0-is at c.in-Err-Read.ensures)

pub returns-in-Err : goal.returns-in-Err
returns-in-Err g c =
    reader_failed g.M.Machine.stands g.M.Machine.allows c.loop-reads.reads c.args.machine.now
    c.loop-reads.machine (g.R.Read.remaining c.args.reader.now)
    (g.R.Read.remaining c.loop-reads.reader) (g.R.Read.remaining c.next.new.reader)
    (g.W.Write.contents c.args.writer.now) (g.W.Write.contents c.loop-reads.writer)
    c.loop-reads.frames c.next.new.self c.in-Err.fault c.loop-reads.invariant c.in-Err.ensures

pub returns-in_err-serve_piece : goal.returns-in_err-serve_piece
returns-in_err-serve_piece g c =
    let left = g.R.Read.remaining c.next.new.reader in
    let input = g.R.Read.remaining c.args.reader.now in
    let old = g.W.Write.contents c.args.writer.now in
    let new = g.W.Write.contents c.serve_piece.new.writer in
    let given = rw c.in-Ok-Some.field-0-is at c.in-Ok-Some.ensures in
    let p = err_from_is_err_and c.from_residual-in_err-serve_piece.result
    c.from_residual-in_err-serve_piece.ensures.1 in
    read_breaks g.M.Machine.stands g.M.Machine.allows c.args.machine.now c.serve_piece.new.machine
    input left old new c.in_err-serve_piece.field-0.0 c.from_residual-in_err-serve_piece.result
    (p.1 ∙ ap Err p.2)
    (ended g.M.Machine.stands g.M.Machine.allows c.loop-reads.reads c.args.machine.now
    c.loop-reads.machine c.serve_piece.new.machine input (g.R.Read.remaining c.loop-reads.reader)
    left old (g.W.Write.contents c.loop-reads.writer) new given.0 c.loop-reads.frames
    c.serve_piece.new.frames c.in_err-serve_piece.field-0.0 c.loop-reads.invariant given.1
    (λ partial e. c.in_err-serve_piece.ensures partial given.0
    (subst (λ (l : List Message). Fed (Reads partial) given.0 (Ok l) c.next.new.self)
    (sym c.as_slice.ensures.value)
    (read_gives c.loop-reads.frames c.next.new.self partial given.0 left
    (Ok (Some c.in-Ok-Some.messages.items)) e given.2).1)))

pub loop-reads-preserved : goal.loop-reads-preserved
loop-reads-preserved g c =
    let left = g.R.Read.remaining c.next.new.reader in
    let given = rw c.in-Ok-Some.field-0-is at c.in-Ok-Some.ensures in
    let some = read_gives c.loop-reads.frames c.next.new.self c.loop-reads.invariant.served.behind
    given.0 left (Ok (Some c.in-Ok-Some.messages.items)) c.loop-reads.invariant.held given.2 in
    along_more g.M.Machine.stands g.M.Machine.allows c.loop-reads.reads c.args.machine.now
    c.loop-reads.machine c.serve_piece.new.machine (g.R.Read.remaining c.args.reader.now)
    (g.R.Read.remaining c.loop-reads.reader) left (g.W.Write.contents c.args.writer.now)
    (g.W.Write.contents c.loop-reads.writer) (g.W.Write.contents c.serve_piece.new.writer) given.0
    c.loop-reads.frames c.serve_piece.new.frames c.loop-reads.invariant some.0 given.1
    (λ partial e. c.in_ok-serve_piece.ensures partial given.0
    (subst (λ (l : List Message). Fed (Reads partial) given.0 (Ok l) c.next.new.self)
    (sym c.as_slice.ensures.value)
    (read_gives c.loop-reads.frames c.next.new.self partial given.0 left
    (Ok (Some c.in-Ok-Some.messages.items)) e given.2).1))
