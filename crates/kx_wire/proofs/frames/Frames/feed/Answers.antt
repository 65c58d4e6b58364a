use Rattle.std.proofs.Common.{◌≡◌, ◌++◌, drop, [], Err, sym, ap, ◌∙◌, subst, arith}
use Rattle.std.proofs.lemmas.Bool.{eqb-true}
use Rattle.std.proofs.lemmas.List.{nil_from_length}
use Rattle.std.specs.Vec.{vec_len}
use Rattle.kx_wire.specs.Frames.{Stream, Reads, Over, Fed}
use Rattle.kx_wire.specs.Internal.StreamState.{stream_of}
use Rattle.kx_wire.proofs.Feeding.{fed_fault}
use Rattle.kx_wire.proofs.Growing.{not_memory}
use Rattle.kx_wire.proofs.frames.Frames.feed.Goals as goal

pub returns-in-Some-clause-fed : goal.returns-in-Some-clause-fed
returns-in-Some-clause-fed c =
    let partial = c.self.inside.partial.items in
    let old : Reads partial ≡ c.args.self.now =
    ap (λ s. stream_of s partial) (sym c.in-Reading.is) ∙ c.self.view_is in
    let size : vec_len c.in-Ok.found.messages ≡ 0 = eqb-true _ _ (sym c.if-is_empty-2.ensures) in
    let none : c.in-Ok.found.messages.items ≡ [] =
    nil_from_length _ (omega (arith, size, c.in-Ok.found.messages.ok)) in
    subst (λ (s : Stream). Fed s c.args.piece.now (Err c.in-Some.fault) Over) old
    (fed_fault partial c.args.piece.now (drop c.in-Ok.found.used (partial ++ c.args.piece.now))
    c.in-Ok.found.messages.items
    c.in-Some.fault c.in-Ok.ensures.splits none (rw c.in-Some.is at c.in-Ok.ensures.ends))

pub returns-in-Some-clause-memory : goal.returns-in-Some-clause-memory
returns-in-Some-clause-memory c partial is e =
    absurd (not_memory (drop c.in-Ok.found.used (c.self.inside.partial.items ++ c.args.piece.now))
    c.in-Some.fault (rw c.in-Some.is at c.in-Ok.ensures.ends) e)
