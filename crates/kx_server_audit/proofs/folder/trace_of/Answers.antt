use Rattle.std.proofs.Common.{arith}
use Rattle.std.proofs.lemmas.Option.{slice_get_within}
use Rattle.kx_server_audit.proofs.folder.trace_of.Goals as goal

pub returns : goal.returns
returns c = λ has.
    c.loop-number.invariant.none has.number has.trace
    (omega (arith, slice_get_within c.args.of.now has.number has.trace has.there, c.loop-number-test.false, c.loop-number.auto.number-end)) has.there
    has.node_is
