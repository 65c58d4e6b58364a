use Rattle.std.proofs.lemmas.Slice.Eq.{slice_eq-Decides}
use Rattle.kx_messages.proofs.Pairs.{aborted_is}
use Rattle.kx_messages.proofs.same.same_aborted.Goals as goal

pub returns : goal.returns
returns c =
    slice_eq-Decides aborted_is c.args.a.now c.args.b.now c.eq.result c.eq.ensures
