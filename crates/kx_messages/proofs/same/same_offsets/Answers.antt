use Rattle.std.proofs.lemmas.Slice.Eq.{slice_eq-Decides}
use Rattle.kx_messages.proofs.Pairs.{offset_is}
use Rattle.kx_messages.proofs.same.same_offsets.Goals as goal

pub returns : goal.returns
returns c =
    slice_eq-Decides offset_is c.args.a.now c.args.b.now c.eq.result c.eq.ensures
