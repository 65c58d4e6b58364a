use Rattle.std.proofs.Common.{◌∙◌, ◌++◌, ℕ, List, ap, get_or}
use Rattle.kx_notices.specs.Texts.{escaped_byte}
use Rattle.kx_notices.proofs.Flat.{flat_all, flat_more}
use Rattle.kx_notices.proofs.text.put_escaped.Goals as goal

pub loop-byte-preserved : goal.loop-byte-preserved
loop-byte-preserved c =
    let bytes = c.args.bytes.now in
    let at = c.loop-byte.byte-index in
    c.in_ok-put_byte.ensures
    ∙ ap (λ (out : List ℕ). out ++ escaped_byte (get_or bytes at 0)) c.loop-byte.invariant
    ∙ flat_more escaped_byte bytes at 0 c.args.out.now.items c.loop-byte-test.true

pub returns : goal.returns
returns g c =
    (g.loop-byte.invariant
    ∙ flat_all escaped_byte g.args.bytes.now g.loop-byte.byte-index g.args.out.now.items
    g.loop-byte-test.false) c
