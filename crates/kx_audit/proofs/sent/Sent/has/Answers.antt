use Rattle.std.proofs.Common.{rules}
use Rattle.kx_message.specs.Sizes.{FitsFrame}
use Rattle.kx_audit.proofs.Indexing.{looked_up}
use Rattle.kx_audit.proofs.sent.Sent.has.Goals as goal

pub returns : goal.returns
returns c =
    let inside = c.self.inside in
    let fits : FitsFrame c.args.message.now = search rules in
    looked_up (λ frame. frame.items) inside.frames.keys inside.messages.items c.args.self.now
    c.args.message.now c.in_ok-frame.frame c.contains.result c.self.invariant fits
    c.in_ok-frame.ensures.reads c.in_ok-frame.ensures.text c.self.view_is c.contains.ensures
