use Rattle.kx_audit.proofs.Indexing.{short_added}
use Rattle.kx_audit.proofs.sent.Sent.add_short.Goals as goal

pub invariant_of-self-2 : goal.invariant_of-self-2
invariant_of-self-2 c =
    let inside = c.self.inside in
    let all = short_added (λ frame. frame.items) inside.frames.keys c.insert.new.self.keys
    inside.messages.items c.args.message c.in_ok-frame.frame c.in_default.field-0
    c.self.invariant c.requires c.in_ok-frame.ensures.reads c.in_ok-frame.ensures.text
    c.in_default.ensures.added c.in_default.ensures.keys in
    rw (c.push_reserved.ensures.items, c.reserve.ensures.items) all
