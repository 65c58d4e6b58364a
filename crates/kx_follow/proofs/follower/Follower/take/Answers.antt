use Rattle.std.proofs.Common.{◌≡◌, ◌<◌, ◌+◌, ◌∙◌, ◌++◌, List, Some, ap, arith, inr, length, refl, rules, subst}
use Rattle.std.proofs.Common.{sym}
use Rattle.std.specs.Prelude.{IsTrue, slice_get, slice_set}
use Rattle.std.proofs.lemmas.Option.{slice_get_read}
use Rattle.kx_follow.specs.Following.{Followed, Following, MakesOneMore}
use Rattle.kx_audit.specs.Joined.{handed_out}
use Rattle.kx_follow.specs.Pending.{AreSent, Waiting, sent_among, times}
use Rattle.kx_message.specs.declared.message.Message.{Message}
use Rattle.kx_follow.proofs.Counting.{left_push, unsent}
use Rattle.kx_follow.proofs.Stepping.{one_more, p}
use Rattle.kx_follow.proofs.follower.Follower.take.Goals as goal

pub returns-then-not-branch-clause-made : goal.returns-then-not-branch-clause-made
returns-then-not-branch-clause-made g c = λ starts history made.
    inr (unsent history c.args.self.now.pending c.args.input.now made.left
    (c.in_ok-may_take.ensures.waits (search rules)))

pub returns-clause-made : goal.returns-clause-made
returns-clause-made g c = λ starts history made.
    let making = g.B.Tells.making in
    let stands = g.B.Machine.Machine.stands in
    let old = c.args.self.now in
    let k = c.args.node in
    let n = c.index_mut.result.now in
    let taken = c.in_ok-taken.taken in
    let input = c.args.input.now in
    let inside = c.self-2.inside in
    let nodes : inside.nodes.items ≡ old.nodes =
    ap (λ (f : Following _ _). f.nodes) c.self-2.view_is ∙ c.may_take.ensures.nodes in
    let waiting = ap (λ (f : Following _ _). f.pending) c.self-2.view_is in
    let before = ap (λ (f : Following _ _). length f.nodes) c.self.view_is in
    let within : k < length inside.nodes.items = omega (
      arith,
      c.if-node-len.false,
      c.len.ensures,
      before,
      ap (λ (l : List (Followed _ _)). length l) nodes,
    ) in
    let here = slice_get_read inside.nodes.items (length inside.nodes.items) k n refl within
    c.index_mut.ensures.value in
    let at = subst (λ (l : List (Followed _ _)). slice_get l k ≡ Some n) nodes here in
    let may : IsTrue c.in_ok-may_take.field-0 = search rules in
    let left = c.in_ok-may_take.ensures.left (handed_out history) made.left.sent in
    let sent = c.in_ok-add_all.ensures.sent (handed_out history)
    (subst (λ (f : Following _ _). AreSent (handed_out history) f.pending) (sym c.self-2.view_is)
    left) in
    let steps = c.in_ok-taken.ensures.steps _ (made.led k n at).stands_so in
    let was = c.in_ok-may_take.ensures.comes may (handed_out history) made.left.sent in
    let fit = c.may_take.ensures.fit in
    let passed = p making stands starts history old k n at input c.args.mode taken c.take.new.self
    c.take.ensures.made c.add_all.new.self made steps was fit in
    subst (λ (l : List (Followed _ _)). MakesOneMore making stands starts k input c.args.mode taken
    history old (record { nodes = slice_set l k c.take.new.self; pending = c.add_all.new.self }))
    (sym nodes)
    (one_more making stands starts history old k n at input c.args.mode taken c.take.new.self
    c.take.ensures.made c.add_all.new.self made steps was fit c.input_fits.ensures
    (left_push history passed old.pending c.may_take.new.self.pending c.add_all.new.self made.left
    (subst (λ (ms : List Message). AreSent (handed_out history ++ ms) c.add_all.new.self)
    c.as_slice.ensures sent)
    (c.in_ok-may_take.ensures.times may)
    (λ text. c.in_ok-add_all.ensures.times text
    ∙ ap (λ (w : Waiting). times text w + sent_among text c.as_slice.result.now) waiting
    ∙ ap (λ (ms : List Message). times text c.may_take.new.self.pending + sent_among text ms)
    c.as_slice.ensures)))
