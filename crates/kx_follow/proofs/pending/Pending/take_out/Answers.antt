use Rattle.std.proofs.Common.{◌≡◌, ◌+◌, ◌-◌, ◌∙◌, ap, arith, bytes_eq, if◌then◌else◌, rules}
use Rattle.std.proofs.Common.{subst, sym}
use Rattle.kx_follow.specs.Internal.{first_times}
use Rattle.kx_follow.proofs.Counting.{last_out, once_less}
use Rattle.kx_message.specs.Fields.{frame_text}
use Rattle.kx_message.specs.Sizes.{FitsFrame}
use Rattle.kx_follow.specs.Pending.{AreSent, IsAmong, Waiting, times}
use Rattle.kx_follow.proofs.Sending.{found_frame, no_frame, removed}
use Rattle.kx_follow.proofs.pending.Pending.take_out.Goals as goal

pub returns-in_ok-set-clause-left : goal.returns-in_ok-set-clause-left
returns-in_ok-set-clause-left c = λ sent are.
    c.in_ok-set.ensures.sent sent are
    (found_frame (λ frame. frame.items) sent c.self.inside.further.entries c.in_ok-frame.frame.items
    c.in-Some.further (sym c.get.ensures.value ∙ sym c.copied.ensures ∙ c.in-Some.is)
    (subst (λ (frames : Waiting). AreSent sent frames) (sym c.self.view_is) are))

pub returns-in_ok-set-clause-was_sent : goal.returns-in_ok-set-clause-was_sent
returns-in_ok-set-clause-was_sent c = λ yes sent are.
    let fits : FitsFrame c.args.message.now = search rules in
    found_frame (λ frame. frame.items) sent c.self.inside.further.entries c.in_ok-frame.frame.items
    c.in-Some.further (sym c.get.ensures.value ∙ sym c.copied.ensures ∙ c.in-Some.is)
    (subst (λ (frames : Waiting). AreSent sent frames) (sym c.self.view_is) are)
    c.args.message.now fits c.in_ok-frame.ensures.reads (sym c.in_ok-frame.ensures.text)

pub returns-else-further-gt0-clause-left : goal.returns-else-further-gt0-clause-left
returns-else-further-gt0-clause-left c = λ sent are.
    removed (λ frame. frame.items) sent c.self.inside.further.entries
    c.remove-last.new.self.entries _ c.remove-last.ensures.entries
    (subst (λ (frames : Waiting). AreSent sent frames) (sym c.self.view_is) are)

pub returns-else-further-gt0-clause-was_sent : goal.returns-else-further-gt0-clause-was_sent
returns-else-further-gt0-clause-was_sent c = λ yes sent are.
    let fits : FitsFrame c.args.message.now = search rules in
    found_frame (λ frame. frame.items) sent c.self.inside.further.entries c.in_ok-frame.frame.items
    c.in-Some.further (sym c.get.ensures.value ∙ sym c.copied.ensures ∙ c.in-Some.is)
    (subst (λ (frames : Waiting). AreSent sent frames) (sym c.self.view_is) are)
    c.args.message.now fits c.in_ok-frame.ensures.reads (sym c.in_ok-frame.ensures.text)

pub returns-in_default-clause-none : goal.returns-in_default-clause-none
returns-in_default-clause-none c = λ no fits among.
    no_frame (λ frame. frame.items) c.args.message.now c.self.inside.further.entries
    c.in_ok-frame.frame.items c.in_ok-frame.ensures.text
    (sym c.get.ensures.value ∙ sym c.copied.ensures ∙ c.in_default.is)
    (subst (λ (frames : Waiting). IsAmong frames c.args.message.now) (sym c.self.view_is)
    among)

pub returns-in_ok-set-clause-times : goal.returns-in_ok-set-clause-times
returns-in_ok-set-clause-times c = λ yes text.
    let entries = c.self.inside.further.entries in
    let frame = c.in_ok-frame.frame.items in
    let found = sym c.get.ensures.value ∙ sym c.copied.ensures ∙ c.in-Some.is in
    once_less (λ f. f.items) text frame (frame_text c.args.message.now) entries c.in-Some.further
    (times text c.set.new.self) (times text c.args.self.now) c.in_ok-frame.ensures.text found
    (ap (times text) c.self.view_is) (search rules)
    (subst (λ (waiting : Waiting). times text c.set.new.self
    + (if bytes_eq text frame then first_times frame waiting else 0)
    ≡ times text waiting + (if bytes_eq text frame then c.in-Some.further - 1 + 1 else 0))
    (sym c.self.view_is) (c.in_ok-set.ensures.times text))

pub returns-else-further-gt0-clause-times : goal.returns-else-further-gt0-clause-times
returns-else-further-gt0-clause-times c = λ yes text.
    let entries = c.self.inside.further.entries in
    let frame = c.in_ok-frame.frame.items in
    let found = sym c.get.ensures.value ∙ sym c.copied.ensures ∙ c.in-Some.is in
    last_out (λ f. f.items) text frame (frame_text c.args.message.now) entries
    c.remove-last.new.self.entries c.in-Some.further (times text c.args.self.now)
    c.in_ok-frame.ensures.text found (ap (times text) c.self.view_is)
    (omega (arith, c.if-further-gt0.false)) c.remove-last.ensures.entries
