use Rattle.std.proofs.Common.{◌≡◌, ◌+◌, bytes_eq, if◌then◌else◌, refl, subst, sym}
use Rattle.kx_follow.specs.Internal.{first_times, waiting_of}
use Rattle.kx_follow.specs.Pending.{AreSent, Waiting, times}
use Rattle.kx_follow.proofs.Counting.{put_times}
use Rattle.kx_follow.proofs.Sending.{put}
use Rattle.kx_follow.proofs.pending.Pending.set.Goals as goal

pub returns-clause-sent : goal.returns-clause-sent
returns-clause-sent c = λ sent are has.
    put (λ frame. frame.items) sent c.self.inside.further.entries c.insert.new.self.entries
    c.args.frame c.args.further c.in_ok-_before._before _ c.in_ok-_before.ensures.entries
    (subst (λ (waiting : Waiting). AreSent sent waiting) (sym c.self.view_is) are) has

pub returns-clause-times : goal.returns-clause-times
returns-clause-times c = λ text.
    let frame = c.args.frame.items in
    subst (λ (waiting : Waiting). times text (waiting_of (λ f. f.items) c.insert.new.self.entries)
    + (if bytes_eq text frame then first_times frame waiting else 0)
    ≡ times text waiting + (if bytes_eq text frame then c.args.further + 1 else 0)) c.self.view_is
    (put_times (λ f. f.items) text frame c.args.frame c.args.further
    c.self.inside.further.entries c.insert.new.self.entries c.in_ok-_before._before refl
    c.in_ok-_before.ensures.old c.in_ok-_before.ensures.entries)
