use Rattle.std.proofs.Common.{◌++◌, ◌∷◌, []}
use Rattle.std.proofs.lemmas.Result.{on_ok_weaker}
use Rattle.kx_follow.specs.Internal.{first_times}
use Rattle.kx_follow.specs.Pending.{times}
use Rattle.kx_message.specs.Fields.{frame_text}
use Rattle.kx_follow.proofs.Counting.{one_more_times}
use Rattle.kx_follow.proofs.Sending.{last_frame, sent_more}
use Rattle.kx_follow.proofs.pending.Pending.add_short.Goals as goal

pub returns-clause-sent : goal.returns-clause-sent
returns-clause-sent c =
    let m = c.args.message.now in
    on_ok_weaker c.set.result (λ set sent are.
    set (sent ++ m ∷ []) (sent_more sent (m ∷ []) c.args.self.now are)
    (last_frame sent m c.in_ok-frame.frame.items c.in_ok-frame.ensures.reads
    c.in_ok-frame.ensures.text)) c.set.ensures.sent

pub returns-clause-times : goal.returns-clause-times
returns-clause-times c =
    let frame = c.in_ok-frame.frame.items in
    let old = c.args.self.now in
    on_ok_weaker c.set.result (λ set text.
    one_more_times text frame (frame_text c.args.message.now) c.in_ok-further.further
    (times text c.set.new.self) (times text old) (first_times frame old) c.in_ok-frame.ensures.text
    c.in_ok-further.ensures (set text)) c.set.ensures.times
