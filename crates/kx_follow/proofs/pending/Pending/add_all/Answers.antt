use Rattle.std.proofs.Common.{◌≡◌, ◌+◌, ◌++◌, ◌∷◌, ◌∙◌, ◌&&◌, ℕ, List, [], ap, arith, bytes_eq, cond, suc, sym, subst, take}
use Rattle.std.proofs.Math.Seq.{take-suc}
use Rattle.std.proofs.lemmas.List.{append_assoc, take_all}
use Rattle.std.proofs.lemmas.List.Sums.{sum_by-append}
use Rattle.kx_message.specs.Fields.{frame_text}
use Rattle.kx_message.specs.declared.message.Message.{Message}
use Rattle.kx_follow.specs.Pending.{AreSent, is_for_server, sent_among, times}
use Rattle.kx_follow.proofs.pending.Pending.add_all.Goals as goal

pub loop-message-preserved : goal.loop-message-preserved
loop-message-preserved c =
    let ms = c.args.messages.now in
    let i = c.loop-message.message-index in
    let m = c.message-item.result in
    let one : i + 1 ≡ suc i = omega arith in
    let next : take (i + 1) ms ≡ take i ms ++ m ∷ [] =
    ap (λ (n : ℕ). take n ms) one ∙ take-suc ms i m (omega (arith, c.loop-message-test.true))
    ∙ ap (λ (x : Message). take i ms ++ x ∷ []) (sym c.message-item.is) in
    record {
      sent = λ sent are.
          subst (λ (l : List Message). AreSent l c.add.new.self)
          (append_assoc sent (take i ms) (m ∷ [])
          ∙ ap (λ (l : List Message). sent ++ l) (sym next))
          (c.in_ok-add.ensures.sent (sent ++ take i ms)
          (c.loop-message.invariant.sent sent are));
      times = λ text.
          let before = c.loop-message.invariant.times text in
          let one = c.in_ok-add.ensures.times text in
          let both = sum_by-append (λ (x : Message).
          cond (is_for_server x && bytes_eq text (frame_text x)) 1 0) (take i ms) (m ∷ []) in
          let all = ap (λ (l : List Message). sent_among text l) next in
          omega (arith, before, one, both, all);
    }

pub returns-clause-times : goal.returns-clause-times
returns-clause-times c = λ text.
    let ms = c.args.messages.now in
    c.loop-message.invariant.times text
    ∙ ap (λ (l : List Message). times text c.args.self.now + sent_among text l)
    (take_all c.loop-message.message-index ms (omega (arith, c.loop-message-test.false)))

pub returns-clause-sent : goal.returns-clause-sent
returns-clause-sent c = λ sent are.
    let ms = c.args.messages.now in
    subst (λ (l : List Message). AreSent (sent ++ l) c.loop-message.self)
    (take_all c.loop-message.message-index ms (omega (arith, c.loop-message-test.false)))
    (c.loop-message.invariant.sent sent are)
