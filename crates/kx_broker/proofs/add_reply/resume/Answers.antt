use Rattle.std.proofs.Common.{◌++◌, ◌∷◌, [], ap, ◌∙◌, arith, refl, true}
use Rattle.std.proofs.Common.{length-append, length, rules}
use Rattle.std.specs.Int.{w64}
use Rattle.std.specs.Int.RustNames.{FitsSigned}
use Rattle.std.proofs.lemmas.Int.{to_z-of_z}
use Rattle.kx_broker.specs.Serving.{GoesTo}
use Rattle.kx_broker.proofs.Resuming.{begins, begun, ends, goes_on, here}
use Rattle.kx_group.proofs.Answers.{on_any}
use Rattle.kx_message.specs.declared.message.Message.{Message}
use Rattle.kx_model.specs.Verification.{reply_to}
use Rattle.kx_broker.proofs.add_reply.resume.Goals as goal

pub loop-request-init : goal.loop-request-init
loop-request-init g c = record {
  run = λ number held all. begins (GoesTo number) held c.args.requests.now c.args.partition.now
      c.args.room.items c.requires.empty;
  many = ap length c.requires.empty;
  capacity = c.requires.space;
}

pub returns-in_err-answer-clause-err : goal.returns-in_err-answer-clause-err
returns-in_err-answer-clause-err g c = λ number held all.
    let l = c.loop-request in
    let q = c.request-item.result in
    let run = l.invariant.run number held all in
    let goes = here (GoesTo number) held c.args.requests.now c.args.partition.now all l.partition
    l.replies.items l.request-index run q c.request-item.is c.loop-request-test.true in
    let next = c.in_err-answer.ensures.refusals number goes (refl {a = true}) in
    on_any c.from_residual.result
    (c.in_err-answer.ensures.err
    ∙ begun (GoesTo number) held c.args.requests.now c.args.partition.now all l.partition
    l.replies.items l.request-index run q c.request-item.is c.loop-request-test.true next)

pub loop-request-preserved : goal.loop-request-preserved
loop-request-preserved g c =
    let l = c.loop-request in
    let q = c.request-item.result in
    let answer = c.in_ok-answer.answer in
    let fits : FitsSigned w64 c.offset_of.result = search rules in
    let offset = to_z-of_z w64 c.offset_of.result fits ∙ c.offset_of.ensures in
    let pushed = c.push_reserved.ensures.items
    ∙ ap (λ (m : Message). l.replies.items ++ m ∷ []) (c.reply_to.ensures
    ∙ λ i. reply_to q.request (c.code.ensures i) (offset i)) in
    let longer = ap length c.push_reserved.ensures.items in
    record {
      run = λ number held all.
          let run = l.invariant.run number held all in
          let goes = here (GoesTo number) held c.args.requests.now c.args.partition.now all
          l.partition l.replies.items l.request-index run q c.request-item.is
          c.loop-request-test.true in
          goes_on (GoesTo number) held c.args.requests.now c.args.partition.now all l.partition
          l.replies.items l.request-index run q c.request-item.is c.loop-request-test.true
          c.run_again.new.partition answer c.push_reserved.new.self.items
          (c.in_ok-answer.ensures.answer number goes) pushed;
      many = omega (
        arith,
        longer,
        length-append l.replies.items (c.reply_to.result ∷ []),
        l.invariant.many,
      );
      capacity = omega (arith, l.invariant.capacity, c.push_reserved.ensures.capacity);
    }

pub returns-clause-ok : goal.returns-clause-ok
returns-clause-ok g c = λ number held all.
    let l = c.loop-request in
    ends (GoesTo number) held c.args.requests.now c.args.partition.now all l.partition
    l.replies.items l.request-index (l.invariant.run number held all) c.loop-request-test.false
