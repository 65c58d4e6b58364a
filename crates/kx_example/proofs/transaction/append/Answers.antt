use Rattle.std.proofs.Common.{false, true, ap, inr, refl, sym, subst, ◌∙◌}
use Rattle.std.specs.Prelude.{◌≡◌}
use Rattle.std.proofs.lemmas.Result.{IfOk-weaker, on_err_weaker}
use Rattle.kx_partition.specs.Answer.{IsProduced}
use Rattle.kx_partition.specs.declared.answer.Produced.TheVariants as produced
use Rattle.kx_example.specs.Example.{Asks, AtOnce, Listed, NotListed, says_listed}
use Rattle.kx_example.proofs.Answers.{on_any, unchanged}
use Rattle.kx_example.proofs.transaction.append.Goals as goal

pub returns-in_default : goal.returns-in_default
returns-in_default c = record {
  answer = AtOnce _ c.in_default.not-Unverified refl c.in_ok-answer.ensures.answer;
  err = tt;
  asked = tt;
}

pub returns-in_err-messages-clause-err : goal.returns-in_err-messages-clause-err
returns-in_err-messages-clause-err c =
    on_any c.from_residual-in_err-messages.result
    (unchanged c.in-Unverified.is c.in_ok-answer.ensures.answer)

pub returns-then-not-is_listed-clause-answer : goal.returns-then-not-is_listed-clause-answer
returns-then-not-is_listed-clause-answer c =
    NotListed
    (subst (IsProduced c.args.batch.now false c.args.partition.now c.produce.new.self)
    c.in-Unverified.is c.in_ok-answer.ensures.answer)
    (record {
      replies = c.in_ok-messages.messages;
      responds = c.in_ok-messages.ensures.ok;
      says = ap says_listed (sym c.as_slice.ensures) ∙ sym c.is_listed.ensures
          ∙ c.if-not-is_listed.true;
    })

pub returns-clause-answer : goal.returns-clause-answer
returns-clause-answer c =
    let same : c.produce.new.self ≡ c.args.partition.now =
    unchanged c.in-Unverified.is c.in_ok-answer.ensures.answer in
    let first : IsProduced c.args.batch.now false c.args.partition.now c.args.partition.now
    produced.Unverified =
    subst (λ log. IsProduced c.args.batch.now false c.args.partition.now log produced.Unverified)
    same
    (subst (IsProduced c.args.batch.now false c.args.partition.now c.produce.new.self)
    c.in-Unverified.is c.in_ok-answer.ensures.answer) in
    let asks : Asks c.args.coordinator.now c.add_partition.new.self c.args.request true = record {
      replies = c.in_ok-messages.messages;
      responds = c.in_ok-messages.ensures.ok;
      says = ap says_listed (sym c.as_slice.ensures) ∙ sym c.is_listed.ensures
          ∙ c.if-not-is_listed.false;
    } in
    IfOk-weaker c.produce-2.result _ _
    (λ answer is. Listed answer first asks
    (subst (λ log. IsProduced c.args.batch.now true log c.produce-2.new.self answer) same is))
    c.produce-2.ensures.answer

pub returns-clause-err : goal.returns-clause-err
returns-clause-err c =
    on_err_weaker c.produce-2.result
    (λ kept. kept ∙ unchanged c.in-Unverified.is c.in_ok-answer.ensures.answer)
    c.produce-2.ensures.err

pub returns-clause-asked : goal.returns-clause-asked
returns-clause-asked c =
    let asks : Asks c.args.coordinator.now c.add_partition.new.self c.args.request true = record {
      replies = c.in_ok-messages.messages;
      responds = c.in_ok-messages.ensures.ok;
      says = ap says_listed (sym c.as_slice.ensures) ∙ sym c.is_listed.ensures
          ∙ c.if-not-is_listed.false;
    } in
    on_any c.produce-2.result (inr asks)
