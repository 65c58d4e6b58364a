use Rattle.std.proofs.Common.{◌≡◌, ◌∙◌, ◌++◌, ◌∷◌, [], List, refl, rules, subst, sym}
use Rattle.std.specs.Prelude.{MatchResult}
use Rattle.kx_broker.proofs.Adding.{commit_held, match_err, now_added, now_full, now_waits}
use Rattle.kx_broker.proofs.Adding.{one_parked}
use Rattle.kx_broker.proofs.OffsetsParked.{asked_by}
use Rattle.kx_message.specs.declared.message.Message.TheVariants as msg
use Rattle.kx_message.specs.declared.requests.TxnOffsetCommit.{TxnOffsetCommit}
use Rattle.kx_model.specs.Verification.{Parked}
use Rattle.kx_verify.specs.Guard.{SameParked, after, answer_to}
use Rattle.kx_verify.specs.Request.{IsParked}
use Rattle.kx_verify.specs.declared.guard.Asked.TheVariants as asked
use Rattle.kx_broker.specs.Memory.{IsAdded}
use Rattle.kx_broker.proofs.waiting.ParkedCommits.ask.Goals as goal

pub invariant_of-self : goal.invariant_of-self
invariant_of-self c =
    let old = c.self.inside.guard in
    let request = c.in-Ok.request in
    let same : c.in_ok-clone.field-0 ≡ c.args.it.now = search rules in
    let parked = subst (λ (q : TxnOffsetCommit). IsParked (msg.TxnOffsetCommit q) request) same
    c.in-Ok.ensures.0 in
    asked_by c.ask.result c.ask.new.self old request (λ asked. asked ≡ answer_to old request)
    (λ refused. after old request ≡ old ++ request ∷ []) c.ask.ensures.answer c.self.invariant
    (c.requires.at_0 request parked)

pub returns-then-has_commit : goal.returns-then-has_commit
returns-then-has_commit c = λ p is.
    subst (λ (l : List Parked). (asked.Parked ≡ answer_to l p) × SameParked l (after l p))
    c.self.view_is
    (now_waits (msg.TxnOffsetCommit c.args.it.now) p c.self.inside.guard
    c.parked-parked.result.now c.args.it.now.held is
    (commit_held c.args.it.now p c.commits_fit.ensures c.requires.above is)
    c.parked-parked.ensures.value c.parked-parked.ensures.few c.parked-parked.ensures.own
    (sym c.has_commit.ensures ∙ c.if-has_commit.true))

pub returns-then-parked-eq-PARKED_LIMIT : goal.returns-then-parked-eq-PARKED_LIMIT
returns-then-parked-eq-PARKED_LIMIT c = λ p is.
    subst (λ (l : List Parked). (asked.Full ≡ answer_to l p) × SameParked l (after l p))
    c.self.view_is
    (now_full (msg.TxnOffsetCommit c.args.it.now) p c.self.inside.guard
    c.parked-parked.result.now c.args.it.now.held is
    (commit_held c.args.it.now p c.commits_fit.ensures c.requires.above is)
    c.parked-parked.ensures.value c.parked-parked.ensures.few c.parked-parked.ensures.own
    (sym c.has_commit.ensures ∙ c.if-has_commit.false) c.if-parked-eq-PARKED_LIMIT.true)

pub returns-in_err-clone : goal.returns-in_err-clone
returns-in_err-clone c = λ p is.
    match_err c.from_residual.result _ c.from_residual.ensures.0 (
      refl,
      subst (λ (l : List Parked). IsAdded l p) c.self.view_is
          (now_added (msg.TxnOffsetCommit c.args.it.now) p c.self.inside.guard
          c.parked-parked.result.now c.args.it.now.held is
          (commit_held c.args.it.now p c.commits_fit.ensures c.requires.above is)
          c.parked-parked.ensures.value c.parked-parked.ensures.few c.parked-parked.ensures.own
          (sym c.has_commit.ensures ∙ c.if-has_commit.false) c.if-parked-eq-PARKED_LIMIT.false),
    )

pub returns : goal.returns
returns c = λ p is.
    let old = c.self.inside.guard in
    let new = c.ask.new.self in
    let same : c.in_ok-clone.field-0 ≡ c.args.it.now = search rules in
    let request = c.in-Ok.request in
    let parked = subst (λ (q : TxnOffsetCommit). IsParked (msg.TxnOffsetCommit q) request) same
    c.in-Ok.ensures.0 in
    subst (λ (l : List Parked). MatchResult c.ask.result
    (λ asked. (asked ≡ answer_to l p) × SameParked new (after l p))
    (λ refused. (new ≡ l) × IsAdded l p)) c.self.view_is
    (subst (λ (q : Parked). MatchResult c.ask.result
    (λ asked. (asked ≡ answer_to old q) × SameParked new (after old q))
    (λ refused. (new ≡ old) × (after old q ≡ old ++ q ∷ [])))
    (one_parked (msg.TxnOffsetCommit c.args.it.now) request p parked is) c.ask.ensures.answer)
