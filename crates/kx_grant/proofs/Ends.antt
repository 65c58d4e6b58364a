-- By which steps a grant comes to remember an outcome.
use Rattle.std.proofs.Common.{◌≡◌, ◌⊎◌, ℕ, Bool, true, false, cond, refl, inl, inr, Some, None}
use Rattle.std.specs.Prelude.{Option}
use Rattle.kx_message.specs.declared.code.ErrorCode.{ErrorCode}
use Rattle.kx_message.specs.declared.message.Held.{Held}
use Rattle.kx_message.specs.declared.outcome.Outcome.{Outcome}
use Rattle.kx_grant.specs.Sequences.{sequence_in}
use Rattle.kx_grant.specs.Grant.{commit_code, committing}
use Rattle.kx_grant.specs.Grant.{after_verdict, batch_verdict, counts, ended_empty, gone_on, with_sent}
use Rattle.kx_grant.specs.Grant.{is_held, noted, opened, stopped_at}
use Rattle.kx_grant.specs.Steps.{Step, Adds, Batches, Takes, Refuses, Ends, Commits, Goes, Regrants}
use Rattle.kx_grant.specs.Steps.{EndsSo, after_step}
use Rattle.kx_grant.specs.declared.grant.Grant.{Grant}
use Rattle.kx_grant.specs.declared.grant.Phase.{Phase}
use Rattle.kx_grant.specs.declared.grant.Phase.TheVariants as phase
use Rattle.kx_grant.specs.declared.verdicts.BatchVerdict.{BatchVerdict}
use Rattle.kx_grant.specs.declared.verdicts.BatchVerdict.TheVariants.{Send, Refused}

either : (A : Type 0) (f : Phase) (b : Bool) (x y : Grant) → (x.phase ≡ f → A)
    → (y.phase ≡ f → A) → (cond b x y).phase ≡ f → A
either A f true x y u v e = u e
either A f false x y u v e = v e

by_verdict : (A : Type 0) (f : Phase) (r : BatchVerdict) (x y : Grant) → (x.phase ≡ f → A)
    → (y.phase ≡ f → A) → (after_verdict r x y).phase ≡ f → A
by_verdict A f (Send held first) x y u v e = v e
by_verdict A f (Refused c) x y u v e = u e

never_opened : (f : Phase) (outcome : Outcome) → opened f ≡ phase.Ended outcome → ⊥
never_opened phase.Empty outcome e = absurd cc
never_opened phase.Sent outcome e = absurd cc
never_opened phase.Resumed outcome e = absurd cc
never_opened (phase.Ended last) outcome e = absurd cc
never_opened (phase.Decided last) outcome e = absurd cc

never_with_sent : (g : Grant) (q : ℕ) (first : Option ℕ) (outcome : Outcome)
    → (with_sent g q first).phase ≡ phase.Ended outcome → g.phase ≡ phase.Ended outcome
never_with_sent g q None outcome e = e
never_with_sent g q (Some first) outcome e = absurd cc

never_committed : (refusal : Option ErrorCode) (g : Grant) (outcome : Outcome)
    → (committing refusal g).phase ≡ phase.Ended outcome → g.phase ≡ phase.Ended outcome
never_committed None g outcome e = absurd cc
never_committed (Some code) g outcome e = e

ended_so : (g : Grant) (held : Held) (f : Phase) (asked outcome : Outcome) → f ≡ g.phase
    → (ended_empty f asked g).phase ≡ phase.Ended outcome
    → (g.phase ≡ phase.Ended outcome) ⊎ EndsSo g (Ends held asked) outcome
ended_so g held phase.Empty asked outcome s e =
    let same : phase.Ended asked ≡ phase.Ended outcome = e in
    let is : g.phase ≡ phase.Empty = cc in
    let one : asked ≡ outcome = cc in
    inr (is, one)
ended_so g held phase.Sent asked outcome s e = inl e
ended_so g held phase.Resumed asked outcome s e = inl e
ended_so g held (phase.Ended last) asked outcome s e = inl e
ended_so g held (phase.Decided last) asked outcome s e = inl e

pub remembered : (g : Grant) (s : Step) (outcome : Outcome)
    → (after_step g s).phase ≡ phase.Ended outcome
    → (g.phase ≡ phase.Ended outcome) ⊎ EndsSo g s outcome
remembered g (Adds held q) outcome e =
    either ((g.phase ≡ phase.Ended outcome) ⊎ EndsSo g (Adds held q) outcome)
    (phase.Ended outcome) (is_held g.granted held) (noted q g) g
    (λ x. absurd (never_opened g.phase outcome x)) (λ x. inl x) e
remembered g (Batches held q first count) outcome e =
    by_verdict ((g.phase ≡ phase.Ended outcome) ⊎ EndsSo g (Batches held q first count) outcome)
    (phase.Ended outcome) (batch_verdict g held q first count) g
    (with_sent g q (sequence_in first)) (λ x. inl x)
    (λ x. inl (never_with_sent g q (sequence_in first) outcome x)) e
remembered g (Takes held q first count) outcome e =
    either ((g.phase ≡ phase.Ended outcome) ⊎ EndsSo g (Takes held q first count) outcome)
    (phase.Ended outcome) (counts g held q first) (gone_on g q count) g (λ x. inl x) (λ x. inl x) e
remembered g (Refuses held q first count) outcome e =
    either ((g.phase ≡ phase.Ended outcome) ⊎ EndsSo g (Refuses held q first count) outcome)
    (phase.Ended outcome) (counts g held q first) (stopped_at (gone_on g q count) q) g
    (λ x. inl x) (λ x. inl x) e
remembered g (Ends held asked) outcome e =
    either ((g.phase ≡ phase.Ended outcome) ⊎ EndsSo g (Ends held asked) outcome)
    (phase.Ended outcome) (is_held g.granted held) (ended_empty g.phase asked g) g
    (λ x. ended_so g held g.phase asked outcome refl x) (λ x. inl x) e
remembered g (Commits held) outcome e = inl (never_committed (commit_code g held) g outcome e)
remembered g (Goes decided next) outcome e =
    let same : phase.Ended decided ≡ phase.Ended outcome = e in
    let one : decided ≡ outcome = cc in
    inr one
remembered g (Regrants asked held) outcome e =
    let never : phase.Empty ≡ phase.Ended outcome = e in absurd cc

opened_read : (f : Phase) (outcome : Outcome) → opened f ≡ phase.Decided outcome → ⊥
opened_read phase.Empty outcome e = absurd cc
opened_read phase.Sent outcome e = absurd cc
opened_read phase.Resumed outcome e = absurd cc
opened_read (phase.Ended last) outcome e = absurd cc
opened_read (phase.Decided last) outcome e = absurd cc

with_sent_read : (g : Grant) (q : ℕ) (first : Option ℕ) (outcome : Outcome)
    → (with_sent g q first).phase ≡ phase.Decided outcome → g.phase ≡ phase.Decided outcome
with_sent_read g q None outcome e = e
with_sent_read g q (Some first) outcome e = absurd cc

committed_read : (refusal : Option ErrorCode) (g : Grant) (outcome : Outcome)
    → (committing refusal g).phase ≡ phase.Decided outcome → g.phase ≡ phase.Decided outcome
committed_read None g outcome e = absurd cc
committed_read (Some code) g outcome e = e

ended_read : (g : Grant) (f : Phase) (asked outcome : Outcome)
    → (ended_empty f asked g).phase ≡ phase.Decided outcome → g.phase ≡ phase.Decided outcome
ended_read g phase.Empty asked outcome e =
    let never : phase.Ended asked ≡ phase.Decided outcome = e in absurd cc
ended_read g phase.Sent asked outcome e = e
ended_read g phase.Resumed asked outcome e = e
ended_read g (phase.Ended last) asked outcome e = e
ended_read g (phase.Decided last) asked outcome e = e

pub read : (g : Grant) (s : Step) (outcome : Outcome)
    → (after_step g s).phase ≡ phase.Decided outcome → g.phase ≡ phase.Decided outcome
read g (Adds held q) outcome e =
    either (g.phase ≡ phase.Decided outcome) (phase.Decided outcome) (is_held g.granted held)
    (noted q g) g (λ x. absurd (opened_read g.phase outcome x)) (λ x. x) e
read g (Batches held q first count) outcome e =
    by_verdict (g.phase ≡ phase.Decided outcome) (phase.Decided outcome)
    (batch_verdict g held q first count) g (with_sent g q (sequence_in first)) (λ x. x)
    (λ x. with_sent_read g q (sequence_in first) outcome x) e
read g (Takes held q first count) outcome e =
    either (g.phase ≡ phase.Decided outcome) (phase.Decided outcome) (counts g held q first)
    (gone_on g q count) g (λ x. x) (λ x. x) e
read g (Refuses held q first count) outcome e =
    either (g.phase ≡ phase.Decided outcome) (phase.Decided outcome) (counts g held q first)
    (stopped_at (gone_on g q count) q) g (λ x. x) (λ x. x) e
read g (Ends held asked) outcome e =
    either (g.phase ≡ phase.Decided outcome) (phase.Decided outcome) (is_held g.granted held)
    (ended_empty g.phase asked g) g (λ x. ended_read g g.phase asked outcome x) (λ x. x) e
read g (Commits held) outcome e = committed_read (commit_code g held) g outcome e
read g (Goes decided next) outcome e =
    let never : phase.Ended decided ≡ phase.Decided outcome = e in absurd cc
read g (Regrants asked held) outcome e =
    let never : phase.Empty ≡ phase.Decided outcome = e in absurd cc
