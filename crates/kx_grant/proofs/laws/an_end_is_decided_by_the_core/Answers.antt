use Rattle.std.proofs.Common.{◌≡◌, Bool, true, false, cond, refl, sym, ap, ◌∙◌, subst, inl, inr, Some}
use Rattle.std.specs.Prelude.{Option, None, ℤ, int_lt, pos, unwrap_or}
use Rattle.kx_message.specs.declared.message.Held.{Held}
use Rattle.kx_message.specs.declared.outcome.Outcome.{Outcome}
use Rattle.kx_message.specs.declared.outcome.Outcome.TheVariants.{Abort, Commit}
use Rattle.kx_message.specs.declared.code.ErrorCode.{ErrorCode}
use Rattle.kx_message.specs.declared.code.ErrorCode.TheVariants as code
use Rattle.kx_message.specs.declared.requests.EndTxn.{EndTxn}
use Rattle.kx_grant.specs.Grant.{after_batch, after_commit, committing, end_in, end_verdict, is_held}
use Rattle.kx_grant.specs.Grant.{offsets_code, same_outcome}
use Rattle.kx_grant.specs.Producer.{end_of, end_step}
use Rattle.kx_grant.specs.Grant.{with_sent}
use Rattle.kx_grant.specs.Sequences.{sequence_in}
use Rattle.kx_grant.specs.Steps.{EndsAtOnce, after_all}
use Rattle.kx_grant.specs.declared.grant.Grant.{Grant}
use Rattle.kx_grant.specs.declared.grant.Phase.{Phase}
use Rattle.kx_grant.specs.declared.grant.Phase.TheVariants as phase
use Rattle.kx_grant.specs.declared.verdicts.EndStep.TheVariants as step
use Rattle.kx_grant.specs.declared.verdicts.EndVerdict.{EndVerdict}
use Rattle.kx_grant.specs.declared.verdicts.EndVerdict.TheVariants as end
use Rattle.kx_grant.proofs.Ends.{read, remembered}
use Rattle.kx_grant.proofs.Rises.{all_same}
use Rattle.kx_grant.proofs.Sends.{with_sent_is, sent_at}
use Rattle.kx_grant.proofs.Sent.{all_still_sent}
use Rattle.kx_grant.proofs.Within.{Within, begins, stays_within}
use Rattle.kx_grant.proofs.laws.an_end_is_decided_by_the_core.Goals as goal

chosen : (b : Bool) (x y z : EndVerdict) → b ≡ true → x ≡ z → cond b x y ≡ z
chosen true x y z e f = f
chosen false x y z e f = absurd cc

pub returns-clause-asked : goal.returns-clause-asked
returns-clause-asked c = λ g steps held one p first count place outcome e stay.
    let at = sent_at g held p first count one place e in
    let base = unwrap_or at.sent.found.listed.base at.sequence in
    let after : after_batch g held p first count ≡ with_sent g p (Some at.sequence) =
    with_sent_is g held p first count one place e ∙ ap (λ n. with_sent g p (sequence_in n)) at.first_is in
    let here : Within g.granted g.core p base (after_batch g held p first count) =
    subst (λ (x : Grant). Within g.granted g.core p base x) (sym after)
    (begins g held p at.sequence one place at.sent) in
    let last = after_all (after_batch g held p first count) steps in
    let w : Within g.granted g.core p base last =
    stays_within g.granted g.core p base steps (after_batch g held p first count) stay here in
    let ours : is_held last.granted held ≡ true =
    ap (λ (h : Held). is_held h held) w.granted_is ∙ at.sent.is_ours in
    let asks : end_in last.core last.phase outcome ≡ end.Ask last.core outcome =
    ap (λ (f : Phase). end_in last.core f outcome) w.phase_is in
    let core : last.core ≡ one = w.core_is ∙ sym at.sent.found.core_is in
    chosen (is_held last.granted held) (end_in last.core last.phase outcome) end.Fenced
    (end.Ask one outcome) ours (asks ∙ ap (λ (h : Held). end.Ask h outcome) core)

-- code 0 after an end is for the same outcome
agrees : (last outcome : Outcome) (b : Bool) (other : ErrorCode) → (other ≡ code.NoError → ⊥)
    → same_outcome last outcome ≡ b
    → end.Answer (cond b code.NoError other) ≡ end.Answer code.NoError → last ≡ outcome
agrees last outcome false other h s e = absurd (h cc)
agrees Abort Abort true other h s e = refl
agrees Commit Commit true other h s e = refl
agrees Abort Commit true other h s e = absurd cc
agrees Commit Abort true other h s e = absurd cc

by_phase : (core : Held) (f : Phase) (outcome : Outcome)
    → end_in core f outcome ≡ end.Answer code.NoError → EndsAtOnce f outcome
by_phase core phase.Empty outcome e = tt
by_phase core phase.Sent outcome e = absurd cc
by_phase core phase.Resumed outcome e = absurd cc
by_phase core (phase.Ended last) outcome e =
    agrees last outcome (same_outcome last outcome) code.InvalidTxnState (λ never. absurd cc) refl e
by_phase core (phase.Decided last) Abort e = inr refl
by_phase core (phase.Decided last) Commit e =
    inl (agrees last Commit (same_outcome last Commit) code.InvalidProducerIdMapping
    (λ never. absurd cc) refl e)

ours_only : (b : Bool) (x : EndVerdict) → cond b x end.Fenced ≡ end.Answer code.NoError
    → x ≡ end.Answer code.NoError
ours_only true x e = e
ours_only false x e = absurd cc

no_refusal : (b : Bool) (f : Option ErrorCode) (x : ErrorCode) → cond b f (Some x) ≡ None
    → (b ≡ true) × (f ≡ None)
no_refusal true f x e = (refl, e)
no_refusal false f x e = absurd cc

pub returns-clause-offsets : goal.returns-clause-offsets
returns-clause-offsets c = λ g steps held outcome e stay.
    let sent : after_commit g held ≡ record g { phase = phase.Sent } =
    ap (λ (x : Option ErrorCode). committing x g) e in
    let ours = no_refusal (is_held g.granted held) (offsets_code g.phase) code.InvalidProducerEpoch e in
    let same = all_same steps (record g { phase = phase.Sent }) stay in
    let last = after_all (record g { phase = phase.Sent }) steps in
    let still : last.phase ≡ phase.Sent =
    all_still_sent steps (record g { phase = phase.Sent }) stay refl in
    let held_still : is_held last.granted held ≡ true =
    ap (λ (h : Held). is_held h held) same.granted ∙ ours.0 in
    let asks : end_in last.core last.phase outcome ≡ end.Ask g.core outcome =
    ap (λ (f : Phase). end_in last.core f outcome) still
    ∙ ap (λ (h : Held). end.Ask h outcome) same.core in
    ap (λ (x : Grant). end_verdict (after_all x steps) held outcome) sent
    ∙ chosen (is_held last.granted held) (end_in last.core last.phase outcome) end.Fenced
    (end.Ask g.core outcome) held_still asks

pub returns-clause-answered : goal.returns-clause-answered
returns-clause-answered c = λ g held outcome e.
    by_phase g.core g.phase outcome
    (ours_only (is_held g.granted held) (end_in g.core g.phase outcome) e)

pub returns-clause-remembered : goal.returns-clause-remembered
returns-clause-remembered c = remembered

pub returns-clause-read : goal.returns-clause-read
returns-clause-read c = read

never_fenced : (b : Bool) → cond b code.InvalidProducerEpoch code.ProducerFenced ≡ code.NoError
    → ⊥
never_fenced true e = absurd cc
never_fenced false e = absurd cc

zero_step : (version : ℤ) (request : EndTxn) (v : EndVerdict)
    → end_step version request v ≡ step.Answer code.NoError → v ≡ end.Answer code.NoError
zero_step version request (end.Ask held outcome) e = absurd cc
zero_step version request (end.Answer given) e =
    let same : given ≡ code.NoError = cc in
    ap (λ (x : ErrorCode). end.Answer x) same
zero_step version request end.Fenced e =
    let same : cond (int_lt version (pos 2)) code.InvalidProducerEpoch code.ProducerFenced
    ≡ code.NoError = cc in
    absurd (never_fenced (int_lt version (pos 2)) same)

at_once : (version : ℤ) (request : EndTxn) (grant : Option Grant)
    → end_of version request grant ≡ step.Answer code.NoError
    → (g : Grant) × (grant ≡ Some g) × EndsAtOnce g.phase request.outcome
at_once version request None e = absurd cc
at_once version request (Some g) e =
    let verdict : end_verdict g request.held request.outcome ≡ end.Answer code.NoError =
    zero_step version request (end_verdict g request.held request.outcome) e in (
      g,
      refl,
      by_phase g.core g.phase request.outcome
          (ours_only (is_held g.granted request.held) (end_in g.core g.phase request.outcome) verdict),
    )

pub returns-clause-at_once : goal.returns-clause-at_once
returns-clause-at_once c = at_once

-- the core is asked for this outcome
asks_so : (b : Bool) (core : Held) (f : Phase) (outcome : Outcome) (held : Held) (asked : Outcome)
    → cond b (end_in core f outcome) end.Fenced ≡ end.Ask held asked → asked ≡ outcome
asks_so false core f outcome held asked e = absurd cc
asks_so true core phase.Empty outcome held asked e = absurd cc
asks_so true core phase.Sent outcome held asked e = cc
asks_so true core phase.Resumed outcome held asked e = cc
asks_so true core (phase.Ended last) outcome held asked e = absurd cc
asks_so true core (phase.Decided last) Abort held asked e = absurd cc
asks_so true core (phase.Decided last) Commit held asked e = absurd cc

asking_step : (version : ℤ) (request core : EndTxn) (v : EndVerdict)
    → end_step version request v ≡ step.Ask core
    → (held : Held) × (v ≡ end.Ask held core.outcome)
asking_step version request core (end.Ask held outcome) e =
    let same : record request { held = held; outcome = outcome } ≡ core = cc in
    (held, ap (λ (x : EndTxn). end.Ask held x.outcome) same)
asking_step version request core (end.Answer given) e = absurd cc
asking_step version request core end.Fenced e = absurd cc

as_asked : (version : ℤ) (request core : EndTxn) (grant : Option Grant)
    → end_of version request grant ≡ step.Ask core → core.outcome ≡ request.outcome
as_asked version request core None e = absurd cc
as_asked version request core (Some g) e =
    let asking = asking_step version request core
    (end_verdict g request.held request.outcome) e in
    asks_so (is_held g.granted request.held) g.core g.phase request.outcome asking.0 core.outcome
    asking.1

pub returns-clause-as_asked : goal.returns-clause-as_asked
returns-clause-as_asked c = as_asked
