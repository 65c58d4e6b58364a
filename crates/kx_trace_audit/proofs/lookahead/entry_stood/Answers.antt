use Rattle.std.proofs.Common.{◌≡◌, ◌∙◌, Bool, Option, drop, subst, sym}
use Rattle.std.proofs.lemmas.List.{take_rest}
use Rattle.std.proofs.lemmas.Option.{MatchOption-at_none, MatchOption-at_some}
use Rattle.kx_trace.specs.Reading.{More, record_at}
use Rattle.kx_trace_audit.specs.Internal.{LooksAt}
use Rattle.kx_trace_audit.specs.Lookahead.{EntryIsTold}
use Rattle.kx_trace_audit.proofs.Ahead.{HasPassed, breaks, ends, passes, tells}
use Rattle.kx_trace_audit.proofs.Records.{refused_so}
use Rattle.kx_trace_audit.proofs.lookahead.entry_stood.Goals as goal

pub returns-in_err-looked : goal.returns-in_err-looked
returns-in_err-looked c =
    let n = c.args.log_len in
    let bytes = c.args.bytes.now in
    let rest = c.loop-looked.rest.now in
    let restarts = c.loop-looked.restarts in
    let passed = c.loop-looked.invariant.passed in
    let why = c.in_err-looked.field-0.0 in
    refused_so c.from_residual.result why c.from_residual.ensures.1 _ _
    (breaks n bytes restarts rest passed why c.in_err-looked.ensures)

pub returns-in-Some-told : goal.returns-in-Some-told
returns-in-Some-told c =
    let n = c.args.log_len in
    let bytes = c.args.bytes.now in
    let rest = c.loop-looked.rest.now in
    let restarts = c.loop-looked.restarts in
    let passed = c.loop-looked.invariant.passed in
    let looked = c.in-Some.looked in
    let looks = MatchOption-at_some (record_at rest ≡ More) (LooksAt n restarts rest)
    looked c.in-Some.is c.in_ok-looked.ensures in
    tells n bytes restarts rest passed looks.next looked.len looks.begins c.args.ending
    c.in-Some-told.stood (sym looks.told_is ∙ c.in-Some-told.is)

pub loop-looked-preserved : goal.loop-looked-preserved
loop-looked-preserved c =
    let n = c.args.log_len in
    let bytes = c.args.bytes.now in
    let rest = c.loop-looked.rest.now in
    let restarts = c.loop-looked.restarts in
    let passed = c.loop-looked.invariant.passed in
    let looked = c.in-Some.looked in
    let looks = MatchOption-at_some (record_at rest ≡ More) (LooksAt n restarts rest)
    looked c.in-Some.is c.in_ok-looked.ensures in
    record {
      passed = subst (HasPassed n bytes looked.restarts) (sym (take_rest rest looked.len))
          (subst (λ (b : Bool). HasPassed n bytes b (drop looked.len rest)) (sym looks.restarts_is)
          (passes n bytes restarts rest passed looks.next looked.len looks.begins
          (sym looks.told_is ∙ c.in_default-told.is)));
    }

pub returns : goal.returns
returns c =
    let n = c.args.log_len in
    let bytes = c.args.bytes.now in
    let rest = c.loop-looked.rest.now in
    let restarts = c.loop-looked.restarts in
    let passed = c.loop-looked.invariant.passed in
    subst (λ (o : Option Bool). EntryIsTold n c.args.ending bytes o) (sym c.stood_at.ensures)
    (ends n bytes restarts rest passed c.args.ending
    (MatchOption-at_none (record_at rest ≡ More) (LooksAt n restarts rest)
    c.in_default.is c.in_ok-looked.ensures))
