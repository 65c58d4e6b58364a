use Rattle.std.proofs.Common.{ℕ, List, drop, subst}
use Rattle.std.proofs.lemmas.List.{take_rest}
use Rattle.kx_trace_audit.specs.Items.{AfterRefused, IsAfter, NotAnswered}
use Rattle.kx_trace_audit.proofs.Records.{answered, not_followed, refused_so, unanswered, untaken}
use Rattle.kx_trace_audit.proofs.item.told_of_input.Goals as goal

pub returns-in_err-mark : goal.returns-in_err-mark
returns-in_err-mark c = λ took.
    let why = c.in_err-mark.field-0.0 in
    refused_so c.from_residual.result why c.from_residual.ensures.1 _ _
    (not_followed c.args.bytes.now c.args.input c.args.len took why
    (subst (λ (l : List ℕ). AfterRefused l why) (take_rest c.args.bytes.now c.args.len)
    c.in_err-mark.ensures.refused))

pub returns-in-Answer : goal.returns-in-Answer
returns-in-Answer c = λ took.
    let rest = drop c.args.len c.args.bytes.now in
    answered c.args.bytes.now c.args.input c.args.len took c.in-Answer.mark c.in-Answer.frames.now
    c.in-Answer.more (subst (IsAfter rest c.args.ending) c.in-Answer.is
    (subst (λ (l : List ℕ). IsAfter l c.args.ending c.in_ok-mark.field-0)
    (take_rest c.args.bytes.now c.args.len) c.in_ok-mark.ensures.after))

pub returns-in-Untaken : goal.returns-in-Untaken
returns-in-Untaken c = λ took.
    let rest = drop c.args.len c.args.bytes.now in
    untaken c.args.bytes.now c.args.input c.args.len took c.in-Untaken.more
    (subst (IsAfter rest c.args.ending) c.in-Untaken.is
    (subst (λ (l : List ℕ). IsAfter l c.args.ending c.in_ok-mark.field-0)
    (take_rest c.args.bytes.now c.args.len) c.in_ok-mark.ensures.after))

pub returns-in-End : goal.returns-in-End
returns-in-End c = λ took. unanswered c.args.bytes.now c.args.input c.args.len took

pub returns-in-Unknown : goal.returns-in-Unknown
returns-in-Unknown c = λ took.
    let rest = drop c.args.len c.args.bytes.now in
    let is = subst (IsAfter rest c.args.ending) c.in-Unknown.is
    (subst (λ (l : List ℕ). IsAfter l c.args.ending c.in_ok-mark.field-0)
    (take_rest c.args.bytes.now c.args.len) c.in_ok-mark.ensures.after) in
    NotAnswered c.args.input c.args.len took is.0 is.1
