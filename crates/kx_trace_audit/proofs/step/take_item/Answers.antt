use Rattle.std.proofs.Common.{ℕ, Bool, List, Option, drop, refl, subst, sym}
use Rattle.kx_follow.specs.Following.{state_after}
use Rattle.kx_trace_audit.specs.Items.{RestRefused, told_of}
use Rattle.kx_machine.specs.declared.machine.StoreMode.{StoreMode}
use Rattle.kx_trace_audit.specs.Stepping.{HasStepped, IsDecidedAt, NotDecided, Refuses}
use Rattle.kx_trace_audit.specs.declared.step.Stepped.{Stepped}
use Rattle.kx_trace_audit.proofs.Records.{refused_after, refused_so}
use Rattle.kx_trace_audit.proofs.Telling.{decided_at, no_item_read, refuses, steps, used_within}
use Rattle.kx_trace_audit.proofs.step.take_item.Goals as goal

pub returns-in_err-stood-clause-steps : goal.returns-in_err-stood-clause-steps
returns-in_err-stood-clause-steps g c = λ bytes item_is rest_is starts history made n there.
    let making = g.B.Tells.making in
    let stands = g.B.Machine.Machine.stands in
    let k = c.args.node in
    let old = c.args.follower.now in
    let why = c.in_err-stood.field-0.0 in
    let told = told_of c.args.item.now.told in
    let led = made.led k n there in
    let refused = c.in_err-stood.ensures n there (state_after making led.start history n)
    led.stands_so in
    refused_so c.from_residual.result why c.from_residual.ensures.1 _ _
    (no_item_read making stands starts k history old old bytes c.args.ending why
    (refused_after bytes told c.args.item.now.used item_is why
    (subst (λ (l : List ℕ). RestRefused l why) rest_is refused)))

pub returns-in_default-clause-steps : goal.returns-in_default-clause-steps
returns-in_default-clause-steps g c = λ bytes item_is rest_is starts history made n there.
    let making = g.B.Tells.making in
    let stands = g.B.Machine.Machine.stands in
    let k = c.args.node in
    let old = c.args.follower.now in
    let told = told_of c.args.item.now.told in
    let used = c.args.item.now.used in
    let end = c.args.ending in
    subst (λ (s : Stepped). HasStepped making stands starts k bytes end history old old s.progress s.used)
    (sym c.needs_more.ensures) (
      NotDecided told used item_is (subst (λ (o : Option Bool). IsDecidedAt making stands starts k
          told end (drop used bytes) history old o) c.in_default.is
          (decided_at making stands starts k history old made told end bytes used c.args.rest.now
          c.in_ok-stood.field-0 rest_is c.in_ok-stood.ensures)),
      refl,
      refl,
    )

pub returns-in_err-progress-clause-steps : goal.returns-in_err-progress-clause-steps
returns-in_err-progress-clause-steps g c = λ bytes item_is rest_is starts history made n there.
    let making = g.B.Tells.making in
    let stands = g.B.Machine.Machine.stands in
    let k = c.args.node in
    let old = c.args.follower.now in
    let told = told_of c.args.item.now.told in
    let used = c.args.item.now.used in
    let end = c.args.ending in
    let stood = c.in-Some.stood in
    let why = c.in_err-progress.field-0.0 in
    refused_so c.from_residual-in_err-progress.result why c.from_residual-in_err-progress.ensures.1 _ _
    (refuses making stands starts k history old c.take_told.new.follower bytes told used item_is end
    stood (subst (λ (o : Option Bool). IsDecidedAt making stands starts k told end (drop used bytes)
    history old o) c.in-Some.is
    (decided_at making stands starts k history old made told end bytes used c.args.rest.now
    c.in_ok-stood.field-0 rest_is c.in_ok-stood.ensures)) why
    (subst (λ (m : StoreMode). Refuses making stands starts k told m history old
    c.take_told.new.follower why) c.mode_for-mode.ensures
    (c.in_err-progress.ensures starts history made)))

pub returns-clause-within : goal.returns-clause-within
returns-clause-within g c = used_within c.in_ok-progress.progress c.args.item.now.used
    c.used_by-used.result c.used_by-used.ensures

pub returns-clause-steps : goal.returns-clause-steps
returns-clause-steps g c = λ bytes item_is rest_is starts history made n there.
    steps g.B.Tells.making g.B.Machine.Machine.stands starts c.args.node history c.args.follower.now
    c.take_told.new.follower bytes (told_of c.args.item.now.told) c.args.item.now.used item_is
    c.args.ending c.in_ok-progress.progress c.used_by-used.result c.used_by-used.ensures
    (c.in_ok-progress.ensures starts history made)
