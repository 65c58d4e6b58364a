use Rattle.std.proofs.Common.{◌≡◌, rules, arith}
use Rattle.kx_kafka.specs.Frames.{frame_at, Whole}
use Rattle.kx_kafka.proofs.Fronts.{passes}
use Rattle.kx_kafka.proofs.frames.Frames.pass.Goals as goal

pub overflow_add-self-in-Ok-Some : goal.overflow_add-self-in-Ok-Some
overflow_add-self-in-Ok-Some c =
    let e : frame_at c.args.self.now ≡ Whole c.in-Ok-Some.text.now c.in-Ok-Some.field-0-0-1.now =
    search rules in
    let b = passes c.self.inside.held.items c.self.inside.passed c.args.self.now
    c.in-Ok-Some.text.now c.in-Ok-Some.field-0-0-1.now c.self.invariant c.self.view_is e in
    omega (arith, b.within)

pub invariant_of-self : goal.invariant_of-self
invariant_of-self c =
    let e : frame_at c.args.self.now ≡ Whole c.in-Ok-Some.text.now c.in-Ok-Some.field-0-0-1.now =
    search rules in
    let b = passes c.self.inside.held.items c.self.inside.passed c.args.self.now
    c.in-Ok-Some.text.now c.in-Ok-Some.field-0-0-1.now c.self.invariant c.self.view_is e in
    b.within

pub returns-in-Ok-Some : goal.returns-in-Ok-Some
returns-in-Ok-Some c =
    let e : frame_at c.args.self.now ≡ Whole c.in-Ok-Some.text.now c.in-Ok-Some.field-0-0-1.now =
    search rules in
    let b = passes c.self.inside.held.items c.self.inside.passed c.args.self.now
    c.in-Ok-Some.text.now c.in-Ok-Some.field-0-0-1.now c.self.invariant c.self.view_is e in
    rw e b.is
