use Rattle.std.proofs.Common.{ap, arith, length}
use Rattle.kx_audit.specs.Replayed.{Progress}
use Rattle.kx_audit.proofs.replayer.Replayer.advance.Goals as goal

pub invariant_of-self : goal.invariant_of-self
invariant_of-self g c =
    let is = c.self.invariant in
    let done = ap (λ (p : Progress _ _). p.done) c.self.view_is in
    let steps = ap (λ (p : Progress _ _). length p.trace.steps) c.self.view_is in
    record {
      answers = is.answers;
      again = is.again;
      whole = is.whole;
      within = omega (arith, c.requires, done, steps);
    }
