use Rattle.std.proofs.Common.{◌≡◌, ◌+◌, ◌-◌, arith, drop, subst}
use Rattle.kx_rerun.specs.Making.{AreClients}
use Rattle.kx_rerun.proofs.makings.makings_of.Goals as goal

pub loop-number-preserved : goal.loop-number-preserved
loop-number-preserved g c =
    let n = c.loop-number.number in
    let traces = c.args.run.now.traces in
    let made = c.loop-number.made.items in
    let next : n ≡ n - 1 + 1 = omega (arith, c.loop-number-test.true) in
    record {
      makings = c.in_ok-place_client.ensures.makings;
      ordered = c.in_ok-place_client.ensures.ordered
          (subst (λ m. AreClients g.F.Process.image_of (drop m traces) made) next
          c.loop-number.invariant.ordered);
    }
