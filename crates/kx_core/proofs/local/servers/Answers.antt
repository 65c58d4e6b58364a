use Rattle.std.proofs.Common.{◌∷◌, [], ap, arith, length, length-append, subst, sym}
use Rattle.kx_core.specs.Internal.{AreServers}
use Rattle.kx_core.proofs.Beginning.{one_more}
use Rattle.kx_core.proofs.local.servers.Goals as goal

pub loop-number-preserved : goal.loop-number-preserved
loop-number-preserved c =
    let before = c.loop-number.servers.items in
    let server = c.in_ok-server.field-0 in
    let pushed = c.in_ok-push.ensures.items in
    record {
      count = omega (
        arith,
        ap length pushed,
        length-append before (server ∷ []),
        c.loop-number.invariant.count,
      );
      each = subst AreServers (sym pushed)
          (one_more before server c.loop-number.number c.loop-number.invariant.each
          c.loop-number.invariant.count c.in_ok-server.ensures);
    }
