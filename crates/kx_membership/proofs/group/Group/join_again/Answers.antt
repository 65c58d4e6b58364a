use Rattle.std.proofs.Common.{◌≡◌, sym, ◌∙◌, true}
use Rattle.kx_membership.specs.Group.{must_wait}
use Rattle.kx_membership.proofs.Changes.{waited}
use Rattle.kx_membership.proofs.group.Group.join_again.Goals as goal

pub returns-then-waits : goal.returns-then-waits
returns-then-waits c =
    let waits : must_wait c.args.self.now c.args.number c.args.ask.protocols ≡ true =
    sym c.must_wait-waits.ensures ∙ c.if-waits.true in (
      sym c.again_refusal.ensures ∙ c.in_default.is,
      waited c.args.self.now c.args.number c.args.ask c.args.now c.must_wait-waits.result
          c.renew.new.self c.renew.result c.prepare.new.self waits c.if-waits.true c.renew.ensures.members
          c.renew.ensures.protocol_type c.prepare.ensures,
    )
