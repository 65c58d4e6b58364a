use Rattle.std.proofs.Common.{List, ap, ◌∙◌}
use Rattle.kx_membership.specs.Roster.{RosterState, renewed, said_anew}
use Rattle.kx_membership.specs.declared.member.Member.{Member}
use Rattle.kx_membership.proofs.Changes.{written}
use Rattle.kx_membership.proofs.roster.Roster.renew.Goals as goal

pub returns-in-Some-clause-members : goal.returns-in-Some-clause-members
returns-in-Some-clause-members c =
    let made : List Member → RosterState =
    λ members. record { members = members; gone = c.self.inside.gone.items } in
    ap made (written c.args.number (renewed c.args.ask c.args.waits c.args.now)
    c.deref.result.now c.self.inside.members.items c.in-Some.place c.index_mut.result.now
    c.renew.new.self c.deref.ensures.value c.in-Some.ensures c.index_mut.ensures.value
    c.renew.ensures.member)
    ∙ ap (said_anew c.args.number c.args.ask c.args.waits c.args.now) c.self.view_is
