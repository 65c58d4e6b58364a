use Rattle.std.proofs.Common.{List, ap, ◌∙◌}
use Rattle.kx_membership.specs.Roster.{RosterState, cut_off, left_alone}
use Rattle.kx_membership.specs.declared.member.Member.{Member}
use Rattle.kx_membership.proofs.Changes.{written}
use Rattle.kx_membership.proofs.roster.Roster.cut_off.Goals as goal

pub returns-in-Some : goal.returns-in-Some
returns-in-Some c =
    let made : List Member → RosterState =
    λ members. record { members = members; gone = c.self.inside.gone.items } in
    ap made (written c.args.number (cut_off c.args.now) c.deref.result.now
    c.self.inside.members.items c.in-Some.place c.index_mut.result.now c.cut_off.new.self
    c.deref.ensures.value c.in-Some.ensures c.index_mut.ensures.value c.cut_off.ensures)
    ∙ ap (left_alone c.args.number c.args.now) c.self.view_is
