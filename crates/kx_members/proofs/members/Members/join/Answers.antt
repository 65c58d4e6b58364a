use Rattle.std.proofs.Common.{◌≡◌, ◌∙◌, ◌<◌, Some, ap, sym, subst}
use Rattle.std.specs.Prelude.{bytes_eq, is_some}
use Rattle.std.specs.Map.{lookup}
use Rattle.std.specs.Option.{option_copied_mut}
use Rattle.kx_members.specs.Standing.{joined}
use Rattle.kx_members.specs.Table.{GroupState, Table}
use Rattle.kx_members.proofs.Tables.{IsSet, changed_by, known_state}
use Rattle.kx_model.specs.Groups.{greatest_generation}
use Rattle.kx_members.proofs.members.Members.join.Goals as goal

pub join-requires-clause-room : goal.join-requires-clause-room
join-requires-clause-room c =
    let here = known_state c.self.inside.groups.entries c.args.group c.args.self.now
    c.unwrap.result.now c.self.view_is
    (sym c.get_mut.ensures.value ∙ ap option_copied_mut c.unwrap.ensures) in
    ap (λ s. s.has_room) (sym here) ∙ c.requires.room

pub join-requires-clause-fits : goal.join-requires-clause-fits
join-requires-clause-fits c =
    let here = known_state c.self.inside.groups.entries c.args.group c.args.self.now
    c.unwrap.result.now c.self.view_is
    (sym c.get_mut.ensures.value ∙ ap option_copied_mut c.unwrap.ensures) in
    subst (λ (s : GroupState). s.standing.generation < greatest_generation) here c.requires.fits

pub returns : goal.returns
returns c =
    let es = c.self.inside.groups.entries in
    let found : lookup (bytes_eq c.args.group) es ≡ Some c.unwrap.result.now =
    sym c.get_mut.ensures.value ∙ ap option_copied_mut c.unwrap.ensures in
    let here = known_state es c.args.group c.args.self.now c.unwrap.result.now c.self.view_is
    found in
    let through = c.get_mut.follows.holds c.join.new.self in
    changed_by c.args.self.now (c.get_mut.follows.lender c.join.new.self).entries c.args.group
    c.join.new.self (joined c.args.member)
    (subst (λ (t : Table). IsSet t (c.get_mut.follows.lender c.join.new.self).entries c.args.group
    c.join.new.self) c.self.view_is (through.3 (ap is_some found)).0)
    (c.join.ensures ∙ ap (λ (s : GroupState). joined c.args.member s.standing) (sym here))
