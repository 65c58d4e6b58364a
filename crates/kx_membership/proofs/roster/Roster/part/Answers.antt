use Rattle.std.proofs.Common.{◌≡◌, ◌+◌, ◌++◌, List, ℕ, not, rules, tests, ap, ◌∙◌, arith}
use Rattle.std.proofs.Common.{length, length-append}
use Rattle.std.specs.List.{filter}
use Rattle.std.proofs.lemmas.Fn.{filter_same}
use Rattle.kx_membership.specs.Roster.{RosterState, goes, gone_numbers, parted}
use Rattle.kx_membership.specs.declared.member.Member.{Member}
use Rattle.kx_membership.proofs.Changes.{parted_room}
use Rattle.kx_membership.proofs.roster.Roster.part.Goals as goal

pub invariant_of-self : goal.invariant_of-self
invariant_of-self c =
    let members = c.self.inside.members.items in
    let kept : c.retain.new.self.items
    ≡ filter (λ (m : Member). not (goes c.args.going m)) members =
    filter_same _ (λ (m : Member). not (goes c.args.going m)) _
    (λ x b f' k. search (rules, tests)) _ _ c.retain.ensures.filtered in
    let noted : length c.note_gone.new.gone.items
    ≡ length c.self.inside.gone.items + length (gone_numbers c.args.going members) =
    ap length (c.note_gone.ensures.items
    ∙ ap (λ listed. c.self.inside.gone.items ++ gone_numbers c.args.going listed)
    c.deref.ensures.value)
    ∙ length-append c.self.inside.gone.items (gone_numbers c.args.going members) in
    omega (
      arith,
      ap length kept,
      noted,
      parted_room c.args.going members,
      c.note_gone.new.gone.ok.0,
      c.retain.new.self.ok.0,
      c.self.inside.gone.ok.0,
      c.self.inside.members.ok.0,
      c.self.invariant,
      c.note_gone.ensures.room.0,
    )

pub returns : goal.returns
returns c =
    let members = c.self.inside.members.items in
    let kept : c.retain.new.self.items
    ≡ filter (λ (m : Member). not (goes c.args.going m)) members =
    filter_same _ (λ (m : Member). not (goes c.args.going m)) _
    (λ x b f' k. search (rules, tests)) _ _ c.retain.ensures.filtered in
    let with_members : List Member → RosterState =
    λ staying. record { members = staying; gone = c.note_gone.new.gone.items } in
    let with_gone : List ℕ → RosterState = λ numbers. record {
      members = filter (λ (m : Member). not (goes c.args.going m)) members;
      gone = numbers;
    } in
    ap with_members kept
    ∙ ap with_gone (c.note_gone.ensures.items
    ∙ ap (λ listed. c.self.inside.gone.items ++ gone_numbers c.args.going listed)
    c.deref.ensures.value)
    ∙ ap (parted c.args.going) c.self.view_is
