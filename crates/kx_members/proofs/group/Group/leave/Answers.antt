use Rattle.std.proofs.Common.{◌≡◌, ◌∙◌, rules, tests, false, not, ℕ, [], ◌∷◌, ◌++◌}
use Rattle.std.specs.Prelude.{filter, ◌==◌}
use Rattle.std.proofs.lemmas.Fn.{filter_same}
use Rattle.kx_members.specs.Standing.{is_among}
use Rattle.kx_members.proofs.Leaving.{added_behind}
use Rattle.kx_members.proofs.group.Group.leave.Goals as goal

-- src/group.rt:145:5
pub returns : goal.returns
returns c =
    let left : c.retain.new.self.items
    ≡ filter (λ m. not (m == c.args.member)) c.self.inside.members.items =
    filter_same _ (λ (m : ℕ). not (m == c.args.member)) _
    (λ x b f' k. search (rules, tests)) _ _ c.retain.ensures.filtered in
    let here : is_among c.args.member c.self.inside.gone.keys ≡ false = search rules in
    let behind : c.insert.new.self.keys ≡ c.self.inside.gone.keys ++ c.args.member ∷ [] =
    search rules ∙ added_behind c.args.member c.self.inside.gone.keys here in
    search rules
