use Rattle.std.proofs.Common.{◌≡◌, ◌+◌, ◌∙◌, [], None, Some, ap, rules, sym}
use Rattle.kx_follow.specs.Internal.{first_times}
use Rattle.kx_follow.proofs.Counting.{first_is}
use Rattle.kx_follow.proofs.pending.Pending.once_more.Goals as goal

pub returns-in_default : goal.returns-in_default
returns-in_default c =
    let frame = c.args.frame.now.items in
    sym (ap (first_times frame) (sym c.self.view_is)
    ∙ first_is (λ f. f.items) [] frame c.self.inside.further.entries None
    (sym c.get.ensures.value ∙ sym c.copied.ensures ∙ c.in_default.is))

pub returns-in-Some-checked_add : goal.returns-in-Some-checked_add
returns-in-Some-checked_add c =
    let frame = c.args.frame.now.items in
    let first = ap (first_times frame) (sym c.self.view_is)
    ∙ first_is (λ f. f.items) [] frame c.self.inside.further.entries (Some c.in-Some.further)
    (sym c.get.ensures.value ∙ sym c.copied.ensures ∙ c.in-Some.is) in
    let more : c.in-Some-checked_add.more ≡ c.in-Some.further + 1 = search rules in
    more ∙ sym first
