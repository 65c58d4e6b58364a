use Rattle.std.proofs.Common.{ap, ◌∷◌, ◌∙◌, map, List, ℕ}
use Rattle.std.specs.List.{fold}
use Rattle.kx_membership.specs.Internal.Counting.{all_now, better_of, first_of}
use Rattle.kx_membership.specs.Votes.{vote_of}
use Rattle.kx_membership.proofs.Counting.{chosen}
use Rattle.kx_membership.proofs.Offering.{map_alike, votes_alike}
use Rattle.kx_membership.proofs.votes.chosen_by.Goals as goal

pub returns : goal.returns
returns c =
    let leader = c.args.leader.now in
    let members = c.args.members.now in
    let all = all_now c.as_slice-3.result.now in
    let names = ap all_now c.as_slice.ensures.value ∙ c.in_ok-names.ensures in
    let names_too = ap all_now c.as_slice-2.ensures.value ∙ c.in_ok-names.ensures in
    let first = c.first_of.ensures ∙ ap (λ (n : List (List ℕ)). first_of n leader) names_too
    ∙ votes_alike leader members leader in
    chosen (vote_of (leader ∷ members)) leader members all c.best_of.result.now
    (ap all_now c.as_slice-3.ensures.value ∙ c.in_ok-all.ensures
    ∙ ap (λ (n : List (List ℕ)). map (first_of n) members) names
    ∙ map_alike leader members members)
    (c.best_of.ensures ∙ ap (λ (v : List ℕ). fold (better_of all) v all) first)
