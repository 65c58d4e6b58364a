-- Votes, once each member's is known.
use Rattle.std.specs.Prelude.{ℕ, Bool, nat_lt, List, [], map, bytes_eq, if◌then◌else◌}
use Rattle.std.specs.List.{count_by, filter, find, list_any}
use Rattle.std.specs.Option.{option_map_or}
use Rattle.std.specs.Borrow.{Bor}
use Rattle.kx_membership.specs.Votes.{all_offer}
use Rattle.kx_membership.specs.declared.member.Member.{Member}

-- the names, borrowed
abbrev pub all_now : List (Bor (List ℕ)) → List (List ℕ)
all_now all = map (λ vote. vote.now) all

-- the names of a leader's protocols that all members offer
abbrev pub offered : Member → List Member → List (List ℕ)
offered leader members =
    filter (λ name. all_offer name members) (map (λ p. p.name) leader.protocols)

abbrev pub is_listed : List ℕ → List (List ℕ) → Bool
is_listed name names = list_any (λ listed. bytes_eq listed name) names

-- the first of a member's own among these
abbrev pub first_of : List (List ℕ) → Member → List ℕ
first_of names m =
    option_map_or (λ p. p.name) (find (λ p. is_listed p.name names) m.protocols) []

abbrev pub count_of : List ℕ → List (List ℕ) → ℕ
count_of name all = count_by (λ vote. bytes_eq vote name) all

-- the second, if it has more votes
abbrev pub better_of : List (List ℕ) → List ℕ → List ℕ → List ℕ
better_of all best name = if nat_lt (count_of best all) (count_of name all) then name else best
