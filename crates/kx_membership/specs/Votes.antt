-- Which protocol a group chooses: that for which most members vote, each for the first of its own
-- that all offer.
use Rattle.std.specs.Prelude.{ℕ, ◌==◌, ◌||◌, Bool, nat_lt, List, [], ◌∷◌, Option, bytes_eq}
use Rattle.std.specs.Prelude.{if◌then◌else◌}
use Rattle.std.specs.List.{count_by, find, fold, list_all}
use Rattle.std.specs.Option.{option_map_or}
use Rattle.kx_membership.specs.Protocols.{has_protocol}
use Rattle.kx_membership.specs.declared.ask.Protocol.{Protocol}
use Rattle.kx_membership.specs.declared.member.Member.{Member}

-- each other member offers the protocol of this name
abbrev pub is_offered : List ℕ → ℕ → List Member → Bool
is_offered name number members =
    list_all (λ m. m.number == number || has_protocol name m.protocols) members

-- the first protocol of a member that all offer
abbrev pub common_of : List Protocol → ℕ → List Member → Option Protocol
common_of protocols number members = find (λ p. is_offered p.name number members) protocols

-- each member offers the protocol of this name
abbrev pub all_offer : List ℕ → List Member → Bool
all_offer name members = list_all (λ m. has_protocol name m.protocols) members

-- the first of a member's own that all of these offer
abbrev pub vote_of : List Member → Member → List ℕ
vote_of all m = option_map_or (λ p. p.name) (find (λ p. all_offer p.name all) m.protocols) []

-- how many members vote for a name
abbrev pub votes : (Member → List ℕ) → List Member → List ℕ → ℕ
votes vote members name = count_by (λ m. bytes_eq (vote m) name) members

-- what a member votes for, if it has more votes
abbrev pub better : (Member → List ℕ) → List Member → List ℕ → Member → List ℕ
better vote members best m =
    if nat_lt (votes vote members best) (votes vote members (vote m)) then vote m else best

abbrev pub chosen_in : (Member → List ℕ) → Member → List Member → List ℕ
chosen_in vote leader members = fold (better vote members) (vote leader) members

-- of several with as many votes that of the leader, else that of the member that joined first
abbrev pub chosen_by : Member → List Member → List ℕ
chosen_by leader members = chosen_in (vote_of (leader ∷ members)) leader members
