-- Where a change of one member is made.
use Rattle.std.specs.Prelude.{◌≡◌, ◌<◌, ℕ, List, Option, MatchOption, length, slice_index_or}
use Rattle.std.specs.Prelude.{slice_set}
use Rattle.kx_membership.specs.Roster.{changed}
use Rattle.kx_membership.specs.declared.member.Member.{Member}

-- the place of the member with this number, where a change of it is made
abbrev pub IsPlaceOf : ℕ → List Member → Option ℕ → Type 0
IsPlaceOf number members place =
    MatchOption place ((f : Member → Member) → changed number f members ≡ members)
    (λ at. (at < length members) × ((f : Member → Member) (d : Member)
    → changed number f members ≡ slice_set members at (f (slice_index_or members at d))))
