-- A change of one member at its place, and who goes.
use Rattle.std.proofs.Common.{◌≡◌, ℕ, ◌+◌, ◌<◌, ◌≤◌, Bool, true, false, List, [], ◌∷◌, ◌++◌, length}
use Rattle.std.proofs.Common.{get_or, set, map, take, drop, sym, ap, ◌∙◌, arith, add-one}
use Rattle.std.proofs.Common.{Some, not, ◌&&◌, cond, suc, refl}
use Rattle.std.specs.List.{filter}
use Rattle.std.proofs.lemmas.List.{drop_more, get_or_read, set_split}
use Rattle.kx_membership.specs.Internal.Places.{IsPlaceOf}
use Rattle.kx_membership.specs.Group.{after_join_again, must_wait, prepared}
use Rattle.kx_membership.specs.Roster.{RosterState, changed, goes, gone_numbers, is_numbered, said_anew}
use Rattle.kx_membership.specs.declared.ask.JoinAsk.{JoinAsk}
use Rattle.kx_membership.specs.declared.group.Group.{Group}
use Rattle.kx_membership.specs.declared.member.Member.{Member}
use Rattle.kx_membership.specs.declared.member.Going.{Going}

-- the member with this number has its place here
pub place_here : (number : ℕ) (members : List Member) (i : ℕ) (m : Member) → i < length members
    → ((f : Member → Member) → changed number f members
    ≡ take i members ++ changed number f (drop i members))
    → m ≡ get_or members i m → is_numbered number m ≡ true
    → (f : Member → Member) (d : Member)
    → changed number f members ≡ set members i (f (get_or members i d))
place_here number members i m within before here passes f d =
    let rest = drop (i + 1) members in
    let one : changed number f (m ∷ rest) ≡ f m ∷ rest = rw passes in
    let split : changed number f (drop i members) ≡ f m ∷ rest =
    rw (drop_more members i m within, ← here) one in
    let made : take i members ++ f m ∷ rest ≡ set members i (f m) =
    rw (add-one) (sym (set_split members i (f m) within)) in
    let read : m ≡ get_or members i d = get_or_read members i m within here d in
    before f ∙ ap (λ t. take i members ++ t) split ∙ made ∙ ap (λ x. set members i (f x)) read

-- a change that is written there
pub written : (number : ℕ) (f : Member → Member) (listed members : List Member) (at : ℕ)
    (m new : Member) → listed ≡ members → IsPlaceOf number listed (Some at)
    → m ≡ get_or members at m → new ≡ f m
    → set members at new ≡ changed number f members
written number f listed members at m new same place here made =
    let found : changed number f listed ≡ set listed at (f (get_or listed at m)) = place.1 f m in
    cc

one_more : (goes_too is_counted : Bool) (m : Member) (leaving staying : List Member) (n : ℕ)
    → length (map (λ (m : Member). m.number) leaving) + length staying ≤ n
    → length (map (λ (m : Member). m.number) (cond (goes_too && is_counted) (m ∷ leaving) leaving))
    + length (cond (not goes_too) (m ∷ staying) staying) ≤ suc n
one_more true true m leaving staying n before = omega arith
one_more true false m leaving staying n before = omega arith
one_more false is_counted m leaving staying n before = omega arith

-- those that go and those that stay are no more than there were
pub parted_room : (going : Going) (members : List Member)
    → length (gone_numbers going members)
    + length (filter (λ m. not (goes going m)) members) ≤ length members
parted_room going [] = omega arith
parted_room going (m ∷ members) =
    one_more (goes going m) m.is_counted m
    (filter (λ m. goes going m && m.is_counted) members)
    (filter (λ m. not (goes going m)) members) (length members) (parted_room going members)

-- a member that joins again and has to wait
pub waited : (g : Group) (number : ℕ) (ask : JoinAsk) (now : ℕ) (waits : Bool)
    (roster : RosterState) (protocol_type : List ℕ) (after : Group)
    → must_wait g number ask.protocols ≡ true → waits ≡ true
    → roster ≡ said_anew number ask waits now g.roster → protocol_type ≡ ask.protocol_type
    → after ≡ prepared now (record g { protocol_type = protocol_type; roster = roster })
    → after ≡ after_join_again g number ask now
waited g number ask now waits roster protocol_type after must is said of e =
    rw must (e ∙ rw (of, said, is) refl)
