-- Who stays in a group, and what is known of a member that is found in it.
use Rattle.std.proofs.Common.{◌≡◌, ℕ, ℤ, ◌<◌, Bool, true, false, ◌&&◌, ◌||◌, not, cond, arith, ap, ◌∙◌}
use Rattle.std.proofs.Common.{List, [], ◌∷◌, map, Option, Some, refl, sym, ◌⊎◌, inl, inr, is_some}
use Rattle.std.proofs.Common.{subst}
use Rattle.std.specs.Prelude.{nat_le}
use Rattle.std.specs.List.{filter, find}
use Rattle.std.proofs.lemmas.Bool.{cond_both}
use Rattle.std.proofs.lemmas.Bool.Decides.{nat_tests}
use Rattle.kx_membership.specs.Protocols.{later}
use Rattle.kx_membership.specs.Roster.{all_woken, any_goes, asked, asking, begun, changed, cut_off, goes}
use Rattle.kx_membership.specs.Roster.{has, heard, is_numbered, left_alone, parted, woken}
use Rattle.kx_membership.specs.Group.{after_end, after_heartbeat, after_sync, after_tick, asks}
use Rattle.kx_membership.specs.Group.{is_completing, is_lost, is_present, left, takes}
use Rattle.kx_membership.specs.declared.ask.Assignment.{Assignment}
use Rattle.kx_membership.specs.declared.group.Group.{Group}
use Rattle.kx_membership.specs.declared.group.Phase.TheVariants as phase
use Rattle.kx_membership.specs.declared.member.Going.TheVariants as going
use Rattle.kx_membership.specs.declared.member.Member.{Member}
use Rattle.kx_membership.proofs.Numbered.{has_alike, numbers_woken_if}

------ who is found

one : {A : Type 0} {x y : A} → Some x ≡ Some y → x ≡ y
one e = cc

-- a member that is found after its change is a changed one
found_step : (P : Member → Type 0) (b : Bool) (number : ℕ) (x new m : Member) (rest others : List Member)
    → is_numbered number x ≡ b → (b ≡ true → is_numbered number new ≡ true) → P new
    → (find (is_numbered number) others ≡ Some m → P m)
    → find (is_numbered number) (cond b (new ∷ rest) (x ∷ others)) ≡ Some m → P m
found_step P true number x new m rest others e keeps p further found =
    let first : find (is_numbered number) (new ∷ rest) ≡ Some new = rw (keeps refl) refl in
    subst P (one (sym first ∙ found)) p
found_step P false number x new m rest others e keeps p further found =
    let later_one : find (is_numbered number) (x ∷ others) ≡ find (is_numbered number) others =
    rw e refl in
    further (sym later_one ∙ found)

pub found_changed : (P : Member → Type 0) (number : ℕ) (f : Member → Member) (members : List Member)
    (m : Member) → ((x : Member) → (f x).number ≡ x.number) → ((x : Member) → P (f x))
    → find (is_numbered number) (changed number f members) ≡ Some m → P m
found_changed P number f [] m its all found = absurd cc
found_changed P number f (x ∷ members) m its all found =
    found_step P (is_numbered number x) number x (f x) m members (changed number f members) refl
    (λ here. ap (λ n. is_numbered number (record x { number = n })) (its x) ∙ here) (all x)
    (found_changed P number f members m its all) found

mapped_step : (P : Member → Type 0) (b : Bool) (x m : Member) (rest : Option Member) → P x
    → (rest ≡ Some m → P m) → cond b (Some x) rest ≡ Some m → P m
mapped_step P true x m rest p further found = subst P (one found) p
mapped_step P false x m rest p further found = further found

pub found_mapped : (P : Member → Type 0) (number : ℕ) (f : Member → Member) (members : List Member)
    (m : Member) → ((x : Member) → P (f x))
    → find (is_numbered number) (map f members) ≡ Some m → P m
found_mapped P number f [] m all found = absurd cc
found_mapped P number f (x ∷ members) m all found =
    mapped_step P (is_numbered number (f x)) (f x) m (find (is_numbered number) (map f members))
    (all x) (found_mapped P number f members m all) found

------ who stays

kept_step : (b d : Bool) (number : ℕ) (x m : Member) (kept : List Member) (rest : Option Member)
    → is_numbered number x ≡ b → (x ≡ m → d ≡ true)
    → (rest ≡ Some m → has number kept ≡ true)
    → cond b (Some x) rest ≡ Some m → has number (cond d (x ∷ kept) kept) ≡ true
kept_step true true number x m kept rest e passes further found = rw e refl
kept_step true false number x m kept rest e passes further found =
    let never : false ≡ true = passes (one found) in absurd cc
kept_step false true number x m kept rest e passes further found = rw e (further found)
kept_step false false number x m kept rest e passes further found = further found

kept_in : (number : ℕ) (q : Member → Bool) (members : List Member) (m : Member)
    → find (is_numbered number) members ≡ Some m → q m ≡ true
    → has number (filter q members) ≡ true
kept_in number q [] m found passes = absurd cc
kept_in number q (x ∷ members) m found passes =
    kept_step (is_numbered number x) (q x) number x m (filter q members)
    (find (is_numbered number) members) refl (λ same. ap q same ∙ passes)
    (λ further. kept_in number q members m further passes) found

in_session : (waits : Bool) (ends now : ℕ) → (waits ≡ true) ⊎ (now < ends)
    → not (not waits && nat_le ends now) ≡ true
in_session true ends now h = refl
in_session false ends now (inl e) = absurd cc
in_session false ends now (inr before) = grind (arith, nat_tests, before)

pub stays : (g : Group) (m : Member) (number now : ℕ)
    → find (is_numbered number) g.roster.members ≡ Some m
    → ((m.waits || m.syncs) ≡ true) ⊎ (now < m.ends)
    → has number (after_tick g now).roster.members ≡ true
stays g m number now found alive =
    let r = parted (going.Ended now) g.roster in
    cond_both (any_goes (going.Ended now) g.roster.members) (left (going.Ended now) now g) g
    (λ (h : Group). has number h.roster.members ≡ true)
    (λ some_go. has_alike number r.members _ (numbers_woken_if (is_completing g.phase) now r)
    ∙ kept_in number (λ x. not (goes (going.Ended now) x)) g.roster.members m found
    (in_session (m.waits || m.syncs) m.ends now alive))
    (λ none. ap is_some found)

------ after a heartbeat, and after a SyncGroup

chosen : (b : Bool) (x y : Group) → b ≡ true → cond b x y ≡ x
chosen true x y e = refl
chosen false x y e = absurd cc

other : (b : Bool) (x y : Group) → b ≡ false → cond b x y ≡ y
other true x y e = absurd cc
other false x y e = refl

pub heard_anew : (g : Group) (m : Member) (number now : ℕ) (generation : ℤ)
    → is_present g number generation ≡ true
    → find (is_numbered number) (after_heartbeat g number generation now).roster.members ≡ Some m
    → m.ends ≡ later now m.session
heard_anew g m number now generation present found =
    let it = chosen (is_present g number generation)
    (record g { roster = heard number now g.roster }) g present in
    found_changed (λ x. x.ends ≡ later now x.session) number (begun now) g.roster.members m
    (λ x. refl) (λ x. refl)
    (subst (λ (h : Group). find (is_numbered number) h.roster.members ≡ Some m) it found)

pub asks_and_waits : (g : Group) (m : Member) (number now : ℕ) (generation : ℤ)
    (assignments : List Assignment) → asks g number generation ≡ true
    → takes g number generation ≡ false
    → find (is_numbered number) (after_sync g number generation assignments now).roster.members
    ≡ Some m → m.syncs ≡ true
asks_and_waits g m number now generation assignments asking_it not_taken found =
    let waiting : Group = record g { roster = asked number now g.roster } in
    let it = other (takes g number generation)
    (record g {
      phase = phase.Stable;
      roster = all_woken now g.roster;
      assignments = assignments;
    })
    (cond (asks g number generation) waiting (after_heartbeat g number generation now)) not_taken
    ∙ chosen (asks g number generation) waiting (after_heartbeat g number generation now)
    asking_it in
    found_changed (λ x. x.syncs ≡ true) number (asking now) g.roster.members m (λ x. refl)
    (λ x. refl)
    (subst (λ (h : Group). find (is_numbered number) h.roster.members ≡ Some m) it found)

pub assigned_to_all : (g : Group) (m : Member) (leader number now : ℕ) (generation : ℤ)
    (assignments : List Assignment) → takes g leader generation ≡ true
    → find (is_numbered number) (after_sync g leader generation assignments now).roster.members
    ≡ Some m → (m.syncs ≡ false) × (m.ends ≡ later now m.session)
assigned_to_all g m leader number now generation assignments taken found =
    let it = chosen (takes g leader generation)
    (record g {
      phase = phase.Stable;
      roster = all_woken now g.roster;
      assignments = assignments;
    })
    (cond (asks g leader generation) (record g { roster = asked leader now g.roster })
    (after_heartbeat g leader generation now)) taken in
    found_mapped (λ x. (x.syncs ≡ false) × (x.ends ≡ later now x.session)) number (woken now)
    g.roster.members m (λ x. (refl, refl))
    (subst (λ (h : Group). find (is_numbered number) h.roster.members ≡ Some m) it found)

------ after the end of a connection

cut : (b : Bool) (x new : Member) → (x.waits || x.syncs) ≡ b → (new.waits || new.syncs) ≡ false
    → ((cond b new x).waits || (cond b new x).syncs) ≡ false
cut true x new e f = f
cut false x new e f = e

cut_number : (b : Bool) (x new : Member) → new.number ≡ x.number → (cond b new x).number ≡ x.number
cut_number true x new e = e
cut_number false x new e = refl

out : (b : Bool) (number : ℕ) (x : Member) (kept : List Member) → is_numbered number x ≡ b
    → has number kept ≡ false → has number (cond (not b) (x ∷ kept) kept) ≡ false
out true number x kept e none = none
out false number x kept e none = rw e none

-- who goes by its number isn't found
all_out : (number : ℕ) (members : List Member)
    → has number (filter (λ x. not (goes (going.Number number) x)) members) ≡ false
all_out number [] = refl
all_out number (x ∷ members) =
    out (is_numbered number x) number x
    (filter (λ x. not (goes (going.Number number) x)) members) refl (all_out number members)

pub waits_no_more : (g : Group) (m : Member) (number now : ℕ)
    → find (is_numbered number) (after_end g number now).roster.members ≡ Some m
    → (m.waits || m.syncs) ≡ false
waits_no_more g m number now found =
    let r = parted (going.Number number) g.roster in
    cond_both (is_lost (find (is_numbered number) g.roster.members))
    (left (going.Number number) now g) (record g { roster = left_alone number now g.roster })
    (λ (h : Group). find (is_numbered number) h.roster.members ≡ Some m
    → (m.waits || m.syncs) ≡ false)
    (λ lost there.
    let gone : has number (left (going.Number number) now g).roster.members ≡ false =
    has_alike number r.members _ (numbers_woken_if (is_completing g.phase) now r)
    ∙ all_out number g.roster.members in
    let is : has number (left (going.Number number) now g).roster.members ≡ true =
    ap is_some there in
    absurd (contradicts _ gone is))
    (λ kept there. found_changed (λ x. (x.waits || x.syncs) ≡ false) number (cut_off now)
    g.roster.members m (λ x. cut_number (x.waits || x.syncs) x _ refl)
    (λ x. cut (x.waits || x.syncs) x _ refl refl) there)
    found
  where
    contradicts : (b : Bool) → b ≡ false → b ≡ true → ⊥
    contradicts b e f = cc
