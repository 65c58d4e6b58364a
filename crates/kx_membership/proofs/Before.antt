-- Before the next time of a group nothing happens to it, and at the deadline it is due.
use Rattle.std.proofs.Common.{◌||◌, ◌≡◌, ℕ, ◌<◌, ◌≤◌, Bool, true, false, ◌&&◌, not, cond, List, [], ◌∷◌, length}
use Rattle.std.proofs.Common.{Option, Some, None, refl, eqb, arith, ◌⊎◌, inl, inr}
use Rattle.std.specs.Prelude.{nat_le}
use Rattle.std.specs.List.{filter, fold}
use Rattle.std.proofs.lemmas.Bool.Decides.{nat_tests}
use Rattle.std.proofs.lemmas.Map.Views.{any-filter_same}
use Rattle.kx_membership.specs.Roster.{RosterState, any_goes, goes}
use Rattle.kx_membership.specs.Group.{deadline_of, due_time, earlier, is_past, is_ready, ready_in, sooner}
use Rattle.kx_membership.specs.Steps.{IsBefore}
use Rattle.kx_membership.specs.declared.group.Group.{Group}
use Rattle.kx_membership.specs.declared.group.Phase.{Phase}
use Rattle.kx_membership.specs.declared.group.Phase.TheVariants as phase
use Rattle.kx_membership.specs.declared.member.Member.{Member}
use Rattle.kx_membership.specs.declared.member.Going.{Going}
use Rattle.kx_membership.specs.declared.member.Going.TheVariants as going

not_past : (now time : ℕ) → now < time → nat_le time now ≡ false
not_past now time before = grind (arith, nat_tests)

before_earlier : (now : ℕ) (t : Option ℕ) (ends : ℕ) → IsBefore now (earlier t ends)
    → IsBefore now t × (now < ends)
before_earlier now None ends before = (tt, before)
before_earlier now (Some least) ends before = (omega arith, omega arith)

before_one : (now : ℕ) (t : Option ℕ) (waits : Bool) (ends : ℕ)
    → IsBefore now (cond waits t (earlier t ends))
    → IsBefore now t × ((not waits && nat_le ends now) ≡ false)
before_one now t true ends before = (before, refl)
before_one now t false ends before =
    let both = before_earlier now t ends before in (both.0, not_past now ends both.1)

-- no session ends before the first that does
pub before_all : (now : ℕ) (t : Option ℕ) (members : List Member)
    → IsBefore now (fold sooner t members)
    → IsBefore now t × (any_goes (going.Ended now) members ≡ false)
before_all now t [] before = (before, refl)
before_all now t (m ∷ members) before =
    let rest = before_all now (sooner t m) members before in
    let one = before_one now t (m.waits || m.syncs) m.ends rest.0 in
    (one.0, rw (one.1, rest.1) refl)

before_due : (now : ℕ) (ready : Bool) (p : Phase)
    → IsBefore now (cond ready (Some 0) (deadline_of p))
    → (ready ≡ false) × (is_past p now ≡ false)
before_due now true p before = absurd (omega arith)
before_due now false phase.Empty before = (refl, refl)
before_due now false (phase.Preparing until) before = (refl, not_past now until before)
before_due now false phase.Completing before = (refl, refl)
before_due now false phase.Stable before = (refl, refl)

pub not_due : (now : ℕ) (g : Group) → IsBefore now (due_time g)
    → (is_ready g ≡ false) × (is_past g.phase now ≡ false)
not_due now g before = before_due now (is_ready g) g.phase before

-- those that are left don't go
pub none_goes : (who : Going) (members : List Member)
    → any_goes who (filter (λ m. not (goes who m)) members) ≡ false
none_goes who members =
    any-filter_same (goes who) (λ m. not (goes who m)) false (λ m h. rw h refl) members

pub is_past_at : (p : Phase) (until now : ℕ) → p ≡ phase.Preparing until → until ≤ now
    → is_past p now ≡ true
is_past_at p until now e past = rw e (grind (arith, nat_tests))

pub closed : (nobody : Bool) (until : ℕ) (r : RosterState) → any_goes going.Silent r.members ≡ false
    → (ready_in (cond nobody phase.Empty (phase.Preparing until)) r ≡ true)
    ⊎ ((cond nobody phase.Empty (phase.Preparing until) ≡ phase.Empty) × (r.gone ≡ []))
closed false until r none = inl (rw none refl)
closed true until r none = by r.gone
  where
    by : (gone : List ℕ) → (not (eqb (length gone) 0) ≡ true)
        ⊎ ((phase.Empty ≡ phase.Empty) × (gone ≡ []))
    by [] = inr (refl, refl)
    by (n ∷ gone) = inl (grind (arith, nat_tests))
