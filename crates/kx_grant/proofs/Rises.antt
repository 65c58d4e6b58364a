-- The core's pairs rise.
use Rattle.std.proofs.Common.{◌≡◌, ◌≤◌, ◌<◌, ℕ, ℤ, Bool, true, false, cond, List, [], ◌∷◌, refl, ap}
use Rattle.std.proofs.Common.{inl, inr, Some, None, arith, ◌∙◌}
use Rattle.std.specs.Prelude.{Option, ◌&&◌}
use Rattle.kx_message.specs.declared.code.ErrorCode.{ErrorCode}
use Rattle.kx_message.specs.declared.message.Held.{Held}
use Rattle.kx_message.specs.declared.outcome.Outcome.{Outcome}
use Rattle.kx_grant.specs.Sequences.{sequence_in}
use Rattle.kx_grant.specs.Grant.{commit_code, committing}
use Rattle.kx_grant.specs.Grant.{after_verdict, batch_verdict, counts, ended_empty, gone_on, with_sent}
use Rattle.kx_grant.specs.Grant.{is_held, noted, stopped_at}
use Rattle.kx_grant.specs.Steps.{Step, Adds, Batches, Takes, Refuses, Ends, Commits, Goes, Regrants}
use Rattle.kx_grant.specs.Steps.{AllRaise, Raises, after_all, after_step, all_keep_grant, all_stay}
use Rattle.kx_grant.specs.Steps.{keeps_grant, rank, stays}
use Rattle.kx_grant.specs.declared.grant.Grant.{Grant}
use Rattle.kx_grant.specs.declared.grant.Phase.{Phase}
use Rattle.kx_grant.specs.declared.grant.Phase.TheVariants as phase
use Rattle.kx_grant.specs.declared.verdicts.BatchVerdict.{BatchVerdict}
use Rattle.kx_grant.specs.declared.verdicts.BatchVerdict.TheVariants.{Send, Refused}
use Rattle.kx_grant.proofs.Places.{which}

-- both pairs are as before
pub record SamePairs (g after : Grant) : Type 0 where
  pub granted : after.granted ≡ g.granted
  pub core : after.core ≡ g.core

same : (g : Grant) → SamePairs g g
same g = record { granted = refl; core = refl }

either : (g : Grant) (b : Bool) (x y : Grant) → SamePairs g x → SamePairs g y
    → SamePairs g (cond b x y)
either g true x y u v = u
either g false x y u v = v

by_verdict : (g : Grant) (r : BatchVerdict) (x y : Grant) → SamePairs g x → SamePairs g y
    → SamePairs g (after_verdict r x y)
by_verdict g (Send held first) x y u v = v
by_verdict g (Refused c) x y u v = u

with_sent_same : (g : Grant) (q : ℕ) (first : Option ℕ) → SamePairs g (with_sent g q first)
with_sent_same g q None = same g
with_sent_same g q (Some first) = record { granted = refl; core = refl }

ended_same : (f : Phase) (g : Grant) (outcome : Outcome) → SamePairs g (ended_empty f outcome g)
ended_same phase.Empty g outcome = record { granted = refl; core = refl }
ended_same phase.Sent g outcome = same g
ended_same phase.Resumed g outcome = same g
ended_same (phase.Ended last) g outcome = same g
ended_same (phase.Decided last) g outcome = same g

committed_same : (refusal : Option ErrorCode) (g : Grant) → SamePairs g (committing refusal g)
committed_same None g = record { granted = refl; core = refl }
committed_same (Some code) g = same g

batched : (g : Grant) (held : Held) (q : ℕ) (first : ℤ) (count : ℕ)
    → SamePairs g (after_step g (Batches held q first count))
batched g held q first count =
    by_verdict g (batch_verdict g held q first count) g (with_sent g q (sequence_in first)) (same g)
    (with_sent_same g q (sequence_in first))

stepped : (g : Grant) (s : Step) → stays s ≡ true → SamePairs g (after_step g s)
stepped g (Adds held q) e =
    either g (is_held g.granted held) (noted q g) g (record { granted = refl; core = refl })
    (same g)
stepped g (Batches held q first count) e = batched g held q first count
stepped g (Takes held q first count) e =
    either g (counts g held q first) (gone_on g q count) g
    (record { granted = refl; core = refl }) (same g)
stepped g (Refuses held q first count) e =
    either g (counts g held q first) (stopped_at (gone_on g q count) q) g
    (record { granted = refl; core = refl }) (same g)
stepped g (Ends held outcome) e =
    either g (is_held g.granted held) (ended_empty g.phase outcome g) g
    (ended_same g.phase g outcome) (same g)
stepped g (Commits held) e = committed_same (commit_code g held) g
stepped g (Goes outcome next) e = absurd cc
stepped g (Regrants asked held) e = absurd cc

both : (a b : Bool) → (a && b) ≡ true → (a ≡ true) × (b ≡ true)
both true b e = (refl, e)
both false b e = absurd cc

after_both : (a b d : Grant) → SamePairs a b → SamePairs b d → SamePairs a d
after_both a b d h k =
    record { granted = k.granted ∙ h.granted; core = k.core ∙ h.core }

-- as long as the core goes on with the same pair
pub all_same : (steps : List Step) (g : Grant) → all_stay steps ≡ true
    → SamePairs g (after_all g steps)
all_same [] g e = same g
all_same (s ∷ steps) g e =
    let b = both (stays s) (all_stay steps) e in
    after_both g (after_step g s) (after_all (after_step g s) steps) (stepped g s b.0)
    (all_same steps (after_step g s) b.1)

-- a batch changes neither
pub batch_same : (g : Grant) (held : Held) (q : ℕ) (first : ℤ) (count : ℕ)
    → SamePairs g (after_step g (Batches held q first count))
batch_same g held q first count = batched g held q first count

goes : (g : Grant) (s : Step) → stays s ≡ false → Raises g s
    → rank g.core < rank (after_step g s).core
goes g (Adds held q) e r = absurd cc
goes g (Batches held q first count) e r = absurd cc
goes g (Takes held q first count) e r = absurd cc
goes g (Refuses held q first count) e r = absurd cc
goes g (Ends held outcome) e r = absurd cc
goes g (Commits held) e r = absurd cc
goes g (Goes outcome next) e r = r
goes g (Regrants asked held) e r = r

step_rises : (g : Grant) (s : Step) → Raises g s → rank g.core ≤ rank (after_step g s).core
step_rises g s r =
    elim (which (stays s)) [
      | inl e ↦
          let is : rank (after_step g s).core ≡ rank g.core = ap rank (stepped g s e).core in
          omega (arith, is)
      | inr e ↦ let more = goes g s e r in omega (arith, more)
    ]

rises : (steps : List Step) (g : Grant) → AllRaise g steps
    → rank g.core ≤ rank (after_all g steps).core
rises [] g r = omega arith
rises (s ∷ steps) g r =
    let here = step_rises g s r.0 in
    let more = rises steps (after_step g s) r.1 in
    omega (arith, here, more)

rest_goes : (a b : Bool) → a ≡ true → (a && b) ≡ false → b ≡ false
rest_goes true b e f = f
rest_goes false b e f = absurd cc

-- strictly where it goes on
pub rises_at_ends : (steps : List Step) (g : Grant) → all_stay steps ≡ false → AllRaise g steps
    → rank g.core < rank (after_all g steps).core
rises_at_ends [] g e r = absurd cc
rises_at_ends (s ∷ steps) g e r =
    elim (which (stays s)) [
      | inl stay ↦
          let here = step_rises g s r.0 in
          let more = rises_at_ends steps (after_step g s)
          (rest_goes (stays s) (all_stay steps) stay e) r.1 in
          omega (arith, here, more)
      | inr end ↦
          let here = goes g s end r.0 in
          let more = rises steps (after_step g s) r.1 in
          omega (arith, here, more)
    ]

still : (g : Grant) (s : Step) → stays s ≡ true → rank g.granted ≤ rank g.core
    → rank (after_step g s).granted ≤ rank (after_step g s).core
still g s e h =
    let core : rank (after_step g s).core ≡ rank g.core = ap rank (stepped g s e).core in
    let granted : rank (after_step g s).granted ≡ rank g.granted =
    ap rank (stepped g s e).granted in
    omega (arith, core, granted, h)

kept : (g : Grant) (s : Step) → stays s ≡ true → rank g.granted ≤ rank (after_step g s).granted
kept g s e =
    let same : rank (after_step g s).granted ≡ rank g.granted = ap rank (stepped g s e).granted in
    omega (arith, same)

-- the granted pair is no newer than the core's
step_behind : (g : Grant) (s : Step) → Raises g s → rank g.granted ≤ rank g.core
    → rank (after_step g s).granted ≤ rank (after_step g s).core
step_behind g (Goes outcome next) r h = omega (arith, r, h)
step_behind g (Regrants asked held) r h = omega arith
step_behind g (Adds held q) r h = still g (Adds held q) refl h
step_behind g (Batches held q first count) r h = still g (Batches held q first count) refl h
step_behind g (Takes held q first count) r h = still g (Takes held q first count) refl h
step_behind g (Refuses held q first count) r h = still g (Refuses held q first count) refl h
step_behind g (Ends held outcome) r h = still g (Ends held outcome) refl h
step_behind g (Commits held) r h = still g (Commits held) refl h

pub behind : (steps : List Step) (g : Grant) → rank g.granted ≤ rank g.core → AllRaise g steps
    → rank (after_all g steps).granted ≤ rank (after_all g steps).core
behind [] g h r = h
behind (s ∷ steps) g h r =
    behind steps (after_step g s) (step_behind g s r.0 h) r.1

------ the granted pair

step_above : (g : Grant) (s : Step) → Raises g s → rank g.granted ≤ rank g.core
    → rank g.granted ≤ rank (after_step g s).granted
step_above g (Goes outcome next) r h = omega arith
step_above g (Regrants asked held) r h = omega (arith, r, h)
step_above g (Adds held q) r h = kept g (Adds held q) refl
step_above g (Batches held q first count) r h = kept g (Batches held q first count) refl
step_above g (Takes held q first count) r h = kept g (Takes held q first count) refl
step_above g (Refuses held q first count) r h = kept g (Refuses held q first count) refl
step_above g (Ends held outcome) r h = kept g (Ends held outcome) refl
step_above g (Commits held) r h = kept g (Commits held) refl

-- it never falls
pub never_falls : (steps : List Step) (g : Grant) → rank g.granted ≤ rank g.core
    → AllRaise g steps → rank g.granted ≤ rank (after_all g steps).granted
never_falls [] g h r = omega arith
never_falls (s ∷ steps) g h r =
    let here = step_above g s r.0 h in
    let more = never_falls steps (after_step g s) (step_behind g s r.0 h) r.1 in
    omega (arith, here, more)

regrants : (g : Grant) (s : Step) → keeps_grant s ≡ false → Raises g s
    → rank g.granted ≤ rank g.core → rank g.granted < rank (after_step g s).granted
regrants g (Adds held q) e r h = absurd cc
regrants g (Batches held q first count) e r h = absurd cc
regrants g (Takes held q first count) e r h = absurd cc
regrants g (Refuses held q first count) e r h = absurd cc
regrants g (Ends held outcome) e r h = absurd cc
regrants g (Commits held) e r h = absurd cc
regrants g (Goes outcome next) e r h = absurd cc
regrants g (Regrants asked held) e r h = omega (arith, r, h)

-- and a new grant raises it
pub rises_at_grants : (steps : List Step) (g : Grant) → all_keep_grant steps ≡ false
    → rank g.granted ≤ rank g.core → AllRaise g steps
    → rank g.granted < rank (after_all g steps).granted
rises_at_grants [] g e h r = absurd cc
rises_at_grants (s ∷ steps) g e h r =
    let after = step_behind g s r.0 h in
    elim (which (keeps_grant s)) [
      | inl keeps ↦
          let here = step_above g s r.0 h in
          let more = rises_at_grants steps (after_step g s)
          (rest_goes (keeps_grant s) (all_keep_grant steps) keeps e) after r.1 in
          omega (arith, here, more)
      | inr anew ↦
          let here = regrants g s anew r.0 h in
          let more = never_falls steps (after_step g s) after r.1 in
          omega (arith, here, more)
    ]
