-- What a step does to a group, once for the laws.
use Rattle.std.proofs.Common.{◌≡◌, ℕ, ℤ, Bool, true, false, ◌&&◌, ◌||◌, cond, length}
use Rattle.std.proofs.Common.{Option, Some, None, refl, sym, ap, ◌∙◌, eqb, ◌⊎◌, inl, inr, List, [], ◌∷◌, subst}
use Rattle.std.proofs.lemmas.Bool.{cond_both}
use Rattle.std.specs.List.{find}
use Rattle.kx_membership.specs.Roster.{all_woken, any_goes, asked, asking, begun, cut_off, has, heard}
use Rattle.kx_membership.specs.Roster.{is_numbered, joining, left_alone, parted, pushed}
use Rattle.kx_membership.specs.Group.{after_heartbeat, asks, is_completing, is_lost, is_present}
use Rattle.kx_membership.specs.Group.{joined_again}
use Rattle.kx_membership.specs.Group.{leads, left, prepared, preparing, settled_as, takes, after_join_new}
use Rattle.kx_membership.specs.Group.{after_join_again, again_refusal, is_past, is_ready, must_wait}
use Rattle.kx_membership.specs.Group.{new_refusal}
use Rattle.kx_membership.specs.Steps.{Assigns, IsAssigned, SettlesAs, Step, after_all, after_step, is_settled, numbers, unless}
use Rattle.kx_membership.specs.Steps.{JoinsNew, JoinsAgain, Closes, Settles, Syncs, Beats, Leaves}
use Rattle.kx_membership.specs.Steps.{Parts, Ticks}
use Rattle.kx_membership.specs.declared.ask.Assignment.{Assignment}
use Rattle.kx_membership.specs.declared.fault.GroupFault.{GroupFault}
use Rattle.kx_membership.specs.declared.group.Group.{Group}
use Rattle.kx_membership.specs.declared.group.Phase.{Phase}
use Rattle.kx_membership.specs.declared.group.Phase.TheVariants as phase
use Rattle.kx_membership.specs.declared.member.Going.{Going}
use Rattle.kx_membership.specs.declared.member.Going.TheVariants as going
use Rattle.kx_membership.proofs.Numbered.{numbers_changed, numbers_counted, numbers_woken, same_number}

pub data Did (g : Group) (step : Step) (h : Group) : Type 0 where
  unsettles : h.generation ≡ g.generation → is_settled h.phase ≡ false → Did g step h
  stays : h.generation ≡ g.generation → h.phase ≡ g.phase
      → numbers h.roster.members ≡ numbers g.roster.members
      → h.assignments ≡ g.assignments → Did g step h
  assigns : h.generation ≡ g.generation → is_settled g.phase ≡ true
      → numbers h.roster.members ≡ numbers g.roster.members
      → Assigns g step h.assignments → Did g step h
  settles : SettlesAs g step h.generation
      → numbers h.roster.members ≡ numbers g.roster.members
      → (h.phase ≡ phase.Stable → ⊥) → Did g step h

prepared_phase : (b : Bool) (p : Phase) (deadline : ℕ)
    → is_settled (cond b phase.Empty (preparing p deadline)) ≡ false
prepared_phase true p deadline = refl
prepared_phase false phase.Empty deadline = refl
prepared_phase false (phase.Preparing until) deadline = refl
prepared_phase false phase.Completing deadline = refl
prepared_phase false phase.Stable deadline = refl

pub prepared_unsettled : (now : ℕ) (g : Group) → is_settled (prepared now g).phase ≡ false
prepared_unsettled now g = prepared_phase (eqb (length g.roster.members) 0) g.phase _

left_unsettled : (who : Going) (now : ℕ) (g : Group) → is_settled (left who now g).phase ≡ false
left_unsettled who now g = prepared_unsettled now (record g { roster = parted who g.roster })

refused : (r : Option GroupFault) (g h : Group) (step : Step) → Did g step h
    → Did g step (unless r g h)
refused None g h step did = did
refused (Some fault) g h step did = stays refl refl refl refl

settled_phase : (b : Bool) → cond b phase.Empty phase.Completing ≡ phase.Stable → ⊥
settled_phase true e = cc
settled_phase false e = cc

both : (a b : Bool) → (a && b) ≡ true → (a ≡ true) × (b ≡ true)
both true b e = (refl, e)
both false b e = absurd cc

pub completing_is_settled : (p : Phase) → is_completing p ≡ true → is_settled p ≡ true
completing_is_settled phase.Completing e = refl
completing_is_settled phase.Empty e = absurd cc
completing_is_settled (phase.Preparing until) e = absurd cc
completing_is_settled phase.Stable e = absurd cc

beats : (g : Group) (step : Step) (number : ℕ) (generation : ℤ) (now : ℕ)
    → Did g step (after_heartbeat g number generation now)
beats g step number generation now =
    cond_both (is_present g number generation)
    (record g { roster = heard number now g.roster }) g (λ (h : Group). Did g step h)
    (λ yes. stays refl refl
    (numbers_changed number (begun now) g.roster.members (λ m here. refl)) refl)
    (λ no. stays refl refl refl refl)

pub did : (g : Group) (step : Step) → Did g step (after_step g step)
did g (JoinsNew number id ask now) =
    refused (new_refusal g number ask) g (after_join_new g number id ask now)
    (JoinsNew number id ask now) (unsettles refl (prepared_unsettled now (record g {
      protocol_type = ask.protocol_type;
      roster = pushed (joining number id ask now) g.roster;
    })))
did g (JoinsAgain number ask now) =
    refused (again_refusal g number ask) g (after_join_again g number ask now)
    (JoinsAgain number ask now)
    (cond_both (must_wait g number ask.protocols)
    (prepared now (joined_again g number ask now true)) (joined_again g number ask now false)
    (λ (h : Group). Did g (JoinsAgain number ask now) h)
    (λ waits. unsettles refl (prepared_unsettled now (joined_again g number ask now true)))
    (λ answered. stays refl refl (numbers_changed number _ g.roster.members
    (λ m here. refl)) refl))
did g (Closes now) =
    cond_both (is_past g.phase now) (left going.Silent now g) g
    (λ (h : Group). Did g (Closes now) h)
    (λ past. unsettles refl (left_unsettled going.Silent now g)) (λ early. stays refl refl refl refl)
did g (Settles generation now) =
    cond_both (is_ready g) (settled_as generation now g) g
    (λ (h : Group). Did g (Settles generation now) h)
    (λ ready. settles (ready, refl) (numbers_counted now g.roster.members)
    (settled_phase (eqb (length g.roster.members) 0)))
    (λ waits. stays refl refl refl refl)
did g (Syncs number generation assignments now) =
    cond_both (takes g number generation)
    (record g {
      phase = phase.Stable;
      roster = all_woken now g.roster;
      assignments = assignments;
    })
    (cond (asks g number generation) (record g { roster = asked number now g.roster })
    (after_heartbeat g number generation now))
    (λ (h : Group). Did g (Syncs number generation assignments now) h)
    (λ taken.
    let rest = both (is_present g number generation) (is_completing g.phase && leads g number)
    taken in
    assigns refl (completing_is_settled g.phase
    (both (is_completing g.phase) (leads g number) rest.1).0)
    (numbers_woken now g.roster.members) (taken, refl))
    (λ others.
    cond_both (asks g number generation) (record g { roster = asked number now g.roster })
    (after_heartbeat g number generation now)
    (λ (h : Group). Did g (Syncs number generation assignments now) h)
    (λ asks_it. stays refl refl
    (numbers_changed number (asking now) g.roster.members (λ m here. refl)) refl)
    (λ no. beats g (Syncs number generation assignments now) number generation now))
did g (Beats number generation now) =
    beats g (Beats number generation now) number generation now
did g (Leaves number now) =
    cond_both (has number g.roster.members) (left (going.Number number) now g) g
    (λ (h : Group). Did g (Leaves number now) h)
    (λ there. unsettles refl (left_unsettled (going.Number number) now g)) (λ gone. stays refl refl refl refl)
did g (Parts number now) =
    cond_both (is_lost (find (is_numbered number) g.roster.members))
    (left (going.Number number) now g) (record g { roster = left_alone number now g.roster })
    (λ (h : Group). Did g (Parts number now) h)
    (λ lost. unsettles refl (left_unsettled (going.Number number) now g))
    (λ kept. stays refl refl (numbers_changed number (cut_off now) g.roster.members
    (λ m here. same_number (m.waits || m.syncs) m _ refl)) refl)
did g (Ticks now) =
    cond_both (any_goes (going.Ended now) g.roster.members) (left (going.Ended now) now g) g
    (λ (h : Group). Did g (Ticks now) h)
    (λ ended. unsettles refl (left_unsettled (going.Ended now) now g)) (λ early. stays refl refl refl refl)

settled_before : (g h : Group) → h.phase ≡ g.phase → is_settled h.phase ≡ true
    → is_settled g.phase ≡ true
settled_before g h same settled = rw same at settled

contradicts : (b : Bool) → b ≡ false → b ≡ true → ⊥
contradicts b e f = cc

Assigns_same : (g : Group) (step : Step) (given other : List Assignment) → given ≡ other
    → Assigns g step given → Assigns g step other
Assigns_same g step given other same assigned =
    subst (λ (l : List Assignment). Assigns g step l) same assigned

pub generation_by : (g : Group) (step : Step) (h : Group) → Did g step h
    → (h.generation ≡ g.generation) ⊎ SettlesAs g step h.generation
generation_by g step h (unsettles same no_more) = inl same
generation_by g step h (stays same phases numbers_too assignments) = inl same
generation_by g step h (assigns same settled numbers_too assigned) = inl same
generation_by g step h (settles new numbers_too unstable) = inr new

pub members_by : (g : Group) (step : Step) (h : Group) → Did g step h
    → is_settled h.phase ≡ true → numbers h.roster.members ≡ numbers g.roster.members
members_by g step h (unsettles same no_more) settled = absurd (contradicts _ no_more settled)
members_by g step h (stays same phases numbers_too assignments) settled = numbers_too
members_by g step h (assigns same before numbers_too assigned) settled = numbers_too
members_by g step h (settles new numbers_too unstable) settled = numbers_too

pub settled_by : (g : Group) (step : Step) (h : Group) → Did g step h
    → is_settled h.phase ≡ true
    → (is_settled g.phase ≡ true) ⊎ SettlesAs g step h.generation
settled_by g step h (unsettles same no_more) settled = absurd (contradicts _ no_more settled)
settled_by g step h (stays same phases numbers_too assignments) settled =
    inl (settled_before g h phases settled)
settled_by g step h (assigns same before numbers_too assigned) settled = inl before
settled_by g step h (settles new numbers_too unstable) settled = inr new

assigned_by : (g : Group) (step : Step) (h : Group) → Did g step h → h.phase ≡ phase.Stable
    → ((g.phase ≡ phase.Stable) × (h.assignments ≡ g.assignments)
    × (h.generation ≡ g.generation))
    ⊎ ((g.generation ≡ h.generation) × Assigns g step h.assignments)
assigned_by g step h (unsettles same no_more) stable =
    absurd (contradicts _ no_more (ap is_settled stable))
assigned_by g step h (stays same phases numbers_too assignments) stable =
    inl (sym phases ∙ stable, assignments, same)
assigned_by g step h (assigns same before numbers_too assigned) stable = inr (sym same, assigned)
assigned_by g step h (settles new numbers_too unstable) stable = absurd (unstable stable)

-- what a stable group has was assigned, unless it had it from the begin on
pub assigned_in : (g : Group) (steps : List Step) → (after_all g steps).phase ≡ phase.Stable
    → ((g.phase ≡ phase.Stable) × ((after_all g steps).assignments ≡ g.assignments)
    × ((after_all g steps).generation ≡ g.generation))
    ⊎ IsAssigned g steps (after_all g steps).generation (after_all g steps).assignments
assigned_in g [] stable = inl (stable, refl, refl)
assigned_in g (step ∷ steps) stable =
    elim (assigned_in (after_step g step) steps stable) [
      | inl later ↦ elim (assigned_by g step (after_step g step) (did g step) later.0) [
        | inl now ↦ inl (now.0, later.1 ∙ now.1, later.2 ∙ now.2)
        | inr now ↦ inr (inl (now.0 ∙ sym later.2, Assigns_same g step _ _ (sym later.1) now.1))
      ]
      | inr later ↦ inr (inr later)
    ]
