-- Who is no member is one after a step only if it joined.
use Rattle.std.proofs.Common.{List, [], ◌∷◌, ◌≡◌, ℕ, ℤ, Bool, true, false, not, cond}
use Rattle.std.proofs.Common.{Option, Some, None, refl, ◌⊎◌, inl, inr, ◌||◌}
use Rattle.std.specs.List.{find}
use Rattle.std.proofs.lemmas.Bool.{cond_both}
use Rattle.kx_membership.specs.Roster.{all_woken, any_goes, asked, asking, begun, cut_off, goes, has}
use Rattle.kx_membership.specs.Roster.{heard, is_numbered, joining, left_alone, parted, pushed}
use Rattle.kx_membership.specs.Group.{after_heartbeat, after_join_again, after_join_new, asks}
use Rattle.kx_membership.specs.Group.{is_completing, is_lost, is_past}
use Rattle.kx_membership.specs.Group.{again_refusal, is_present, is_ready, joined_again, left, must_wait}
use Rattle.kx_membership.specs.Group.{new_refusal, prepared, settled_as, takes}
use Rattle.kx_membership.specs.Steps.{Beats, Closes, Joins, JoinsAgain, JoinsNew, Leaves, NoneJoins, Settles}
use Rattle.kx_membership.specs.Steps.{Parts, Step, Syncs, Ticks, after_all, after_step, unless}
use Rattle.kx_membership.specs.declared.fault.GroupFault.{GroupFault}
use Rattle.kx_membership.specs.declared.group.Group.{Group}
use Rattle.kx_membership.specs.declared.group.Phase.TheVariants as phase
use Rattle.kx_membership.specs.declared.member.Going.{Going}
use Rattle.kx_membership.specs.declared.member.Going.TheVariants as going
use Rattle.kx_membership.proofs.Numbered.{has_filtered, has_pushed, has_same_numbers}
use Rattle.kx_membership.proofs.Numbered.{numbers_changed, numbers_counted, numbers_woken}
use Rattle.kx_membership.proofs.Numbered.{numbers_woken_if, same_number}

refused : (r : Option GroupFault) (g h : Group) (number : ℕ) (Joined : Type 0)
    → has number g.roster.members ≡ false → (has number h.roster.members ≡ false) ⊎ Joined
    → (has number (unless r g h).roster.members ≡ false) ⊎ Joined
refused None g h number Joined none after = after
refused (Some fault) g h number Joined none after = inl none

-- members that have to join again are those that there were
prepared_absent : (now number : ℕ) (g : Group) → has number g.roster.members ≡ false
    → has number (prepared now g).roster.members ≡ false
prepared_absent now number g none =
    has_same_numbers number g.roster.members _
    (numbers_woken_if (is_completing g.phase) now g.roster) none

leaves : (g : Group) (who : Going) (now number : ℕ) (b : Bool) → has number g.roster.members ≡ false
    → has number (cond b (left who now g) g).roster.members ≡ false
leaves g who now number true none =
    prepared_absent now number (record g { roster = parted who g.roster })
    (has_filtered number (λ m. not (goes who m)) g.roster.members none)
leaves g who now number false none = none

beats : (g : Group) (beating number : ℕ) (generation : ℤ) (now : ℕ)
    → has number g.roster.members ≡ false
    → has number (after_heartbeat g beating generation now).roster.members ≡ false
beats g beating number generation now none =
    cond_both (is_present g beating generation)
    (record g { roster = heard beating now g.roster }) g
    (λ (h : Group). has number h.roster.members ≡ false)
    (λ there. has_same_numbers number g.roster.members _
    (numbers_changed beating (begun now) g.roster.members (λ m here. refl)) none)
    (λ gone. none)

pub absent : (g : Group) (step : Step) (number : ℕ) → has number g.roster.members ≡ false
    → (has number (after_step g step).roster.members ≡ false) ⊎ Joins step number
absent g (JoinsNew joining_too id ask now) number none =
    refused (new_refusal g joining_too ask) g (after_join_new g joining_too id ask now) number
    (joining_too ≡ number) none
    (elim (has_pushed number (joining joining_too id ask now) g.roster.members none) [
      | inl out ↦ inl (prepared_absent now number (record g {
        protocol_type = ask.protocol_type;
        roster = pushed (joining joining_too id ask now) g.roster;
      }) out)
      | inr it ↦ inr it
    ])
absent g (JoinsAgain joining_too ask now) number none =
    let again : (waits : Bool)
    → has number (joined_again g joining_too ask now waits).roster.members ≡ false = λ waits.
    has_same_numbers number g.roster.members _ (numbers_changed joining_too _ g.roster.members
    (λ m here. refl)) none in
    refused (again_refusal g joining_too ask) g (after_join_again g joining_too ask now) number ⊥
    none
    (inl (cond_both (must_wait g joining_too ask.protocols)
    (prepared now (joined_again g joining_too ask now true))
    (joined_again g joining_too ask now false)
    (λ (h : Group). has number h.roster.members ≡ false)
    (λ waits. prepared_absent now number (joined_again g joining_too ask now true) (again true))
    (λ answered. again false)))
absent g (Closes now) number none =
    inl (leaves g going.Silent now number (is_past g.phase now) none)
absent g (Settles generation now) number none =
    inl (cond_both (is_ready g) (settled_as generation now g) g
    (λ (h : Group). has number h.roster.members ≡ false)
    (λ ready. has_same_numbers number g.roster.members _
    (numbers_counted now g.roster.members) none)
    (λ waits. none))
absent g (Syncs syncing generation assignments now) number none =
    inl (cond_both (takes g syncing generation)
    (record g {
      phase = phase.Stable;
      roster = all_woken now g.roster;
      assignments = assignments;
    })
    (cond (asks g syncing generation) (record g { roster = asked syncing now g.roster })
    (after_heartbeat g syncing generation now))
    (λ (h : Group). has number h.roster.members ≡ false)
    (λ taken. has_same_numbers number g.roster.members _
    (numbers_woken now g.roster.members) none)
    (λ others. cond_both (asks g syncing generation)
    (record g { roster = asked syncing now g.roster })
    (after_heartbeat g syncing generation now)
    (λ (h : Group). has number h.roster.members ≡ false)
    (λ asks_it. has_same_numbers number g.roster.members _
    (numbers_changed syncing (asking now) g.roster.members (λ m here. refl)) none)
    (λ no. beats g syncing number generation now none)))
absent g (Beats beating generation now) number none =
    inl (beats g beating number generation now none)
absent g (Leaves leaving now) number none =
    inl (leaves g (going.Number leaving) now number (has leaving g.roster.members) none)
absent g (Parts parting now) number none =
    inl (cond_both (is_lost (find (is_numbered parting) g.roster.members))
    (left (going.Number parting) now g) (record g { roster = left_alone parting now g.roster })
    (λ (h : Group). has number h.roster.members ≡ false)
    (λ lost. leaves g (going.Number parting) now number true none)
    (λ kept. has_same_numbers number g.roster.members _
    (numbers_changed parting (cut_off now) g.roster.members
    (λ m here. same_number (m.waits || m.syncs) m _ refl)) none))
absent g (Ticks now) number none =
    inl (leaves g (going.Ended now) now number (any_goes (going.Ended now) g.roster.members) none)

pub absent_after : (g : Group) (steps : List Step) (number : ℕ)
    → has number g.roster.members ≡ false → NoneJoins steps number
    → has number (after_all g steps).roster.members ≡ false
absent_after g [] number none nobody = none
absent_after g (step ∷ steps) number none nobody =
    elim (absent g step number none) [
      | inl still ↦ absent_after (after_step g step) steps number still nobody.1
      | inr joins ↦ absurd (nobody.0 joins)
    ]
