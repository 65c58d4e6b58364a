-- What holds of every group.
use Rattle.std.proofs.Common.{◌≡◌, ◌↔◌, ℕ, ℤ, ◌<◌, ◌≤◌, Bool, true, false, ◌&&◌, not, cond}
use Rattle.std.proofs.Common.{List, [], ◌∷◌, ◌++◌, length, map, Option, Some, None, refl, sym}
use Rattle.std.proofs.Common.{ap, ◌∙◌, ◌||◌, ◌⊎◌, inl, inr, eqb, arith, is_some, suc, zero, length-append}
use Rattle.std.specs.Prelude.{nat_le}
use Rattle.std.specs.List.{filter, find, list_any}
use Rattle.std.specs.Option.{option_map, option_or}
use Rattle.std.proofs.lemmas.List.Folds.{list_any-append}
use Rattle.std.proofs.lemmas.Bool.{cond_both, eq-eqb, eqb-true}
use Rattle.std.proofs.lemmas.Bool.Decides.{nat_tests}
use Rattle.kx_membership.specs.Protocols.{later}
use Rattle.kx_membership.specs.Roster.{RosterState, all_woken, any_goes, asked, asking, begun, changed}
use Rattle.kx_membership.specs.Roster.{counted, cut_off, goes, has, has_same, heard, is_among}
use Rattle.kx_membership.specs.Roster.{is_numbered, joining, led_by, left_alone, longest, parted}
use Rattle.kx_membership.specs.Roster.{pushed, woken, woken_if}
use Rattle.kx_membership.specs.Group.{after_heartbeat, after_join_again, after_join_new}
use Rattle.kx_membership.specs.Group.{again_refusal, asks, first_of, is_completing, is_lost, is_past}
use Rattle.kx_membership.specs.Group.{is_present}
use Rattle.kx_membership.specs.Group.{is_ready, is_taken, joined_again, leads, left, most_members}
use Rattle.kx_membership.specs.Group.{must_wait, new_refusal, prepared, preparing, refusal_of}
use Rattle.kx_membership.specs.Group.{answer_of, joined_by, joined_of, room_refusal, settled_as, takes, waits_in}
use Rattle.kx_membership.specs.Steps.{Beats, Closes, HasLeader, IsGroup, JoinsAgain, JoinsNew, Leaves}
use Rattle.kx_membership.specs.Steps.{Parts, Settles, Step, Syncs, Ticks, after_step, is_distinct}
use Rattle.kx_membership.specs.Steps.{is_settled}
use Rattle.kx_membership.specs.Steps.{numbers, unless}
use Rattle.kx_membership.specs.declared.ask.Assignment.{Assignment}
use Rattle.kx_membership.specs.declared.ask.JoinAsk.{JoinAsk}
use Rattle.kx_membership.specs.declared.fault.GroupFault.{GroupFault}
use Rattle.kx_membership.specs.declared.fault.GroupFault.TheVariants as fault
use Rattle.kx_membership.specs.declared.group.Group.{Group}
use Rattle.kx_membership.specs.declared.group.Phase.{Phase}
use Rattle.kx_membership.specs.declared.group.Phase.TheVariants as phase
use Rattle.kx_membership.specs.declared.member.Going.{Going}
use Rattle.kx_membership.specs.declared.member.Going.TheVariants as going
use Rattle.kx_membership.specs.declared.member.Member.{Member}
use Rattle.kx_membership.proofs.Distinct.{both, distinct_after, distinct_front, distinct_insert}
use Rattle.kx_membership.proofs.Distinct.{neither, out_of_all}
use Rattle.kx_membership.proofs.Numbered.{gone_woken_if, has_alike, has_numbers, numbers_changed}
use Rattle.kx_membership.proofs.Numbered.{numbers_counted, numbers_woken, numbers_woken_if, same_number}
use Rattle.kx_membership.proofs.Stepping.{completing_is_settled, prepared_unsettled}

contradicts : (b : Bool) → b ≡ false → b ≡ true → ⊥
contradicts b e f = cc

------ members have to join again

some : (n : ℕ) → eqb (suc n) 0 ≡ false
some n = grind (arith, nat_tests)

-- whether it is empty is whether it has members
prepared_empty : (n : ℕ) (p : Phase) (deadline : ℕ)
    → (cond (eqb n 0) phase.Empty (preparing p deadline) ≡ phase.Empty) ↔ (n ≡ 0)
prepared_empty zero p deadline = (λ e. refl, λ e. refl)
prepared_empty (suc n) p deadline =
    (λ e. absurd (never p (rw (some n) at e)), λ e. absurd (omega arith))
  where
    never : (p : Phase) → preparing p deadline ≡ phase.Empty → ⊥
    never phase.Empty e = cc
    never (phase.Preparing until) e = cc
    never phase.Completing e = cc
    never phase.Stable e = cc

length-filter-le : (p : Member → Bool) (members : List Member)
    → length (filter p members) ≤ length members
length-filter-le p [] = omega arith
length-filter-le p (m ∷ members) = by (p m) (length-filter-le p members)
  where
    by : (b : Bool) → length (filter p members) ≤ length members
        → length (cond b (m ∷ filter p members) (filter p members)) ≤ suc (length members)
    by true le = omega arith
    by false le = omega arith

either : (a b : Bool) → (a || b) ≡ true → (a ≡ true) ⊎ (b ≡ true)
either true b e = inl refl
either false b e = inr e

one_or : (a b : Bool) → (a ≡ true) ⊎ (b ≡ true) → (a || b) ≡ true
one_or true b e = refl
one_or false b (inl e) = absurd cc
one_or false b (inr e) = e

filter_step : (p : Member → Bool) (b : Bool) (m : Member) (kept members : List Member)
    → list_any p (cond b (m ∷ kept) kept) ≡ true
    → (list_any p kept ≡ true → list_any p members ≡ true)
    → list_any p (m ∷ members) ≡ true
filter_step p true m kept members any rest =
    elim (either (p m) (list_any p kept) any) [
      | inl here ↦ one_or (p m) (list_any p members) (inl here)
      | inr later ↦ one_or (p m) (list_any p members) (inr (rest later))
    ]
filter_step p false m kept members any rest =
    one_or (p m) (list_any p members) (inr (rest any))

-- of those that are left one passes only if one did
any_filter : (p q : Member → Bool) (members : List Member)
    → list_any p (filter q members) ≡ true → list_any p members ≡ true
any_filter p q [] any = any
any_filter p q (m ∷ members) any =
    filter_step p (q m) m (filter q members) members any (any_filter p q members)

-- a change of all that keeps who passes
any_map : (p : Member → Bool) (f : Member → Member) (members : List Member)
    → ((m : Member) → p (f m) ≡ p m) → list_any p (map f members) ≡ list_any p members
any_map p f [] same = refl
any_map p f (m ∷ members) same = rw (same m, any_map p f members same) refl

any_woken_if : (p : Member → Bool) (b : Bool) (now : ℕ) (r : RosterState)
    → ((m : Member) → p (woken now m) ≡ p m)
    → list_any p (woken_if b now r).members ≡ list_any p r.members
any_woken_if p true now r same = any_map p (woken now) r.members same
any_woken_if p false now r same = refl

length_numbers : (members : List Member) → length (numbers members) ≡ length members
length_numbers [] = refl
length_numbers (m ∷ members) = ap suc (length_numbers members)

same_length : (before after : List Member) → numbers after ≡ numbers before
    → length after ≡ length before
same_length before after same =
    sym (length_numbers after) ∙ ap length same ∙ length_numbers before

prepared_group : (now : ℕ) (g : Group) → length g.roster.members ≤ most_members
    → is_distinct (numbers g.roster.members ++ g.roster.gone) ≡ true
    → (any_goes going.Silent g.roster.members ≡ true → is_some g.leader ≡ true)
    → (list_any (λ m. m.is_counted) g.roster.members ≡ true → is_some g.leader ≡ true)
    → IsGroup (prepared now g)
prepared_group now g within apart known counts =
    let wakes = is_completing g.phase in
    let same = numbers_woken_if wakes now g.roster in
    let long = same_length g.roster.members (woken_if wakes now g.roster).members same in
    let empty = prepared_empty (length g.roster.members) g.phase
    (later now (longest g.roster.members)) in
    record {
      within = omega (arith, long, within);
      apart = rw (same, gone_woken_if wakes now g.roster) apart;
      empty = (λ e. long ∙ empty.0 e, λ e. empty.1 (sym long ∙ e));
      joined = λ settled. absurd (contradicts _ (prepared_unsettled now g) settled);
      led = λ settled. absurd (contradicts _ (prepared_unsettled now g) settled);
      known = λ any. known (sym (any_woken_if (goes going.Silent) wakes now g.roster
          (λ m. refl)) ∙ any);
      counted = λ any. counts (sym (any_woken_if (λ m. m.is_counted) wakes now g.roster
          (λ m. refl)) ∙ any);
    }

left_group : (who : Going) (now : ℕ) (g : Group) → IsGroup g → IsGroup (left who now g)
left_group who now g sound =
    prepared_group now (record g { roster = parted who g.roster })
    (omega (arith, length-filter-le (λ m. not (goes who m)) g.roster.members, sound.within))
    (distinct_after who g.roster.members g.roster.gone sound.apart)
    (λ any. sound.known (any_filter (goes going.Silent) (λ m. not (goes who m)) g.roster.members
    any))
    (λ any. sound.counted (any_filter (λ m. m.is_counted) (λ m. not (goes who m))
    g.roster.members any))

------ the same numbers

same_leader : (g h : Group) → h.leader ≡ g.leader
    → numbers h.roster.members ≡ numbers g.roster.members → HasLeader g → HasLeader h
same_leader g h leader same (number, leads_it, there) = (
  number,
  leader ∙ leads_it,
  has_alike number g.roster.members h.roster.members same ∙ there,
)

same_group : (g h : Group) → IsGroup g → h.phase ≡ g.phase → h.leader ≡ g.leader
    → numbers h.roster.members ≡ numbers g.roster.members → h.roster.gone ≡ g.roster.gone
    → (is_settled g.phase ≡ true → list_any (λ m. m.waits) g.roster.members ≡ false
    → list_any (λ m. m.waits) h.roster.members ≡ false)
    → (any_goes going.Silent h.roster.members ≡ true → is_some g.leader ≡ true)
    → (list_any (λ m. m.is_counted) h.roster.members ≡ true → is_some g.leader ≡ true)
    → IsGroup h
same_group g h sound phases leader same gone waits known counts =
    let long = same_length g.roster.members h.roster.members same in
    let before : is_settled h.phase ≡ true → is_settled g.phase ≡ true =
    λ settled. sym (ap is_settled phases) ∙ settled in
    record {
      within = omega (arith, long, sound.within);
      apart = rw (same, gone) sound.apart;
      empty = (
        λ e. long ∙ sound.empty.0 (sym phases ∙ e),
        λ e. phases ∙ sound.empty.1 (sym long ∙ e),
      );
      joined = λ settled. waits (before settled) (sound.joined (before settled));
      led = λ settled. same_leader g h leader same (sound.led (before settled));
      known = λ any. ap is_some leader ∙ known any;
      counted = λ any. ap is_some leader ∙ counts any;
    }

none_waits : (number : ℕ) (f : Member → Member) (members : List Member)
    → ((m : Member) → m.waits ≡ false → (f m).waits ≡ false)
    → list_any (λ m. m.waits) members ≡ false
    → list_any (λ m. m.waits) (changed number f members) ≡ false
none_waits number f [] keeps none = refl
none_waits number f (m ∷ members) keeps none =
    let parts = neither m.waits (list_any (λ m. m.waits) members) none in
    cond_both (is_numbered number m) (f m ∷ members) (m ∷ changed number f members)
    (λ (after : List Member). list_any (λ m. m.waits) after ≡ false)
    (λ here. rw (keeps m parts.0, parts.1) refl)
    (λ there. rw (parts.0, none_waits number f members keeps parts.1) refl)

changed_step : (p : Member → Bool) (b : Bool) (m new : Member) (others members : List Member)
    → list_any p (cond b (new ∷ members) (m ∷ others)) ≡ true
    → (p new ≡ true → p m ≡ true)
    → (list_any p others ≡ true → list_any p members ≡ true)
    → list_any p (m ∷ members) ≡ true
changed_step p true m new others members any first rest =
    elim (either (p new) (list_any p members) any) [
      | inl here ↦ one_or (p m) (list_any p members) (inl (first here))
      | inr later ↦ one_or (p m) (list_any p members) (inr later)
    ]
changed_step p false m new others members any first rest =
    elim (either (p m) (list_any p others) any) [
      | inl here ↦ one_or (p m) (list_any p members) (inl here)
      | inr later ↦ one_or (p m) (list_any p members) (inr (rest later))
    ]

-- a member that passes passed before
any_changed : (p : Member → Bool) (number : ℕ) (f : Member → Member) (members : List Member)
    → ((m : Member) → p (f m) ≡ true → p m ≡ true)
    → list_any p (changed number f members) ≡ true → list_any p members ≡ true
any_changed p number f [] before any = any
any_changed p number f (m ∷ members) before any =
    changed_step p (is_numbered number m) m (f m) (changed number f members) members any (before m)
    (any_changed p number f members before)

-- a change of one member that keeps its number, whether it waits and whether it is counted
heard_group : (g : Group) (number : ℕ) (f : Member → Member) → IsGroup g
    → ((m : Member) → (f m).number ≡ m.number) → ((m : Member) → (f m).waits ≡ m.waits)
    → ((m : Member) → (f m).is_counted ≡ m.is_counted)
    → IsGroup (record g {
      roster = record g.roster {
        members = changed number f g.roster.members;
      };
    })
heard_group g number f sound its_number its_wait its_count =
    same_group g (record g {
      roster = record g.roster {
        members = changed number f g.roster.members;
      };
    }) sound refl refl
    (numbers_changed number f g.roster.members (λ m here. its_number m)) refl
    (λ settled none. none_waits number f g.roster.members (λ m waits. its_wait m ∙ waits) none)
    (λ any. sound.known (any_changed (goes going.Silent) number f g.roster.members
    (λ m silent. sym (ap not (its_wait m)) ∙ silent) any))
    (λ any. sound.counted (any_changed (λ m. m.is_counted) number f g.roster.members
    (λ m counts. sym (its_count m) ∙ counts) any))

beats_group : (g : Group) (number : ℕ) (generation : ℤ) (now : ℕ) → IsGroup g
    → IsGroup (after_heartbeat g number generation now)
beats_group g number generation now sound =
    cond_both (is_present g number generation)
    (record g { roster = heard number now g.roster }) g (λ (h : Group). IsGroup h)
    (λ there. heard_group g number (begun now) sound (λ m. refl) (λ m. refl) (λ m. refl))
    (λ gone. sound)

------ the end of a connection

cut_waits : (b : Bool) (m new : Member) → new.waits ≡ false → m.waits ≡ false
    → (cond b new m).waits ≡ false
cut_waits true m new e f = e
cut_waits false m new e f = f

cut_counts : (b : Bool) (m new : Member) → new.is_counted ≡ m.is_counted
    → (cond b new m).is_counted ≡ m.is_counted
cut_counts true m new e = e
cut_counts false m new e = refl

not_lost : (waits counts : Bool) → (waits && not counts) ≡ false
    → (not waits ≡ true) ⊎ (counts ≡ true)
not_lost true true e = inr refl
not_lost true false e = absurd cc
not_lost false counts e = inl refl

-- who is silent now was silent, or was counted
cut_step : (b : Bool) (m new : Member) (found : Option Member) (others members : List Member)
    → is_lost (cond b (Some m) found) ≡ false
    → list_any (goes going.Silent) (cond b (new ∷ members) (m ∷ others)) ≡ true
    → (is_lost found ≡ false → list_any (goes going.Silent) others ≡ true
    → (list_any (goes going.Silent) members ≡ true)
    ⊎ (list_any (λ x. x.is_counted) members ≡ true))
    → (list_any (goes going.Silent) (m ∷ members) ≡ true)
    ⊎ (list_any (λ x. x.is_counted) (m ∷ members) ≡ true)
cut_step true m new found others members kept any rest =
    elim (not_lost m.waits m.is_counted kept) [
      | inl silent ↦
          inl (one_or (not m.waits) (list_any (goes going.Silent) members) (inl silent))
      | inr counts ↦
          inr (one_or m.is_counted (list_any (λ x. x.is_counted) members) (inl counts))
    ]
cut_step false m new found others members kept any rest =
    elim (either (not m.waits) (list_any (goes going.Silent) others) any) [
      | inl silent ↦
          inl (one_or (not m.waits) (list_any (goes going.Silent) members) (inl silent))
      | inr later ↦ elim (rest kept later) [
        | inl silent ↦
            inl (one_or (not m.waits) (list_any (goes going.Silent) members) (inr silent))
        | inr counts ↦
            inr (one_or m.is_counted (list_any (λ x. x.is_counted) members) (inr counts))
      ]
    ]

cut_known : (number now : ℕ) (members : List Member)
    → is_lost (find (is_numbered number) members) ≡ false
    → list_any (goes going.Silent) (changed number (cut_off now) members) ≡ true
    → (list_any (goes going.Silent) members ≡ true)
    ⊎ (list_any (λ x. x.is_counted) members ≡ true)
cut_known number now [] kept any = inl any
cut_known number now (m ∷ members) kept any =
    cut_step (is_numbered number m) m (cut_off now m) (find (is_numbered number) members)
    (changed number (cut_off now) members) members kept any (cut_known number now members)

cut_group : (g : Group) (number now : ℕ) → IsGroup g
    → is_lost (find (is_numbered number) g.roster.members) ≡ false
    → IsGroup (record g { roster = left_alone number now g.roster })
cut_group g number now sound kept =
    same_group g (record g { roster = left_alone number now g.roster }) sound refl refl
    (numbers_changed number (cut_off now) g.roster.members
    (λ m here. same_number (m.waits || m.syncs) m _ refl)) refl
    (λ settled none. none_waits number (cut_off now) g.roster.members
    (λ m waits. cut_waits (m.waits || m.syncs) m _ refl waits) none)
    (λ any. elim (cut_known number now g.roster.members kept any) [
      | inl silent ↦ sound.known silent
      | inr counts ↦ sound.counted counts
    ])
    (λ any. sound.counted (any_changed (λ m. m.is_counted) number (cut_off now) g.roster.members
    (λ m counts. sym (cut_counts (m.waits || m.syncs) m _ refl) ∙ counts) any))

------ all have joined

none_waits_counted : (now : ℕ) (members : List Member)
    → list_any (λ m. m.waits) (map (counted now) members) ≡ false
none_waits_counted now [] = refl
none_waits_counted now (m ∷ members) = none_waits_counted now members

settled_empty : (n : ℕ) → (cond (eqb n 0) phase.Empty phase.Completing ≡ phase.Empty) ↔ (n ≡ 0)
settled_empty zero = (λ e. refl, λ e. refl)
settled_empty (suc n) = (
  λ e. let other : phase.Completing ≡ phase.Empty = rw (some n) at e in absurd (cc),
  λ e. absurd (omega arith),
)

has_first : (m : Member) (members : List Member) → has m.number (m ∷ members) ≡ true
has_first m members = rw (eq-eqb m.number m.number refl) refl

number_by : (b : Bool) (number : ℕ) (m x : Member) (rest : Option Member)
    → eqb m.number number ≡ b → (rest ≡ Some x → x.number ≡ number)
    → cond b (Some m) rest ≡ Some x → x.number ≡ number
number_by true number m x rest same further e =
    let it : m ≡ x = cc in
    ap (λ y. y.number) (sym it) ∙ eqb-true m.number number same
number_by false number m x rest other further e = further e

find_number : (number : ℕ) (members : List Member) (x : Member)
    → find (is_numbered number) members ≡ Some x → x.number ≡ number
find_number number [] x e = absurd (cc)
find_number number (m ∷ members) x e =
    number_by (eqb m.number number) number m x (find (is_numbered number) members) refl
    (find_number number members x) e

has_found : (number : ℕ) (members : List Member) (x : Member)
    → find (is_numbered number) members ≡ Some x → has x.number members ≡ true
has_found number members x e =
    rw (find_number number members x e, e) refl

-- somebody leads if somebody is
led_member : (before : Option ℕ) (m : Member) (members : List Member)
    → (x : Member) × (led_by before (m ∷ members) ≡ Some x) × (has x.number (m ∷ members) ≡ true)
led_member None m members = (m, refl, has_first m members)
led_member (Some number) m members = by (find (is_numbered number) (m ∷ members)) refl
  where
    by : (o : Option Member) → find (is_numbered number) (m ∷ members) ≡ o
        → (x : Member) × (option_or o (Some m) ≡ Some x) × (has x.number (m ∷ members) ≡ true)
    by None e = (m, refl, has_first m members)
    by (Some x) e = (x, refl, has_found number (m ∷ members) x e)

settled_leader : (before : Option ℕ) (now : ℕ) (members : List Member)
    → is_settled (cond (eqb (length members) 0) phase.Empty phase.Completing) ≡ true
    → (number : ℕ) × (option_map (λ (m : Member). m.number) (led_by before members) ≡ Some number)
    × (has number (map (counted now) members) ≡ true)
settled_leader before now [] settled = absurd (cc)
settled_leader before now (m ∷ members) settled =
    let leads_them = led_member before m members in
    let x = leads_them.0 in (
      x.number,
      ap (option_map (λ (m : Member). m.number)) leads_them.1,
      has_alike x.number (m ∷ members) (map (counted now) (m ∷ members))
          (numbers_counted now (m ∷ members)) ∙ leads_them.2,
    )

settled_known : (p : Member → Bool) (before : Option ℕ) (now : ℕ) (members : List Member)
    → list_any p (map (counted now) members) ≡ true
    → is_some (option_map (λ (m : Member). m.number) (led_by before members)) ≡ true
settled_known p before now [] any = absurd cc
settled_known p before now (m ∷ members) any =
    ap (λ (o : Option Member). is_some (option_map (λ (m : Member). m.number) o))
    (led_member before m members).1

settled_group : (generation : ℤ) (now : ℕ) (g : Group) → IsGroup g
    → IsGroup (settled_as generation now g)
settled_group generation now g sound =
    let same = numbers_counted now g.roster.members in
    let long = same_length g.roster.members (map (counted now) g.roster.members) same in
    let empty = settled_empty (length g.roster.members) in
    record {
      within = omega (arith, long, sound.within);
      apart = rw same (distinct_front (numbers g.roster.members) g.roster.gone sound.apart);
      empty = (λ e. long ∙ empty.0 e, λ e. empty.1 (sym long ∙ e));
      joined = λ settled. none_waits_counted now g.roster.members;
      led = λ settled. settled_leader g.leader now g.roster.members settled;
      known = λ any. settled_known (goes going.Silent) g.leader now g.roster.members any;
      counted = λ any. settled_known (λ m. m.is_counted) g.leader now g.roster.members any;
    }

------ steps

refused : (r : Option GroupFault) (g h : Group) → IsGroup g → (r ≡ None → IsGroup h)
    → IsGroup (unless r g h)
refused None g h before after = after refl
refused (Some fault) g h before after = before

allowed : (taken : Bool) (said room : Option GroupFault)
    → cond taken (Some fault.UnknownMember) (first_of said room) ≡ None
    → (taken ≡ false) × (room ≡ None)
allowed true said room e = absurd (cc)
allowed false None room e = (refl, e)
allowed false (Some given) room e = absurd (cc)

has_room : (n : ℕ) → cond (nat_le most_members n) (Some fault.GroupFull) None ≡ None → n < most_members
has_room n e = by (nat_le most_members n) refl e
  where
    by : (b : Bool) → nat_le most_members n ≡ b → cond b (Some fault.GroupFull) None ≡ None
        → n < most_members
    by true full f = absurd (cc)
    by false less f = grind (arith, nat_tests)

numbers_pushed : (m : Member) (members : List Member) (gone : List ℕ)
    → numbers (members ++ m ∷ []) ++ gone ≡ numbers members ++ m.number ∷ gone
numbers_pushed m [] gone = refl
numbers_pushed m (x ∷ members) gone =
    ap (λ (rest : List ℕ). x.number ∷ rest) (numbers_pushed m members gone)

any_pushed : (p : Member → Bool) (m : Member) (members : List Member) → p m ≡ false
    → list_any p (members ++ m ∷ []) ≡ true → list_any p members ≡ true
any_pushed p m members out any =
    let last : list_any p (m ∷ []) ≡ false = rw out refl in
    elim (either (list_any p members) (list_any p (m ∷ []))
    (sym (list_any-append p members (m ∷ [])) ∙ any)) [
      | inl before ↦ before
      | inr new ↦ absurd (contradicts _ last new)
    ]

waits_settled : (p : Phase) (is_leader is_same : Bool) → waits_in p is_leader is_same ≡ false
    → is_settled p ≡ true
waits_settled phase.Completing is_leader is_same e = refl
waits_settled phase.Stable is_leader is_same e = refl
waits_settled phase.Empty is_leader is_same e = absurd cc
waits_settled (phase.Preparing until) is_leader is_same e = absurd cc

joins_new : (g : Group) (number : ℕ) (id : List ℕ) (ask : JoinAsk) (now : ℕ) → IsGroup g
    → new_refusal g number ask ≡ None → IsGroup (after_join_new g number id ask now)
joins_new g number id ask now sound free =
    let parts = allowed (is_taken number g.roster) (refusal_of g number ask)
    (room_refusal g.roster) free in
    let room = has_room (length g.roster.members) parts.1 in
    let outs = neither (has number g.roster.members) (is_among number g.roster.gone) parts.0 in
    let out : is_among number (numbers g.roster.members) ≡ false =
    sym (has_numbers number g.roster.members) ∙ outs.0 in
    let m = joining number id ask now in
    prepared_group now (record g {
      protocol_type = ask.protocol_type;
      roster = pushed m g.roster;
    })
    (omega (arith, length-append g.roster.members (m ∷ []), room))
    (ap is_distinct (numbers_pushed m g.roster.members g.roster.gone)
    ∙ distinct_insert (numbers g.roster.members) g.roster.gone number sound.apart
    (out_of_all number (numbers g.roster.members) g.roster.gone out outs.1))
    (λ any. sound.known (any_pushed (goes going.Silent) m g.roster.members refl any))
    (λ any. sound.counted (any_pushed (λ x. x.is_counted) m g.roster.members refl any))

joins_again : (g : Group) (number : ℕ) (ask : JoinAsk) (now : ℕ) → IsGroup g
    → IsGroup (after_join_again g number ask now)
joins_again g number ask now sound =
    let same : (waits : Bool) → numbers (joined_again g number ask now waits).roster.members
    ≡ numbers g.roster.members = λ waits. numbers_changed number _ g.roster.members
    (λ m here. refl) in
    let long = same_length g.roster.members
    (joined_again g number ask now true).roster.members (same true) in
    cond_both (must_wait g number ask.protocols)
    (prepared now (joined_again g number ask now true)) (joined_again g number ask now false)
    (λ (h : Group). IsGroup h)
    (λ waits. prepared_group now (joined_again g number ask now true)
    (omega (arith, long, sound.within))
    (ap (λ (ns : List ℕ). is_distinct (ns ++ g.roster.gone)) (same true) ∙ sound.apart)
    (λ any. sound.known (any_changed (goes going.Silent) number _ g.roster.members
    (λ m silent. absurd cc) any))
    (λ any. sound.counted (any_changed (λ m. m.is_counted) number _ g.roster.members
    (λ m counts. counts) any)))
    (λ answered. same_group g (joined_again g number ask now false) sound refl refl
    (same false) refl
    (λ settled none. none_waits number _ g.roster.members (λ m waits. refl) none)
    (λ any. ap is_some (sound.led (waits_settled g.phase (leads g number)
    (has_same number ask.protocols g.roster.members) answered)).1)
    (λ any. sound.counted (any_changed (λ m. m.is_counted) number _ g.roster.members
    (λ m counts. counts) any)))

none_waits_woken : (now : ℕ) (members : List Member)
    → list_any (λ m. m.waits) members ≡ false
    → list_any (λ m. m.waits) (map (woken now) members) ≡ false
none_waits_woken now members none = any_map (λ m. m.waits) (woken now) members (λ m. refl) ∙ none

takes_group : (g : Group) (assignments : List Assignment) (now : ℕ) → IsGroup g
    → is_completing g.phase ≡ true
    → IsGroup (record g {
      phase = phase.Stable;
      roster = all_woken now g.roster;
      assignments = assignments;
    })
takes_group g assignments now sound completing =
    let same = numbers_woken now g.roster.members in
    let long = same_length g.roster.members (map (woken now) g.roster.members) same in
    let settled = completing_is_settled g.phase completing in
    let h : Group = record g {
      phase = phase.Stable;
      roster = all_woken now g.roster;
      assignments = assignments;
    } in
    let filled : g.phase ≡ phase.Empty → ⊥ = λ e.
    let yes_no : is_completing phase.Empty ≡ true = sym (ap is_completing e) ∙ completing in
    absurd (cc) in
    record {
      within = omega (arith, long, sound.within);
      apart = ap (λ (ns : List ℕ). is_distinct (ns ++ g.roster.gone)) same ∙ sound.apart;
      empty = (λ e. absurd (cc), λ e. absurd (filled (sound.empty.1 (sym long ∙ e))));
      joined = λ stable. none_waits_woken now g.roster.members (sound.joined settled);
      led = λ stable. same_leader g h refl same (sound.led settled);
      known = λ any. ap is_some (sound.led settled).1;
      counted = λ any. ap is_some (sound.led settled).1;
    }

pub sound_after : (g : Group) (step : Step) → IsGroup g → IsGroup (after_step g step)
sound_after g (JoinsNew number id ask now) sound =
    refused (new_refusal g number ask) g (after_join_new g number id ask now) sound
    (λ free. joins_new g number id ask now sound free)
sound_after g (JoinsAgain number ask now) sound =
    refused (again_refusal g number ask) g (after_join_again g number ask now) sound
    (λ free. joins_again g number ask now sound)
sound_after g (Closes now) sound =
    cond_both (is_past g.phase now) (left going.Silent now g) g (λ (h : Group). IsGroup h)
    (λ past. left_group going.Silent now g sound) (λ early. sound)
sound_after g (Settles generation now) sound =
    cond_both (is_ready g) (settled_as generation now g) g (λ (h : Group). IsGroup h)
    (λ ready. settled_group generation now g sound) (λ waits. sound)
sound_after g (Syncs number generation assignments now) sound =
    cond_both (takes g number generation)
    (record g {
      phase = phase.Stable;
      roster = all_woken now g.roster;
      assignments = assignments;
    })
    (cond (asks g number generation) (record g { roster = asked number now g.roster })
    (after_heartbeat g number generation now)) (λ (h : Group). IsGroup h)
    (λ taken.
    let rest = both (is_present g number generation) (is_completing g.phase && leads g number)
    taken in
    takes_group g assignments now sound
    (both (is_completing g.phase) (leads g number) rest.1).0)
    (λ others. cond_both (asks g number generation)
    (record g { roster = asked number now g.roster })
    (after_heartbeat g number generation now) (λ (h : Group). IsGroup h)
    (λ asks_it. heard_group g number (asking now) sound (λ m. refl) (λ m. refl) (λ m. refl))
    (λ no. beats_group g number generation now sound))
sound_after g (Beats number generation now) sound = beats_group g number generation now sound
sound_after g (Leaves number now) sound =
    cond_both (has number g.roster.members) (left (going.Number number) now g) g
    (λ (h : Group). IsGroup h)
    (λ there. left_group (going.Number number) now g sound) (λ gone. sound)
sound_after g (Parts number now) sound =
    cond_both (is_lost (find (is_numbered number) g.roster.members))
    (left (going.Number number) now g) (record g { roster = left_alone number now g.roster })
    (λ (h : Group). IsGroup h)
    (λ lost. left_group (going.Number number) now g sound)
    (λ kept. cut_group g number now sound kept)
sound_after g (Ticks now) sound =
    cond_both (any_goes (going.Ended now) g.roster.members) (left (going.Ended now) now g) g
    (λ (h : Group). IsGroup h)
    (λ ended. left_group (going.Ended now) now g sound) (λ early. sound)

------ answers

found_step : (b : Bool) (m x : Member) (rest : Option Member) (any : Bool)
    → (rest ≡ Some x → not x.waits ≡ true → any ≡ true)
    → cond b (Some m) rest ≡ Some x → not x.waits ≡ true → (not m.waits || any) ≡ true
found_step true m x rest any later found silent =
    let same : m ≡ x = cc in
    one_or (not m.waits) any (inl (ap (λ (y : Member). not y.waits) same ∙ silent))
found_step false m x rest any later found silent =
    one_or (not m.waits) any (inr (later found silent))

found_any : (number : ℕ) (members : List Member) (x : Member)
    → find (is_numbered number) members ≡ Some x → not x.waits ≡ true
    → any_goes going.Silent members ≡ true
found_any number [] x found silent = absurd cc
found_any number (m ∷ members) x found silent =
    found_step (is_numbered number m) m x (find (is_numbered number) members)
    (any_goes going.Silent members) (found_any number members x) found silent

some_mapped : {A B : Type 0} (f : A → B) (o : Option A) → is_some o ≡ true
    → is_some (option_map f o) ≡ true
some_mapped f None e = absurd cc
some_mapped f (Some x) e = refl

answer_step : (g : Group) (number : ℕ) (m : Member) (waits : Bool) → m.waits ≡ waits
    → (not m.waits ≡ true → is_some g.leader ≡ true) → is_some (answer_of g number m) ≡ not waits
answer_step g number m true e known = rw e refl
answer_step g number m false e known = rw e (some_mapped _ g.leader (known (rw e refl)))

-- a JoinGroup is answered once it doesn't wait
pub is_answered : (g : Group) (m : Member) (number : ℕ) → IsGroup g
    → find (is_numbered number) g.roster.members ≡ Some m
    → is_some (joined_of g number) ≡ not m.waits
is_answered g m number sound found =
    ap (λ (o : Option Member). is_some (joined_by g number o)) found
    ∙ answer_step g number m m.waits refl
    (λ silent. sound.known (found_any number g.roster.members m found silent))
