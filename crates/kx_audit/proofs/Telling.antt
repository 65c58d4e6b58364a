-- Steps that were put into one order are joined, if each trace that is run again answers so.
use Rattle.std.proofs.Common.{◌≡◌, ◌++◌, ℕ, zero, suc, Bool, true, false, cond, List, [], ◌∷◌}
use Rattle.std.proofs.Common.{Some, refl, sym, ap, ◌∙◌, subst, arith}
use Rattle.std.specs.Prelude.{slice_get, option_map}
use Rattle.std.proofs.lemmas.Option.{slice_get-map}
use Rattle.kx_audit.specs.Joined.{AreApart, GoesOn, Passed, TakesInOrder, at_node}
use Rattle.kx_audit.specs.Joined.{led_to, steps_in}
use Rattle.kx_audit.specs.Making.{OfCoordinator, Trail, named, node_of}
use Rattle.kx_audit.specs.Nodes.{same_node}
use Rattle.kx_audit.specs.Rerun.{AllAre, StepIs}
use Rattle.kx_audit.specs.Told.{AllAnswer, AnswersSo, AreFound, AreMerged, AreToldInOrder, IsToldOf}
use Rattle.kx_audit.specs.Told.{Told, takens_in, told_at, told_in, told_of, told_steps, told_takens}
use Rattle.kx_machine.specs.Meaning.{NodeState}
use Rattle.kx_machine.specs.declared.taken.Taken.{Taken}
use Rattle.kx_message.specs.declared.message.Message.{Message}
use Rattle.kx_message.specs.declared.message.NodeId.{NodeId}
use Rattle.kx_nodes.specs.Replay.{Takes}
use Rattle.kx_nodes.specs.declared.trace.Step.{Step}
use Rattle.kx_audit.proofs.Merging.{at_other, at_own}
use Rattle.kx_audit.proofs.Names.{apart, same_is, same_self}
use Rattle.kx_audit.proofs.Ordering.{tail_apart}

------ what is told at a node

told_own : (x : Told) (told : List Told) (name : NodeId) → same_node x.node name ≡ true
    → told_at name (x ∷ told) ≡ x ∷ told_at name told
told_own x told name e = ap (λ b. cond b (x ∷ told_at name told) (told_at name told)) e

told_other : (x : Told) (told : List Told) (name : NodeId) → same_node x.node name ≡ false
    → told_at name (x ∷ told) ≡ told_at name told
told_other x told name e = ap (λ b. cond b (x ∷ told_at name told) (told_at name told)) e

pub steps_at : (merged : List Passed) (n : NodeId)
    → steps_in (at_node n merged) ≡ told_steps (told_at n (told_in merged))
steps_at [] n = refl
steps_at (p ∷ merged) n = by (same_node p.node n) (steps_at merged n)
  where
    by : (b : Bool) → steps_in (at_node n merged) ≡ told_steps (told_at n (told_in merged))
        → steps_in (cond b (p ∷ at_node n merged) (at_node n merged))
        ≡ told_steps (cond b (told_of p ∷ told_at n (told_in merged)) (told_at n (told_in merged)))
    by true rest = ap (λ (xs : List Step). p.step ∷ xs) rest
    by false rest = rest

------ the way of each node

module _ (Is : StepIs) where
  -- a way from a node on, of which this is told
  record IsTold (made : NodeState) (told : List Told) (way : List Passed) : Type 0 where
    goes : GoesOn made way
    steps_are : steps_in way ≡ told_steps told
    takens_are : takens_in way ≡ told_takens told
    each : AllAre Is [] made way

  -- a step that is told first
  record First (made : NodeState) (x : Told) (told : List Told) (way : List Passed) : Type 0 where
    after : NodeState
    rest : List Passed
    takes : Takes made x.step x.taken after
    step_is : Is made (told_steps told ++ []) x.step x.taken after
    told_is : IsTold after told rest
    leads : led_to made way ≡ led_to after rest

  first_of : (made : NodeState) (x : Told) (told : List Told) (way : List Passed)
      → IsTold made (x ∷ told) way → First made x told way
  first_of made x told [] is = absurd (let e = is.steps_are in cc)
  first_of made x told (p ∷ way) is =
      let step : p.step ≡ x.step = let e = is.steps_are in cc in
      let steps : steps_in way ≡ told_steps told = let e = is.steps_are in cc in
      let taken : p.taken ≡ x.taken = let e = is.takens_are in cc in
      let takens : takens_in way ≡ told_takens told = let e = is.takens_are in cc in
      record {
        after = p.after;
        rest = way;
        takes = subst (λ (s : Step). Takes made s x.taken p.after) step
            (subst (λ (t : Taken). Takes made p.step t p.after) taken is.goes.0);
        step_is = subst (λ (t : Taken). Is made (told_steps told ++ []) x.step t p.after) taken
            (subst (λ (s : Step). Is made (told_steps told ++ []) s p.taken p.after) step
            (subst (λ (l : List Step). Is made (l ++ []) p.step p.taken p.after) steps is.each.0));
        told_is = record {
          goes = is.goes.1;
          steps_are = steps;
          takens_are = takens;
          each = is.each.1;
        };
        leads = refl;
      }

  nothing_told : (made : NodeState) (way : List Passed) → IsTold made [] way
      → led_to made [] ≡ led_to made way
  nothing_told made [] is = refl
  nothing_told made (p ∷ way) is = absurd (let e = is.steps_are in cc)

  ------ all nodes

  module _ (IsKnown : NodeId → Type 0) where
    abbrev AreKnown : List Told → Type 0
    AreKnown [] = Unit {0}
    AreKnown (x ∷ told) = IsKnown x.node × AreKnown told

    abbrev AllTold : List Told → (NodeId → NodeState) → (NodeId → List Passed) → Type 0
    AllTold told made ways =
        (n : NodeId) → IsKnown n → IsTold (made n) (told_at n told) (ways n)

    record IsMixed (told : List Told) (made : NodeId → NodeState) (ways : NodeId → List Passed)
        : Type 0 where
      merged : List Passed
      told_is : told_in merged ≡ told
      goes : (n : NodeId) → IsKnown n → GoesOn (made n) (at_node n merged)
      leads : (n : NodeId) → IsKnown n → led_to (made n) (at_node n merged) ≡ led_to (made n) (ways n)
      each : (n : NodeId) → IsKnown n → AllAre Is [] (made n) (at_node n merged)

    module _ (x : Told) (told : List Told) (made : NodeId → NodeState) (ways : NodeId → List Passed)
        (first : First (made x.node) x (told_at x.node told) (ways x.node)) where
      abbrev p : Passed
      p = record { node = x.node; step = x.step; taken = x.taken; after = first.after }

      -- behind the step
      abbrev made_then : NodeId → NodeState
      made_then n = cond (same_node x.node n) first.after (made n)

      abbrev ways_then : NodeId → List Passed
      ways_then n = cond (same_node x.node n) first.rest (ways n)

      told_then : (n : NodeId) (b : Bool) → same_node x.node n ≡ b
          → IsTold (made n) (told_at n (x ∷ told)) (ways n)
          → IsTold (cond b first.after (made n)) (told_at n told) (cond b first.rest (ways n))
      told_then n true e is =
          subst (λ (m : NodeId). IsTold first.after (told_at m told) first.rest) (same_is x.node n e)
          first.told_is
      told_then n false e is =
          subst (λ (xs : List Told). IsTold (made n) xs (ways n)) (told_other x told n e) is

      goes_then : (n : NodeId) (merged : List Passed) (b : Bool) → same_node x.node n ≡ b
          → GoesOn (cond b first.after (made n)) (at_node n merged)
          → GoesOn (made n) (at_node n (p ∷ merged))
      goes_then n merged true e goes =
          subst (GoesOn (made n)) (sym (at_own p merged n e)) (
            subst (λ (m : NodeId). Takes (made m) x.step x.taken first.after) (same_is x.node n e)
                first.takes,
            goes,
          )
      goes_then n merged false e goes =
          subst (GoesOn (made n)) (sym (at_other p merged n e)) goes

      each_then : (n : NodeId) (merged : List Passed) (b : Bool) → same_node x.node n ≡ b
          → told_in merged ≡ told → AllAre Is [] (cond b first.after (made n)) (at_node n merged)
          → AllAre Is [] (made n) (at_node n (p ∷ merged))
      each_then n merged true e same each =
          subst (AllAre Is [] (made n)) (sym (at_own p merged n e)) (
            subst (λ (m : NodeId). Is (made m) (steps_in (at_node m merged) ++ []) x.step x.taken
                first.after) (same_is x.node n e)
                (subst (λ (l : List Step). Is (made x.node) (l ++ []) x.step x.taken first.after)
                (sym (steps_at merged x.node
                ∙ ap (λ (xs : List Told). told_steps (told_at x.node xs)) same))
                first.step_is),
            each,
          )
      each_then n merged false e same each =
          subst (AllAre Is [] (made n)) (sym (at_other p merged n e)) each

      leads_then : (n : NodeId) (merged : List Passed) (b : Bool) → same_node x.node n ≡ b
          → led_to (cond b first.after (made n)) (at_node n merged)
          ≡ led_to (cond b first.after (made n)) (cond b first.rest (ways n))
          → led_to (made n) (at_node n (p ∷ merged)) ≡ led_to (made n) (ways n)
      leads_then n merged true e leads =
          ap (led_to (made n)) (at_own p merged n e)
          ∙ leads
          ∙ subst (λ (m : NodeId). led_to first.after first.rest ≡ led_to (made m) (ways m))
          (same_is x.node n e) (sym first.leads)
      leads_then n merged false e leads =
          ap (led_to (made n)) (at_other p merged n e) ∙ leads

      mixed_then : IsMixed told made_then ways_then → IsMixed (x ∷ told) made ways
      mixed_then rest = record {
        merged = p ∷ rest.merged;
        told_is = ap (λ (xs : List Told). x ∷ xs) rest.told_is;
        goes = λ n known. goes_then n rest.merged (same_node x.node n) refl (rest.goes n known);
        leads = λ n known. leads_then n rest.merged (same_node x.node n) refl (rest.leads n known);
        each = λ n known.
            each_then n rest.merged (same_node x.node n) refl rest.told_is (rest.each n known);
      }

    mixed : (told : List Told) (made : NodeId → NodeState) (ways : NodeId → List Passed)
        → AreKnown told → AllTold told made ways → IsMixed told made ways
    mixed [] made ways known all = record {
      merged = [];
      told_is = refl;
      goes = λ n k. tt;
      leads = λ n k. nothing_told (made n) (ways n) (all n k);
      each = λ n k. tt;
    }
    mixed (x ∷ told) made ways known all =
        let first = first_of (made x.node) x (told_at x.node told) (ways x.node)
        (subst (λ (xs : List Told). IsTold (made x.node) xs (ways x.node))
        (told_own x told x.node (same_self x.node)) (all x.node known.0)) in
        mixed_then x told made ways first
        (mixed told (made_then x told made ways first) (ways_then x told made ways first) known.1
        (λ n k. told_then x told made ways first n (same_node x.node n) refl (all n k)))

  ------ traces by their nodes' names

  abbrev Stand : Type 1
  Stand = ℕ → NodeState → Type 0

  -- a trace that is run again answers so, and each of its steps is such
  pub record AnswersBy (made : NodeState) (told : List Told) (Stands : NodeState → Type 0)
      : Type 0 where
    pub answers : AnswersSo made told Stands
    pub each : AllAre Is [] made answers.way

  abbrev pub AllBy : List Trail → List Told → Stand → Type 0
  AllBy trails told Stands = (k : ℕ) (t : Trail) → slice_get trails k ≡ Some t
      → AnswersBy (node_of t.made) (told_at (named t.made) told) (Stands k)

  abbrev made_at : List Trail → NodeId → NodeState
  made_at [] name = node_of OfCoordinator
  made_at (t ∷ trails) name =
      cond (same_node (named t.made) name) (node_of t.made) (made_at trails name)

  later_answers : (t : Trail) (trails : List Trail) (told : List Told) (Stands : Stand)
      → AllBy (t ∷ trails) told Stands → AllBy trails told (λ k. Stands (suc k))
  later_answers t trails told Stands all = λ k u at. all (suc k) u at

  ways_at : (trails : List Trail) (told : List Told) (Stands : Stand)
      → AllBy trails told Stands → NodeId → List Passed
  ways_at [] told Stands all name = []
  ways_at (t ∷ trails) told Stands all name =
      cond (same_node (named t.made) name) (all 0 t refl).answers.way
      (ways_at trails told (λ k. Stands (suc k)) (later_answers t trails told Stands all) name)

  -- what stands of a trace's node
  record IsFound (t : Trail) (told : List Told) (made : NodeState) (way : List Passed)
      (Stands : NodeState → Type 0) : Type 0 where
    made_is : made ≡ node_of t.made
    told_is : IsTold made (told_at (named t.made) told) way
    stands : Stands (led_to made way)

  first_found : (u : Trail) (trails : List Trail) (told : List Told) (Stands : Stand)
      (all : AllBy (u ∷ trails) told Stands) (made : NodeState) (way : List Passed) (b : Bool)
      → same_node (named u.made) (named u.made) ≡ b
      → IsFound u told (cond b (node_of u.made) made) (cond b (all 0 u refl).answers.way way) (Stands 0)
  first_found u trails told Stands all made way true e =
      let a = (all 0 u refl).answers in
      record {
        made_is = refl;
        told_is = record {
          goes = a.goes;
          steps_are = a.steps_are;
          takens_are = a.takens_are;
          each = (all 0 u refl).each;
        };
        stands = a.stands;
      }
  first_found u trails told Stands all made way false e =
      absurd (let both = sym e ∙ same_self (named u.made) in cc)

  later_found : (t : Trail) (told : List Told) (other made : NodeState) (by way : List Passed)
      (Stands : NodeState → Type 0) (b : Bool) → b ≡ false → IsFound t told made way Stands
      → IsFound t told (cond b other made) (cond b by way) Stands
  later_found t told other made by way Stands true e is = absurd cc
  later_found t told other made by way Stands false e is = is

  found_at : (trails : List Trail) (told : List Told) (Stands : Stand)
      (all : AllBy trails told Stands) → AreApart trails → (k : ℕ) (t : Trail)
      → slice_get trails k ≡ Some t
      → IsFound t told (made_at trails (named t.made))
      (ways_at trails told Stands all (named t.made)) (Stands k)
  unfolding ways_at
  found_at [] told Stands all far k t at = absurd cc
  found_at (u ∷ trails) told Stands all far zero t at =
      let same : u ≡ t = cc in
      subst (λ (x : Trail). IsFound x told (made_at (u ∷ trails) (named x.made))
      (ways_at (u ∷ trails) told Stands all (named x.made)) (Stands 0)) same
      (first_found u trails told Stands all (made_at trails (named u.made))
      (ways_at trails told (λ k. Stands (suc k)) (later_answers u trails told Stands all)
      (named u.made)) (same_node (named u.made) (named u.made)) refl)
  found_at (u ∷ trails) told Stands all far (suc k) t at =
      later_found t told (node_of u.made) (made_at trails (named t.made)) (all 0 u refl).answers.way
      (ways_at trails told (λ k. Stands (suc k)) (later_answers u trails told Stands all)
      (named t.made)) (Stands (suc k)) (same_node (named u.made) (named t.made))
      (apart (named u.made) (named t.made) (λ same.
      let one : 0 ≡ suc k = far 0 (suc k) u t refl at same in absurd (omega (arith, one))))
      (found_at trails told (λ k. Stands (suc k)) (later_answers u trails told Stands all)
      (tail_apart u trails far) k t at)

  ------ steps that are joined

  order_of : (merged : List Passed) (sent : List Message) → AreToldInOrder sent (told_in merged)
      → TakesInOrder sent merged
  order_of [] sent order = tt
  order_of (p ∷ merged) sent order =
      (order.0, order_of merged (sent ++ p.taken.messages) order.1)

  -- they are joined, and each step is such
  pub record FoundBy (arrived : List Message) (trails : List Trail) (told : List Told)
      (Stands : Stand) : Type 0 where
    pub found : AreFound arrived trails told Stands
    pub each : (k : ℕ) (t : Trail) → slice_get trails k ≡ Some t
        → AllAre Is [] (node_of t.made) (at_node (named t.made) found.merged)

  module _ (arrived : List Message) (trails : List Trail) (told : List Told) (Stands : Stand)
      (are : AreMerged arrived trails told) (all : AllBy trails told Stands) where
    abbrev IsName : NodeId → Type 0
    IsName name = (k : ℕ) × (t : Trail) × (slice_get trails k ≡ Some t) × (name ≡ named t.made)

    all_known : (xs : List Told) → ((j : ℕ) (x : Told) → slice_get xs j ≡ Some x → IsToldOf trails x)
        → AreKnown IsName xs
    all_known [] known = tt
    all_known (x ∷ xs) known = (known 0 x refl, all_known xs (λ j y at. known (suc j) y at))

    abbrev made : NodeId → NodeState
    made = made_at trails

    abbrev ways : NodeId → List Passed
    ways = ways_at trails told Stands all

    found : (k : ℕ) (t : Trail) → slice_get trails k ≡ Some t
        → IsFound t told (made (named t.made)) (ways (named t.made)) (Stands k)
    found = found_at trails told Stands all are.apart

    all_told : AllTold IsName told made ways
    all_told n known =
        subst (λ (m : NodeId). IsTold (made m) (told_at m told) (ways m)) (sym known.3)
        (found known.0 known.1 known.2).told_is

    together : IsMixed IsName told made ways
    together = mixed IsName told made ways (all_known told are.no_others) all_told

    pub found_by : FoundBy arrived trails told Stands
    found_by =
        let m = together in
        record {
          found = record {
            merged = m.merged;
            joined = record {
              apart = are.apart;
              each = λ k t at. record {
                goes = subst (λ (node : NodeState). GoesOn node (at_node (named t.made) m.merged))
                    (found k t at).made_is (m.goes (named t.made) (k, t, at, refl));
                steps_are = steps_at m.merged (named t.made)
                    ∙ ap (λ (xs : List Told). told_steps (told_at (named t.made) xs)) m.told_is
                    ∙ are.each k t at;
              };
              no_others = λ k p at.
                  are.no_others k (told_of p)
                  (sym (ap (λ (xs : List Told). slice_get xs k) m.told_is)
                  ∙ slice_get-map told_of m.merged k ∙ ap (option_map told_of) at);
              in_order = order_of m.merged arrived
                  (subst (AreToldInOrder arrived) (sym m.told_is) are.in_order);
            };
            told_is = m.told_is;
            stand = λ k t at.
                subst (λ (node : NodeState). Stands k (led_to node (at_node (named t.made) m.merged)))
                (found k t at).made_is
                (subst (Stands k) (sym (m.leads (named t.made) (k, t, at, refl)))
                (found k t at).stands);
          };
          each = λ k t at.
              subst (λ (node : NodeState). AllAre Is [] node (at_node (named t.made) m.merged))
              (found k t at).made_is (m.each (named t.made) (k, t, at, refl));
        }

------ where nothing is said of the steps

abbrev pub Any : StepIs
Any before behind step taken after = Unit {0}

pub any_way : (made : NodeState) (way : List Passed) → AllAre Any [] made way
any_way made [] = tt
any_way made (p ∷ way) = (tt, any_way p.after way)

abbrev pub any_answers : (trails : List Trail) (told : List Told)
    (Stands : ℕ → NodeState → Type 0) → AllAnswer trails told Stands
    → AllBy Any trails told Stands
any_answers trails told Stands all = λ k t at. record {
  answers = all k t at;
  each = any_way (node_of t.made) (all k t at).way;
}

pub are_found : (arrived : List Message) (trails : List Trail) (told : List Told)
    (Stands : ℕ → NodeState → Type 0) → AreMerged arrived trails told
    → AllAnswer trails told Stands → AreFound arrived trails told Stands
are_found arrived trails told Stands are all =
    (found_by Any arrived trails told Stands are (any_answers trails told Stands all)).found
