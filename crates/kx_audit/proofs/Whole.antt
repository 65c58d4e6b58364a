-- Joined traces are a schedule of the whole system.
use Rattle.std.proofs.Common.{◌≡◌, ◌<◌, ◌++◌, ℕ, suc, Bool, true, false, List, [], ◌∷◌}
use Rattle.std.proofs.Common.{map, Some, inl, inr, refl, sym, ap, ◌∙◌, subst, arith}
use Rattle.std.specs.Prelude.{slice_get, All}
use Rattle.std.proofs.lemmas.List.Elements.{All-append, All-cons, All-head, All-nil, All-tail}
use Rattle.kx_audit.specs.Joined.{AreJoined, GoesOn, IsOfTrail, Passed, TakesInOrder, at_node}
use Rattle.kx_audit.specs.Joined.{handed_out, steps_in}
use Rattle.kx_audit.specs.Making.{ClientMaking, NodeMaking, OfClient, OfCoordinator, OfPartition}
use Rattle.kx_audit.specs.Making.{Trail, clients_of, in_order, making_event, makings, named}
use Rattle.kx_audit.specs.Making.{node_of}
use Rattle.kx_audit.specs.Nodes.{node_in, same_node}
use Rattle.kx_audit.specs.Schedule.{AllFit, IsNodeMaking, IsStep, IsUntraced, IsWhole, made_system}
use Rattle.kx_audit.specs.Schedule.{start_with}
use Rattle.kx_message.specs.Ranges.{data_partitions, offsets_partition}
use Rattle.kx_message.specs.declared.message.Message.{Message}
use Rattle.kx_message.specs.declared.message.NodeId.{NodeId}
use Rattle.kx_system.specs.System.{IsSystemEvent, System, SystemEvent, run_system}
use Rattle.kx_system.specs.System.{system_step}
use Rattle.kx_audit.proofs.Beginning.{IsThere, begins, begun_others, begun_sent}
use Rattle.kx_audit.proofs.Merging.{AreKnown, Merges, Stands, at_other, at_own, led_in}
use Rattle.kx_audit.proofs.Merging.{led_nowhere, merges}
use Rattle.kx_audit.proofs.Names.{apart, same_self}
use Rattle.kx_audit.proofs.Ordering.{IsIn, order_only, trail_of}
use Rattle.kx_audit.proofs.Ways.{way_replays}

run_both : (before after : List SystemEvent) (s : System)
    → run_system (before ++ after) s ≡ run_system after (run_system before s)
unfolding run_system
run_both [] after s = refl
run_both (event ∷ before) after s = run_both before after (system_step s event).0

few_data : data_partitions < offsets_partition
few_data = omega arith

-- in range if each one is
makings_fit : (cs : List ClientMaking)
    → ((c : ClientMaking) → IsIn c cs → IsSystemEvent (making_event c))
    → All IsSystemEvent (map making_event cs)
makings_fit [] each = All-nil IsSystemEvent
makings_fit (c ∷ cs) each =
    All-cons IsSystemEvent (making_event c) (map making_event cs) (each c (inl refl))
    (makings_fit cs (λ d is. each d (inr is)))

module _ (arrived : List Message) (trails : List Trail) (merged : List Passed)
    (fit : AllFit trails) (joined : AreJoined arrived trails merged) where
  client_fits : (c : ClientMaking) → IsIn c (in_order (clients_of trails))
      → IsSystemEvent (making_event c)
  client_fits c is =
      let t = trail_of trails c (order_only (clients_of trails) c is) in
      subst IsNodeMaking t.made (fit t.place t.trail t.at).made

  there_by : (m : NodeMaking) → IsNodeMaking m → IsThere arrived data_partitions few_data m
  there_by OfCoordinator h = tt
  there_by (OfPartition n) h = h
  there_by (OfClient c) h = tt

  ------ names of traces

  abbrev IsKnown : NodeId → Type 0
  IsKnown name = (k : ℕ) × (t : Trail) × (slice_get trails k ≡ Some t) × (name ≡ named t.made)

  stands : (name : NodeId) → IsKnown name → Stands IsKnown (made_system arrived trails) merged name
  stands name known =
      let way = joined.each known.0 known.1 known.2 in
      let there = begins arrived data_partitions few_data trails joined.apart known.0 known.1 known.2
      (there_by known.1.made (fit known.0 known.1 known.2).made) in
      record {
        before = node_of known.1.made;
        there = subst (λ (n : NodeId). node_in (made_system arrived trails) n
            ≡ Some (node_of known.1.made)) (sym known.3) there;
        goes_on = subst (λ (n : NodeId). GoesOn (node_of known.1.made) (at_node n merged))
            (sym known.3) way.goes;
      }

  ------ each step is in range

  abbrev AreSteps : List Passed → Type 0
  AreSteps ps = (name : NodeId) → IsKnown name → All IsStep (steps_in (at_node name ps))

  steps_fit : AreSteps merged
  steps_fit name known =
      let way = joined.each known.0 known.1 known.2 in
      subst (λ (n : NodeId). All IsStep (steps_in (at_node n merged))) (sym known.3)
      (subst (All IsStep) (sym way.steps_are) (fit known.0 known.1 known.2).steps)

  fewer : (p : Passed) (ps : List Passed) (name : NodeId) (b : Bool) → same_node p.node name ≡ b
      → All IsStep (steps_in (at_node name (p ∷ ps))) → All IsStep (steps_in (at_node name ps))
  fewer p ps name true e all =
      All-tail IsStep p.step (steps_in (at_node name ps))
      (subst (λ (qs : List Passed). All IsStep (steps_in qs)) (at_own p ps name e) all)
  fewer p ps name false e all =
      subst (λ (qs : List Passed). All IsStep (steps_in qs)) (at_other p ps name e) all

  all_known : (ps : List Passed)
      → ((k : ℕ) (p : Passed) → slice_get ps k ≡ Some p → IsOfTrail trails p) → AreSteps ps
      → AreKnown IsKnown ps
  all_known [] known steps = tt
  all_known (p ∷ ps) known steps =
      let own = known 0 p refl in (
        (
          own,
          All-head IsStep p.step (steps_in (at_node p.node ps))
              (subst (λ (qs : List Passed). All IsStep (steps_in qs))
              (at_own p ps p.node (same_self p.node)) (steps p.node own)),
        ),
        all_known ps (λ k q at. known (suc k) q at)
            (λ name know. fewer p ps name (same_node p.node name) refl (steps name know)),
      )

  ------ nodes of no trace

  none_by : (name : NodeId) → IsUntraced trails name → (ps : List Passed)
      → ((k : ℕ) (p : Passed) → slice_get ps k ≡ Some p → IsOfTrail trails p)
      → at_node name ps ≡ []
  none_by name none [] known = refl
  none_by name none (p ∷ ps) known =
      let own = known 0 p refl in
      at_other p ps name (apart p.node name (λ h. none own.0 own.1 own.2 (sym h ∙ own.3)))
      ∙ none_by name none ps (λ k q at. known (suc k) q at)

  none_at : (name : NodeId) → IsUntraced trails name → at_node name merged ≡ []
  none_at name none = none_by name none merged joined.no_others

  ------ all of it

  merged_events : Merges IsKnown (made_system arrived trails) merged
  merged_events =
      merges IsKnown merged (made_system arrived trails) (all_known merged joined.no_others steps_fit)
      (subst (λ (ms : List Message). TakesInOrder ms merged)
      (sym (begun_sent arrived data_partitions few_data trails joined.apart)) joined.in_order)
      stands

  pub is_whole : IsWhole arrived trails merged
  is_whole =
      let m = merged_events in
      let begin = start_with arrived data_partitions in
      let both = run_both (makings trails) m.events begin in
      record {
        events = m.events;
        system = run_system (makings trails ++ m.events) begin;
        is = record {
          is_schedule = All-append IsSystemEvent (makings trails) m.events
              (makings_fit (in_order (clients_of trails)) client_fits) m.fit;
          is_run = refl;
          occur = m.occur;
          stand = λ k t at. record {
            steps_are = (joined.each k t at).steps_are;
            node_is = ap (λ (s : System). node_in s (named t.made)) both
                ∙ m.stand (named t.made)
                ∙ ap (λ o. led_in o (at_node (named t.made) merged))
                (begins arrived data_partitions few_data trails joined.apart k t at
                (there_by t.made (fit k t at).made));
            replays = way_replays t (at_node (named t.made) merged) (joined.each k t at);
          };
          rest = λ name none.
              ap (λ (s : System). node_in s name) both ∙ m.stand name
              ∙ ap (led_in (node_in (made_system arrived trails) name)) (none_at name none)
              ∙ sym (led_nowhere (node_in (made_system arrived trails) name))
              ∙ begun_others arrived data_partitions few_data trails joined.apart name none;
          sent = ap (λ (s : System). s.world.sent) both ∙ m.sent
              ∙ ap (λ (ms : List Message). ms ++ handed_out merged)
              (begun_sent arrived data_partitions few_data trails joined.apart);
        };
      }
