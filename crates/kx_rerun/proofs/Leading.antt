-- The events lead to the system to which the audit's schedule led.
use Rattle.std.proofs.Common.{◌≡◌, ◌∙◌, ◌++◌, ◌<◌, List, [], ◌∷◌, All, map, refl, sym, ap}
use Rattle.std.proofs.Common.{subst, arith}
use Rattle.std.proofs.lemmas.List.{map-append}
use Rattle.std.proofs.lemmas.List.Elements.{All-append, All-cons, All-head, All-map, All-nil}
use Rattle.std.proofs.lemmas.List.Elements.{All-tail}
use Rattle.kx_audit.specs.Joined.{Passed}
use Rattle.kx_audit.specs.Making.{ClientMaking, NodeMaking, Trail, clients_of, in_order}
use Rattle.kx_audit.specs.Making.{making_event, makings}
use Rattle.kx_audit.specs.Replayed.{trails_of}
use Rattle.kx_audit.specs.Rerun.{AllAgain, behind_at}
use Rattle.kx_audit.specs.Run.{IsYes, Ran}
use Rattle.kx_audit.specs.Schedule.{AllOccur, made_system, start_with}
use Rattle.kx_audit.specs.Told.{Told, told_in}
use Rattle.kx_audit.specs.declared.turn.Turn.{Turn}
use Rattle.kx_audit.proofs.Beginning.{begun_sent}
use Rattle.kx_core.specs.declared.event.Event as happening
use Rattle.kx_machine.specs.Meaning.{NodeState}
use Rattle.kx_message.specs.Ranges.{data_partitions, offsets_partition}
use Rattle.kx_message.specs.declared.message.Message.{Message}
use Rattle.kx_nodes.specs.Again.{mode_for, store_for}
use Rattle.kx_nodes.specs.Replay.{Traced}
use Rattle.kx_nodes.specs.declared.receipt.Receipt.{Receipt}
use Rattle.kx_pipeline.specs.OpenSystems.{Inside, IsOpenSystemEvent, IsOpenSystemSchedule}
use Rattle.kx_pipeline.specs.OpenSystems.{OpenSystemEvent, open_system_step, run_open_system}
use Rattle.kx_rerun.specs.Events.{IsSure, LeadTo, meaning}
use Rattle.kx_rerun.specs.Making.{IsMaking, client_made}
use Rattle.kx_rerun.specs.Stepping.{AreSteps}
use Rattle.kx_rerun.proofs.Making.{all_making_sure, all_mean}
use Rattle.kx_rerun.proofs.Stepping.{meant, store_told, sure_told}
use Rattle.kx_system.specs.Processor.{Images}
use Rattle.kx_system.specs.System.{IsSystemEvent, IsSystemSchedule, System, SystemEvent}
use Rattle.kx_system.specs.System.{run_system, start_system, system_step}

------ the steps

-- they are such events of a schedule, which lead from a system to another
record Leads {F : Type 0} (image_of : F → Images) (es : List (happening.Event F))
    (s after : System) : Type 0 where
  sure : All IsSure es
  fit : IsOpenSystemSchedule (map (meaning image_of) es)
  run_is : run_open_system (map (meaning image_of) es) s ≡ after

module _ {B F : Type 0} (image_of : F → Images) (traces : List (Traced B)) where
  all_lead : (ps : List Passed) (events : List SystemEvent) (turns : List Turn)
      (es : List (happening.Event F)) (s : System) → AllOccur s ps events
      → AllAgain traces s turns ps events → IsSystemSchedule events
      → AreSteps traces s.world.sent turns (told_in ps) es
      → Leads image_of es s (run_system events s)
  unfolding run_open_system run_system
  all_lead [] [] [] [] s occur again fit steps = record {
    sure = All-nil IsSure;
    fit = All-nil IsOpenSystemEvent;
    run_is = refl;
  }
  all_lead [] [] [] (e ∷ es) s occur again fit steps = absurd steps
  all_lead [] [] (turn ∷ turns) es s occur again fit steps = absurd again
  all_lead [] (event ∷ events) turns es s occur again fit steps = absurd occur
  all_lead (p ∷ ps) [] turns es s occur again fit steps = absurd occur
  all_lead (p ∷ ps) (event ∷ events) [] es s occur again fit steps = absurd again
  all_lead (p ∷ ps) (event ∷ events) (turn ∷ turns) [] s occur again fit steps = absurd steps
  all_lead (p ∷ ps) (event ∷ events) (turn ∷ turns) (e ∷ es) s occur again fit steps =
      let behind = behind_at traces turn in
      let m = meant image_of s.world.sent p.node (mode_for p.step behind) (store_for p.step behind)
      (store_told p.step behind) (sure_told p.step behind) e p.step.input occur.0.store event
      occur.0.is (All-head IsSystemEvent event events fit) steps.0 in
      let rest = all_lead ps events turns es (system_step s event).0 occur.1 again.1
      (All-tail IsSystemEvent event events fit)
      (subst (λ (ms : List Message). AreSteps traces ms turns (told_in ps) es)
      (sym occur.0.sent) steps.1) in
      record {
        sure = All-cons IsSure e es m.sure rest.sure;
        fit = All-cons IsOpenSystemEvent (meaning image_of e) (map (meaning image_of) es)
            (subst IsOpenSystemEvent (sym m.means) m.fits) rest.fit;
        run_is = ap (λ (o : OpenSystemEvent).
            run_open_system (map (meaning image_of) es) (open_system_step s o).0) m.means
            ∙ ap (λ (t : System). run_open_system (map (meaning image_of) es) t)
            (again.0.leads m.event m.is)
            ∙ rest.run_is;
      }

------ all events

run_both : (before after : List OpenSystemEvent) (s : System)
    → run_open_system (before ++ after) s ≡ run_open_system after (run_open_system before s)
unfolding run_open_system
run_both [] after s = refl
run_both (event ∷ before) after s = run_both before after (open_system_step s event).0

run_inside : (events : List SystemEvent) (s : System)
    → run_open_system (map Inside events) s ≡ run_system events s
unfolding run_open_system run_system
run_inside [] s = refl
run_inside (event ∷ events) s = run_inside events (system_step s event).0

system_both : (before after : List SystemEvent) (s : System)
    → run_system (before ++ after) s ≡ run_system after (run_system before s)
unfolding run_system
system_both [] after s = refl
system_both (event ∷ before) after s = system_both before after (system_step s event).0

first_fit : (before after : List SystemEvent) → IsSystemSchedule (before ++ after)
    → IsSystemSchedule before
first_fit [] after fit = All-nil IsSystemEvent
first_fit (event ∷ before) after fit =
    All-cons IsSystemEvent event before (All-head IsSystemEvent event (before ++ after) fit)
    (first_fit before after (All-tail IsSystemEvent event (before ++ after) fit))

last_fit : (before after : List SystemEvent) → IsSystemSchedule (before ++ after)
    → IsSystemSchedule after
last_fit [] after fit = fit
last_fit (event ∷ before) after fit =
    last_fit before after (All-tail IsSystemEvent event (before ++ after) fit)

few_data : data_partitions < offsets_partition
few_data = omega arith

module _ {B M F : Type 0} (image_of : F → Images) (making : B → NodeMaking)
    (stands : NodeState → M → Type 0) (run : Ran B M) (given : List Receipt) (s : System)
    (yes : IsYes making stands run given s) (made steps : List (happening.Event F))
    (are : All IsMaking made)
    (ordered : map (client_made image_of) made ≡ in_order (clients_of (trails_of making run.traces)))
    (follow : AreSteps run.traces [] run.turns run.told steps) where
  abbrev trails : List Trail
  trails = trails_of making run.traces

  abbrev begun : System
  begun = made_system [] trails

  abbrev first : List OpenSystemEvent
  first = map (meaning image_of) made

  abbrev then : List OpenSystemEvent
  then = map (meaning image_of) steps

  made_is : first ≡ map Inside (makings trails)
  made_is =
      all_mean image_of made are
      ∙ ap (λ (cs : List ClientMaking). map Inside (map making_event cs)) ordered

  -- the clients are made
  made_run : run_open_system first (start_system data_partitions) ≡ begun
  made_run =
      ap (λ (l : List OpenSystemEvent). run_open_system l (start_system data_partitions)) made_is
      ∙ run_inside (makings trails) (start_system data_partitions)

  leads : Leads image_of steps begun (run_system yes.audited.events begun)
  leads =
      all_lead image_of run.traces yes.audited.merged yes.audited.events run.turns steps begun
      yes.audited.is.occur yes.again
      (last_fit (makings trails) yes.audited.events yes.audited.is.is_schedule)
      (subst (λ (ms : List Message). AreSteps run.traces ms run.turns
      (told_in yes.audited.merged) steps)
      (sym (begun_sent [] data_partitions few_data trails yes.apart))
      (subst (λ (xs : List Told). AreSteps run.traces [] run.turns xs steps)
      (sym yes.audited.told_is) follow))

  pub lead_to : LeadTo image_of (made ++ steps) s
  lead_to =
      let parts = map-append (meaning image_of) made steps in
      record {
        sure = All-append IsSure made steps (all_making_sure made are) leads.sure;
        is_schedule = subst IsOpenSystemSchedule (sym parts)
            (All-append IsOpenSystemEvent first then
            (subst IsOpenSystemSchedule (sym made_is)
            (All-map IsOpenSystemEvent Inside (makings trails)
            (first_fit (makings trails) yes.audited.events yes.audited.is.is_schedule)))
            leads.fit);
        is_run = yes.audited.is.is_run
            ∙ system_both (makings trails) yes.audited.events (start_with [] data_partitions)
            ∙ sym leads.run_is
            ∙ sym (ap (λ (l : List OpenSystemEvent).
            run_open_system l (start_system data_partitions)) parts
            ∙ run_both first then (start_system data_partitions)
            ∙ ap (λ (t : System). run_open_system then t) made_run);
      }
