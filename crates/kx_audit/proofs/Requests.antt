-- The requests that traces take in arrive from outside in an open schedule, before all else happens.
use Rattle.std.proofs.Common.{◌≡◌, ◌++◌, ℕ, List, [], ◌∷◌, All, map, refl, sym, ap, ◌∙◌}
use Rattle.std.proofs.Common.{append-nil, subst}
use Rattle.std.specs.List.{flat_map}
use Rattle.std.proofs.lemmas.Grind.{flat_map-append}
use Rattle.std.proofs.lemmas.List.{append_assoc}
use Rattle.std.proofs.lemmas.List.Elements.{All-append, All-map}
use Rattle.kx_audit.specs.Arrivals.{requests_in, requests_of}
use Rattle.kx_audit.specs.Joined.{Passed}
use Rattle.kx_audit.specs.Making.{NodeMaking, Trail, makings}
use Rattle.kx_audit.specs.Replayed.{Progress, traces_of, trails_of}
use Rattle.kx_audit.specs.Run.{IsOpenSchedule, open_events}
use Rattle.kx_audit.specs.Schedule.{IsScheduleOf, IsWhole, start_with}
use Rattle.kx_message.specs.Ranges.{data_partitions}
use Rattle.kx_message.specs.declared.message.Message.{Message}
use Rattle.kx_model.specs.OpenHeadline.{KeepsOpenPromises}
use Rattle.kx_outside.specs.Requests.{IsRequest}
use Rattle.kx_pipeline.specs.OpenSystems.{Arrives, Inside, IsOpenSystemEvent, IsOpenSystemSchedule}
use Rattle.kx_pipeline.specs.OpenSystems.{OpenSystemEvent, open_system_step, run_open_system}
use Rattle.kx_pipeline.specs.OpenSystems.{with_request}
use Rattle.kx_system.specs.System.{IsSystemSchedule, System, SystemEvent, run_system, start_system}
use Rattle.kx_system.specs.System.{system_step}

------ traces that were run again

-- all that they take in
abbrev pub requests_at : {B M : Type 0} → List (Progress B M) → List Message
requests_at nodes = flat_map (λ p. requests_in p.trace.steps) nodes

pub requests_are : {B M : Type 0} (making : B → NodeMaking) (nodes : List (Progress B M))
    → requests_at nodes ≡ requests_of (trails_of making (traces_of nodes))
requests_are making [] = refl
requests_are making (p ∷ nodes) =
    ap (λ (ms : List Message). requests_in p.trace.steps ++ ms) (requests_are making nodes)

pub requests_push : {B M : Type 0} (nodes : List (Progress B M)) (p : Progress B M)
    → requests_at (nodes ++ p ∷ []) ≡ requests_at nodes ++ requests_in p.trace.steps
requests_push nodes p =
    flat_map-append (λ q. requests_in q.trace.steps) nodes (p ∷ [])
    ∙ ap (λ (ms : List Message). requests_at nodes ++ ms) (append-nil (requests_in p.trace.steps))

------ an open schedule

run_both : (before after : List OpenSystemEvent) (s : System)
    → run_open_system (before ++ after) s ≡ run_open_system after (run_open_system before s)
unfolding run_open_system
run_both [] after s = refl
run_both (event ∷ before) after s = run_both before after (open_system_step s event).0

-- more messages were sent, and nothing else changed
abbrev with_sent : System → List Message → System
with_sent s messages = record s { world = record s.world { sent = messages } }

all_arrive : (arrived : List Message) (s : System)
    → run_open_system (map Arrives arrived) s ≡ with_sent s (s.world.sent ++ arrived)
unfolding run_open_system
all_arrive [] s = ap (with_sent s) (sym (append-nil s.world.sent))
all_arrive (m ∷ arrived) s =
    all_arrive arrived (with_request s m)
    ∙ ap (with_sent s) (append_assoc s.world.sent (m ∷ []) arrived)

all_inside : (events : List SystemEvent) (s : System)
    → run_open_system (map Inside events) s ≡ run_system events s
unfolding run_open_system run_system
all_inside [] s = refl
all_inside (event ∷ events) s = all_inside events (system_step s event).0

pub opens : (arrived : List Message) (trails : List Trail) (events : List SystemEvent) (count : ℕ)
    → run_open_system (open_events arrived trails events) (start_system count)
    ≡ run_system (makings trails ++ events) (start_with arrived count)
opens arrived trails events count =
    let all = makings trails ++ events in
    run_both (map Arrives arrived) (map Inside all) (start_system count)
    ∙ ap (λ (s : System). run_open_system (map Inside all) s)
    (all_arrive arrived (start_system count))
    ∙ all_inside all (start_with arrived count)

pub open_fits : (arrived : List Message) (trails : List Trail) (events : List SystemEvent)
    → All IsRequest arrived → IsSystemSchedule (makings trails ++ events)
    → IsOpenSystemSchedule (open_events arrived trails events)
open_fits arrived trails events requests fits =
    All-append IsOpenSystemEvent (map Arrives arrived) (map Inside (makings trails ++ events))
    (All-map IsOpenSystemEvent Arrives arrived requests)
    (All-map IsOpenSystemEvent Inside (makings trails ++ events) fits)

-- all systems keep the open promises
module _ (keeps : (partitions : ℕ) (events : List OpenSystemEvent) → IsOpenSystemSchedule events
    → KeepsOpenPromises (run_open_system events (start_system partitions)).world) where
  abbrev pub open_schedule : (arrived : List Message) (trails : List Trail) (merged : List Passed)
      (events : List SystemEvent) (s : System) → All IsRequest arrived
      → IsScheduleOf arrived trails merged events s → IsOpenSchedule arrived trails merged s
  open_schedule arrived trails merged events s fit whole =
      let all = open_events arrived trails events in
      let scheduled = open_fits arrived trails events fit whole.is_schedule in
      let is : s ≡ run_open_system all (start_system data_partitions) =
      whole.is_run ∙ sym (opens arrived trails events data_partitions) in
      record {
        events = events;
        is = whole;
        scheduled = scheduled;
        is_run = is;
        promises = subst (λ (t : System). KeepsOpenPromises t.world) (sym is)
            (keeps data_partitions all scheduled);
      }

  pub joined_open : (arrived : List Message) (trails : List Trail) (merged : List Passed)
      → All IsRequest arrived → IsWhole arrived trails merged
      → (s : System) × IsOpenSchedule arrived trails merged s
  joined_open arrived trails merged fit whole =
      (whole.system, open_schedule arrived trails merged whole.events whole.system fit whole.is)
