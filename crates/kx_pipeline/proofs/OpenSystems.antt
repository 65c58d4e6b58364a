-- What a system does in which requests arrive from outside is what a world does in which they arrive;
-- and where none arrives, it is a schedule of the system.
use Rattle.std.proofs.Common.{◌≡◌, ℕ, List, [], ◌∷◌, ◌++◌, All, map, refl, ap, ◌∙◌, subst}
use Rattle.std.proofs.lemmas.List.Elements.{All-append, All-cons, All-head, All-nil, All-tail}
use Rattle.kx_model.specs.Open as world
use Rattle.kx_model.specs.Open.{AlwaysOpen, IsOpenEvent, IsOpenSchedule, OpenEvent, open_run}
use Rattle.kx_model.specs.Open.{open_step}
use Rattle.kx_model.specs.World.{Event, IsSchedule, World, run, start}
use Rattle.kx_system.specs.Events.{events_of}
use Rattle.kx_system.specs.System.{System, SystemEvent, start_system, system_step}
use Rattle.kx_pipeline.specs.OpenSystems.{Arrives, Inside, IsLedTo, IsOpenSystemEvent}
use Rattle.kx_pipeline.specs.OpenSystems.{IsOpenSystemSchedule}
use Rattle.kx_pipeline.specs.OpenSystems.{OpenSystemEvent, open_system_step, run_open_system}
use Rattle.kx_pipeline.proofs.PartitionReplies.{InRange}
use Rattle.kx_pipeline.proofs.ProcessorsFit.{ProcessingFits}
use Rattle.kx_pipeline.proofs.RepliesInRange.{replies_in_range_open}
use Rattle.kx_pipeline.proofs.SystemEvents.{events_are, processors_fit}

-- given that a step of a system is a run of its world
module _ (follows : (s : System) (event : SystemEvent)
    → run (events_of s event) s.world ≡ (system_step s event).0.world)
    (alike : (events : List Event) (w : World) → open_run (map world.Inside events) w ≡ run events w)
    (open_too : (events : List Event) → IsSchedule events
    → IsOpenSchedule (map world.Inside events))
    (goes_on : (before after : List OpenEvent) (w : World)
    → open_run (before ++ after) w ≡ open_run after (open_run before w)) where
  -- an open schedule of a world led to the system's
  record Stands (count : ℕ) (s : System) : Type 0 where
    events : List OpenEvent
    scheduled : IsOpenSchedule events
    is : open_run events (start count) ≡ s.world
    processors : All ProcessingFits s.processors

  sent_fit : (count : ℕ) (s : System) → Stands count s → All InRange s.world.sent
  sent_fit count s h =
      subst (λ (w : World). All InRange w.sent) h.is
      (replies_in_range_open count h.events h.scheduled)

  stands_next : (count : ℕ) (s : System) (event : OpenSystemEvent) → IsOpenSystemEvent event
      → Stands count s → Stands count (open_system_step s event).0
  unfolding open_run open_step
  stands_next count s (Inside event) fits h =
      let sent = sent_fit count s h in
      let more = map world.Inside (events_of s event) in record {
        events = h.events ++ more;
        scheduled = All-append IsOpenEvent h.events more h.scheduled
            (open_too (events_of s event) (events_are s sent h.processors event fits));
        is = goes_on h.events more (start count) ∙ ap (λ (w : World). open_run more w) h.is
            ∙ alike (events_of s event) s.world ∙ follows s event;
        processors = processors_fit s sent h.processors event fits;
      }
  stands_next count s (Arrives request) fits h =
      let one = world.Arrives request ∷ [] in record {
        events = h.events ++ one;
        scheduled = All-append IsOpenEvent h.events one h.scheduled
            (All-cons IsOpenEvent (world.Arrives request) [] fits (All-nil IsOpenEvent));
        is = goes_on h.events one (start count) ∙ ap (λ (w : World). open_run one w) h.is;
        processors = h.processors;
      }

  stands_all : (count : ℕ) (events : List OpenSystemEvent) (s : System)
      → IsOpenSystemSchedule events → Stands count s → Stands count (run_open_system events s)
  unfolding run_open_system
  stands_all count [] s fits h = h
  stands_all count (event ∷ events) s fits h =
      stands_all count events (open_system_step s event).0
      (All-tail IsOpenSystemEvent event events fits)
      (stands_next count s event (All-head IsOpenSystemEvent event events fits) h)

  stands_first : (count : ℕ) → Stands count (start_system count)
  unfolding open_run
  stands_first count = record {
    events = [];
    scheduled = All-nil IsOpenEvent;
    is = refl;
    processors = All-nil ProcessingFits;
  }

  -- so an open schedule of the world leads to the system's
  pub led_to : (count : ℕ) (events : List OpenSystemEvent) → IsOpenSystemSchedule events
      → IsLedTo count (run_open_system events (start_system count)).world
  led_to count events fits =
      let h = stands_all count events (start_system count) fits (stands_first count) in record {
        events = h.events;
        scheduled = h.scheduled;
        leads = h.is;
      }

  -- and what always holds of worlds in which requests arrive holds of the system's
  pub holds_of_systems : (Fact : World → Type 0) → AlwaysOpen Fact → (count : ℕ)
      (events : List OpenSystemEvent) → IsOpenSystemSchedule events
      → Fact (run_open_system events (start_system count)).world
  holds_of_systems Fact always count events fits =
      let h = led_to count events fits in
      subst Fact h.leads (always count h.events h.scheduled)
