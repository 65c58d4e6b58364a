-- Over every schedule of a system, each batch with an offset of a group whose members are
-- processors rests on a link, and so the ranges that they read follow one another.
use Rattle.std.proofs.Common.{◌≡◌, ℕ, List, [], ◌∷◌, Contains, refl, subst}
use Rattle.std.proofs.lemmas.List.Elements.{All-head, All-nil, All-tail}
use Rattle.kx_message.specs.Ranges.{offsets_partition}
use Rattle.kx_message.specs.declared.message.Message.TheVariants as msg
use Rattle.kx_message.specs.declared.requests.TxnOffsetCommit.{TxnOffsetCommit}
use Rattle.kx_model.specs.Headline.{Always, HasOneOutcome}
use Rattle.kx_model.specs.World.{IsEvent, World, entries_at, log_at, run}
use Rattle.kx_headline.proofs.OverSchedules.{markers_agree}
use Rattle.kx_headline.proofs.RequestsAlways.{requests_stand_always}
use Rattle.kx_laws.specs.Grown.{IsGrown}
use Rattle.kx_laws.proofs.Membership.{no_element}
use Rattle.kx_system.specs.Events.{events_of}
use Rattle.kx_system.specs.Processor.{Images}
use Rattle.kx_system.specs.System.{IsSystemEvent, IsSystemSchedule, System, SystemEvent, run_system}
use Rattle.kx_system.specs.System.{start_system, system_step}
use Rattle.kx_pipeline.specs.Chain.{IsChained, read_from}
use Rattle.kx_pipeline.specs.Premises.{IsPipeline}
use Rattle.kx_pipeline.proofs.Chained.{linked_chained}
use Rattle.kx_pipeline.proofs.CommitsFit.{commits_fit_always}
use Rattle.kx_pipeline.proofs.LinkedCommits.{AreBased, linked}
use Rattle.kx_pipeline.proofs.LinkedLogs.{AreLinkedIn}
use Rattle.kx_pipeline.proofs.ProcessorTurns.{Facts}
use Rattle.kx_pipeline.proofs.ProcessorsFit.{ProcessingFits}
use Rattle.kx_pipeline.proofs.QuietTurns.{IsNumbered}
use Rattle.kx_pipeline.proofs.RepliesStand.{replies_stand_always}
use Rattle.kx_pipeline.proofs.SystemEvents.{Stands, stands_next}
use Rattle.kx_pipeline.proofs.SystemHolds.{Holds, event_holds}

------ the commits of a group

-- if its members are processors, each of its commits is one's
module _ (s : System) (group : List ℕ) (inputs : ℕ) (image : Images)
    (pipeline : IsPipeline s group inputs image) (h : Holds s) where
  pub numbered : (it : TxnOffsetCommit) → Contains s.world.sent (msg.TxnOffsetCommit it)
      → it.group ≡ group → IsNumbered s it.caller.client
  numbered it there g =
      let is = (pipeline.members it.caller.client (pipeline.alone it there g)).processor in
      (is.processing, is.there, is.number)

  pub are_based : AreBased s.world.sent (entries_at s.world offsets_partition) group
  are_based = record {
    based = λ it there g. h.based it there (numbered it there g);
    alone = λ it n a b g held. h.alone it n a b (numbered it a g) held;
  }

  pub group_linked : (q : ℕ) → AreLinkedIn (read_from s.world.sent group)
      (entries_at s.world offsets_partition) group q
  group_linked q =
      linked s.world h.facts.replies.partitions h.facts.requests h.facts.commits group are_based q

------ whole schedules

-- given that logs grow over every schedule of a world, and that a step of a system is a run of its
-- world
module _ (grow : Always (λ w. (q : ℕ) → IsGrown (log_at w q)))
    (follows : (s : System) (event : SystemEvent)
    → run (events_of s event) s.world ≡ (system_step s event).0.world) where
  abbrev pub IsLed : ℕ → System → Type 0
  IsLed count s = Stands follows count s

  pub facts_of : (count : ℕ) (s : System) → IsLed count s → Facts s.world
  facts_of count s led = subst Facts led.is (record {
    requests = requests_stand_always count led.events led.scheduled;
    commits = commits_fit_always count led.events led.scheduled;
    replies = replies_stand_always count led.events led.scheduled;
  })

  pub record Led (count : ℕ) (s : System) : Type 0 where
    pub led : IsLed count s
    pub holds : Holds s

  pub led_next : (count : ℕ) (s : System) (event : SystemEvent) → IsSystemEvent event → Led count s
      → Led count (system_step s event).0
  led_next count s event fits l =
      let next = stands_next follows count s event fits l.led in
      record {
        led = next;
        holds = event_holds s l.holds event fits (facts_of count (system_step s event).0 next);
      }

  pub led_run : (count : ℕ) (events : List SystemEvent) (s : System) → IsSystemSchedule events
      → Led count s → Led count (run_system events s)
  unfolding run_system
  led_run count [] s fits l = l
  led_run count (event ∷ events) s fits l =
      led_run count events (system_step s event).0 (All-tail IsSystemEvent event events fits)
      (led_next count s event (All-head IsSystemEvent event events fits) l)

  pub led_first : (count : ℕ) → Led count (start_system count)
  unfolding run
  led_first count =
      let led : IsLed count (start_system count) = record {
        events = [];
        scheduled = All-nil IsEvent;
        is = refl;
        processors = All-nil ProcessingFits;
      } in
      record {
        led = led;
        holds = record {
          facts = facts_of count (start_system count) led;
          known = λ p there. absurd (no_element p there);
          works = λ c p at there. absurd (no_element p there);
          based = λ it there. absurd (no_element (msg.TxnOffsetCommit it) there);
          alone = λ it n there. absurd (no_element (msg.TxnOffsetCommit it) there);
        };
      }

  -- each batch with an offset of the group and an input partition rests on a link
  pub system_linked : (count : ℕ) (events : List SystemEvent) → IsSystemSchedule events
      → (group : List ℕ) (inputs : ℕ) (image : Images)
      → IsPipeline (run_system events (start_system count)) group inputs image → (q : ℕ)
      → AreLinkedIn (read_from (run_system events (start_system count)).world.sent group)
      (entries_at (run_system events (start_system count)).world offsets_partition) group q
  system_linked count events fits group inputs image pipeline q =
      let s = run_system events (start_system count) in
      let l = led_run count events (start_system count) fits (led_first count) in
      group_linked s group inputs image pipeline l.holds q

  -- and so the ranges that they read follow one another
  pub system_chained : (count : ℕ) (events : List SystemEvent) → IsSystemSchedule events
      → (group : List ℕ) (inputs : ℕ) (image : Images)
      → IsPipeline (run_system events (start_system count)) group inputs image → (q : ℕ)
      → IsChained (run_system events (start_system count)).world group q
  system_chained count events fits group inputs image pipeline q =
      let s = run_system events (start_system count) in
      let l = led_run count events (start_system count) fits (led_first count) in
      let led = l.led in
      linked_chained s.world
      (subst HasOneOutcome led.is (markers_agree count led.events led.scheduled))
      (subst (λ (w : World). IsGrown (log_at w offsets_partition)) led.is
      (grow count led.events led.scheduled offsets_partition)) group q
      (group_linked s group inputs image pipeline l.holds q)
