-- The events that a system's step comes to are events of a world, and what stands of its
-- processors goes on to stand.
use Rattle.std.proofs.Common.{◌≡◌, ◌≤◌, ℕ, List, [], ◌∷◌, ◌++◌, All, Option, Some, None}
use Rattle.std.proofs.Common.{refl, ap, ◌∙◌, subst, ◌==◌, slice_get}
use Rattle.std.specs.Prelude.{IfSome}
use Rattle.std.proofs.lemmas.Bool.{cond_both}
use Rattle.std.proofs.lemmas.List.Elements.{All-append, All-cons, All-head, All-map, All-nil}
use Rattle.std.proofs.lemmas.List.Elements.{All-push, All-tail, All-weaker}
use Rattle.kx_varint.specs.Text.{IsBytes}
use Rattle.kx_message.specs.Ranges.{IsName}
use Rattle.kx_message.specs.declared.message.Message.{Message}
use Rattle.kx_message.specs.declared.message.NodeId.{NodeId}
use Rattle.kx_message.specs.declared.message.NodeId.TheVariants as node
use Rattle.kx_batch.specs.Record.{Record}
use Rattle.kx_model.specs.Client.{Client, Command, Commanded, Declines, Does, Poll}
use Rattle.kx_model.specs.Disk.{Works}
use Rattle.kx_model.specs.Step.{Input, Comes, Commands, Expires, Reminds, Drops, Puts, Restarts}
use Rattle.kx_model.specs.World.{Event, IsCommand, IsEvent, IsInput, IsSchedule, World, Make}
use Rattle.kx_model.specs.World.{Deliver, Hand, client_at, is_new, run, start}
use Rattle.kx_model.proofs.Schedules.{run-append}
use Rattle.kx_laws.proofs.Lists.{All-find, All-slice_get}
use Rattle.kx_system.specs.Events.{client_commands, commands_polled, commands_to, events_of}
use Rattle.kx_system.specs.Events.{or_poll, or_turn, schedule_of, turn_events}
use Rattle.kx_system.specs.Processor.{Images, Processing, Processor, is_waiting, new_processing}
use Rattle.kx_system.specs.Processor.{next_commands, processor_command, processor_step}
use Rattle.kx_system.specs.System.{Happens, IsSystemEvent, IsSystemSchedule, MakeProcessor, System}
use Rattle.kx_system.specs.System.{SystemEvent, Turn, happens, most_inputs, processing_at}
use Rattle.kx_system.specs.System.{start_system, system_step, turn_at, turn_delivered, turn_handed}
use Rattle.kx_system.specs.System.{turn_of, turn_with, with_processing}
use Rattle.kx_pipeline.proofs.PartitionReplies.{InRange}
use Rattle.kx_pipeline.proofs.ProcessorsFit.{ProcessingFits, commands_fit}
use Rattle.kx_pipeline.proofs.RepliesInRange.{replies_in_range}
use Rattle.kx_pipeline.proofs.StagesFit.{ComesFit, step_fits}

------ a processor's turn

-- the processor that takes it, and what it is handed
record TurnFits (turn : Turn) : Type 0 where
  processing : ProcessingFits turn.processor.processing
  input : ComesFit turn.input

-- the commands that a poll comes to, or the poll alone
polled_fit : (p : Processor) → ProcessingFits p.processing → All IsCommand (commands_polled p)
polled_fit p h =
    cond_both (is_waiting p.client) [] (next_commands p.client p.processing p.processing.stage)
    (All IsCommand) (λ e. All-nil IsCommand)
    (λ e. commands_fit p.processing h p.client p.processing.stage h.stage)

poll_alone : All IsCommand (Poll ∷ [])
poll_alone = All-cons IsCommand Poll [] tt (All-nil IsCommand)

or_poll_fit : (commands : List Command) → All IsCommand commands → All IsCommand (or_poll commands)
or_poll_fit [] h = poll_alone
or_poll_fit (what ∷ more) h = h

itself : (what : Command) → IsCommand what → All IsCommand (what ∷ [])
itself what h = All-cons IsCommand what [] h (All-nil IsCommand)

told_fit : (p : Processor) → ProcessingFits p.processing → (what : Command) → IsCommand what
    → (done : Commanded) → All IsCommand (client_commands p what done)
told_fit p h what fit (Declines fault) = poll_alone
told_fit p h Poll fit (Does client sent) = or_poll_fit (commands_polled p) (polled_fit p h)
told_fit p h what fit (Does client sent) = itself what fit

commands_are_events : (number : ℕ) (commands : List Command) → All IsCommand commands
    → All IsEvent (commands_to number commands)
commands_are_events number commands h =
    All-map IsEvent (λ what. Hand (node.Client number) (Commands what) Works) commands h

turn_is : (p : Processor) (event : Event) (input : Input) → ProcessingFits p.processing
    → ComesFit input → IsEvent event → All IsEvent (turn_events p event input)
turn_is p event (Commands what) h fit e =
    commands_are_events p.client.number (client_commands p what (processor_command p what))
    (told_fit p h what fit (processor_command p what))
turn_is p event input h fit e = All-cons IsEvent event [] e (All-nil IsEvent)

or_turn_is : (event : Event) (turn : Option Turn) → IfSome turn TurnFits → IsEvent event
    → All IsEvent (or_turn event turn)
or_turn_is event None h e = All-cons IsEvent event [] e (All-nil IsEvent)
or_turn_is event (Some turn) h e =
    turn_is turn.processor event turn.input h.processing h.input e

------ an event

module _ (s : System) (sent : All InRange s.world.sent)
    (processors : All ProcessingFits s.processors) where
  with_fits : (input : Input) → ComesFit input → (client : Option Client)
      (processing : Option Processing) → IfSome processing ProcessingFits
      → IfSome (turn_with input client processing) TurnFits
  with_fits input fit None processing h = tt
  with_fits input fit (Some client) None h = tt
  with_fits input fit (Some client) (Some processing) h = record { processing = h; input = fit }

  at_fits : (to : NodeId) (input : Input) → ComesFit input → IfSome (turn_at s to input) TurnFits
  at_fits node.Coordinator input fit = tt
  at_fits (node.Partition number) input fit = tt
  at_fits (node.Client number) input fit =
      with_fits input fit (client_at s.world number) (processing_at s number)
      (All-find ProcessingFits (λ p. p.number == number) s.processors processors)

  delivered_fits : (to : NodeId) (m : Option Message) → IfSome m InRange
      → IfSome (turn_delivered s to m) TurnFits
  delivered_fits to None fit = tt
  delivered_fits to (Some m) fit = at_fits to (Comes m) fit

  handed_fits : (to : NodeId) (input : Input) → IsInput input
      → IfSome (turn_handed s to input) TurnFits
  handed_fits to (Comes m) fit = tt
  handed_fits to (Commands what) fit = at_fits to (Commands what) fit
  handed_fits to (Expires now) fit = at_fits to (Expires now) tt
  handed_fits to Reminds fit = at_fits to Reminds tt
  handed_fits to (Drops group member) fit = at_fits to (Drops group member) tt
  handed_fits to (Puts value more) fit = at_fits to (Puts value more) tt
  handed_fits to (Restarts now) fit = at_fits to (Restarts now) tt

  turn_fits : (event : Event) → IsEvent event → IfSome (turn_of s event) TurnFits
  turn_fits (Make client txn timeout) e = tt
  turn_fits (Deliver which to store) e =
      delivered_fits to (slice_get s.world.sent which)
      (All-slice_get InRange s.world.sent which sent)
  turn_fits (Hand to input store) e = handed_fits to input e

  -- what it comes to
  pub events_are : (event : SystemEvent) → IsSystemEvent event → All IsEvent (events_of s event)
  events_are (MakeProcessor number txn timeout group inputs image) e =
      All-cons IsEvent (Make number txn timeout) [] e.0 (All-nil IsEvent)
  events_are (Happens event) e = or_turn_is event (turn_of s event) (turn_fits event e) e

  ------ the system after it

  changed_fits : (p : Processing) → ProcessingFits p
      → All ProcessingFits (with_processing s.processors p)
  changed_fits p h =
      All-map ProcessingFits _ s.processors
      (All-weaker ProcessingFits _
      (λ q old. cond_both (q.number == p.number) p q ProcessingFits (λ e. h) (λ e. old))
      s.processors processors)

  happens_fits : (event : Event) (turn : Option Turn) → IfSome turn TurnFits
      → All ProcessingFits (happens s event turn).0.processors
  happens_fits event None h = processors
  happens_fits event (Some turn) h =
      changed_fits (processor_step turn.processor turn.input).state.processing
      (step_fits turn.processor turn.input h.processing h.input)

  made_fits : (number : ℕ) (group : List ℕ) (inputs : ℕ) (image : Images) → IsName group
      → inputs ≤ most_inputs → ((r : Record) → IsBytes (image r))
      → ProcessingFits (new_processing number group inputs image)
  made_fits number group inputs image name few bytes =
      record { group = name; few = few; image = bytes; stage = tt }

  pub processors_fit : (event : SystemEvent) → IsSystemEvent event
      → All ProcessingFits (system_step s event).0.processors
  unfolding system_step
  processors_fit (MakeProcessor number txn timeout group inputs image) e =
      let p = new_processing number group inputs image in
      cond_both (is_new number s.world.clients) (s.processors ++ p ∷ []) s.processors
      (All ProcessingFits)
      (λ b. All-push ProcessingFits s.processors p processors
      (made_fits number group inputs image e.1 e.3 e.4)) (λ b. processors)
  processors_fit (Happens event) e = happens_fits event (turn_of s event) (turn_fits event e)

------ whole schedules

-- given that a step of a system is a run of its world
module _ (follows : (s : System) (event : SystemEvent)
    → run (events_of s event) s.world ≡ (system_step s event).0.world) where
  -- a schedule of a world led to the system's
  pub record Stands (count : ℕ) (s : System) : Type 0 where
    pub events : List Event
    pub scheduled : IsSchedule events
    pub is : run events (start count) ≡ s.world
    pub processors : All ProcessingFits s.processors

  sent_fit : (count : ℕ) (s : System) → Stands count s → All InRange s.world.sent
  sent_fit count s h =
      subst (λ (w : World). All InRange w.sent) h.is
      (replies_in_range count h.events h.scheduled)

  pub stands_next : (count : ℕ) (s : System) (event : SystemEvent) → IsSystemEvent event
      → Stands count s → Stands count (system_step s event).0
  stands_next count s event e h =
      let sent = sent_fit count s h in
      let more = events_of s event in
      record {
        events = h.events ++ more;
        scheduled = All-append IsEvent h.events more h.scheduled
            (events_are s sent h.processors event e);
        is =
            run-append h.events more (start count) ∙ ap (λ (w : World). run more w) h.is
            ∙ follows s event;
        processors = processors_fit s sent h.processors event e;
      }

  schedule_fits : (count : ℕ) (events : List SystemEvent) (s : System)
      → IsSystemSchedule events → Stands count s → IsSchedule (schedule_of events s)
  unfolding schedule_of
  schedule_fits count [] s fits h = All-nil IsEvent
  schedule_fits count (event ∷ events) s fits h =
      let e = All-head IsSystemEvent event events fits in
      let next = (system_step s event).0 in
      All-append IsEvent (events_of s event) (schedule_of events next)
      (events_are s (sent_fit count s h) h.processors event e)
      (schedule_fits count events next (All-tail IsSystemEvent event events fits)
      (stands_next count s event e h))

  pub schedules_fit : (count : ℕ) (events : List SystemEvent) → IsSystemSchedule events
      → IsSchedule (schedule_of events (start_system count))
  unfolding run
  schedules_fit count events fits =
      schedule_fits count events (start_system count) fits (record {
        events = [];
        scheduled = All-nil IsEvent;
        is = refl;
        processors = All-nil ProcessingFits;
      })
