-- A step of a system is a run of its world, and so is a schedule.
use Rattle.std.proofs.Common.{◌≡◌, ℕ, Bool, true, false, cond, List, [], ◌∷◌, Option, Some}
use Rattle.std.proofs.Common.{None, refl, sym, ap, ◌∙◌, subst}
use Rattle.std.specs.Prelude.{slice_get, is_none, not, ◌&&◌}
use Rattle.kx_message.specs.declared.message.Message.{Message}
use Rattle.kx_message.specs.declared.message.NodeId.{NodeId}
use Rattle.kx_message.specs.declared.message.NodeId.TheVariants as node
use Rattle.kx_model.specs.Client.{Client, Command, Commanded, Declines, Does, Fault, NotReady}
use Rattle.kx_model.specs.Client.{Failed, NotTransactional, TooLarge, Init, Begin, Send}
use Rattle.kx_model.specs.Client.{JoinGroup, LeaveGroup, SendOffsets, End, Resend, Poll, FetchPage}
use Rattle.kx_model.specs.Client.{FetchOffset, command, unless}
use Rattle.kx_model.specs.Disk.{Store}
use Rattle.kx_model.specs.Step.{Input, Comes, Commands, Expires, Reminds, Drops, Puts, Restarts}
use Rattle.kx_model.specs.World.{Event, World, Make, Deliver, Hand, at_client, client_at, delivered}
use Rattle.kx_model.specs.World.{handed, run, step, with_client}
use Rattle.kx_model.proofs.Schedules.{run-append}
use Rattle.kx_system.specs.Events.{client_commands, commands_to, events_of, no_change, or_poll}
use Rattle.kx_system.specs.Events.{or_turn, schedule_of}
use Rattle.kx_system.specs.Processor.{Processing, Processor, Stage, as_client, foreign, is_waiting}
use Rattle.kx_system.specs.Processor.{has_failed, is_overflown, needs_transactions, next_commands}
use Rattle.kx_system.specs.Processor.{obeys, processor_command, processor_step, stage_commanded}
use Rattle.kx_system.specs.Processor.{takes, told_all}
use Rattle.kx_system.specs.System.{System, SystemEvent, Turn, MakeProcessor, Happens, happens}
use Rattle.kx_system.specs.System.{processing_at, run_system, system_step, turn_at, turn_delivered}
use Rattle.kx_system.specs.System.{turn_handed, turn_of, turn_with}
use Rattle.kx_system.proofs.ChangedClients.{found_number}
use Rattle.kx_system.proofs.ToldCommands.{all_told, answered, nothing_changed}

-- what was done was not refused
not_refused : (checks : List (Bool × Fault)) (done : Commanded) (after : Client)
    (sent : List Message) → unless checks done ≡ Does after sent → done ≡ Does after sent
not_refused [] done after sent is = is
not_refused (check ∷ checks) done after sent is =
    passed check.0 (not_refused checks done after sent) is
  where
    passed : (b : Bool) → (unless checks done ≡ Does after sent → done ≡ Does after sent)
        → cond b (Declines check.1) (unless checks done) ≡ Does after sent
        → done ≡ Does after sent
    passed true rest h = absurd cc
    passed false rest h = rest h

------ a processor is told a command

module _ (w : World) (p : Processor) (there : client_at w p.client.number ≡ Some p.client) where
  abbrev number : ℕ
  number = p.client.number

  -- what was done with the command, the client does with those that it comes to
  abbrev Told : Command → Stage → Commanded → Type 0
  Told what stage done =
      run (commands_to number (client_commands p what done)) w
      ≡ with_client w (obeys p stage done).state.client (obeys p stage done).messages

  -- nothing is asked for
  still : (after : Client) (sent : List Message) → Does p.client [] ≡ Does after sent
      → run (no_change number) w ≡ with_client w after sent
  still after sent is =
      nothing_changed w number p.client there ∙ ap (answered w p.client) is

  -- a poll
  polls : (b : Bool) (row : List Command) (after : Client) (sent : List Message)
      → cond b (Does p.client []) (told_all p.client row) ≡ Does after sent
      → run (commands_to number (or_poll (cond b [] row))) w ≡ with_client w after sent
  polls true row after sent is = still after sent is
  polls false [] after sent is = still after sent is
  polls false (what ∷ more) after sent is =
      all_told w number p.client what more after sent there is

  -- a client's own command
  clients_own : (what : Command) (after : Client) (sent : List Message)
      → as_client p what ≡ Does after sent
      → run (commands_to number (what ∷ [])) w ≡ with_client w after sent
  clients_own what after sent is =
      all_told w number p.client what [] after sent there
      (not_refused ((has_failed p, Failed) ∷ []) (command p.client what) after sent is)

  -- no other command is done
  none_foreign : (what : Command) (after : Client) (sent : List Message)
      → foreign p what ≡ Does after sent → ⊥
  none_foreign what after sent is =
      let refused : Declines NotReady ≡ Does after sent =
      not_refused (
      (has_failed p, Failed)
      ∷ (needs_transactions what && is_none p.client.txn, NotTransactional) ∷ [])
      (Declines NotReady) after sent is in cc

  does_so : (what : Command) (stage : Stage) (after : Client) (sent : List Message)
      → processor_command p what ≡ Does after sent → Told what stage (Does after sent)
  does_so Poll stage after sent is =
      polls (is_waiting p.client) (next_commands p.client p.processing p.processing.stage) after
      sent
      (not_refused (
      (has_failed p, Failed)
      ∷ (not (is_waiting p.client) && is_none p.client.held, NotReady)
      ∷ (not (is_waiting p.client) && is_overflown p.processing.stage, TooLarge) ∷ [])
      (cond (is_waiting p.client) (Does p.client [])
      (told_all p.client (next_commands p.client p.processing p.processing.stage))) after sent is)
  does_so Init stage after sent is = clients_own Init after sent is
  does_so Resend stage after sent is = clients_own Resend after sent is
  does_so Begin stage after sent is = absurd (none_foreign Begin after sent is)
  does_so (Send partition value more) stage after sent is =
      absurd (none_foreign (Send partition value more) after sent is)
  does_so (JoinGroup group) stage after sent is =
      absurd (none_foreign (JoinGroup group) after sent is)
  does_so LeaveGroup stage after sent is = absurd (none_foreign LeaveGroup after sent is)
  does_so (SendOffsets offset more) stage after sent is =
      absurd (none_foreign (SendOffsets offset more) after sent is)
  does_so (End outcome) stage after sent is = absurd (none_foreign (End outcome) after sent is)
  does_so (FetchPage partition from) stage after sent is =
      absurd (none_foreign (FetchPage partition from) after sent is)
  does_so (FetchOffset group partition) stage after sent is =
      absurd (none_foreign (FetchOffset group partition) after sent is)

  told_so : (what : Command) (stage : Stage) (done : Commanded)
      → processor_command p what ≡ done → Told what stage done
  told_so what stage (Declines fault) is = nothing_changed w number p.client there
  told_so what stage (Does after sent) is = does_so what stage after sent is

------ an event

module _ (s : System) where
  -- the world of the system goes through the events of the turn
  abbrev Follows : Event → Option Turn → Type 0
  Follows event turn = run (or_turn event turn) s.world ≡ (happens s event turn).0.world

  -- of no processor
  no_turn : (event : Event) → Follows event None
  unfolding run
  no_turn event = refl

  -- of a processor
  taken : (event : Event) (input : Input) (n : ℕ) (c : Client) (p : Processing)
      → client_at s.world n ≡ Some c
      → (step s.world event).0 ≡ (at_client s.world input (Some c)).0
      → Follows event (turn_with input (Some c) (Some p))
  unfolding run processor_step takes
  taken event (Comes m) n c p there is = is
  taken event (Commands what) n c p there is =
      let here : Processor = record { client = c; processing = p } in
      told_so s.world here
      (subst (λ (k : ℕ). client_at s.world k ≡ Some c)
      (sym (found_number s.world n c there)) there)
      what (stage_commanded here what) (processor_command here what) refl
  taken event (Expires now) n c p there is = is
  taken event Reminds n c p there is = is
  taken event (Drops group member) n c p there is = is
  taken event (Puts value more) n c p there is = is
  taken event (Restarts now) n c p there is = is

  -- of a processor, if there is one of this number
  if_taken : (event : Event) (input : Input) (n : ℕ) (client : Option Client)
      (processing : Option Processing) → client_at s.world n ≡ client
      → (step s.world event).0 ≡ (at_client s.world input client).0
      → Follows event (turn_with input client processing)
  if_taken event input n None processing there is = no_turn event
  if_taken event input n (Some c) None there is = no_turn event
  if_taken event input n (Some c) (Some p) there is = taken event input n c p there is

  -- of whatever node is handed an input
  at_node : (event : Event) (to : NodeId) (input : Input) (store : Store)
      → (step s.world event).0 ≡ (handed s.world to store input).0
      → Follows event (turn_at s to input)
  at_node event node.Coordinator input store is = no_turn event
  at_node event (node.Partition which) input store is = no_turn event
  at_node event (node.Client n) input store is =
      if_taken event input n (client_at s.world n) (processing_at s n) refl is

  if_delivered : (event : Event) (to : NodeId) (store : Store) (m : Option Message)
      → (step s.world event).0 ≡ (delivered s.world to store m).0
      → Follows event (turn_delivered s to m)
  if_delivered event to store None is = no_turn event
  if_delivered event to store (Some m) is = at_node event to (Comes m) store is

  if_handed : (to : NodeId) (input : Input) (store : Store)
      → Follows (Hand to input store) (turn_handed s to input)
  unfolding step
  if_handed to (Comes m) store = no_turn (Hand to (Comes m) store)
  if_handed to (Commands what) store =
      at_node (Hand to (Commands what) store) to (Commands what) store refl
  if_handed to (Expires now) store =
      at_node (Hand to (Expires now) store) to (Expires now) store refl
  if_handed to Reminds store = at_node (Hand to Reminds store) to Reminds store refl
  if_handed to (Drops group member) store =
      at_node (Hand to (Drops group member) store) to (Drops group member) store refl
  if_handed to (Puts value more) store =
      at_node (Hand to (Puts value more) store) to (Puts value more) store refl
  if_handed to (Restarts now) store =
      at_node (Hand to (Restarts now) store) to (Restarts now) store refl

  follows : (event : Event) → Follows event (turn_of s event)
  unfolding step
  follows (Make client txn timeout) = no_turn (Make client txn timeout)
  follows (Deliver which to store) =
      if_delivered (Deliver which to store) to store (slice_get s.world.sent which) refl
  follows (Hand to input store) = if_handed to input store

  -- a step of the system is a run of its world
  pub step_follows : (event : SystemEvent)
      → run (events_of s event) s.world ≡ (system_step s event).0.world
  unfolding run system_step
  step_follows (MakeProcessor client txn timeout group inputs image) = refl
  step_follows (Happens event) = follows event

------ a schedule

-- a schedule of the system is one of its world
pub schedule_follows : (events : List SystemEvent) (s : System)
    → run (schedule_of events s) s.world ≡ (run_system events s).world
unfolding run schedule_of run_system
schedule_follows [] s = refl
schedule_follows (event ∷ events) s =
    let next : System = (system_step s event).0 in
    run-append (events_of s event) (schedule_of events next) s.world
    ∙ ap (λ (w : World). run (schedule_of events next) w) (step_follows s event)
    ∙ schedule_follows events next
