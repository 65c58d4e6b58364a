-- An event that happens to running nodes is a step of the definitions, and a schedule goes on by
-- it.
use Rattle.std.proofs.Common.{◌≡◌, ◌++◌, ℕ, Bool, true, false, cond, List, [], ◌∷◌, refl, sym, ap}
use Rattle.std.proofs.Common.{◌∙◌, subst, Option, Some, None, append-nil}
use Rattle.std.specs.Prelude.{slice_get}
use Rattle.kx_core.specs.Clients.{clients_in, processors_in}
use Rattle.kx_client_node.specs.Clients.{client_of}
use Rattle.kx_core.specs.Internal.{is_message}
use Rattle.kx_core.specs.World as running
use Rattle.kx_core.specs.World.{IsHandedIn, Nodes, Occurs, StandForAll, after_turn, fails_in}
use Rattle.kx_core.specs.World.{bytes_at, bytes_delivered, bytes_handed, handed_in, is_closed}
use Rattle.kx_core.specs.World.{place_of, store_fails}
use Rattle.kx_client_node.specs.declared.any_client.AnyClient.{AnyClient}
use Rattle.kx_client_node.specs.declared.any_client.AnyClient.TheVariants as any
use Rattle.kx_core.specs.declared.event.Event as happening
use Rattle.kx_core.specs.declared.event.Event.TheVariants as event
use Rattle.kx_core.proofs.Standing.{a_store, not_both}
use Rattle.kx_core.proofs.Turns.{clients_push, processors_push}
use Rattle.kx_machine.specs.Meaning.{NodeState, input_of, note_of}
use Rattle.kx_machine.specs.Stores.{IsMode}
use Rattle.kx_machine.specs.declared.input.Input as given
use Rattle.kx_machine.specs.declared.input.Input.TheVariants as input
use Rattle.kx_machine.specs.declared.machine.StoreMode.{StoreMode}
use Rattle.kx_machine.specs.declared.taken.Note.TheVariants as noted
use Rattle.kx_machine.specs.declared.taken.Taken.{Taken}
use Rattle.kx_message.specs.declared.message.Message.{Message}
use Rattle.kx_message.specs.declared.message.NodeId.{NodeId}
use Rattle.kx_model.specs.Client.{Client, new_client}
use Rattle.kx_model.specs.Disk.{Store}
use Rattle.kx_model.specs.Step.{Comes, Done}
use Rattle.kx_model.specs.World as model
use Rattle.kx_model.specs.World.{World, Deliver, Hand, Make, is_new, delivered, step}
use Rattle.kx_processor.specs.Running.{Running, processor_of}
use Rattle.kx_system.specs.Processor.{Images, Processing, Processor, new_processing}
use Rattle.kx_system.specs.System.{Happens, MakeProcessor, System, SystemEvent, SystemStepped}
use Rattle.kx_system.specs.System.{Turn, happens, system_step, turn_at, turn_delivered}
use Rattle.kx_pipeline.specs.OpenSystems.{Arrives, Inside, OpenSystemEvent, open_system_step}
use Rattle.kx_pipeline.specs.OpenSystems.{run_open_system, with_request}

-- one more event goes on from where the others led
pub run_more : (events : List OpenSystemEvent) (e : OpenSystemEvent) (s : System)
    → run_open_system (events ++ e ∷ []) s ≡ (open_system_step (run_open_system events s) e).0
unfolding run_open_system
run_more [] e s = refl
run_more (d ∷ events) e s = run_more events e (open_system_step s d).0

happens_is : (s : System) (e : model.Event) (turn : Option Turn)
    → happens s e turn ≡ after_turn s (step s.world e) turn
happens_is s e None = refl
happens_is s e (Some turn) = refl

step_deliver : (s : System) (number : ℕ) (to : NodeId) (store : Store) (found : Option Message)
    → slice_get s.world.sent number ≡ found
    → system_step s (Happens (Deliver number to store))
    ≡ after_turn s (delivered s.world to store found) (turn_delivered s to found)
unfolding system_step step
step_deliver s number to store found is =
    happens_is s (Deliver number to store)
    (turn_delivered s to (slice_get s.world.sent number))
    ∙ ap (λ (o : Option Message).
    after_turn s (delivered s.world to store o) (turn_delivered s to o)) is

step_hand : (s : System) (to : NodeId) (store : Store) (i : given.Input) → is_message i ≡ false
    → system_step s (Happens (Hand to (input_of i) store)) ≡ handed_in s to store (input_of i)
unfolding system_step step
step_hand s to store (input.Deliver message) h = absurd cc
step_hand s to store (input.Command command) h =
    let i = input_of (input.Command command) in happens_is s (Hand to i store) (turn_at s to i)
step_hand s to store (input.Expire now) h =
    let i = input_of (input.Expire now) in happens_is s (Hand to i store) (turn_at s to i)
step_hand s to store input.Remind h =
    let i = input_of input.Remind in happens_is s (Hand to i store) (turn_at s to i)
step_hand s to store (input.Drop group member) h =
    let i = input_of (input.Drop group member) in
    happens_is s (Hand to i store) (turn_at s to i)
step_hand s to store (input.Put values) h =
    let i = input_of (input.Put values) in happens_is s (Hand to i store) (turn_at s to i)
step_hand s to store (input.Restart now) h =
    let i = input_of (input.Restart now) in happens_is s (Hand to i store) (turn_at s to i)

-- a message that an input has isn't handed out
step_message : (s : System) (to : NodeId) (store : Store) (message : Message)
    → system_step s (Happens (Hand to (Comes message) store)) ≡ (s, Done)
unfolding system_step step
step_message s to store message = refl

-- the event makes a client, which hands out nothing
pub record IsMaking (s : System) (e : SystemEvent) : Type 0 where
  pub sent : (system_step s e).0.world.sent ≡ s.world.sent
  pub note : (system_step s e).1 ≡ Done
  pub works : store_fails s e ≡ false

pub makes_client : (s : System) (client : ℕ) (txn : Option (List ℕ)) (timeout : ℕ)
    → IsMaking s (Happens (Make client txn timeout))
unfolding system_step step
makes_client s client txn timeout = record { sent = refl; note = refl; works = refl }

pub makes_processor : (s : System) (client : ℕ) (txn : Option (List ℕ)) (timeout : ℕ)
    (group : List ℕ) (inputs : ℕ) (image : Images)
    → IsMaking s (MakeProcessor client txn timeout group inputs image)
unfolding system_step step
makes_processor s client txn timeout group inputs image =
    record { sent = refl; note = refl; works = refl }

-- what isn't a message is handed to the node as it is
bytes_same : (w : World) (to : NodeId) (i : given.Input) → is_message i ≡ false
    → bytes_handed w to (input_of i) ≡ bytes_at w to (input_of i)
bytes_same w to (input.Deliver message) other = absurd cc
bytes_same w to (input.Command command) other = refl
bytes_same w to (input.Expire now) other = refl
bytes_same w to input.Remind other = refl
bytes_same w to (input.Drop group member) other = refl
bytes_same w to (input.Put values) other = refl
bytes_same w to (input.Restart now) other = refl

module _ {F : Type 0} (image_of : F → Images) (Stand : System → Type 0) where
  module _ (s : System) (taken : Taken) where
    by_step : (given : happening.Event F) (e : SystemEvent) (after : SystemStepped)
        → running.IsEvent image_of s given (Inside e) → system_step s e ≡ after → Stand after.0
        → after.0.world.sent ≡ s.world.sent ++ taken.messages
        → taken.note ≡ note_of after.1 → taken.failed ≡ fails_in s (place_of e) after
        → Occurs image_of s given Stand taken
    by_step given e after is same h sent note failed = record {
      happened = Inside e;
      is = is;
      stand = subst (λ (x : SystemStepped). Stand x.0) (sym same) h;
      sent = ap (λ (x : SystemStepped). x.0.world.sent) same ∙ sent;
      note_is = note ∙ ap (λ (x : SystemStepped). note_of x.1) (sym same);
      failed_is = failed ∙ ap (fails_in s (place_of e)) (sym same);
    }

    module _ (h : Stand s) (none : taken.messages ≡ []) (done : taken.note ≡ noted.Done)
        (works : taken.failed ≡ false) where
      nothing_sent : s.world.sent ≡ s.world.sent ++ taken.messages
      nothing_sent = sym (ap (λ ms. s.world.sent ++ ms) none ∙ append-nil s.world.sent)

      -- there is no such message
      pub not_delivered : (number : ℕ) (to : NodeId) (m : StoreMode)
          → slice_get s.world.sent number ≡ None
          → Occurs image_of s (event.Deliver number to m) Stand taken
      not_delivered number to m absent =
          let store = a_store m (bytes_delivered s.world to (slice_get s.world.sent number))
          (ap (bytes_delivered s.world to) absent) in
          by_step (event.Deliver number to m) (Happens (Deliver number to store.0)) (s, Done)
          (store.0, store.1, refl) (step_deliver s number to store.0 None absent)
          h nothing_sent done (works ∙ not_both (is_closed s.world to))

      -- a message comes by its number alone
      pub not_handed : (to : NodeId) (i : given.Input) (m : StoreMode) → is_message i ≡ true
          → Occurs image_of s (event.Hand to i m) Stand taken
      not_handed to (input.Deliver message) m comes =
          let store = a_store m None refl in
          by_step (event.Hand to (input.Deliver message) m)
          (Happens (Hand to (Comes message) store.0))
          (s, Done) (store.0, store.1, refl) (step_message s to store.0 message)
          h nothing_sent done (works ∙ not_both (is_closed s.world to))
      not_handed to (input.Command command) m comes = absurd cc
      not_handed to (input.Expire now) m comes = absurd cc
      not_handed to input.Remind m comes = absurd cc
      not_handed to (input.Drop group member) m comes = absurd cc
      not_handed to (input.Put values) m comes = absurd cc
      not_handed to (input.Restart now) m comes = absurd cc

    pub is_delivered : (number : ℕ) (to : NodeId) (m : StoreMode) (message : Message)
        → slice_get s.world.sent number ≡ Some message
        → IsHandedIn s to m (Comes message) Stand taken
        → Occurs image_of s (event.Deliver number to m) Stand taken
    is_delivered number to m message there t =
        by_step (event.Deliver number to m) (Happens (Deliver number to t.store))
        (handed_in s to t.store (Comes message)) (
          t.store,
          subst (λ (found : Option Message). IsMode m (bytes_delivered s.world to found) t.store)
              (sym there) t.allowed,
          refl,
        )
        (step_deliver s number to t.store (Some message) there)
        t.stand t.sent t.note_is t.failed_is

    pub is_handed : (to : NodeId) (i : given.Input) (m : StoreMode) → is_message i ≡ false
        → IsHandedIn s to m (input_of i) Stand taken
        → Occurs image_of s (event.Hand to i m) Stand taken
    is_handed to i m other t =
        by_step (event.Hand to i m) (Happens (Hand to (input_of i) t.store))
        (handed_in s to t.store (input_of i)) (
          t.store,
          subst (λ (size : Option ℕ). IsMode m size t.store) (sym (bytes_same s.world to i other))
              t.allowed,
          refl,
        )
        (step_hand s to t.store i other) t.stand t.sent t.note_is t.failed_is

    -- a client or a processor is made: nothing is sent
    pub is_made : (given : happening.Event F) (e : SystemEvent)
        → running.IsEvent image_of s given (Inside e) → IsMaking s e → Stand (system_step s e).0
        → taken.messages ≡ [] → taken.note ≡ noted.Done → taken.failed ≡ false
        → Occurs image_of s given Stand taken
    is_made given e is making h none done works = record {
      happened = Inside e;
      is = is;
      stand = h;
      sent = making.sent
          ∙ sym (ap (λ ms. s.world.sent ++ ms) none ∙ append-nil s.world.sent);
      note_is = done ∙ ap note_of (sym making.note);
      failed_is = works ∙ sym making.works;
    }

    -- a request arrives from outside
    pub is_arrived : (request : Message) → Stand (with_request s request)
        → taken.messages ≡ request ∷ [] → taken.note ≡ noted.Done → taken.failed ≡ false
        → Occurs image_of s (event.Arrive request) Stand taken
    is_arrived request h one done works = record {
      happened = Arrives request;
      is = refl;
      stand = h;
      sent = ap (λ ms. s.world.sent ++ ms) (sym one);
      note_is = done;
      failed_is = works;
    }

------ no node changes if a request arrives

pub request_arrived : {C P O F : Type 0} (Coordinates : NodeState → C → Type 0)
    (Serves : NodeState → P → Type 0) (Groups : NodeState → O → Type 0) (image_of : F → Images)
    (nodes : Nodes C P O F) (s : System) (request : Message)
    → StandForAll Coordinates Serves Groups image_of nodes s
    → StandForAll Coordinates Serves Groups image_of nodes (with_request s request)
request_arrived Coordinates Serves Groups image_of nodes s request h = record {
  world = record {
    coordinator = h.world.coordinator;
    count = h.world.count;
    few = h.world.few;
    partitions = h.world.partitions;
    offsets = h.world.offsets;
    clients = h.world.clients;
    clock = h.world.clock;
  };
  processors = h.processors;
}

------ a client is made, if its number is above those of all others

module _ {C P O F : Type 0} (Coordinates : NodeState → C → Type 0)
    (Serves : NodeState → P → Type 0) (Groups : NodeState → O → Type 0) (image_of : F → Images)
    (nodes : Nodes C P O F) (s : System) (client : ℕ) (txn : Option (List ℕ)) (timeout : ℕ)
    (h : StandForAll Coordinates Serves Groups image_of nodes s) where
  abbrev Stand : List (AnyClient F) → System → Type 0
  Stand all t =
      StandForAll Coordinates Serves Groups image_of (record nodes { clients = all }) t

  abbrev made : Client
  made = new_client client txn timeout

  stands_with : (after : List (AnyClient F)) (clients : List Client) (processors : List Processing)
      → clients_in after ≡ clients → processors_in image_of after ≡ processors
      → Stand after
      (record { world = record s.world { clients = clients }; processors = processors })
  stands_with after clients processors same beside = record {
    world = record {
      coordinator = h.world.coordinator;
      count = h.world.count;
      few = h.world.few;
      partitions = h.world.partitions;
      offsets = h.world.offsets;
      clients = same;
      clock = h.world.clock;
    };
    processors = beside;
  }

  module _ (b : Bool) (new : is_new client (clients_in nodes.clients) ≡ b) where
    either_way : {X : Type 0} (more same : X)
        → cond b more same ≡ cond (is_new client s.world.clients) more same
    either_way more same =
        ap (λ x. cond x more same) (sym new ∙ ap (is_new client) h.world.clients)

  -- the clients with one more
  more_clients : (one : AnyClient F) → is_new client (clients_in nodes.clients) ≡ true
      → client_of one ≡ made
      → clients_in (nodes.clients ++ one ∷ [])
      ≡ cond (is_new client s.world.clients) (s.world.clients ++ made ∷ []) s.world.clients
  more_clients one new is =
      clients_push image_of nodes.clients one
      ∙ ap (λ (c : Client). clients_in nodes.clients ++ c ∷ []) is
      ∙ ap (λ (cs : List Client). cs ++ made ∷ []) h.world.clients
      ∙ either_way true new (s.world.clients ++ made ∷ []) s.world.clients

  same_clients : is_new client (clients_in nodes.clients) ≡ false
      → clients_in nodes.clients
      ≡ cond (is_new client s.world.clients) (s.world.clients ++ made ∷ []) s.world.clients
  same_clients new =
      h.world.clients ∙ either_way false new (s.world.clients ++ made ∷ []) s.world.clients

  pub client_made : (after : List (AnyClient F)) (c : Client)
      → is_new client (clients_in nodes.clients) ≡ true
      → after ≡ nodes.clients ++ any.Plain c ∷ [] → c ≡ made
      → Stand after (system_step s (Happens (Make client txn timeout))).0
  unfolding system_step step
  client_made after c new is same =
      stands_with after
      (cond (is_new client s.world.clients) (s.world.clients ++ made ∷ []) s.world.clients)
      s.processors (ap clients_in is ∙ more_clients (any.Plain c) new same)
      (ap (processors_in image_of) is
      ∙ processors_push image_of nodes.clients (any.Plain c)
      ∙ append-nil (processors_in image_of nodes.clients) ∙ h.processors)

  pub no_client_made : is_new client (clients_in nodes.clients) ≡ false
      → Stand nodes.clients (system_step s (Happens (Make client txn timeout))).0
  unfolding system_step step
  no_client_made new =
      stands_with nodes.clients
      (cond (is_new client s.world.clients) (s.world.clients ++ made ∷ []) s.world.clients)
      s.processors (same_clients new) h.processors

  module _ (group : List ℕ) (inputs : ℕ) (image : Images) where
    abbrev beside : List Processing
    beside = new_processing client group inputs image ∷ []

    pub processor_made : (after : List (AnyClient F)) (p : Running F)
        → is_new client (clients_in nodes.clients) ≡ true
        → after ≡ nodes.clients ++ any.Processor p ∷ []
        → processor_of image_of p ≡ record {
          client = made;
          processing = new_processing client group inputs image;
        }
        → Stand after
        (system_step s (MakeProcessor client txn timeout group inputs image)).0
    unfolding system_step step
    processor_made after p new is same =
        stands_with after
        (cond (is_new client s.world.clients) (s.world.clients ++ made ∷ []) s.world.clients)
        (cond (is_new client s.world.clients) (s.processors ++ beside) s.processors)
        (ap clients_in is ∙ more_clients (any.Processor p) new
        (ap (λ (q : Processor). q.client) same))
        (ap (processors_in image_of) is
        ∙ processors_push image_of nodes.clients (any.Processor p)
        ∙ ap (λ (q : Processor). processors_in image_of nodes.clients ++ q.processing ∷ []) same
        ∙ ap (λ (ps : List Processing). ps ++ beside) h.processors
        ∙ either_way true new (s.processors ++ beside) s.processors)

    pub no_processor_made : is_new client (clients_in nodes.clients) ≡ false
        → Stand nodes.clients
        (system_step s (MakeProcessor client txn timeout group inputs image)).0
    unfolding system_step step
    no_processor_made new =
        stands_with nodes.clients
        (cond (is_new client s.world.clients) (s.world.clients ++ made ∷ []) s.world.clients)
        (cond (is_new client s.world.clients) (s.processors ++ beside) s.processors)
        (same_clients new)
        (h.processors ∙ either_way false new (s.processors ++ beside) s.processors)
