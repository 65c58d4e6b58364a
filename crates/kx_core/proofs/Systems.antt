-- Nodes that take what they are handed stand for a system of the definitions after it.
use Rattle.std.proofs.Common.{◌≡◌, ◌++◌, ℕ, false, refl, sym, ap, ◌∙◌, subst, Option}
use Rattle.std.proofs.Common.{Some, None, List, []}
use Rattle.kx_core.specs.Clients.{AllClients, TakesAt, TakesBy, all_of, client_in}
use Rattle.kx_client_node.specs.Clients.{any_store}
use Rattle.kx_core.specs.Clients.{node_at, node_with, processor_in, processors_in, with_node}
use Rattle.kx_core.specs.Clients.{with_one}
use Rattle.kx_client_node.specs.declared.any_client.AnyClient.{AnyClient}
use Rattle.kx_core.specs.World.{IsHanded, IsHandedIn, Nodes, StandForAll, after_turn, fails_in}
use Rattle.kx_core.specs.World.{StandFor}
use Rattle.kx_core.proofs.Standing.{a_store, by_client, by_no_client, told}
use Rattle.kx_machine.specs.Meaning.{AtClient, AtProcessor, IsTaken, NodeState, note_of}
use Rattle.kx_machine.specs.declared.machine.StoreMode.{StoreMode}
use Rattle.kx_machine.specs.declared.taken.Note.TheVariants as noted
use Rattle.kx_machine.specs.declared.taken.Taken.{Taken}
use Rattle.kx_message.specs.declared.message.NodeId.{NodeId}
use Rattle.kx_message.specs.declared.message.NodeId.TheVariants as node
use Rattle.kx_model.specs.Client.{Client}
use Rattle.kx_model.specs.Step.{Input, client_step}
use Rattle.kx_model.specs.World.{handed}
use Rattle.kx_system.specs.Processor.{Images, Processing, Processor, processor_step}
use Rattle.kx_system.specs.System.{System, SystemStepped, turn_at, turn_with, with_processing}

module _ {C P O F : Type 0} (Coordinates : NodeState → C → Type 0)
    (Serves : NodeState → P → Type 0) (Groups : NodeState → O → Type 0) (image_of : F → Images)
  where
    abbrev Stand : Nodes C P O F → System → Type 0
    Stand = StandForAll Coordinates Serves Groups image_of

    abbrev all : Nodes C P O F → AllClients
    all nodes = all_of image_of nodes.clients

    -- what is no processor's turn
    pub no_turn : (before nodes : Nodes C P O F) (s : System) (to : NodeId) (m : StoreMode)
        (input : Input) (taken : Taken) → Stand before s → turn_at s to input ≡ None
        → processors_in image_of nodes.clients ≡ processors_in image_of before.clients
        → IsHanded s.world to m input (StandFor Coordinates Serves Groups nodes) taken
        → IsHandedIn s to m input (Stand nodes) taken
    no_turn before nodes s to m input taken h none same t =
        let done = ap (after_turn s (handed s.world to t.store input)) none in record {
          store = t.store;
          allowed = t.allowed;
          stand = subst (λ (x : SystemStepped). Stand nodes x.0) (sym done)
              (record { world = t.stand; processors = same ∙ h.processors });
          sent = ap (λ (x : SystemStepped). x.0.world.sent) done ∙ t.sent;
          note_is = t.note_is ∙ ap (λ (x : SystemStepped). note_of x.1) (sym done);
          failed_is = t.failed_is ∙ ap (fails_in s to) (sym done);
        }

    module _ (nodes : Nodes C P O F) (s : System) (number : ℕ) (m : StoreMode) (input : Input)
        (new : List (AnyClient F)) (taken : Taken) (h : Stand nodes s) where
      abbrev after_nodes : Nodes C P O F
      after_nodes = record nodes { clients = new }

      -- a processor's turn
      by_turn : (p : Processor) → turn_at s (node.Client number) input
          ≡ Some (record { processor = p; input = input })
          → IsTaken (AtProcessor p) input any_store
          (λ st. st ≡ AtProcessor (processor_step p input).state) taken
          → all_of image_of new ≡ with_node (all nodes) (AtProcessor (processor_step p input).state)
          → IsHandedIn s (node.Client number) m input (Stand after_nodes) taken
      by_turn p turn t new_is =
          let place = node.Client number in
          let store = a_store m None refl in
          let done = ap (after_turn s (handed s.world place store.0 input)) turn in
          let w = h.world in record {
            store = store.0;
            allowed = store.1;
            stand = subst (λ (x : SystemStepped). Stand after_nodes x.0) (sym done) (record {
              world = record {
                coordinator = w.coordinator;
                count = w.count;
                few = w.few;
                partitions = w.partitions;
                offsets = w.offsets;
                clients = ap (λ (xs : AllClients). xs.clients) new_is
                    ∙ ap (λ (cs : List Client). with_one cs (processor_step p input).state.client)
                    w.clients;
                clock = w.clock;
              };
              processors = ap (λ (xs : AllClients). xs.processors) new_is
                  ∙ ap (λ (ps : List Processing).
                  with_processing ps (processor_step p input).state.processing) h.processors;
            });
            sent = ap (λ (x : SystemStepped). x.0.world.sent) done
                ∙ ap (λ ms. s.world.sent ++ ms) (sym (ap (λ (x : Taken). x.messages) t.answer));
            note_is = ap (λ (x : Taken). x.note) t.answer
                ∙ sym (ap (λ (x : SystemStepped). note_of x.1) done);
            failed_is = told (AtProcessor p) t.store input taken t.answer
                ∙ ap (fails_in s place) (sym done);
          }

      by_found : (client : Option Client) (processing : Option Processing)
          → client_in s.world.clients number ≡ client
          → processor_in s.processors number ≡ processing
          → TakesBy (all nodes) (all_of image_of new) input (node_with client processing)
          (Some taken)
          → IsHandedIn s (node.Client number) m input (Stand after_nodes) taken
      by_found None processing there beside takes = absurd takes
      by_found (Some c) None there beside takes =
          let none : turn_at s (node.Client number) input ≡ None =
          ap (λ client. turn_with input client (processor_in s.processors number)) there
          ∙ ap (turn_with input (Some c)) beside in
          let is : all_of image_of new
          ≡ with_node (all nodes) (AtClient (client_step c input).state) =
          takes.new_is ∙ ap (with_node (all nodes)) (sym takes.takes.stands) in
          no_turn nodes after_nodes s (node.Client number) m input taken h none
          (ap (λ (xs : AllClients). xs.processors) is)
          (by_client Coordinates Serves Groups nodes s.world number m input c takes.after new taken
          h.world there takes.takes
          (ap (λ (xs : AllClients). xs.clients) is
          ∙ ap (λ (cs : List Client). with_one cs (client_step c input).state) h.world.clients))
      by_found (Some c) (Some p) there beside takes =
          let processor : Processor = record { client = c; processing = p } in
          let turn : turn_at s (node.Client number) input
          ≡ Some (record { processor = processor; input = input }) =
          ap (λ client. turn_with input client (processor_in s.processors number)) there
          ∙ ap (turn_with input (Some c)) beside in
          by_turn processor turn
          (record {
            store = takes.takes.store;
            allowed = takes.takes.allowed;
            stands = refl;
            answer = takes.takes.answer;
          })
          (takes.new_is ∙ ap (with_node (all nodes)) (sym takes.takes.stands))

      found_alike : node_at (all nodes) number
          ≡ node_with (client_in s.world.clients number) (processor_in s.processors number)
      found_alike =
          ap (λ (cs : List Client). node_with (client_in cs number)
          (processor_in (processors_in image_of nodes.clients) number)) h.world.clients
          ∙ ap (λ (ps : List Processing). node_with (client_in s.world.clients number)
          (processor_in ps number)) h.processors

      pub by_client_of : TakesAt (all nodes) (all_of image_of new) number input (Some taken)
          → IsHandedIn s (node.Client number) m input (Stand after_nodes) taken
      by_client_of takes =
          by_found (client_in s.world.clients number) (processor_in s.processors number) refl refl
          (subst (λ found. TakesBy (all nodes) (all_of image_of new) input found (Some taken))
          found_alike takes)

      not_there : (client : Option Client) (processing : Option Processing)
          → client_in s.world.clients number ≡ client
          → TakesBy (all nodes) (all_of image_of new) input (node_with client processing) None
          → (client_in s.world.clients number ≡ None) × (all_of image_of new ≡ all nodes)
      not_there None processing there takes = (there, takes)
      not_there (Some c) None there takes = absurd takes
      not_there (Some c) (Some p) there takes = absurd takes

      -- other clients that are the same to the definitions
      pub same_to_all : all_of image_of new ≡ all nodes → Stand after_nodes s
      same_to_all same = record {
        world = record {
          coordinator = h.world.coordinator;
          count = h.world.count;
          few = h.world.few;
          partitions = h.world.partitions;
          offsets = h.world.offsets;
          clients = ap (λ (xs : AllClients). xs.clients) same ∙ h.world.clients;
          clock = h.world.clock;
        };
        processors = ap (λ (xs : AllClients). xs.processors) same ∙ h.processors;
      }

      pub by_no_client_of : TakesAt (all nodes) (all_of image_of new) number input None
          → taken.messages ≡ [] → taken.note ≡ noted.Done → taken.failed ≡ false
          → IsHandedIn s (node.Client number) m input (Stand after_nodes) taken
      by_no_client_of takes none done works =
          let is = not_there (client_in s.world.clients number) (processor_in s.processors number)
          refl (subst (λ found. TakesBy (all nodes) (all_of image_of new) input found None)
          found_alike takes) in
          let no : turn_at s (node.Client number) input ≡ None =
          ap (λ client. turn_with input client (processor_in s.processors number)) is.0 in
          let stand = same_to_all is.1 in
          no_turn after_nodes after_nodes s (node.Client number) m input taken stand no refl
          (by_no_client Coordinates Serves Groups after_nodes s.world number m input taken
          stand.world is.0 none done works)

    -- nodes that stand for a world as before stand for the system
    pub still : (before after : Nodes C P O F) (s : System) → Stand before s
        → StandFor Coordinates Serves Groups after s.world → after.clients ≡ before.clients
        → Stand after s
    still before after s h stand same =
        record {
          world = stand;
          processors = ap (processors_in image_of) same ∙ h.processors;
        }
