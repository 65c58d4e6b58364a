-- Over every schedule: the coordinator's log is one that it may have written, and each message says
-- what still stands of it.
use Rattle.std.proofs.Common.{ℕ, cond, List, [], ◌∷◌, ◌++◌, Contains, All}
use Rattle.std.proofs.Common.{◌==◌}
use Rattle.std.proofs.lemmas.Bool.{cond_both}
use Rattle.std.proofs.lemmas.List.Elements.{All-append, All-cons, All-contains, All-map, All-nil}
use Rattle.std.proofs.lemmas.List.Elements.{All-push, All-weaker, Contains-append_left}
use Rattle.kx_message.specs.declared.message.Message.{Message}
use Rattle.kx_model.specs.Client.{Client, new_client}
use Rattle.kx_model.specs.Coordinator.{TxnEntry}
use Rattle.kx_model.specs.CoordinatorNode.{Coordinated, notes_of}
use Rattle.kx_model.specs.Headline.{Always}
use Rattle.kx_model.specs.Open.{AlwaysOpen}
use Rattle.kx_model.specs.World.{World, notes, start, with_client, with_coordinator}
use Rattle.kx_model.proofs.Schedules.{closed_from_open}
use Rattle.kx_headline.proofs.CoordinatorDoes.{CoordinatorOk, CoordinatorDoes, Out, Says}
use Rattle.kx_headline.proofs.CoordinatorDoes.{does_ok, expires_does, ok_later, passes_does}
use Rattle.kx_headline.proofs.CoordinatorDoes.{reminds_does, restarts_does, says_later, takes_does}
use Rattle.kx_headline.proofs.CoordinatorGrows
use Rattle.kx_headline.proofs.CoordinatorGrows.{Grows, History, history_sound, note_grows}
use Rattle.kx_headline.proofs.CoordinatorSound.{Sound}
use Rattle.kx_headline.proofs.EventDoes.{CoordinatorTurn, ClientTurn, Turn, nobodys, coordinators}
use Rattle.kx_headline.proofs.EventDoes.{partitions, clients, making, expires_now}
use Rattle.kx_headline.proofs.EventDoes.{OpenTurn, always_open, arrives, inside, reminds_now}
use Rattle.kx_laws.proofs.Membership.{find_tells}
use Rattle.kx_headline.proofs.SentKinds.{IsClients, IsPartitions, WaitsForOwn, client_sends}
use Rattle.kx_headline.proofs.SentKinds.{requests_are, turn_sends}
use Rattle.kx_headline.proofs.SentKinds

pub record CoordinatorStands (w : World) : Type 0 where
  pub coordinator : CoordinatorOk w.sent w.coordinator
  pub waiting : All WaitsForOwn w.clients
  pub says : All (Says w.sent (notes w)) w.sent

-- what partitions and clients hand out says nothing of the coordinator's log
partitions_say : (sent : List Message) (log : List TxnEntry) (m : Message) → IsPartitions m
    → Says sent log m
partitions_say sent log m SentKinds.adding = tt
partitions_say sent log m SentKinds.marked = tt
partitions_say sent log m SentKinds.produced = tt
partitions_say sent log m SentKinds.fetch = tt
partitions_say sent log m SentKinds.joined = tt
partitions_say sent log m SentKinds.left = tt
partitions_say sent log m SentKinds.offsets_stand = tt
partitions_say sent log m SentKinds.offset_there = tt

clients_say : (sent : List Message) (log : List TxnEntry) (m : Message) → IsClients m
    → Says sent log m
clients_say sent log m SentKinds.init = tt
clients_say sent log m SentKinds.ends = tt
clients_say sent log m SentKinds.produce = tt
clients_say sent log m SentKinds.commit = tt
clients_say sent log m SentKinds.join = tt
clients_say sent log m SentKinds.leave = tt
clients_say sent log m SentKinds.fetches = tt
clients_say sent log m SentKinds.fetches_offset = tt

-- what the coordinator does in its turn
pub turn_does : (w : World) (s : Coordinated) → CoordinatorOk w.sent w.coordinator
    → CoordinatorTurn w s → CoordinatorDoes w.sent w.coordinator s
turn_does w s ok (CoordinatorTurn.takes store m c) = takes_does w.sent w.coordinator ok store m c
turn_does w s ok (expires_now now store) = expires_does w.sent w.coordinator ok now store
turn_does w s ok reminds_now = reminds_does w.sent w.coordinator ok
turn_does w s ok (CoordinatorTurn.restarts now how) =
    restarts_does w.sent w.coordinator ok now how
turn_does w s ok CoordinatorTurn.passes = passes_does w.sent w.coordinator ok

-- more is sent
up : (sent messages : List Message) (m : Message) → Contains sent m
    → Contains (sent ++ messages) m
up sent messages m c = Contains-append_left sent messages m c

-- the messages sent so far go on saying what they say, and those that are sent now say it too
says_more : (sent messages : List Message) (log later : List TxnEntry)
    → ((note : TxnEntry) → Contains log note → Contains later note) → All (Says sent log) sent
    → All (Says (sent ++ messages) later) messages
    → All (Says (sent ++ messages) later) (sent ++ messages)
says_more sent messages log later on old new =
    All-append (Says (sent ++ messages) later) sent messages
    (All-weaker (Says sent log) (Says (sent ++ messages) later)
    (says_later sent (sent ++ messages) log later (up sent messages) on) sent old) new

module _ (w : World) (stands : CoordinatorStands w) where
  coordinator_stands : (clock : ℕ) (s : Coordinated) → CoordinatorTurn w s
      → CoordinatorStands (with_coordinator (record w { clock = clock }) s)
  coordinator_stands clock s turn =
      let d = turn_does w s stands.coordinator turn in
      record {
        coordinator = ok_later (up w.sent s.1) (does_ok stands.coordinator d);
        waiting = stands.waiting;
        says = says_more w.sent s.1 (notes w) (notes_of s.0) (note_grows d.grows) stands.says
            (All-weaker (Out d.client w.sent (notes w) (notes_of s.0))
            (Says (w.sent ++ s.1) (notes_of s.0))
            (λ m o. says_later w.sent (w.sent ++ s.1) (notes_of s.0) (notes_of s.0)
            (up w.sent s.1) (λ note c. c) m o.says) s.1 d.out);
      }

  others_say : (messages : List Message) (Kind : Message → Type 0)
      → ((m : Message) → Kind m → Says (w.sent ++ messages) (notes w) m) → All Kind messages
      → All (Says (w.sent ++ messages) (notes w)) (w.sent ++ messages)
  others_say messages Kind quiet kinds =
      says_more w.sent messages (notes w) (notes w) (λ note c. c) stands.says
      (All-weaker Kind (Says (w.sent ++ messages) (notes w)) quiet messages kinds)

  client_stands : (c after : Client) (messages : List Message) → WaitsForOwn c
      → ClientTurn w c after messages → CoordinatorStands (with_client w after messages)
  client_stands c after messages h turn =
      let (waits, kinds) = client_sends w c after messages turn h in
      record {
        coordinator = ok_later (up w.sent messages) stands.coordinator;
        waiting = All-map WaitsForOwn (λ d. cond (d.number == after.number) after d) w.clients
            (All-weaker WaitsForOwn (λ d. WaitsForOwn (cond (d.number == after.number) after d))
            (λ d k. cond_both (d.number == after.number) after d WaitsForOwn (λ e. waits)
            (λ e. k))
            w.clients stands.waiting);
        says = others_say messages IsClients (clients_say (w.sent ++ messages) (notes w)) kinds;
      }

pub stands_next : (w later : World) → CoordinatorStands w → Turn w later → CoordinatorStands later
stands_next w later stands nobodys = stands
stands_next w later stands (coordinators clock s turn) = coordinator_stands w stands clock s turn
stands_next w later stands (partitions number p s there turn) = record {
  coordinator = ok_later (up w.sent s.1) stands.coordinator;
  waiting = stands.waiting;
  says = others_say w stands s.1 IsPartitions (partitions_say (w.sent ++ s.1) (notes w))
      (turn_sends w number p s turn);
}
stands_next w later stands (clients c after messages there turn) =
    client_stands w stands c after messages
    (All-contains WaitsForOwn w.clients c stands.waiting
    (find_tells (λ d. d.number == c.number) w.clients c there).0) turn
stands_next w later stands (making number txn timeout new a b c) = record {
  coordinator = stands.coordinator;
  waiting = All-push WaitsForOwn w.clients (new_client number txn timeout) stands.waiting
      (All-nil IsClients);
  says = stands.says;
}

pub stands_first : (count : ℕ) → CoordinatorStands (start count)
stands_first count = record {
  coordinator = record {
    history = CoordinatorGrows.none;
    hidden = tt;
    answered = All-nil _;
  };
  waiting = All-nil WaitsForOwn;
  says = All-nil (Says [] (notes (start count)));
}

-- a client's request arrives from outside
pub stands_arrived : (w : World) (m : Message) → CoordinatorStands w → IsClients m
    → CoordinatorStands (record w { sent = w.sent ++ m ∷ [] })
stands_arrived w m stands kind = record {
  coordinator = ok_later (up w.sent (m ∷ [])) stands.coordinator;
  waiting = stands.waiting;
  says = others_say w stands (m ∷ []) IsClients (clients_say (w.sent ++ m ∷ []) (notes w))
      (All-cons IsClients m [] kind (All-nil IsClients));
}

stands_open_next : (w later : World) → CoordinatorStands w → OpenTurn w later
    → CoordinatorStands later
stands_open_next w later stands (inside x turn) = stands_next w later stands turn
stands_open_next w later stands (arrives m asks fits) =
    stands_arrived w m stands (requests_are m asks)

pub coordinator_stands_open : AlwaysOpen CoordinatorStands
coordinator_stands_open = always_open CoordinatorStands stands_first stands_open_next

pub coordinator_stands_always : Always CoordinatorStands
coordinator_stands_always = closed_from_open CoordinatorStands coordinator_stands_open

pub stands_sound : {w : World} → CoordinatorStands w → Sound (notes w)
stands_sound stands = history_sound stands.coordinator.history
