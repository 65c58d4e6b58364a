-- What an event is: one node takes its turn, with a message of all that were sent, a command, the
-- clock, a restart or a store's batch. What holds at the start and is kept by each turn always
-- holds.
use Rattle.std.proofs.Common.{◌≡◌, ◌≢◌, ℕ, ◌++◌, max, Bool, true, false, cond, List, []}
use Rattle.std.proofs.Common.{◌∷◌}
use Rattle.std.proofs.Common.{Option, Some, None, ◌==◌, Contains, All, refl, ap, arith}
use Rattle.std.proofs.Common.{slice_get, IfSome, ◌∙◌}
use Rattle.std.proofs.lemmas.Bool.{cond_both}
use Rattle.std.proofs.lemmas.Bool.Decides.{nat_tests}
use Rattle.std.proofs.lemmas.List.Elements.{All-contains_itself, All-head, All-tail}
use Rattle.kx_varint.specs.Text.{IsBytes}
use Rattle.kx_message.specs.Message.{IsMessage, IsU32}
use Rattle.kx_message.specs.Ranges.{IsName, IsTimeout, offsets_partition}
use Rattle.kx_message.specs.declared.message.Message.{Message}
use Rattle.kx_message.specs.declared.message.NodeId.{NodeId}
use Rattle.kx_message.specs.declared.message.NodeId.TheVariants as node
use Rattle.kx_model.specs.Client.{Client, Command, Commanded, Declines, Does, command, new_client}
use Rattle.kx_model.specs.CoordinatorNode.{Coordinated, coordinator_restarts, coordinator_takes}
use Rattle.kx_model.specs.CoordinatorNode.{expires, reminds}
use Rattle.kx_model.specs.Disk.{Reopening, Store, reopening}
use Rattle.kx_model.specs.Groups.{judge_drop}
use Rattle.kx_model.specs.Headline.{Always}
use Rattle.kx_model.specs.Open.{AlwaysOpen, Arrives, Inside, IsOpenEvent, IsOpenSchedule}
use Rattle.kx_model.specs.Open.{OpenEvent, is_request, open_run, open_step}
use Rattle.kx_model.specs.PartitionNode.{Partition, Served, changed, entries_of, node_takes}
use Rattle.kx_model.specs.PartitionNode.{partition_restarts, puts}
use Rattle.kx_model.specs.Replies.{take_reply}
use Rattle.kx_model.specs.Step.{Input, Comes, Commands, Expires, Reminds, Drops, Puts, Restarts}
use Rattle.kx_model.specs.Step.{client_step, commanded, coordinator_step, partition_step}
use Rattle.kx_model.specs.Step.{plain_text}
use Rattle.kx_model.specs.World.{Event, World, Make, Deliver, Hand, IsCommand, IsEvent, IsInput}
use Rattle.kx_model.specs.World.{IsSchedule, at_client, at_coordinator, at_partition, client_at}
use Rattle.kx_model.specs.World.{delivered, handed, handed_no_message, is_new, partition_at, run}
use Rattle.kx_model.specs.World.{start, step, with_client, with_coordinator, with_partition}
use Rattle.kx_laws.proofs.Lists.{All-slice_get}
use Rattle.kx_laws.proofs.Membership.{find_tells}

------ turns

-- what the coordinator does in its turn
pub data CoordinatorTurn (w : World) : Coordinated → Type 0 where
  takes : (store : Store) (m : Message) → Contains w.sent m
      → CoordinatorTurn w (coordinator_takes w.coordinator store m)
  expires_now : (now : ℕ) (store : Store) → CoordinatorTurn w (expires w.coordinator now store)
  reminds_now : CoordinatorTurn w (reminds w.coordinator)
  restarts : (now : ℕ) (how : Reopening)
      → CoordinatorTurn w (coordinator_restarts w.coordinator now how)
  passes : CoordinatorTurn w (w.coordinator, [])

-- what the partition of this number does in its turn
pub data PartitionTurn (w : World) (number : ℕ) (p : Partition) : Served → Type 0 where
  takes : (store : Store) (m : Message) → Contains w.sent m
      → PartitionTurn w number p (node_takes number p store m)
  drops : (group : List ℕ) (member : ℕ) (store : Store) → number ≡ offsets_partition
      → IsName group → IsU32 member
      → PartitionTurn w number p
      ((changed p store (judge_drop (entries_of p) group member)).partition, [])
  puts_values : (value : List ℕ) (values : List (List ℕ)) (store : Store)
      → number ≢ offsets_partition → All IsBytes (value ∷ values)
      → PartitionTurn w number p ((puts p store (plain_text (value ∷ values))).partition, [])
  restarts : (how : Reopening) → PartitionTurn w number p (partition_restarts p how, [])
  passes : PartitionTurn w number p (p, [])

-- what a client does in its turn: the client after it, and what it hands out
pub data ClientTurn (w : World) (c : Client) : Client → List Message → Type 0 where
  commands : (what : Command) (after : Client) (messages : List Message) → IsCommand what
      → command c what ≡ Does after messages → ClientTurn w c after messages
  hears : (m : Message) → Contains w.sent m → ClientTurn w c (take_reply c m) []
  passes : ClientTurn w c c []

-- one node's turn, and the world after it
pub data Turn (w : World) : World → Type 0 where
  nobodys : Turn w w
  coordinators : (clock : ℕ) (s : Coordinated) → CoordinatorTurn w s
      → Turn w (with_coordinator (record w { clock = clock }) s)
  partitions : (number : ℕ) (p : Partition) (s : Served) → partition_at w number ≡ Some p
      → PartitionTurn w number p s → Turn w (with_partition w number s)
  clients : (c after : Client) (messages : List Message) → client_at w c.number ≡ Some c
      → ClientTurn w c after messages → Turn w (with_client w after messages)
  making : (number : ℕ) (txn : Option (List ℕ)) (timeout : ℕ) → is_new number w.clients ≡ true
      → IsU32 number → IfSome txn IsName → IsTimeout timeout
      → Turn w (record w { clients = w.clients ++ new_client number txn timeout ∷ [] })

------ each event is a turn

pub its_number : (w : World) (number : ℕ) (c : Client) → client_at w number ≡ Some c
    → client_at w c.number ≡ Some c
its_number w number c e =
    let (there, same) = find_tells (λ c. c.number == number) w.clients c e in
    let n : c.number ≡ number = grind (arith, nat_tests) in
    ap (client_at w) n ∙ e

-- what is handed to a node: a message that was handed out, or anything else whose names, numbers
-- and bytes are in their ranges
abbrev pub IsHanded : World → Input → Type 0
IsHanded w (Comes m) = Contains w.sent m
IsHanded w input = IsInput input

module _ (w : World) where
  coordinator_is : (store : Store) (input : Input) → IsHanded w input
      → Turn w (at_coordinator w input (coordinator_step w.coordinator store input)).0
  coordinator_is store (Comes m) c =
      coordinators w.clock (coordinator_takes w.coordinator store m)
      (CoordinatorTurn.takes store m c)
  coordinator_is store (Expires now) fits =
      coordinators (max w.clock now) (expires w.coordinator now store) (expires_now now store)
  coordinator_is store Reminds fits = coordinators w.clock (reminds w.coordinator) reminds_now
  coordinator_is store (Restarts now) fits =
      coordinators w.clock (coordinator_restarts w.coordinator now (reopening store))
      (CoordinatorTurn.restarts now (reopening store))
  coordinator_is store (Commands what) fits =
      coordinators w.clock (w.coordinator, []) CoordinatorTurn.passes
  coordinator_is store (Drops group member) fits =
      coordinators w.clock (w.coordinator, []) CoordinatorTurn.passes
  coordinator_is store (Puts value more) fits =
      coordinators w.clock (w.coordinator, []) CoordinatorTurn.passes

  pub partition_turns : (number : ℕ) (p : Partition) (store : Store) (input : Input)
      → IsHanded w input
      → let s = partition_step number p store input in
      PartitionTurn w number p (s.state, s.messages)
  partition_turns number p store (Comes m) c = PartitionTurn.takes store m c
  partition_turns number p store (Drops group member) fits =
      let t = changed p store (judge_drop (entries_of p) group member) in
      cond_both (number == offsets_partition) t.partition p
      (λ q. PartitionTurn w number p (q, []))
      (λ e. drops group member store (grind (arith, nat_tests, e)) fits.0 fits.1)
      (λ e. PartitionTurn.passes)
  partition_turns number p store (Puts value more) fits =
      let t = puts p store (plain_text (value ∷ more)) in
      cond_both (number == offsets_partition) p t.partition
      (λ q. PartitionTurn w number p (q, [])) (λ e. PartitionTurn.passes)
      (λ e. puts_values value more store (grind (arith, nat_tests, e)) fits)
  partition_turns number p store (Restarts now) fits = PartitionTurn.restarts (reopening store)
  partition_turns number p store (Commands what) fits = PartitionTurn.passes
  partition_turns number p store (Expires now) fits = PartitionTurn.passes
  partition_turns number p store Reminds fits = PartitionTurn.passes

  partition_is : (number : ℕ) (store : Store) (input : Input) → IsHanded w input
      → (o : Option Partition) → partition_at w number ≡ o
      → Turn w (at_partition w number store input o).0
  partition_is number store input handed None e = nobodys
  partition_is number store input handed (Some p) e =
      let s = partition_step number p store input in
      partitions number p (s.state, s.messages) e (partition_turns number p store input handed)

  commanded_turns : (c : Client) (what : Command) → IsCommand what → (done : Commanded)
      → command c what ≡ done
      → let s = commanded c done in ClientTurn w c s.state s.messages
  commanded_turns c what fits (Declines fault) e = ClientTurn.passes
  commanded_turns c what fits (Does after messages) e = commands what after messages fits e

  pub client_turns : (c : Client) (input : Input) → IsHanded w input
      → let s = client_step c input in ClientTurn w c s.state s.messages
  client_turns c (Comes m) there = hears m there
  client_turns c (Commands what) fits = commanded_turns c what fits (command c what) refl
  client_turns c (Expires now) fits = ClientTurn.passes
  client_turns c Reminds fits = ClientTurn.passes
  client_turns c (Drops group member) fits = ClientTurn.passes
  client_turns c (Puts value more) fits = ClientTurn.passes
  client_turns c (Restarts now) fits = ClientTurn.passes

  client_is : (number : ℕ) (input : Input) → IsHanded w input → (o : Option Client)
      → client_at w number ≡ o → Turn w (at_client w input o).0
  client_is number input handed None e = nobodys
  client_is number input handed (Some c) e =
      let s = client_step c input in
      clients c s.state s.messages (its_number w number c e) (client_turns c input handed)

  handed_is : (to : NodeId) (store : Store) (input : Input) → IsHanded w input
      → Turn w (handed w to store input).0
  handed_is node.Coordinator store input is = coordinator_is store input is
  handed_is (node.Partition number) store input is =
      partition_is number store input is (partition_at w number) refl
  handed_is (node.Client number) store input is =
      client_is number input is (client_at w number) refl

  delivered_is : (to : NodeId) (store : Store) (o : Option Message) → IfSome o (Contains w.sent)
      → Turn w (delivered w to store o).0
  delivered_is to store None c = nobodys
  delivered_is to store (Some m) c = handed_is to store (Comes m) c

  hand_is : (to : NodeId) (store : Store) (input : Input) → IsInput input
      → Turn w (handed_no_message w to store input).0
  hand_is to store (Comes m) fits = nobodys
  hand_is to store (Commands what) fits = handed_is to store (Commands what) fits
  hand_is to store (Expires now) fits = handed_is to store (Expires now) fits
  hand_is to store Reminds fits = handed_is to store Reminds fits
  hand_is to store (Drops group member) fits = handed_is to store (Drops group member) fits
  hand_is to store (Puts value more) fits = handed_is to store (Puts value more) fits
  hand_is to store (Restarts now) fits = handed_is to store (Restarts now) fits

  make_is : (number : ℕ) (txn : Option (List ℕ)) (timeout : ℕ) → IsU32 number
      → IfSome txn IsName → IsTimeout timeout
      → Turn w (record w {
        clients = cond (is_new number w.clients) (w.clients ++ new_client number txn timeout ∷ [])
            w.clients;
      })
  make_is number txn timeout a b c = at (is_new number w.clients) refl
    where
      at : (new : Bool) → is_new number w.clients ≡ new
          → Turn w (record w {
            clients = cond new (w.clients ++ new_client number txn timeout ∷ []) w.clients;
          })
      at true e = making number txn timeout e a b c
      at false e = nobodys

  pub step_is : (event : Event) → IsEvent event → Turn w (step w event).0
  unfolding step
  step_is (Make number txn timeout) fits = make_is number txn timeout fits.0 fits.1 fits.2
  step_is (Deliver which to store) fits =
      delivered_is to store (slice_get w.sent which)
      (All-slice_get (Contains w.sent) w.sent which (All-contains_itself w.sent))
  step_is (Hand to input store) fits = hand_is to store input fits

------ whole schedules

-- what each turn keeps, a schedule keeps
pub kept_by_turns : (Fact : World → Type 0)
    → ((w later : World) → Fact w → Turn w later → Fact later) → (events : List Event) (w : World)
    → IsSchedule events → Fact w → Fact (run events w)
unfolding run
kept_by_turns Fact keeps [] w fits fact = fact
kept_by_turns Fact keeps (event ∷ events) w fits fact =
    kept_by_turns Fact keeps events (step w event).0 (All-tail IsEvent event events fits)
    (keeps w (step w event).0 fact (step_is w event (All-head IsEvent event events fits)))

pub always : (Fact : World → Type 0) → ((count : ℕ) → Fact (start count))
    → ((w later : World) → Fact w → Turn w later → Fact later) → Always Fact
always Fact first keeps count events fits =
    kept_by_turns Fact keeps events (start count) fits (first count)

------ open schedules

-- a turn, or a client's request arrives from outside
pub data OpenTurn (w : World) : World → Type 0 where
  inside : (later : World) → Turn w later → OpenTurn w later
  arrives : (m : Message) → is_request m ≡ true → IsMessage m
      → OpenTurn w (record w { sent = w.sent ++ m ∷ [] })

pub open_step_is : (w : World) (event : OpenEvent) → IsOpenEvent event
    → OpenTurn w (open_step w event).0
unfolding open_step
open_step_is w (Inside event) fits = inside (step w event).0 (step_is w event fits)
open_step_is w (Arrives m) fits = arrives m fits.0 fits.1

-- what each turn keeps, and each request that arrives, an open schedule keeps
pub kept_by_open_turns : (Fact : World → Type 0)
    → ((w later : World) → Fact w → OpenTurn w later → Fact later) → (events : List OpenEvent)
    (w : World) → IsOpenSchedule events → Fact w → Fact (open_run events w)
unfolding open_run
kept_by_open_turns Fact keeps [] w fits fact = fact
kept_by_open_turns Fact keeps (event ∷ events) w fits fact =
    kept_by_open_turns Fact keeps events (open_step w event).0
    (All-tail IsOpenEvent event events fits)
    (keeps w (open_step w event).0 fact
    (open_step_is w event (All-head IsOpenEvent event events fits)))

pub always_open : (Fact : World → Type 0) → ((count : ℕ) → Fact (start count))
    → ((w later : World) → Fact w → OpenTurn w later → Fact later) → AlwaysOpen Fact
always_open Fact first keeps count events fits =
    kept_by_open_turns Fact keeps events (start count) fits (first count)
