-- An event that is no processor's turn: a node takes its turn, or a client that is no processor;
-- and what such a turn leaves of what is said to a processor.
use Rattle.std.proofs.Common.{◌≡◌, ◌⊎◌, ◌<◌, ℕ, max, Bool, true, false, cond, List, [], ◌∷◌, ◌++◌}
use Rattle.std.proofs.Common.{map, Option, Some, None, Contains, All, refl, sym, ap, ◌∙◌, subst}
use Rattle.std.proofs.Common.{arith, inl}
use Rattle.std.proofs.Common.{inr, ⊎_elim, ◌==◌, slice_get, find, append-nil, nat_lt}
use Rattle.std.specs.Prelude.{IfSome}
use Rattle.std.proofs.lemmas.Bool.{cond_both}
use Rattle.std.proofs.lemmas.Bool.Decides.{nat_tests}
use Rattle.std.proofs.lemmas.List.{map-append}
use Rattle.std.proofs.lemmas.List.Elements.{All-contains, All-contains_itself, All-nil, All-weaker}
use Rattle.std.proofs.lemmas.List.Elements.{Contains-append_left, Contains-push_cases}
use Rattle.kx_message.specs.Message.{IsU32}
use Rattle.kx_message.specs.Messages as the
use Rattle.kx_message.specs.Messages.{caller_with}
use Rattle.kx_message.specs.Ranges.{IsName, IsTimeout, offsets_partition}
use Rattle.kx_message.specs.declared.code.ErrorCode.TheVariants as code
use Rattle.kx_message.specs.declared.message.Message.{Message}
use Rattle.kx_message.specs.declared.message.NodeId.{NodeId}
use Rattle.kx_message.specs.declared.message.NodeId.TheVariants as node
use Rattle.kx_message.specs.declared.requests.TxnOffsetCommit.{TxnOffsetCommit}
use Rattle.kx_model.specs.Client.{Client, new_client}
use Rattle.kx_model.specs.CoordinatorNode.{Coordinated, coordinator_restarts, coordinator_takes}
use Rattle.kx_model.specs.CoordinatorNode.{expires, notes_of, reminds}
use Rattle.kx_model.specs.Disk.{Store, reopening}
use Rattle.kx_model.specs.Log.{Entry, entries, entry_of}
use Rattle.kx_model.specs.PartitionNode.{Partition, Served}
use Rattle.kx_model.specs.Step.{Input, Comes, Commands, Expires, Reminds, Drops, Puts, Restarts}
use Rattle.kx_model.specs.Step.{client_step, coordinator_step, partition_step}
use Rattle.kx_model.specs.World.{Event, IsEvent, IsInput, World, Make, Deliver, Hand, at_client}
use Rattle.kx_model.specs.World.{at_coordinator, at_partition, client_at, delivered, entries_at}
use Rattle.kx_model.specs.World.{handed}
use Rattle.kx_model.specs.World.{handed_no_message, is_new, log_at, notes, partition_at, step}
use Rattle.kx_model.specs.World.{with_client, with_coordinator, with_partition}
use Rattle.kx_headline.proofs.ClientHolds.{HoldsOwn, turn_holds}
use Rattle.kx_headline.proofs.ClientRequests.{Knows, sender}
use Rattle.kx_headline.proofs.CoordinatorAlways.{turn_does}
use Rattle.kx_headline.proofs.CoordinatorDoes.{Out}
use Rattle.kx_headline.proofs.EventDoes
use Rattle.kx_headline.proofs.EventDoes.{ClientTurn, CoordinatorTurn, IsHanded, PartitionTurn}
use Rattle.kx_headline.proofs.EventDoes.{client_turns, its_number, partition_turns}
use Rattle.kx_headline.proofs.RequestsAlways.{OfNobody, coordinator_sends, partitions_send}
use Rattle.kx_headline.proofs.RequestsAlways.{turn_moves}
use Rattle.kx_headline.proofs.SentKinds.{IsPartitions, turn_sends}
use Rattle.kx_laws.proofs.Lists.{All-slice_get, list_all_tells}
use Rattle.kx_laws.proofs.Membership.{cons_cases, find_tells, map_holds, no_element}
use Rattle.kx_system.proofs.ChangedClients.{found_number}
use Rattle.kx_system.specs.Processor.{Processing}
use Rattle.kx_system.specs.System.{System, processing_at, turn_at, turn_delivered, turn_handed}
use Rattle.kx_system.specs.System.{turn_of, turn_with}
use Rattle.kx_pipeline.proofs.NewReplies.{new_says}
use Rattle.kx_pipeline.proofs.OffsetsSay.{RefusedBetween}
use Rattle.kx_pipeline.proofs.ProcessorTurns.{Facts}
use Rattle.kx_pipeline.proofs.ProcessorWorks.{Between, Onward, as_refused}
use Rattle.kx_pipeline.proofs.RepliesStand.{entries_grow, sent_stays}

-- a processor has this number
abbrev pub IsNumbered : System → ℕ → Type 0
IsNumbered s n = (p : Processing) × Contains s.processors p × (p.number ≡ n)

------ turns of others

pub data Quiet (s : System) : World → Type 0 where
  still : Quiet s s.world
  by_coordinator : (clock : ℕ) (r : Coordinated) → CoordinatorTurn s.world r
      → Quiet s (with_coordinator (record s.world { clock = clock }) r)
  by_partition : (number : ℕ) (p : Partition) (r : Served)
      → partition_at s.world number ≡ Some p → PartitionTurn s.world number p r
      → Quiet s (with_partition s.world number r)
  by_client : (c after : Client) (messages : List Message)
      → client_at s.world c.number ≡ Some c → ClientTurn s.world c after messages
      → (IsNumbered s c.number → ⊥) → Quiet s (with_client s.world after messages)
  by_making : (number : ℕ) (txn : Option (List ℕ)) (timeout : ℕ)
      → is_new number s.world.clients ≡ true → IsU32 number → IfSome txn IsName
      → IsTimeout timeout
      → Quiet s (record s.world { clients = s.world.clients ++ new_client number txn timeout ∷ [] })

pub turn_is : (s : System) (later : World) → Quiet s later → EventDoes.Turn s.world later
turn_is s later still = EventDoes.nobodys
turn_is s later (by_coordinator clock r t) = EventDoes.coordinators clock r t
turn_is s later (by_partition number p r there t) = EventDoes.partitions number p r there t
turn_is s later (by_client c after messages there t none) =
    EventDoes.clients c after messages there t
turn_is s later (by_making number txn timeout new a b d) =
    EventDoes.making number txn timeout new a b d

-- where nothing is found nothing passes
find_none : {A : Type 0} (test : A → Bool) (list : List A) (x : A) → Contains list x
    → test x ≡ true → find test list ≡ None → ⊥
find_none test [] x c is none = no_element x c
find_none test (y ∷ list) x c is none = by (test y) refl none (find_none test list x)
  where
    by : (b : Bool) → test y ≡ b → find test (y ∷ list) ≡ None
        → (Contains list x → test x ≡ true → find test list ≡ None → ⊥) → ⊥
    by true e none more = let some : find test (y ∷ list) ≡ Some y = rw e refl in
        absurd (let both = sym some ∙ none in cc)
    by false e none more =
        let rest : find test list ≡ find test (y ∷ list) = rw e refl in
        ⊎_elim (λ same. absurd (let no_test = sym e ∙ ap test same ∙ is in cc))
        (λ there. more there is (rest ∙ none)) (cons_cases y x list c)

module _ (s : System) where
  abbrev w : World
  w = s.world

  coordinator_quiet : (store : Store) (input : Input) → IsHanded w input
      → Quiet s (at_coordinator w input (coordinator_step w.coordinator store input)).0
  coordinator_quiet store (Comes m) c =
      by_coordinator w.clock (coordinator_takes w.coordinator store m)
      (CoordinatorTurn.takes store m c)
  coordinator_quiet store (Expires now) fits =
      by_coordinator (max w.clock now) (expires w.coordinator now store)
      (CoordinatorTurn.expires_now now store)
  coordinator_quiet store Reminds fits =
      by_coordinator w.clock (reminds w.coordinator) CoordinatorTurn.reminds_now
  coordinator_quiet store (Restarts now) fits =
      by_coordinator w.clock (coordinator_restarts w.coordinator now (reopening store))
      (CoordinatorTurn.restarts now (reopening store))
  coordinator_quiet store (Commands what) fits =
      by_coordinator w.clock (w.coordinator, []) CoordinatorTurn.passes
  coordinator_quiet store (Drops group member) fits =
      by_coordinator w.clock (w.coordinator, []) CoordinatorTurn.passes
  coordinator_quiet store (Puts value more) fits =
      by_coordinator w.clock (w.coordinator, []) CoordinatorTurn.passes

  partition_quiet : (number : ℕ) (store : Store) (input : Input) → IsHanded w input
      → (o : Option Partition) → partition_at w number ≡ o
      → Quiet s (at_partition w number store input o).0
  partition_quiet number store input is None e = still
  partition_quiet number store input is (Some p) e =
      let r = partition_step number p store input in
      by_partition number p (r.state, r.messages) e (partition_turns w number p store input is)

  -- nobody of the processors has a number that isn't found
  none_numbered : (n : ℕ) → processing_at s n ≡ None → IsNumbered s n → ⊥
  none_numbered n e x =
      find_none (λ (q : Processing). q.number == n) s.processors x.0 x.1
      (grind (arith, nat_tests, x.2)) e

  client_quiet : (number : ℕ) (input : Input) → IsHanded w input → (o : Option Client)
      → client_at w number ≡ o → (q : Option Processing) → processing_at s number ≡ q
      → turn_with input o q ≡ None → Quiet s (at_client w input o).0
  client_quiet number input is None e q f none = still
  client_quiet number input is (Some c) e None f none =
      let r = client_step c input in
      let same = its_number w number c e in
      by_client c r.state r.messages same (client_turns w c input is)
      (λ numbered. none_numbered number f
      (subst (IsNumbered s) (found_number w number c e) numbered))
  client_quiet number input is (Some c) e (Some p) f none = absurd cc

  handed_quiet : (to : NodeId) (store : Store) (input : Input) → IsHanded w input
      → turn_at s to input ≡ None → Quiet s (handed w to store input).0
  handed_quiet node.Coordinator store input is none = coordinator_quiet store input is
  handed_quiet (node.Partition number) store input is none =
      partition_quiet number store input is (partition_at w number) refl
  handed_quiet (node.Client number) store input is none =
      client_quiet number input is (client_at w number) refl (processing_at s number) refl none

  delivered_quiet : (to : NodeId) (store : Store) (o : Option Message)
      → IfSome o (Contains w.sent) → turn_delivered s to o ≡ None
      → Quiet s (delivered w to store o).0
  delivered_quiet to store None c none = still
  delivered_quiet to store (Some m) c none = handed_quiet to store (Comes m) c none

  hand_quiet : (to : NodeId) (store : Store) (input : Input) → IsInput input
      → turn_handed s to input ≡ None → Quiet s (handed_no_message w to store input).0
  hand_quiet to store (Comes m) fits none = still
  hand_quiet to store (Commands what) fits none = handed_quiet to store (Commands what) fits none
  hand_quiet to store (Expires now) fits none = handed_quiet to store (Expires now) fits none
  hand_quiet to store Reminds fits none = handed_quiet to store Reminds fits none
  hand_quiet to store (Drops group member) fits none =
      handed_quiet to store (Drops group member) fits none
  hand_quiet to store (Puts value more) fits none =
      handed_quiet to store (Puts value more) fits none
  hand_quiet to store (Restarts now) fits none = handed_quiet to store (Restarts now) fits none

  make_quiet : (number : ℕ) (txn : Option (List ℕ)) (timeout : ℕ) → IsU32 number
      → IfSome txn IsName → IsTimeout timeout → (new : Bool) → is_new number w.clients ≡ new
      → Quiet s (record w {
        clients = cond new (w.clients ++ new_client number txn timeout ∷ []) w.clients;
      })
  make_quiet number txn timeout a b c true e = by_making number txn timeout e a b c
  make_quiet number txn timeout a b c false e = still

  -- an event that is no processor's turn
  pub quiet_is : (event : Event) → IsEvent event → turn_of s event ≡ None
      → Quiet s (step w event).0
  unfolding step
  quiet_is (Make number txn timeout) fits none =
      make_quiet number txn timeout fits.0 fits.1 fits.2 (is_new number w.clients) refl
  quiet_is (Deliver which to store) fits none =
      delivered_quiet to store (slice_get w.sent which)
      (All-slice_get (Contains w.sent) w.sent which (All-contains_itself w.sent)) none
  quiet_is (Hand to input store) fits none = hand_quiet to store input fits none

------ what it leaves

-- each processor is a client
abbrev pub AreClients : System → Type 0
AreClients s =
    (p : Processing) → Contains s.processors p
    → Contains (map (λ (c : Client). c.number) s.world.clients) p.number

pub record QuietDoes (s : System) (later : World) : Type 0 where
  pub messages : List Message
  pub whole : later.sent ≡ s.world.sent ++ messages
  -- none of the messages is a processor's, and no client that is one changes
  pub senders : (m : Message) → Contains messages m → (n : ℕ) → sender m ≡ Some n
      → IsNumbered s n → ⊥
  pub clients : (d : Client) → Contains later.clients d
      → Contains s.world.clients d ⊎ (IsNumbered s d.number → ⊥)
  pub numbers : (n : ℕ) → Contains (map (λ (c : Client). c.number) s.world.clients) n
      → Contains (map (λ (c : Client). c.number) later.clients) n

-- numbers stay if a client is replaced by itself later
pub numbers_stay : (after : Client) (l : List Client)
    → map (λ (d : Client). d.number)
    (map (λ (d : Client). cond (d.number == after.number) after d) l)
    ≡ map (λ (d : Client). d.number) l
numbers_stay after [] = refl
numbers_stay after (d ∷ l) =
    λ i. cond_both (d.number == after.number) after d
    (λ (x : Client). x.number ≡ d.number) (λ e. grind (arith, nat_tests)) (λ e. refl) i
    ∷ numbers_stay after l i

-- the number of a new client is no processor's
pub new_number : (s : System) → AreClients s → (number : ℕ)
    → is_new number s.world.clients ≡ true → IsNumbered s number → ⊥
new_number s known number new (p, there, same) =
    let (c, at, is) = map_holds (λ (c : Client). c.number) s.world.clients p.number
    (known p there) in
    let low = list_all_tells (λ (d : Client). nat_lt d.number number) s.world.clients c new at in
    let lower : c.number < number = grind (arith, nat_tests, low) in
    omega (arith, lower, is, same)

pub some_is : (a b : ℕ) → Some a ≡ Some b → a ≡ b
some_is a b e = cc

module _ (s : System) (f : Facts s.world) (known : AreClients s) where
  nobodys : (later : World) (messages : List Message) → later.sent ≡ s.world.sent ++ messages
      → All OfNobody messages → later.clients ≡ s.world.clients → QuietDoes s later
  nobodys later messages whole none same = record {
    messages = messages;
    whole = whole;
    senders = λ m there n e numbered.
        let no_sender = All-contains OfNobody messages m none there in
        absurd (let both = sym no_sender ∙ e in cc);
    clients = λ d there. inl (subst (λ l. Contains l d) same there);
    numbers = λ n there.
        subst (λ l. Contains (map (λ (c : Client). c.number) l) n) (sym same) there;
  }

  pub quiet_does : (later : World) → Quiet s later → QuietDoes s later
  quiet_does later still =
      nobodys s.world [] (sym (append-nil s.world.sent)) (All-nil OfNobody) refl
  quiet_does later (by_coordinator clock r t) =
      let d = turn_does s.world r f.requests.holders.stands.coordinator t in
      nobodys _ r.1 refl
      (All-weaker (Out d.client s.world.sent (notes s.world) (notes_of r.0)) OfNobody
      (λ m o. coordinator_sends m o.kind) r.1 d.out) refl
  quiet_does later (by_partition number p r there t) =
      nobodys _ r.1 refl
      (All-weaker IsPartitions OfNobody partitions_send r.1 (turn_sends s.world number p r t)) refl
  quiet_does later (by_client c after messages there t none) =
      let at = (find_tells (λ d. d.number == c.number) s.world.clients c there).0 in
      let mine = All-contains (HoldsOwn s.world.sent) s.world.clients c
      f.requests.holders.clients at in
      let number = (turn_holds s.world c after messages mine t).1 in
      let moved = turn_moves s.world f.requests c after messages
      (All-contains (Knows s.world.sent) s.world.clients c f.requests.clients at) mine number t in
      record {
        messages = messages;
        whole = refl;
        senders = λ m sent n e numbered.
            let own : sender m ≡ Some c.number =
            ⊎_elim (λ old. old.1) (λ new. new.0) (moved.out m sent) in
            none (subst (IsNumbered s) (some_is n c.number (sym e ∙ own)) numbered);
        clients = λ d sent. changed d sent number;
        numbers = λ n sent.
            subst (λ l. Contains l n) (sym (numbers_stay after s.world.clients)) sent;
      }
    where
      changed : (d : Client)
          → Contains (map (λ (x : Client). cond (x.number == after.number) after x)
          s.world.clients) d → after.number ≡ c.number
          → Contains s.world.clients d ⊎ (IsNumbered s d.number → ⊥)
      changed d sent number =
          let (x, at, is) = map_holds (λ (x : Client). cond (x.number == after.number) after x)
          s.world.clients d sent in
          subst (λ y. Contains s.world.clients y ⊎ (IsNumbered s y.number → ⊥)) is
          (cond_both (x.number == after.number) after x
          (λ (y : Client). Contains s.world.clients y ⊎ (IsNumbered s y.number → ⊥))
          (λ e. inr (λ numbered. none (subst (IsNumbered s) number numbered)))
          (λ e. inl at))
  quiet_does later (by_making number txn timeout new a b d) = record {
    messages = [];
    whole = sym (append-nil s.world.sent);
    senders = λ m there. absurd (no_element m there);
    clients = λ c there.
        ⊎_elim inl
        (λ same. inr (λ numbered. new_number s known number new
        (subst (IsNumbered s) (sym (ap (λ (x : Client). x.number) same)) numbered)))
        (Contains-push_cases s.world.clients (new_client number txn timeout) c there);
    numbers = λ n there.
        subst (λ l. Contains l n)
        (sym (map-append (λ (c : Client). c.number) s.world.clients
        (new_client number txn timeout ∷ [])))
        (Contains-append_left (map (λ (c : Client). c.number) s.world.clients) (number ∷ []) n
        there);
  }

------ what is said to a processor

module _ (w later : World) (f : Facts w) (turn : EventDoes.Turn w later) where
  abbrev log : List Entry
  log = entries_at w offsets_partition

  abbrev grown : List Entry
  grown = entries_at later offsets_partition

  between : (n : TxnOffsetCommit) → RefusedBetween (log_at w offsets_partition)
      (log_at later offsets_partition) n → Between log grown n
  between n r = record {
    judged = entries r.log;
    since = entries r.behind.more;
    behind = entries r.before.more;
    from = ap entries r.behind.parts
        ∙ map-append entry_of (log_at w offsets_partition) r.behind.more;
    to = ap entries r.before.parts ∙ map-append entry_of r.log r.before.more;
    refuses = r.refuses;
  }

  pub onward : (messages : List Message) → later.sent ≡ w.sent ++ messages → (n : ℕ)
      → ((m : Message) → Contains messages m → sender m ≡ Some n → Contains w.sent m)
      → Onward w.sent later.sent log grown n
  onward messages whole n back = record {
    messages = messages;
    whole = whole;
    back = back;
    up = sent_stays w later turn;
    more = (entries_grow w later f.replies.partitions turn).0;
    longer = (entries_grow w later f.replies.partitions turn).1;
    located = λ k offset there.
        ⊎_elim inl (λ said. inr (
          said.group,
          said.partition,
          said.stable,
          said.asked,
          said.its_code,
          said.its_offset,
        ))
        (new_says w f.replies.partitions later turn
        (the.OffsetFetchReply (caller_with n k) code.NoError offset) there);
    refusals = λ caller x there.
        ⊎_elim inl (λ said. inr (
          said.commit,
          said.asked,
          said.its_caller,
          as_refused x (between said.commit) said.refused,
        ))
        (new_says w f.replies.partitions later turn (the.OffsetsReply caller x) there);
  }
