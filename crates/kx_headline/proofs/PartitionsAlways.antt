-- Over every schedule: why each entry stands in each partition's log, and what partitions have
-- promised of their logs.
use Rattle.std.proofs.Common.{◌≡◌, ◌==◌, ℕ, zero, suc, Bool, true, false, cond, List}
use Rattle.std.proofs.Common.{[], ◌∷◌, ◌++◌, Option, Some, None, Contains, All}
use Rattle.std.proofs.Common.{replicate, refl, sym}
use Rattle.std.proofs.Common.{ap, ◌∙◌, subst}
use Rattle.std.specs.Prelude.{IfSome, slice_get, slice_set}
use Rattle.std.proofs.lemmas.Bool.{cond_both}
use Rattle.std.proofs.lemmas.List.{append-nil}
use Rattle.std.proofs.lemmas.List.Elements.{All-append, All-cons, All-contains, All-nil, All-weaker}
use Rattle.std.proofs.lemmas.List.Elements.{Contains-append_left}
use Rattle.kx_message.specs.declared.requests.Caller.{Caller}
use Rattle.std.specs.Bool.{⊤}
use Rattle.kx_headline.proofs.Codes.{WithNoError, with_no_error}
use Rattle.kx_message.specs.Ranges.{offsets_partition}
use Rattle.kx_message.specs.declared.message.Message.{Message}
use Rattle.kx_message.specs.declared.message.Message.TheVariants as msg
use Rattle.kx_model.specs.Client.{value_records}
use Rattle.kx_model.specs.CoordinatorNode.{notes_of}
use Rattle.kx_model.specs.Disk.{GrowsTo}
use Rattle.kx_model.specs.Groups.{judge_drop}
use Rattle.kx_model.specs.Headline.{Always}
use Rattle.kx_model.specs.Open.{AlwaysOpen}
use Rattle.kx_model.specs.Log.{entries}
use Rattle.kx_model.specs.PartitionNode.{Partition, Served, changed, empty_partition, entries_of}
use Rattle.kx_model.specs.PartitionNode.{node_takes, partition_restarts, puts}
use Rattle.kx_model.specs.Producers.{epoch_of}
use Rattle.kx_model.specs.Step.{plain_text}
use Rattle.kx_model.specs.World.{World, entries_at, log_at, log_in, notes, partition_at, start}
use Rattle.kx_model.specs.World.{with_client, with_coordinator, with_partition}
use Rattle.kx_model.proofs.NodeSteps.{same}
use Rattle.kx_model.proofs.Schedules.{closed_from_open, placed_with}
use Rattle.kx_headline.proofs.CoordinatorAlways.{CoordinatorStands, stands_first, stands_next}
use Rattle.kx_headline.proofs.CoordinatorAlways.{stands_arrived, turn_does}
use Rattle.kx_headline.proofs.CoordinatorDoes
use Rattle.kx_headline.proofs.CoordinatorDoes.{IsCoordinators, Out}
use Rattle.kx_headline.proofs.EventDoes.{OpenTurn, PartitionTurn, Turn, always_open, arrives}
use Rattle.kx_headline.proofs.EventDoes.{clients, coordinators, drops, inside}
use Rattle.kx_headline.proofs.EventDoes.{making, nobodys, partitions, puts_values, restarts}
use Rattle.kx_laws.proofs.Membership.{find_tells}
use Rattle.kx_laws.proofs.LogRules.{AtLeast}
use Rattle.kx_headline.proofs.MarkersFit.{markers_fit}
use Rattle.kx_headline.proofs.PartitionDoes.{IsPaired, State, changed_does, made_without_producer}
use Rattle.kx_headline.proofs.PartitionDoes.{node_does, puts_does, restarts_does, was}
use Rattle.kx_headline.proofs.PartitionHolds as holds
use Rattle.kx_headline.proofs.PartitionHolds.{MarkersFit, PartitionHolds, Waiting, asked_later}
use Rattle.kx_headline.proofs.PartitionHolds.{holds_later, message, no_message, state_holds}
use Rattle.kx_headline.proofs.PartitionPromises.{IsStored, Promises, like_stays, reached_stays}
use Rattle.kx_headline.proofs.PartitionPromises.{step_promises}
use Rattle.kx_headline.proofs.SentKinds
use Rattle.kx_headline.proofs.SentKinds.{IsClients, WaitsForOwn, client_sends, requests_are}

-- of each partition of a world
abbrev pub PartitionsHold : World → Type 0
PartitionsHold w = (q : ℕ) → IfSome (partition_at w q) (PartitionHolds w.sent q)

-- a reply of code 0 to a marker means that its epoch is reached there, one to a batch that it
-- stands
abbrev pub Promised : World → Message → Type 0
Promised w (msg.MarkerReply it) =
    WithNoError it.code (AtLeast it.held.epoch (epoch_of (entries_at w it.partition) it.held.id))
Promised w (msg.ProduceReply it) =
    WithNoError it.code (IsStored w.sent it.partition (log_at w it.partition) it.caller)
Promised w (msg.OffsetsReply it) = WithNoError it.code
    (IsStored w.sent offsets_partition (log_at w offsets_partition) it.caller)
Promised w m = ⊤

pub record PartitionsStand (w : World) : Type 0 where
  pub coordinator : CoordinatorStands w
  pub holds : PartitionsHold w
  pub promised : All (Promised w) w.sent

------ one partition's turn

module _ (w : World) (number : ℕ) (p : Partition) (fit : MarkersFit w.sent)
    (before : PartitionHolds w.sent number p) where
  -- what a partition is after its turn, and what its messages promise
  pub record TurnHolds (s : Served) : Type 0 where
    pub after : PartitionHolds w.sent number s.0
    pub grows : GrowsTo p.disk.kept s.0.disk.kept
    pub promises : All (Promises w.sent number s.0.disk.kept) s.1

  paired : All IsPaired p.parked
  paired = All-weaker (Waiting w.sent number) IsPaired (λ x h. h.paired) p.parked before.parked

  as_it_was : State number p None p
  as_it_was = was number p None paired

  pub turn_holds : (s : Served) → PartitionTurn w number p s → TurnHolds s
  turn_holds s (PartitionTurn.takes store m c) =
      let d = node_does number p store m paired in
      let served = node_takes number p store m in
      record {
        after = state_holds w.sent number p (Some m) before (message m c) served.0 d.state;
        grows = d.grows;
        promises = step_promises w.sent number p (Some m) before (message m c) fit served d;
      }
  turn_holds s (drops group member store at a b) =
      let d = changed_does number p None p store (judge_drop (entries_of p) group member)
      as_it_was in
      record {
        after = state_holds w.sent number p None before no_message
            (changed p store (judge_drop (entries_of p) group member)).partition d.state;
        grows = d.grows;
        promises = All-nil (Promises w.sent number _);
      }
  turn_holds s (puts_values value values store at fits) =
      let text = plain_text (value ∷ values) in
      let d = puts_does number p None p store text as_it_was
      (made_without_producer (value_records (value ∷ values))) in
      record {
        after = state_holds w.sent number p None before no_message (puts p store text).partition
            d.state;
        grows = d.grows;
        promises = All-nil (Promises w.sent number _);
      }
  turn_holds s (restarts how) =
      let d = restarts_does number p None how as_it_was in
      record {
        after = state_holds w.sent number p None before no_message (partition_restarts p how)
            d.state;
        grows = d.grows;
        promises = All-nil (Promises w.sent number _);
      }
  turn_holds s PartitionTurn.passes = record {
    after = before;
    grows = same p.disk.kept;
    promises = All-nil (Promises w.sent number _);
  }

------ a later world

pub record Later (w later : World) : Type 0 where
  pub more : List Message
  pub sent : later.sent ≡ w.sent ++ more
  pub logs : (q : ℕ) → GrowsTo (log_at w q) (log_at later q)

module _ (w later : World) (l : Later w later) where
  pub there_later : (m : Message) → Contains w.sent m → Contains later.sent m
  there_later m c =
      subst (λ list. Contains list m) (sym l.sent) (Contains-append_left w.sent l.more m c)

  stored_later : (q : ℕ) (caller : Caller) → IsStored w.sent q (log_at w q) caller
      → IsStored later.sent q (log_at later q) caller
  stored_later q caller s = record {
    request = s.request;
    asked_for = asked_later w.sent later.sent q there_later s.request s.asked_for;
    its_caller = s.its_caller;
    stored = λ d is. like_stays (log_at w q) (log_at later q) d (l.logs q) (s.stored d is);
  }

  promised_later : (m : Message) → Promised w m → Promised later m
  promised_later (msg.MarkerReply it) h =
      let q = it.partition in
      with_no_error it.code
      (reached_stays (log_at w q) (log_at later q) it.held.id it.held.epoch (l.logs q)) h
  promised_later (msg.ProduceReply it) h =
      with_no_error it.code (stored_later it.partition it.caller) h
  promised_later (msg.OffsetsReply it) h =
      with_no_error it.code (stored_later offsets_partition it.caller) h
  promised_later m h = tt

  all_promised : All (Promised w) w.sent → All (Promised later) l.more
      → All (Promised later) later.sent
  all_promised old new =
      subst (All (Promised later)) (sym l.sent)
      (All-append (Promised later) w.sent l.more
      (All-weaker (Promised w) (Promised later) promised_later w.sent old) new)

------ messages that promise nothing of a partition's log

coordinator_promises : (w : World) (m : Message) → IsCoordinators m → Promised w m
coordinator_promises w m CoordinatorDoes.marker = tt
coordinator_promises w m CoordinatorDoes.add_reply = tt
coordinator_promises w m CoordinatorDoes.init_reply = tt
coordinator_promises w m CoordinatorDoes.end_reply = tt

clients_promise : (w : World) (m : Message) → IsClients m → Promised w m
clients_promise w m SentKinds.init = tt
clients_promise w m SentKinds.ends = tt
clients_promise w m SentKinds.produce = tt
clients_promise w m SentKinds.commit = tt
clients_promise w m SentKinds.join = tt
clients_promise w m SentKinds.leave = tt
clients_promise w m SentKinds.fetches = tt
clients_promise w m SentKinds.fetches_offset = tt

------ each turn

-- no partition changes
others_hold : (sent more : List Message) (q : ℕ) (o : Option Partition)
    → IfSome o (PartitionHolds sent q) → IfSome o (PartitionHolds (sent ++ more) q)
others_hold sent more q None h = tt
others_hold sent more q (Some p) h =
    holds_later sent (sent ++ more) q (Contains-append_left sent more) p h

set_there : {A : Type 0} (items : List A) (i : ℕ) (new old : A) → slice_get items i ≡ Some old
    → slice_get (slice_set items i new) i ≡ Some new
set_there [] i new old e = absurd cc
set_there (x ∷ items) zero new old e = refl
set_there (x ∷ items) (suc i) new old e = set_there items i new old e

-- the partition that changed is there
pub changed_there : (w : World) (number : ℕ) (p : Partition) (s : Served)
    → partition_at w number ≡ Some p → partition_at (with_partition w number s) number ≡ Some s.0
changed_there w number p s there = at (number == offsets_partition) there
  where
    at : (b : Bool) → cond b (Some w.offsets) (slice_get w.partitions number) ≡ Some p
        → cond b (Some (cond b s.0 w.offsets))
        (slice_get (cond b w.partitions (slice_set w.partitions number s.0)) number) ≡ Some s.0
    at true e = refl
    at false e = set_there w.partitions number s.0 p e

module _ (w : World) (number : ℕ) (p : Partition) (s : Served)
    (there : partition_at w number ≡ Some p) where
  abbrev pub after : World
  after = with_partition w number s

  pub log_is : s.0.disk.kept ≡ log_at after number
  log_is = sym (ap log_in (changed_there w number p s there))

  is_there : (q : ℕ) (caller : Caller) → q ≡ number
      → IsStored w.sent number s.0.disk.kept caller
      → IsStored after.sent q (log_at after q) caller
  is_there q caller e h =
      subst (λ n. IsStored after.sent n (log_at after n) caller) (sym e) (record {
        request = h.request;
        asked_for = asked_later w.sent after.sent number (Contains-append_left w.sent s.1)
            h.request h.asked_for;
        its_caller = h.its_caller;
        stored = λ d is.
            like_stays s.0.disk.kept (log_at after number) d
            (record { more = []; parts = sym log_is ∙ sym (append-nil s.0.disk.kept) })
            (h.stored d is);
      })

  node_promised : (m : Message) → Promises w.sent number s.0.disk.kept m → Promised after m
  node_promised (msg.MarkerReply it) said =
      let held = it.held in
      with_no_error it.code (λ h.
      subst (λ n. AtLeast held.epoch (epoch_of (entries_at after n) held.id)) (sym h.0)
      (subst (λ log. AtLeast held.epoch (epoch_of (entries log) held.id)) log_is h.1)) said
  node_promised (msg.ProduceReply it) said =
      with_no_error it.code (λ h. is_there it.partition it.caller h.0 h.1) said
  node_promised (msg.OffsetsReply it) said =
      with_no_error it.code (λ h. is_there offsets_partition it.caller h.0 h.1) said
  node_promised m h = tt

  abbrev pub logs_after : GrowsTo p.disk.kept s.0.disk.kept → Later w after
  logs_after grows = record {
    more = s.1;
    sent = refl;
    logs = λ q.
        placed_with w number s (λ o. GrowsTo (log_at w q) (log_in o)) q
        (λ e. subst (λ n. GrowsTo (log_in (partition_at w n)) s.0.disk.kept) (sym e)
        (subst (λ o. GrowsTo (log_in o) s.0.disk.kept) (sym there) grows))
        (same (log_at w q));
  }

module _ (w : World) (h : PartitionsStand w) where
  -- messages of another node, which changes no log
  still : (later : World) (messages : List Message) → CoordinatorStands later
      → ((q : ℕ) → partition_at later q ≡ partition_at w q) → later.sent ≡ w.sent ++ messages
      → All (Promised later) messages → PartitionsStand later
  still later messages stands parts sent new = record {
    coordinator = stands;
    holds = λ q.
        subst (λ o. IfSome o (PartitionHolds later.sent q)) (sym (parts q))
        (subst (λ l. IfSome (partition_at w q) (PartitionHolds l q)) (sym sent)
        (others_hold w.sent messages q (partition_at w q) (h.holds q)));
    promised = all_promised w later (record {
      more = messages;
      sent = sent;
      logs = λ q. subst (λ o. GrowsTo (log_at w q) (log_in o)) (sym (parts q))
          (same (log_at w q));
    }) h.promised new;
  }

  partition_stands : (number : ℕ) (p : Partition) (s : Served)
      → partition_at w number ≡ Some p → CoordinatorStands (with_partition w number s)
      → PartitionTurn w number p s → PartitionsStand (with_partition w number s)
  partition_stands number p s there stands turn =
      let fit = markers_fit w h.coordinator in
      let before = subst (λ o. IfSome o (PartitionHolds w.sent number)) there (h.holds number) in
      let t = turn_holds w number p fit before s turn in
      record {
        coordinator = stands;
        holds = λ q.
            placed_with w number s (λ o. IfSome o (PartitionHolds (w.sent ++ s.1) q)) q
            (λ e. subst (λ n. PartitionHolds (w.sent ++ s.1) n s.0) (sym e)
            (holds_later w.sent (w.sent ++ s.1) number (Contains-append_left w.sent s.1) s.0
            t.after))
            (others_hold w.sent s.1 q (partition_at w q) (h.holds q));
        promised = all_promised w (with_partition w number s)
            (logs_after w number p s there t.grows) h.promised
            (All-weaker (Promises w.sent number s.0.disk.kept)
            (Promised (with_partition w number s)) (node_promised w number p s there) s.1
            t.promises);
      }

pub partitions_next : (w later : World) → PartitionsStand w → Turn w later → PartitionsStand later
partitions_next w later h nobodys = h
partitions_next w later h (coordinators clock s turn) =
    let d = turn_does w s h.coordinator.coordinator turn in
    let after = with_coordinator (record w { clock = clock }) s in
    still w h after s.1 (stands_next w after h.coordinator (coordinators clock s turn))
    (λ q. refl) refl
    (All-weaker (Out d.client w.sent (notes w) (notes_of s.0)) (Promised after)
    (λ m o. coordinator_promises after m o.kind) s.1 d.out)
partitions_next w later h (partitions number p s there turn) =
    partition_stands w h number p s there
    (stands_next w (with_partition w number s) h.coordinator (partitions number p s there turn))
    turn
partitions_next w later h (clients c after messages there turn) =
    let at = (find_tells (λ d. d.number == c.number) w.clients c there).0 in
    let waits = All-contains WaitsForOwn w.clients c h.coordinator.waiting at in
    let world = with_client w after messages in
    still w h world messages
    (stands_next w world h.coordinator (clients c after messages there turn)) (λ q. refl) refl
    (All-weaker IsClients (Promised world) (clients_promise world) messages
    (client_sends w c after messages turn waits).1)
partitions_next w later h (making number txn timeout new a b c) = record {
  coordinator = stands_next w _ h.coordinator (making number txn timeout new a b c);
  holds = h.holds;
  promised = h.promised;
}

------ the start

at_start : (number : ℕ) → PartitionHolds [] number empty_partition
at_start number = record {
  log = holds.start;
  hidden = holds.nothing;
  parked = All-nil (Waiting [] number);
}

start_at : (count q number : ℕ)
    → IfSome (slice_get (replicate count empty_partition) q) (PartitionHolds [] number)
start_at zero q number = tt
start_at (suc count) zero number = at_start number
start_at (suc count) (suc q) number = start_at count q number

pub partitions_first : (count : ℕ) → PartitionsStand (start count)
partitions_first count = record {
  coordinator = stands_first count;
  holds = λ q.
      cond_both (q == offsets_partition) (Some empty_partition)
      (slice_get (replicate count empty_partition) q) (λ o. IfSome o (PartitionHolds [] q))
      (λ e. at_start q) (λ e. start_at count q q);
  promised = All-nil (Promised (start count));
}

------ open schedules

-- a client's request arrives from outside
pub partitions_arrived : (w : World) (m : Message) → PartitionsStand w → IsClients m
    → PartitionsStand (record w { sent = w.sent ++ m ∷ [] })
partitions_arrived w m h kind =
    let later : World = record w { sent = w.sent ++ m ∷ [] } in
    still w h later (m ∷ []) (stands_arrived w m h.coordinator kind) (λ q. refl) refl
    (All-cons (Promised later) m [] (clients_promise later m kind) (All-nil (Promised later)))

partitions_open_next : (w later : World) → PartitionsStand w → OpenTurn w later
    → PartitionsStand later
partitions_open_next w later h (inside x turn) = partitions_next w later h turn
partitions_open_next w later h (arrives m asks fits) =
    partitions_arrived w m h (requests_are m asks)

pub partitions_stand_open : AlwaysOpen PartitionsStand
partitions_stand_open = always_open PartitionsStand partitions_first partitions_open_next

pub partitions_stand_always : Always PartitionsStand
partitions_stand_always = closed_from_open PartitionsStand partitions_stand_open
