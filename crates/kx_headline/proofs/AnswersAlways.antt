-- Over every open schedule each answer of code 0 can be believed.
use Rattle.std.proofs.Common.{◌≡◌, ℕ, ◌==◌, cond, List, [], ◌∷◌, ◌++◌, Option, Some, None, Contains}
use Rattle.std.proofs.Common.{All, refl, sym, ◌∙◌, subst, append-nil, ◌≤◌}
use Rattle.std.specs.Prelude.{IfSome}
use Rattle.std.proofs.lemmas.Bool.{cond_both}
use Rattle.std.proofs.lemmas.List.Elements.{All-append, All-cons, All-contains, All-map, All-nil}
use Rattle.std.proofs.lemmas.List.Elements.{All-push, All-weaker}
use Rattle.kx_message.specs.Message.{IsMessage}
use Rattle.kx_message.specs.Messages as the
use Rattle.kx_message.specs.declared.code.ErrorCode.TheVariants.{NoError}
use Rattle.kx_message.specs.declared.message.Held.{Held}
use Rattle.kx_message.specs.declared.message.Message.{Message}
use Rattle.kx_message.specs.declared.requests.Caller.{Caller}
use Rattle.kx_model.specs.Answers.{AnswersHold, IsEnded, IsGiven, WasGiven, WasListed}
use Rattle.kx_model.specs.Client.{Client, new_client}
use Rattle.kx_model.specs.Coordinator.{TxnEntry}
use Rattle.kx_model.specs.CoordinatorNode.{notes_of}
use Rattle.kx_model.specs.Open.{AlwaysOpen, open_run}
use Rattle.kx_model.specs.PartitionNode.{Partition, Served, node_takes}
use Rattle.kx_model.specs.Producers.{epoch_of}
use Rattle.kx_model.specs.World.{World, client_at, entries_at, log_at, notes, partition_at, start}
use Rattle.kx_model.specs.World.{with_client}
use Rattle.kx_model.specs.World.{with_coordinator, with_partition}
use Rattle.kx_model.proofs.NodeSteps.{same}
use Rattle.kx_laws.proofs.LogRules.{AtLeast}
use Rattle.kx_laws.proofs.Membership.{find_tells}
use Rattle.kx_headline.proofs.Codes.{OfNext}
use Rattle.kx_headline.proofs.CoordinatorAlways.{stands_sound, turn_does}
use Rattle.kx_headline.proofs.CoordinatorDoes
use Rattle.kx_headline.proofs.CoordinatorDoes.{GivesFirst, GivesNext, Has, Out, Says}
use Rattle.kx_headline.proofs.CoordinatorDoes.{IsCoordinators}
use Rattle.kx_headline.proofs.CoordinatorDoes.{by_allotment, by_row}
use Rattle.kx_headline.proofs.CoordinatorTables.{Listed}
use Rattle.kx_headline.proofs.EventDoes.{ClientTurn, OpenTurn, PartitionTurn, Turn, always_open}
use Rattle.kx_headline.proofs.EventDoes.{arrives}
use Rattle.kx_headline.proofs.EventDoes.{clients, coordinators, drops, inside, making, nobodys}
use Rattle.kx_headline.proofs.EventDoes.{partitions, puts_values, restarts}
use Rattle.kx_headline.proofs.MarkersFit.{markers_fit}
use Rattle.kx_headline.proofs.NamedRequests.{NamesOwn, client_names, coordinators_named}
use Rattle.kx_headline.proofs.NamedRequests.{new_names, partitions_named, ranges_name}
use Rattle.kx_headline.proofs.PartitionAnswers.{AnswerHolds, IsNamed, answer_later, turn_answers}
use Rattle.kx_headline.proofs.PartitionDoes.{IsPaired, node_does}
use Rattle.kx_headline.proofs.PartitionHolds.{PartitionHolds, Waiting, message}
use Rattle.kx_headline.proofs.PartitionsAlways.{Later, PartitionsStand, Promised, logs_after}
use Rattle.kx_headline.proofs.PartitionsAlways.{partitions_arrived, partitions_first}
use Rattle.kx_headline.proofs.PartitionsAlways.{partitions_next, turn_holds}
use Rattle.kx_headline.proofs.SentKinds
use Rattle.kx_headline.proofs.SentKinds.{IsClients, IsPartitions, WaitsForOwn, client_sends}
use Rattle.kx_headline.proofs.SentKinds.{requests_are}
use Rattle.kx_headline.proofs.SentKinds.{turn_sends}

pub record AnswersStand (w : World) : Type 0 where
  pub stand : PartitionsStand w
  pub clients : All NamesOwn w.clients
  pub named : All IsNamed w.sent
  pub answers : All (AnswerHolds w) w.sent

------ messages that answer nothing of a partition

coordinators_answer : (w : World) (m : Message) → IsCoordinators m → AnswerHolds w m
coordinators_answer w m CoordinatorDoes.marker = tt
coordinators_answer w m CoordinatorDoes.add_reply = tt
coordinators_answer w m CoordinatorDoes.init_reply = tt
coordinators_answer w m CoordinatorDoes.end_reply = tt

clients_answer : (w : World) (m : Message) → IsClients m → AnswerHolds w m
clients_answer w m SentKinds.init = tt
clients_answer w m SentKinds.ends = tt
clients_answer w m SentKinds.produce = tt
clients_answer w m SentKinds.commit = tt
clients_answer w m SentKinds.join = tt
clients_answer w m SentKinds.leave = tt
clients_answer w m SentKinds.fetches = tt
clients_answer w m SentKinds.fetches_offset = tt

------ each turn

-- the answers so far go on to hold, and those that are sent now hold too
answers_more : (w later : World) (l : Later w later) → All (AnswerHolds w) w.sent
    → All (AnswerHolds later) l.more → All (AnswerHolds later) later.sent
answers_more w later l old new =
    subst (All (AnswerHolds later)) (sym l.sent)
    (All-append (AnswerHolds later) w.sent l.more
    (All-weaker (AnswerHolds w) (AnswerHolds later) (answer_later w later l) w.sent old) new)

module _ (w : World) (h : AnswersStand w) where
  named_more : (messages : List Message) → All IsNamed messages
      → All IsNamed (w.sent ++ messages)
  named_more messages new = All-append IsNamed w.sent messages h.named new

  partition_answers : (number : ℕ) (p : Partition) (s : Served)
      (there : partition_at w number ≡ Some p) → PartitionTurn w number p s
      → All (AnswerHolds (with_partition w number s)) s.1
  partition_answers number p s there (PartitionTurn.takes store m c) =
      let holds = subst (λ o. IfSome o (PartitionHolds w.sent number)) there
      (h.stand.holds number) in
      let paired = All-weaker (Waiting w.sent number) IsPaired (λ x k. k.paired) p.parked
      holds.parked in
      turn_answers w number p (node_takes number p store m) there (Some m) (message m c) holds
      h.named (node_does number p store m paired)
  partition_answers number p s there (drops group member store at a b) = All-nil _
  partition_answers number p s there (puts_values value values store at fits) = All-nil _
  partition_answers number p s there (restarts how) = All-nil _
  partition_answers number p s there PartitionTurn.passes = All-nil _

  partition_stands : (number : ℕ) (p : Partition) (s : Served)
      (there : partition_at w number ≡ Some p) → PartitionTurn w number p s
      → AnswersStand (with_partition w number s)
  partition_stands number p s there turn =
      let later = with_partition w number s in
      let before = subst (λ o. IfSome o (PartitionHolds w.sent number)) there
      (h.stand.holds number) in
      let t = turn_holds w number p (markers_fit w h.stand.coordinator) before s turn in
      record {
        stand = partitions_next w later h.stand (partitions number p s there turn);
        clients = h.clients;
        named = named_more s.1 (All-weaker IsPartitions IsNamed partitions_named s.1
            (turn_sends w number p s turn));
        answers = answers_more w later (logs_after w number p s there t.grows) h.answers
            (partition_answers number p s there turn);
      }

  client_stands : (c after : Client) (messages : List Message)
      (there : client_at w c.number ≡ Some c) → ClientTurn w c after messages
      → AnswersStand (with_client w after messages)
  client_stands c after messages there turn =
      let at = (find_tells (λ d. d.number == c.number) w.clients c there).0 in
      let later = with_client w after messages in
      let waits = All-contains WaitsForOwn w.clients c h.stand.coordinator.waiting at in
      let (names, named) = client_names w c after messages turn
      (All-contains NamesOwn w.clients c h.clients at) in
      record {
        stand = partitions_next w later h.stand (clients c after messages there turn);
        clients = All-map NamesOwn (λ d. cond (d.number == after.number) after d) w.clients
            (All-weaker NamesOwn (λ d. NamesOwn (cond (d.number == after.number) after d))
            (λ d k. cond_both (d.number == after.number) after d NamesOwn (λ e. names) (λ e. k))
            w.clients h.clients);
        named = named_more messages named;
        answers = answers_more w later
            (record { more = messages; sent = refl; logs = λ q. same (log_at w q) }) h.answers
            (All-weaker IsClients (AnswerHolds later) (clients_answer later) messages
            (client_sends w c after messages turn waits).1);
      }

answers_next : (w later : World) → AnswersStand w → Turn w later → AnswersStand later
answers_next w later h nobodys = h
answers_next w later h (coordinators clock s turn) =
    let d = turn_does w s h.stand.coordinator.coordinator turn in
    let world = with_coordinator (record w { clock = clock }) s in
    record {
      stand = partitions_next w world h.stand (coordinators clock s turn);
      clients = h.clients;
      named = named_more w h s.1 (All-weaker (Out d.client w.sent (notes w) (notes_of s.0)) IsNamed
          (λ m o. coordinators_named m o.kind) s.1 d.out);
      answers = answers_more w world
          (record { more = s.1; sent = refl; logs = λ q. same (log_at w q) }) h.answers
          (All-weaker (Out d.client w.sent (notes w) (notes_of s.0)) (AnswerHolds world)
          (λ m o. coordinators_answer world m o.kind) s.1 d.out);
    }
answers_next w later h (partitions number p s there turn) =
    partition_stands w h number p s there turn
answers_next w later h (clients c after messages there turn) =
    client_stands w h c after messages there turn
answers_next w later h (making number txn timeout new a b c) =
    let world : World = record w { clients = w.clients ++ new_client number txn timeout ∷ [] } in
    record {
      stand = partitions_next w world h.stand (making number txn timeout new a b c);
      clients = All-push NamesOwn w.clients (new_client number txn timeout) h.clients
          (new_names number txn timeout a);
      named = h.named;
      answers = answers_more w world
          (record { more = []; sent = sym (append-nil w.sent); logs = λ q. same (log_at w q) })
          h.answers (All-nil (AnswerHolds world));
    }

answers_arrived : (w : World) (m : Message) → AnswersStand w → IsClients m → IsMessage m
    → AnswersStand (record w { sent = w.sent ++ m ∷ [] })
answers_arrived w m h kind fits =
    let world : World = record w { sent = w.sent ++ m ∷ [] } in
    record {
      stand = partitions_arrived w m h.stand kind;
      clients = h.clients;
      named = named_more w h (m ∷ []) (All-cons IsNamed m [] (ranges_name m fits)
          (All-nil IsNamed));
      answers = answers_more w world
          (record { more = m ∷ []; sent = refl; logs = λ q. same (log_at w q) }) h.answers
          (All-cons (AnswerHolds world) m [] (clients_answer world m kind)
          (All-nil (AnswerHolds world)));
    }

answers_open_next : (w later : World) → AnswersStand w → OpenTurn w later → AnswersStand later
answers_open_next w later h (inside x turn) = answers_next w later h turn
answers_open_next w later h (arrives m asks fits) =
    answers_arrived w m h (requests_are m asks) fits

answers_first : (count : ℕ) → AnswersStand (start count)
answers_first count = record {
  stand = partitions_first count;
  clients = All-nil NamesOwn;
  named = All-nil IsNamed;
  answers = All-nil (AnswerHolds (start count));
}

pub answers_stand_open : AlwaysOpen AnswersStand
answers_stand_open = always_open AnswersStand answers_first answers_open_next

------ what each answer means

was_given : (log : List TxnEntry) (client : ℕ) (txn : Option (List ℕ)) (held : Held)
    → Has log client txn held → WasGiven log client txn held
was_given log client None held (by_row r w o e t) = absurd cc
was_given log client None held (by_allotment w e t) = (w, e)
was_given log client (Some txn) held (by_row r w o e t) =
    (r, w, same_txn r.txn txn (sym t), sym e, o)
  where
    same_txn : (a b : List ℕ) → Some a ≡ Some b → a ≡ b
    same_txn a b e = cc
was_given log client (Some txn) held (by_allotment w e t) = absurd cc

reached : (epoch : ℕ) (o : Option ℕ) → AtLeast epoch o
    → (e : ℕ) × (o ≡ Some e) × epoch ≤ e
reached epoch None h = absurd h
reached epoch (Some e) h = (e, refl, h)

listed_row : (log : List TxnEntry) (partition : ℕ) (held : Held)
    → Listed log partition held.id held.epoch → WasListed log partition held
listed_row log partition held l = (
  l.row,
  l.written,
  λ i. record { id = l.its_id i; epoch = l.its_epoch i },
  l.going,
  l.listed,
)

module _ (w : World) (h : AnswersStand w) where
  says : (m : Message) → Contains w.sent m → Says w.sent (notes w) m
  says m c = All-contains (Says w.sent (notes w)) w.sent m h.stand.coordinator.says c

  holds : (m : Message) → Contains w.sent m → AnswerHolds w m
  holds m c = All-contains (AnswerHolds w) w.sent m h.answers c

  given_pair : (caller : Caller) (answered : Option Held)
      → OfNext NoError answered (GivesFirst w.sent (notes w) caller)
      → (held : Held) × (answered ≡ Some held) × IsGiven w caller held
  given_pair caller None g = absurd g
  given_pair caller (Some held) g = (
    held,
    refl,
    record {
      txn = g.txn;
      timeout = g.timeout;
      sent = g.asked;
      given = was_given (notes w) caller.client g.txn held g.has;
    },
  )

  is_ended : (caller : Caller) (held : Held) → GivesNext w.sent (notes w) caller held
      → IsEnded w caller held
  is_ended caller held g = record {
    txn = g.txn;
    held = g.ending;
    outcome = g.outcome;
    sent = g.asked;
    decided = (stands_sound h.stand.coordinator).decided g.row g.ending.id g.ending.epoch g.written
        g.its_end ∙ g.so;
    row = g.row;
    written = g.written;
    its_txn = g.its_txn;
    its_end = g.its_end;
    next = g.next;
  }

  ended_pair : (caller : Caller) (answered : Option Held)
      → OfNext NoError answered (GivesNext w.sent (notes w) caller)
      → (held : Held) × (answered ≡ Some held) × IsEnded w caller held
  ended_pair caller None g = absurd g
  ended_pair caller (Some held) g = (held, refl, is_ended caller held g)

  -- each answer of 0 can be believed
  pub answers_hold : AnswersHold w
  answers_hold = record {
    produced = λ caller q offset c. holds (the.ProduceReply caller q NoError offset) c;
    committed = λ caller c. holds (the.OffsetsReply caller NoError) c;
    given = λ caller answered c. given_pair caller answered
        (says (the.InitReply caller NoError answered) c);
    ended = λ caller answered c. ended_pair caller answered
        (says (the.EndReply caller NoError answered) c);
    listed = λ q txn held c. listed_row (notes w) q held
        (says (the.AddReply q txn held NoError) c).0;
    marked = λ q txn held c. reached held.epoch (epoch_of (entries_at w q) held.id)
        (All-contains (Promised w) w.sent (the.MarkerReply q txn held NoError) h.stand.promised c);
    fetched = λ caller q next stable end aborted batches c.
        holds (the.FetchReply caller q NoError next stable end aborted batches) c;
    offset_fetched = λ caller offset c. holds (the.OffsetFetchReply caller NoError offset) c;
    joined = λ caller generation place count c.
        holds (the.JoinReply caller NoError generation place count) c;
    left = λ caller c. holds (the.LeaveReply caller NoError) c;
  }

pub answers_hold_open : AlwaysOpen AnswersHold
answers_hold_open count events fits =
    answers_hold (open_run events (start count)) (answers_stand_open count events fits)
