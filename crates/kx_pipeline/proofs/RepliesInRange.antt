-- Over every schedule the numbers in replies are in their ranges: a client can send them again.
use Rattle.std.proofs.Common.{◌==◌, All, subst}
use Rattle.std.proofs.lemmas.List.Elements.{All-append, All-contains, All-nil, All-push}
use Rattle.std.proofs.lemmas.List.Elements.{All-weaker}
use Rattle.kx_message.specs.declared.message.Message.{Message}
use Rattle.kx_model.specs.CoordinatorNode.{notes_of}
use Rattle.kx_model.specs.Headline.{Always}
use Rattle.kx_model.specs.Open.{AlwaysOpen}
use Rattle.kx_model.specs.World.{World, log_in, notes}
use Rattle.kx_model.proofs.Schedules.{closed_from_open}
use Rattle.kx_laws.specs.Grown.{IsGrown}
use Rattle.kx_laws.proofs.Membership.{find_tells}
use Rattle.kx_headline.proofs.CoordinatorAlways.{turn_does}
use Rattle.kx_headline.proofs.CoordinatorDoes.{IsCoordinators, Out}
use Rattle.kx_headline.proofs.CoordinatorDoes
use Rattle.kx_headline.proofs.EventDoes.{OpenTurn, Turn, always_open, arrives, clients}
use Rattle.kx_headline.proofs.EventDoes.{coordinators, inside, making, nobodys, partitions}
use Rattle.kx_headline.proofs.MarkersFit.{markers_fit}
use Rattle.kx_headline.proofs.PartitionsAlways.{PartitionsStand, partitions_arrived}
use Rattle.kx_headline.proofs.PartitionsAlways.{partitions_first, partitions_next}
use Rattle.kx_headline.proofs.SentKinds.{IsClients, WaitsForOwn, client_sends, requests_are}
use Rattle.kx_headline.proofs.SentKinds
use Rattle.kx_headline.proofs.WorldReaders.{grown_at}
use Rattle.kx_pipeline.proofs.PartitionReplies.{InRange, turn_sends}

------ messages without such numbers

coordinators_in_range : (m : Message) → IsCoordinators m → InRange m
coordinators_in_range m CoordinatorDoes.marker = tt
coordinators_in_range m CoordinatorDoes.add_reply = tt
coordinators_in_range m CoordinatorDoes.init_reply = tt
coordinators_in_range m CoordinatorDoes.end_reply = tt

clients_in_range : (m : Message) → IsClients m → InRange m
clients_in_range m SentKinds.init = tt
clients_in_range m SentKinds.ends = tt
clients_in_range m SentKinds.produce = tt
clients_in_range m SentKinds.commit = tt
clients_in_range m SentKinds.join = tt
clients_in_range m SentKinds.leave = tt
clients_in_range m SentKinds.fetches = tt
clients_in_range m SentKinds.fetches_offset = tt

------ each turn

-- what is known of a world to which an open schedule leads
record Stands (w : World) : Type 0 where
  partitions : PartitionsStand w
  sent : All InRange w.sent

sent_next : (w later : World) → Stands w → Turn w later → All InRange later.sent
sent_next w later h nobodys = h.sent
sent_next w later h (coordinators clock s turn) =
    let d = turn_does w s h.partitions.coordinator.coordinator turn in
    All-append InRange w.sent s.1 h.sent
    (All-weaker (Out d.client w.sent (notes w) (notes_of s.0)) InRange
    (λ m o. coordinators_in_range m o.kind) s.1 d.out)
sent_next w later h (partitions number p s there turn) =
    let all = grown_at w number h.partitions.holds (markers_fit w h.partitions.coordinator) in
    let grown : IsGrown p.disk.kept = subst (λ o. IsGrown (log_in o)) there all in
    All-append InRange w.sent s.1 h.sent (turn_sends w number p s grown turn)
sent_next w later h (clients c after messages there turn) =
    let at = (find_tells (λ d. d.number == c.number) w.clients c there).0 in
    let waits = All-contains WaitsForOwn w.clients c h.partitions.coordinator.waiting at in
    All-append InRange w.sent messages h.sent
    (All-weaker IsClients InRange clients_in_range messages
    (client_sends w c after messages turn waits).1)
sent_next w later h (making number txn timeout new a b c) = h.sent

stands_next : (w later : World) → Stands w → OpenTurn w later → Stands later
stands_next w later h (inside x turn) = record {
  partitions = partitions_next w later h.partitions turn;
  sent = sent_next w later h turn;
}
stands_next w later h (arrives m asks fits) =
    let kind = requests_are m asks in record {
      partitions = partitions_arrived w m h.partitions kind;
      sent = All-push InRange w.sent m h.sent (clients_in_range m kind);
    }

stands_open : AlwaysOpen Stands
stands_open = always_open Stands
    (λ count. record { partitions = partitions_first count; sent = All-nil InRange })
    stands_next

------ whole schedules

-- whatever clients ask
pub replies_in_range_open : AlwaysOpen (λ w. All InRange w.sent)
replies_in_range_open count events fits = (stands_open count events fits).sent

pub replies_in_range : Always (λ w. All InRange w.sent)
replies_in_range = closed_from_open (λ w. All InRange w.sent) replies_in_range_open
