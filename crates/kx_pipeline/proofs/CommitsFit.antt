-- Every commit of offsets that was handed out has a name, numbers and offsets that fit their
-- fields, and names its client as the member.
use Rattle.std.proofs.Common.{◌≡◌, ℕ, ℤ, false, not, List, [], ◌∷◌}
use Rattle.std.proofs.Common.{filter, Option, Some, None, All, refl, subst}
use Rattle.std.proofs.Common.{◌==◌}
use Rattle.std.specs.Prelude.{IfSome, option_map}
use Rattle.std.specs.List.{AllByRecursion, list_any}
use Rattle.std.proofs.lemmas.Bool.{cond_both}
use Rattle.std.proofs.lemmas.List.Elements.{All-append, All-cons, All-contains, All-filter}
use Rattle.std.proofs.lemmas.List.Elements.{All-head}
use Rattle.std.proofs.lemmas.List.Elements.{All-map, All-nil, All-push, All-tail, All-weaker}
use Rattle.kx_message.specs.Message.{AreOffsets, IsOffset}
use Rattle.kx_message.specs.Messages as the
use Rattle.kx_message.specs.Ranges.{IsName}
use Rattle.kx_message.specs.declared.message.Held.{Held}
use Rattle.kx_message.specs.declared.message.Message.{Message}
use Rattle.kx_message.specs.declared.message.Message.TheVariants as msg
use Rattle.kx_message.specs.declared.outcome.Outcome.{Outcome}
use Rattle.kx_message.specs.declared.outcome.Outcome.TheVariants.{Abort, Commit}
use Rattle.kx_message.specs.declared.payload.PartitionOffset.{PartitionOffset}
use Rattle.kx_model.specs.Client.{Begin, Client, Command, Commanded, Declines, Does, End, Fault}
use Rattle.kx_model.specs.Client.{FetchOffset, FetchPage, Init, JoinGroup, LeaveGroup, Place, Poll}
use Rattle.kx_model.specs.Client.{Resend, Send, SendOffsets, asks, caller_of, command, does}
use Rattle.kx_model.specs.Client.{is_init}
use Rattle.kx_model.specs.Client.{leaves, new_client, refusals, sends, sends_end, sends_offsets}
use Rattle.kx_model.specs.Client.{value_records}
use Rattle.kx_model.specs.CoordinatorNode.{notes_of}
use Rattle.kx_model.specs.Headline.{Always}
use Rattle.kx_model.specs.Replies.{Aborts, Done, Fails, Meaning, Waits, holding, is_answer_to}
use Rattle.kx_model.specs.Replies.{is_awaited, learns, meaning, offset_meaning, offsets_meaning}
use Rattle.kx_model.specs.Replies.{placed_in, take_reply, told}
use Rattle.kx_model.specs.World.{IsCommand, World, notes, start}
use Rattle.kx_headline.proofs.ClientCommands.{passes}
use Rattle.kx_headline.proofs.CoordinatorAlways.{CoordinatorStands, stands_first, stands_next}
use Rattle.kx_headline.proofs.CoordinatorAlways.{turn_does}
use Rattle.kx_headline.proofs.CoordinatorDoes as coordinator
use Rattle.kx_headline.proofs.CoordinatorDoes.{IsCoordinators, Out}
use Rattle.kx_headline.proofs.EventDoes.{ClientTurn, Turn, always, clients, commands, coordinators}
use Rattle.kx_headline.proofs.EventDoes.{hears, making, nobodys, partitions}
use Rattle.kx_headline.proofs.SentKinds
use Rattle.kx_headline.proofs.SentKinds.{IsPartitions, turn_sends}
use Rattle.kx_laws.proofs.Membership.{find_tells}

-- a commit of offsets is of a group with a name, has offsets that fit, and is of its client
abbrev pub CommitFitsIn : Message → Type 0
CommitFitsIn (msg.TxnOffsetCommit it) =
    IsName it.group × AreOffsets it.offsets × (it.member ≡ it.caller.client)
CommitFitsIn m = Unit {0}

------ clients

pub record ClientFits (c : Client) : Type 0 where
  pub group : IfSome c.group IsName
  pub place : IfSome c.place (λ (p : Place). IsName p.group)
  pub waiting : All CommitFitsIn c.waiting

by_recursion : {A : Type 0} (P : A → Type 0) (xs : List A) → All P xs → AllByRecursion P xs
by_recursion P [] h = tt
by_recursion P (x ∷ xs) h = (All-head P x xs h, by_recursion P xs (All-tail P x xs h))

module _ (c : Client) (h : ClientFits c) where
  -- what a command does, unless it is declined
  data Goes : Commanded → Type 0 where
    declining : (fault : Fault) → Goes (Declines fault)
    doing : (after : Client) (messages : List Message) → ClientFits after
        → All CommitFitsIn messages → Goes (Does after messages)

  asking : (before : Client) (m : Message) → ClientFits before → CommitFitsIn m
      → Goes (asks before m)
  asking before m b fit = doing _ (m ∷ []) (record {
    group = b.group;
    place = b.place;
    waiting = All-push CommitFitsIn before.waiting m b.waiting fit;
  }) (All-cons CommitFitsIn m [] fit (All-nil CommitFitsIn))

  -- with another transaction, other sequences or another group
  with_group : (group : Option (List ℕ)) → IfSome group IsName
      → ClientFits (record c { group = group })
  with_group group name = record { group = name; place = h.place; waiting = h.waiting }

  sends_goes : (partition : ℕ) (value : List ℕ) (more : List (List ℕ)) (held : Option Held)
      → Goes (sends c partition (value_records (value ∷ more)) held)
  sends_goes partition value more None = declining _
  sends_goes partition value more (Some held) =
      asking _ _ (record { group = h.group; place = h.place; waiting = h.waiting }) tt

  offsets_go : (offset : PartitionOffset) (more : List PartitionOffset)
      → IsCommand (SendOffsets offset more)
      → (txn : Option (List ℕ)) (held : Option Held) (place : Option Place)
      → IfSome place (λ (p : Place). IsName p.group)
      → Goes (sends_offsets c (offset ∷ more) txn held place)
  offsets_go offset more fit (Some txn) (Some held) (Some place) name =
      asking _ _ (record { group = h.group; place = h.place; waiting = h.waiting }) (
        name,
        record { count = fit.1; each = by_recursion IsOffset (offset ∷ more) fit.0 },
        refl,
      )
  offsets_go offset more fit (Some txn) (Some held) None name = declining _
  offsets_go offset more fit (Some txn) None place name = declining _
  offsets_go offset more fit None held place name = declining _

  end_goes : (outcome : Outcome) (txn : Option (List ℕ)) (held : Option Held)
      → Goes (sends_end c outcome txn held)
  end_goes Commit (Some txn) (Some held) =
      cond_both c.sent_some (asks c (the.EndTxn (caller_of c) txn held Commit))
      (Does (record c { in_transaction = false }) []) Goes (λ e. asking c _ h tt)
      (λ e. doing _ [] (record { group = h.group; place = h.place; waiting = h.waiting })
      (All-nil CommitFitsIn))
  end_goes Abort (Some txn) (Some held) =
      asking (record c { waiting = [] }) _
      (record { group = h.group; place = h.place; waiting = All-nil CommitFitsIn }) tt
  end_goes Commit None held = declining _
  end_goes Commit (Some txn) None = declining _
  end_goes Abort None held = declining _
  end_goes Abort (Some txn) None = declining _

  leave_goes : (place : Option Place) → Goes (leaves c place)
  leave_goes None = declining _
  leave_goes (Some place) = asking c _ h tt

  does_goes : (what : Command) → IsCommand what → Goes (does c what)
  does_goes Init fit =
      cond_both (list_any is_init c.waiting) (Does c (filter is_init c.waiting)) _ Goes
      (λ e. doing c (filter is_init c.waiting) h
      (All-filter is_init CommitFitsIn c.waiting h.waiting)) (λ e. asking c _ h tt)
  does_goes Begin fit =
      doing _ [] (record { group = h.group; place = h.place; waiting = h.waiting })
      (All-nil CommitFitsIn)
  does_goes (Send partition value more) fit = sends_goes partition value more c.held
  does_goes (JoinGroup group) fit =
      asking (record c { group = Some group }) _ (with_group (Some group) fit) tt
  does_goes LeaveGroup fit = leave_goes c.place
  does_goes (SendOffsets offset more) fit = offsets_go offset more fit c.txn c.held c.place h.place
  does_goes (End outcome) fit = end_goes outcome c.txn c.held
  does_goes Resend fit = doing c c.waiting h h.waiting
  does_goes Poll fit = declining _
  does_goes (FetchPage partition from) fit = asking c _ h tt
  does_goes (FetchOffset group partition) fit = asking c _ h tt

  went : (done : Commanded) → Goes done → (after : Client) (messages : List Message)
      → done ≡ Does after messages → ClientFits after × All CommitFitsIn messages
  went _ (declining fault) after messages e = absurd cc
  went _ (doing d ms fit all) after messages e = (
    subst ClientFits (client_is d after ms messages e) fit,
    subst (All CommitFitsIn) (sent_is d after ms messages e) all,
  )
    where
      client_is : (a b : Client) (x y : List Message) → Does a x ≡ Does b y → a ≡ b
      client_is a b x y e = cc

      sent_is : (a b : Client) (x y : List Message) → Does a x ≡ Does b y → x ≡ y
      sent_is a b x y e = cc

  commanded_fits : (what : Command) → IsCommand what → (after : Client) (messages : List Message)
      → command c what ≡ Does after messages → ClientFits after × All CommitFitsIn messages
  unfolding command
  commanded_fits what fit after messages e =
      went (does c what) (does_goes what fit) after messages
      (passes (refusals c what) (does c what) after messages e).1

  ------ replies

  module _ (reply : Message) where
    abbrev answered : Client
    answered = record c { waiting = filter (λ m. not (is_answer_to reply m)) c.waiting }

    fewer : All CommitFitsIn answered.waiting
    fewer = All-filter (λ m. not (is_answer_to reply m)) CommitFitsIn c.waiting h.waiting

    answered_fits : ClientFits answered
    answered_fits = record { group = h.group; place = h.place; waiting = fewer }

    learns_fits : (mean : Meaning) (done : Client) → ClientFits done
        → ClientFits (learns mean c answered done)
    learns_fits Done done d = d
    learns_fits Waits done d = h
    learns_fits Aborts done d = record { group = h.group; place = h.place; waiting = fewer }
    learns_fits Fails done d = record { group = h.group; place = h.place; waiting = fewer }

    holding_fits : (held : Option Held) → ClientFits (holding answered held)
    holding_fits None = answered_fits
    holding_fits (Some held) = record { group = h.group; place = h.place; waiting = fewer }

    ended_fits : (held : Option Held) → ClientFits
        (record (holding answered held) { in_transaction = false; must_abort = false })
    ended_fits None = record { group = h.group; place = h.place; waiting = fewer }
    ended_fits (Some held) = record { group = h.group; place = h.place; waiting = fewer }

    placed : (generation : ℤ) (number count : ℕ) (group : Option (List ℕ)) → IfSome group IsName
        → IfSome (option_map (placed_in generation number count) group)
        (λ (p : Place). IsName p.group)
    placed generation number count None name = tt
    placed generation number count (Some group) name = name

  told_fits : (m : Message) → ClientFits (told c (answered m) m)
  told_fits (msg.InitReply it) =
      learns_fits (msg.InitReply it) (meaning it.code) _ (holding_fits (msg.InitReply it) it.held)
  told_fits (msg.EndReply it) =
      learns_fits (msg.EndReply it) (meaning it.code) _ (ended_fits (msg.EndReply it) it.held)
  told_fits (msg.ProduceReply it) =
      learns_fits (msg.ProduceReply it) (meaning it.code) _ (answered_fits (msg.ProduceReply it))
  told_fits (msg.JoinReply it) =
      learns_fits (msg.JoinReply it) (meaning it.code) _ (record {
        group = h.group;
        place = placed (msg.JoinReply it) it.generation it.place it.count c.group h.group;
        waiting = fewer (msg.JoinReply it);
      })
  told_fits (msg.LeaveReply it) =
      learns_fits (msg.LeaveReply it) (meaning it.code) _ (answered_fits (msg.LeaveReply it))
  told_fits (msg.OffsetsReply it) =
      learns_fits (msg.OffsetsReply it) (offsets_meaning it.code) _
      (answered_fits (msg.OffsetsReply it))
  told_fits (msg.FetchReply it) =
      learns_fits (msg.FetchReply it) (meaning it.code) _ (answered_fits (msg.FetchReply it))
  told_fits (msg.OffsetFetchReply it) =
      learns_fits (msg.OffsetFetchReply it) (offset_meaning it.code) _
      (answered_fits (msg.OffsetFetchReply it))
  told_fits m = h

  heard_fits : (m : Message) → ClientFits (take_reply c m)
  unfolding take_reply
  heard_fits m =
      cond_both (is_awaited c m) (told c (answered m) m) c ClientFits (λ e. told_fits m) (λ e. h)

------ messages of nodes

partitions_fit : (m : Message) → IsPartitions m → CommitFitsIn m
partitions_fit m SentKinds.adding = tt
partitions_fit m SentKinds.marked = tt
partitions_fit m SentKinds.produced = tt
partitions_fit m SentKinds.fetch = tt
partitions_fit m SentKinds.joined = tt
partitions_fit m SentKinds.left = tt
partitions_fit m SentKinds.offsets_stand = tt
partitions_fit m SentKinds.offset_there = tt

coordinators_fit : (m : Message) → IsCoordinators m → CommitFitsIn m
coordinators_fit m coordinator.marker = tt
coordinators_fit m coordinator.add_reply = tt
coordinators_fit m coordinator.init_reply = tt
coordinators_fit m coordinator.end_reply = tt

------ each turn

pub record CommitsFit (w : World) : Type 0 where
  pub coordinator : CoordinatorStands w
  pub clients : All ClientFits w.clients
  pub sent : All CommitFitsIn w.sent

turn_fits : (w : World) (c after : Client) (messages : List Message) → ClientFits c
    → ClientTurn w c after messages → ClientFits after × All CommitFitsIn messages
turn_fits w c after messages fit (commands what d ms ok e) =
    commanded_fits c fit what ok after messages e
turn_fits w c after messages fit (hears m c') = (heard_fits c fit m, All-nil CommitFitsIn)
turn_fits w c after messages fit ClientTurn.passes = (fit, All-nil CommitFitsIn)

commits_next : (w later : World) → CommitsFit w → Turn w later → CommitsFit later
commits_next w later h nobodys = h
commits_next w later h (coordinators clock s turn) =
    let d = turn_does w s h.coordinator.coordinator turn in
    record {
      coordinator = stands_next w _ h.coordinator (coordinators clock s turn);
      clients = h.clients;
      sent = All-append CommitFitsIn w.sent s.1 h.sent
          (All-weaker (Out d.client w.sent (notes w) (notes_of s.0)) CommitFitsIn
          (λ m o. coordinators_fit m o.kind) s.1 d.out);
    }
commits_next w later h (partitions number p s there turn) = record {
  coordinator = stands_next w _ h.coordinator (partitions number p s there turn);
  clients = h.clients;
  sent = All-append CommitFitsIn w.sent s.1 h.sent
      (All-weaker IsPartitions CommitFitsIn partitions_fit s.1 (turn_sends w number p s turn));
}
commits_next w later h (clients c after messages there turn) =
    let at = (find_tells (λ d. d.number == c.number) w.clients c there).0 in
    let fit = All-contains ClientFits w.clients c h.clients at in
    let moved = turn_fits w c after messages fit turn in
    record {
      coordinator = stands_next w _ h.coordinator (clients c after messages there turn);
      clients = All-map ClientFits _ w.clients
          (All-weaker ClientFits _
          (λ d old. cond_both (d.number == after.number) after d ClientFits (λ e. moved.0)
          (λ e. old)) w.clients h.clients);
      sent = All-append CommitFitsIn w.sent messages h.sent moved.1;
    }
commits_next w later h (making number txn timeout new a b d) = record {
  coordinator = stands_next w _ h.coordinator (making number txn timeout new a b d);
  clients = All-push ClientFits w.clients (new_client number txn timeout) h.clients
      (record { group = tt; place = tt; waiting = All-nil CommitFitsIn });
  sent = h.sent;
}

commits_first : (count : ℕ) → CommitsFit (start count)
commits_first count = record {
  coordinator = stands_first count;
  clients = All-nil ClientFits;
  sent = All-nil CommitFitsIn;
}

pub commits_fit_always : Always CommitsFit
commits_fit_always = always CommitsFit commits_first commits_next
