-- Over every schedule: what stands of the requests that clients sent.
use Rattle.std.proofs.Common.{◌≡◌, ◌≤◌, ◌^◌, ◌==◌, ℕ, true, cond, List, []}
use Rattle.std.proofs.Common.{◌∷◌, ◌++◌, map, Option, Some, None, is_some, Contains, All, refl, sym}
use Rattle.std.proofs.Common.{◌∙◌, subst, arith, ⊎_elim, nat_lt}
use Rattle.std.specs.Prelude.{IfSome, unwrap_or}
use Rattle.std.proofs.lemmas.Bool.{cond_both}
use Rattle.std.proofs.lemmas.Bool.Decides.{nat_tests}
use Rattle.std.proofs.lemmas.List.{append-nil, map-append}
use Rattle.std.proofs.lemmas.List.Elements.{All-append, All-contains, All-map, All-nil, All-push}
use Rattle.std.proofs.lemmas.List.Elements.{All-weaker, Contains-append_cases, Contains-append_left}
use Rattle.kx_message.specs.Messages.{caller_with}
use Rattle.kx_message.specs.declared.code.ErrorCode.TheVariants as code
use Rattle.kx_message.specs.declared.message.Held.{Held}
use Rattle.kx_message.specs.declared.message.Message.{Message}
use Rattle.kx_message.specs.declared.message.Message.TheVariants as msg
use Rattle.kx_message.specs.Messages as the
use Rattle.kx_message.specs.declared.outcome.Outcome.TheVariants.{Commit}
use Rattle.kx_model.specs.Client.{Client, new_client}
use Rattle.kx_model.specs.Coordinator.{Complete, Empty, Ongoing, Prepare, Row, State}
use Rattle.kx_model.specs.Coordinator.{Written, ends, next_id}
use Rattle.kx_model.specs.Headline.{Always}
use Rattle.kx_model.specs.CoordinatorNode.{notes_of}
use Rattle.kx_model.specs.World.{World, is_new, notes, start, with_client, with_coordinator}
use Rattle.kx_model.specs.World.{with_partition}
use Rattle.kx_headline.proofs.ClientAsks.{knows_later}
use Rattle.kx_headline.proofs.ClientCommands.{Makes, Moved, command_moves}
use Rattle.kx_headline.proofs.ClientHolds.{Handed, HoldsOwn, by_end, by_init, handed_later}
use Rattle.kx_headline.proofs.ClientHolds.{turn_holds}
use Rattle.kx_headline.proofs.ClientReplies.{IsBelow, Raises, earlier_epoch, earlier_id}
use Rattle.kx_headline.proofs.ClientReplies.{reply_knows}
use Rattle.kx_headline.proofs.ClientRequests.{AreMade, HeldFits, IsIts, Knows, RequestsStand}
use Rattle.kx_headline.proofs.ClientRequests.{IsAwaited, sender}
use Rattle.kx_headline.proofs.CoordinatorAlways.{CoordinatorStands, stands_sound, turn_does}
use Rattle.kx_headline.proofs.CoordinatorDoes.{GivesFirst, GivesNext, Has, Out, Says, by_row}
use Rattle.kx_headline.proofs.CoordinatorDoes.{by_allotment}
use Rattle.kx_headline.proofs.CoordinatorDoes
use Rattle.kx_headline.proofs.CoordinatorGrows.{history_in_range}
use Rattle.kx_headline.proofs.CoordinatorRows.{Ends, Names, above_own, ends_tells, next, one_higher}
use Rattle.kx_headline.proofs.CoordinatorRows.{own, replaced}
use Rattle.kx_headline.proofs.CoordinatorSound.{Shape}
use Rattle.kx_headline.proofs.CoordinatorTables.{Gives, gives_own, gives_next}
use Rattle.kx_headline.proofs.EventDoes.{ClientTurn, Turn, always}
use Rattle.kx_headline.proofs.EventDoes.{clients, commands, coordinators, hears, making, nobodys}
use Rattle.kx_headline.proofs.EventDoes.{partitions}
use Rattle.kx_laws.proofs.Lists.{All-from_contains, list_all_tells}
use Rattle.kx_laws.proofs.Membership.{find_tells}
use Rattle.kx_headline.proofs.Loads.{one_load}
use Rattle.kx_laws.proofs.Membership.{map_holds, map_keeps, no_element}
use Rattle.kx_headline.proofs.OneHolder.{HoldersStand, holders_first, holders_next}
use Rattle.kx_headline.proofs.Owners.{allotted_below}
use Rattle.kx_headline.proofs.SentKinds
use Rattle.kx_headline.proofs.SentKinds.{IsPartitions, turn_sends}

------ pairs that were handed out

module _ (w : World) (stands : CoordinatorStands w) where
  says : (m : Message) → Contains w.sent m → Says w.sent (notes w) m
  says m there = All-contains (Says w.sent (notes w)) w.sent m stands.says there

  ids : next_id (notes w) ≤ 2 ^ 63
  ids = (history_in_range stands.coordinator.history).ids

  low_epoch : (r : Row) → Contains (notes w) (Written r) → r.epoch ≤ 32767
  low_epoch r there = by r.state refl
    where
      shape : Shape r
      shape = (stands_sound stands).shape r there

      by : (st : State) → r.state ≡ st → r.epoch ≤ 32767
      by (Prepare o) e = (shape.ending o e).1
      by Empty e = let h = shape.resting (λ o f. let no = sym e ∙ f in cc) in omega (arith, h)
      by Ongoing e = let h = shape.resting (λ o f. let no = sym e ∙ f in cc) in omega (arith, h)
      by (Complete o) e =
          let h = shape.resting (λ p f. let no = sym e ∙ f in cc) in omega (arith, h)

  -- what a row has, or gives after it, fits
  named_fits : (r : Row) → Contains (notes w) (Written r) → (id epoch : ℕ) → Names r id
      → epoch ≤ r.epoch → HeldFits (record { id = id; epoch = epoch })
  named_fits r there id epoch names e = record {
    id = let low = above_own (notes w) r id there names in omega (arith, low, ids);
    epoch = let low = low_epoch r there in omega (arith, low, e);
  }

  after_fits : (r : Row) → Contains (notes w) (Written r) → (held : Held) → Gives r held
      → HeldFits held
  after_fits r there held gives_own = named_fits r there r.id r.epoch (own refl) (omega arith)
  after_fits r there held gives_next = by r.next refl
    where
      by : (n : Option ℕ) → r.next ≡ n → HeldFits (record {
        id = unwrap_or n r.id;
        epoch = cond (is_some n) 0 r.epoch;
      })
      by None e = named_fits r there r.id r.epoch (own refl) (omega arith)
      by (Some n) e = named_fits r there n 0 (next e) (omega arith)

  pub handed_fits : (c : ℕ) (held : Held) → Handed w.sent c held → HeldFits held
  handed_fits c held (by_init k there) =
      let g : GivesFirst w.sent (notes w) (caller_with c k) held =
      says (the.InitReply (caller_with c k) code.NoError (Some held)) there in
      by g.txn g.has
    where
      by : (txn : Option (List ℕ)) → Has (notes w) c txn held → HeldFits held
      by txn (by_row r at o e t) =
          subst HeldFits (sym e) (named_fits r at r.id r.epoch (own refl) (omega arith))
      by txn (by_allotment at e t) = record {
        id = let low = allotted_below (notes w) held.id at in omega (arith, low, ids);
        epoch = omega (arith, e);
      }
  handed_fits c held (by_end k there) =
      let g : GivesNext w.sent (notes w) (caller_with c k) held =
      says (the.EndReply (caller_with c k) code.NoError (Some held)) there in
      after_fits g.row g.written held g.given

  -- the pair after a row that ends a transaction is above the transaction's
  above_ended : (id epoch : ℕ) (r : Row) → Contains (notes w) (Written r) → Ends id epoch r
      → (held : Held) → Gives r held → IsBelow (record { id = id; epoch = epoch }) held
  above_ended id epoch r there (one_higher a b d) held gives_own =
      earlier_epoch (sym a) (omega (arith, b))
  above_ended id epoch r there (replaced a b d f) held gives_own =
      let low = ((stands_sound stands).shape r there).previous_below id b in
      earlier_id (omega (arith, low))
  above_ended id epoch r there ends held gives_next = by r.next refl ends
    where
      shape : Shape r
      shape = (stands_sound stands).shape r there

      by : (n : Option ℕ) → r.next ≡ n → Ends id epoch r
          → IsBelow (record { id = id; epoch = epoch })
          (record { id = unwrap_or n r.id; epoch = cond (is_some n) 0 r.epoch })
      by None e (one_higher a b d) = earlier_epoch (sym a) (omega (arith, b))
      by None e (replaced a b d f) =
          let low = shape.previous_below id b in earlier_id (omega (arith, low))
      by (Some n) e (one_higher a b d) =
          let high = shape.next_above n e in earlier_id (omega (arith, high, a))
      by (Some n) e (replaced a b d f) =
          let low = shape.previous_below id b in
          let high = shape.next_above n e in
          earlier_id (omega (arith, low, high))

  pub raised : (c i : ℕ) (held : Option Held)
      → Contains w.sent (the.EndReply (caller_with c i) code.NoError held) → Raises w.sent c i held
  raised c i None there = absurd (says (the.EndReply (caller_with c i) code.NoError None) there)
  raised c i (Some held) there =
      let g : GivesNext w.sent (notes w) (caller_with c i) held =
      says (the.EndReply (caller_with c i) code.NoError (Some held)) there in
      record {
        given = held;
        is = refl;
        txn = g.txn;
        ending = g.ending;
        outcome = g.outcome;
        asked = g.asked;
        below = above_ended g.ending.id g.ending.epoch g.row g.written
            (ends_tells g.ending.id g.ending.epoch g.row g.its_end) held g.given;
      }

------ what nobody's client sent

-- a message of no client
abbrev pub OfNobody : Message → Type 0
OfNobody m = sender m ≡ None

pub partitions_send : (m : Message) → IsPartitions m → OfNobody m
partitions_send m SentKinds.adding = refl
partitions_send m SentKinds.marked = refl
partitions_send m SentKinds.produced = refl
partitions_send m SentKinds.fetch = refl
partitions_send m SentKinds.joined = refl
partitions_send m SentKinds.left = refl
partitions_send m SentKinds.offsets_stand = refl
partitions_send m SentKinds.offset_there = refl

pub coordinator_sends : (m : Message) → CoordinatorDoes.IsCoordinators m → OfNobody m
coordinator_sends m CoordinatorDoes.marker = refl
coordinator_sends m CoordinatorDoes.add_reply = refl
coordinator_sends m CoordinatorDoes.init_reply = refl
coordinator_sends m CoordinatorDoes.end_reply = refl

none_made : (sent : List Message) (m : Message) → OfNobody m → AreMade sent m
none_made sent (msg.Produce it) e = absurd cc
none_made sent
    (msg.TxnOffsetCommit it) e
    =
    absurd cc
none_made sent other e = tt

made_later : (sent later : List Message)
    → ((x : Message) → Contains sent x → Contains later x) → (m : Message) → AreMade sent m
    → AreMade later m
made_later sent later up (msg.Produce it) h = record {
  load = h.load;
  carries = h.carries;
  client = h.client;
  its_sender = h.its_sender;
  handed = handed_later up h.handed;
}
made_later sent later up
    (msg.TxnOffsetCommit it) h
    = record {
      load = h.load;
      carries = h.carries;
      client = h.client;
      its_sender = h.its_sender;
      handed = handed_later up h.handed;
    }
made_later sent later up other h = tt

------ each turn

module _ (w : World) (h : RequestsStand w) where
  up : (messages : List Message) (x : Message) → Contains w.sent x
      → Contains (w.sent ++ messages) x
  up messages x there = Contains-append_left w.sent messages x there

  made_with : (messages : List Message) → All (AreMade (w.sent ++ messages)) messages
      → All (AreMade (w.sent ++ messages)) (w.sent ++ messages)
  made_with messages new =
      All-append (AreMade (w.sent ++ messages)) w.sent messages
      (All-weaker (AreMade w.sent) (AreMade (w.sent ++ messages))
      (made_later w.sent (w.sent ++ messages) (up messages)) w.sent h.made) new

  -- messages of no client
  quiet : (later : World) → HoldersStand later → (messages : List Message)
      → All OfNobody messages → later.clients ≡ w.clients → later.sent ≡ w.sent ++ messages
      → RequestsStand later
  quiet later holders messages nobodys' same_clients same_sent = record {
    holders = holders;
    clients = subst (λ l. All (Knows later.sent) l) (sym same_clients)
        (subst (λ l. All (Knows l) w.clients) (sym same_sent)
        (All-weaker (Knows w.sent) (Knows (w.sent ++ messages))
        (λ c k. knows_later w.sent (w.sent ++ messages) c (up messages) (back c) k)
        w.clients h.clients));
    known = λ m client there s.
        subst (λ l. Contains (map (λ (c : Client). c.number) l) client) (sym same_clients)
        (⊎_elim (λ old. h.known m client old s) (λ new. absurd (not_new m client new s))
        (Contains-append_cases w.sent messages m
        (subst (λ l. Contains l m) same_sent there)));
    made = subst (λ l. All (AreMade l) l) (sym same_sent)
        (made_with messages (All-weaker OfNobody (AreMade (w.sent ++ messages))
        (none_made (w.sent ++ messages)) messages nobodys'));
  }
    where
      not_new : (m : Message) (client : ℕ) → Contains messages m → sender m ≡ Some client → ⊥
      not_new m client there s =
          let none = All-contains OfNobody messages m nobodys' there in
          let no = sym none ∙ s in cc

      back : (c : Client) (x : Message) → IsIts (w.sent ++ messages) c x → Contains w.sent x
      back c x its =
          ⊎_elim (λ old. old) (λ new. absurd (not_new x c.number new its.1))
          (Contains-append_cases w.sent messages x its.0)

  ------ a client's turn

  module _ (c after : Client) (messages : List Message) (moved : Moved w.sent c after messages)
      (entitled : (held : Held) → c.held ≡ Some held → Handed w.sent c.number held) where
    -- a message that goes out is an old one, or a new one of this client
    of_this : (m : Message) → Contains messages m → sender m ≡ Some c.number
    of_this m there = ⊎_elim (λ old. old.1) (λ new. new.0) (moved.out m there)

    of_another : (d : Client) → (d.number ≡ after.number → ⊥) → (x : Message)
        → IsIts (w.sent ++ messages) d x → Contains w.sent x
    of_another d differs x its =
        ⊎_elim (λ old. old)
        (λ new. absurd (differs (same d.number c.number (sym its.1 ∙ of_this x new)
        ∙ sym moved.number)))
        (Contains-append_cases w.sent messages x its.0)
      where
        same : (a b : ℕ) → Some a ≡ Some b → a ≡ b
        same a b e = cc

    knows_each : (d : Client) → Knows w.sent d
        → Knows (w.sent ++ messages) (cond (d.number == after.number) after d)
    knows_each d k =
        cond_both (d.number == after.number) after d (Knows (w.sent ++ messages))
        (λ e. moved.knows)
        (λ e. knows_later w.sent (w.sent ++ messages) d (up messages)
        (of_another d (λ same. grind (arith, nat_tests, e, same))) k)

    same_numbers : (l : List Client)
        → map (λ (d : Client). d.number)
        (map (λ (d : Client). cond (d.number == after.number) after d) l)
        ≡ map (λ (d : Client). d.number) l
    same_numbers [] = refl
    same_numbers (d ∷ l) =
        λ i. cond_both (d.number == after.number) after d
        (λ (x : Client). x.number ≡ d.number) (λ e. grind (arith, nat_tests)) (λ e. refl) i
        ∷ same_numbers l i

    new_made : (m : Message) → sender m ≡ Some c.number → Makes c m
        → AreMade (w.sent ++ messages) m
    new_made (msg.Produce it) s makes = record {
      load = makes.0;
      carries = makes.1;
      client = c.number;
      its_sender = s;
      handed = handed_later (up messages) (entitled makes.0.held makes.2);
    }
    new_made
        (msg.TxnOffsetCommit it) s
        makes
        = record {
          load = makes.0;
          carries = makes.1;
          client = c.number;
          its_sender = s;
          handed = handed_later (up messages) (entitled makes.0.held makes.2);
        }
    new_made other s makes = tt

    client_stands : HoldersStand (with_client w after messages)
        → Contains (map (λ (d : Client). d.number) w.clients) c.number
        → RequestsStand (with_client w after messages)
    client_stands holders there = record {
      holders = holders;
      clients = All-map (Knows (w.sent ++ messages))
          (λ d. cond (d.number == after.number) after d) w.clients
          (All-weaker (Knows w.sent)
          (λ d. Knows (w.sent ++ messages) (cond (d.number == after.number) after d)) knows_each
          w.clients h.clients);
      known = λ m client there' s.
          subst (λ l. Contains l client) (sym (same_numbers w.clients))
          (⊎_elim (λ old. h.known m client old s)
          (λ new. subst (Contains (map (λ (d : Client). d.number) w.clients))
          (same c.number client (sym (of_this m new) ∙ s)) there)
          (Contains-append_cases w.sent messages m there'));
      made = made_with messages (All-from_contains (AreMade (w.sent ++ messages)) messages
          (λ m new. ⊎_elim
          (λ old. made_later w.sent (w.sent ++ messages) (up messages) m
          (All-contains (AreMade w.sent) w.sent m h.made old.0))
          (λ n. new_made m n.0 n.1) (moved.out m new)));
    }
      where
        same : (a b : ℕ) → Some a ≡ Some b → a ≡ b
        same a b e = cc

  -- a client moves by its turn
  pub turn_moves : (c after : Client) (messages : List Message) → Knows w.sent c
      → HoldsOwn w.sent c → (after.number ≡ c.number) → ClientTurn w c after messages
      → Moved w.sent c after messages
  turn_moves c after messages k mine number (commands what d ms fits e) =
      command_moves w.sent c k
      (λ held there. handed_fits w h.holders.stands c.number held
      (subst (λ o. IfSome o (Handed w.sent c.number)) there mine.held))
      one_load what after messages e
  turn_moves c after messages k mine number (hears m there) = record {
    number = number;
    knows = subst (λ l. Knows l after) (sym (append-nil w.sent))
        (reply_knows w.sent c k (raised w h.holders.stands c.number) m there);
    out = λ x none. absurd (no_element x none);
  }
  turn_moves c after messages k mine number ClientTurn.passes = record {
    number = number;
    knows = subst (λ l. Knows l c) (sym (append-nil w.sent)) k;
    out = λ x none. absurd (no_element x none);
  }

  ------ a new client

  nothing_of : (number : ℕ) → is_new number w.clients ≡ true
      → Contains (map (λ (c : Client). c.number) w.clients) number → ⊥
  nothing_of number new there =
      let (c, at, same) = map_holds (λ (c : Client). c.number) w.clients number there in
      let low = list_all_tells (λ (d : Client). nat_lt d.number number) w.clients c new at in
      grind (arith, nat_tests)

  new_knows : (number : ℕ) (txn : Option (List ℕ)) (timeout : ℕ)
      → is_new number w.clients ≡ true → Knows w.sent (new_client number txn timeout)
  new_knows number txn timeout new = record {
    numbered = λ m its. absurd (none m its);
    distinct = λ m n its. absurd (none m its);
    within = λ m l its. absurd (none m its);
    ends_within = λ k t held o there.
        absurd (none (the.EndTxn (caller_with number k) t held o) (there, refl));
    behind = λ m l its. absurd (none m its);
    once = λ m n l j its. absurd (none m its);
    waiting = All-nil (IsAwaited w.sent (new_client number txn timeout));
    beside = λ m n there. absurd (no_element m there);
    asking = λ e. absurd cc;
    asks_once = λ m n there. absurd (no_element m there);
    offsets_inside = λ m there. absurd (no_element m there);
    aborting = λ e. absurd cc;
    answered = λ f a no m l its. absurd (none m its);
    ended = λ f x. absurd
        (none (the.EndTxn (caller_with number x.correlation) x.txn x.held x.outcome)
        (x.there, refl));
    committed = λ k t held there.
        absurd (none (the.EndTxn (caller_with number k) t held Commit) (there, refl));
  }
    where
      none : (m : Message) → IsIts w.sent (new_client number txn timeout) m → ⊥
      none m its = nothing_of number new (h.known m number its.0 its.1)

requests_next : (w later : World) → RequestsStand w → Turn w later → RequestsStand later
requests_next w later h nobodys = h
requests_next w later h (coordinators clock s turn) =
    let d = turn_does w s h.holders.stands.coordinator turn in
    quiet w h (with_coordinator (record w { clock = clock }) s)
    (holders_next w (with_coordinator (record w { clock = clock }) s) h.holders
    (coordinators clock s turn)) s.1
    (All-weaker (Out d.client w.sent (notes w) (notes_of s.0)) OfNobody
    (λ m o. coordinator_sends m o.kind) s.1 d.out) refl refl
requests_next w later h (partitions number p s there turn) =
    quiet w h (with_partition w number s)
    (holders_next w (with_partition w number s) h.holders (partitions number p s there turn)) s.1
    (All-weaker IsPartitions OfNobody partitions_send s.1 (turn_sends w number p s turn)) refl refl
requests_next w later h (clients c after messages there turn) =
    let at = (find_tells (λ d. d.number == c.number) w.clients c there).0 in
    let mine = All-contains (HoldsOwn w.sent) w.clients c h.holders.clients at in
    let number = (turn_holds w c after messages mine turn).1 in
    let moved = turn_moves w h c after messages
    (All-contains (Knows w.sent) w.clients c h.clients at) mine number turn in
    client_stands w h c after messages moved
    (λ held e. subst (λ o. IfSome o (Handed w.sent c.number)) e mine.held)
    (holders_next w (with_client w after messages) h.holders
    (clients c after messages there turn))
    (map_keeps (λ (d : Client). d.number) w.clients c at)
requests_next w later h (making number txn timeout new a b d) =
    let c = new_client number txn timeout in
    record {
      holders = holders_next w (record w { clients = w.clients ++ c ∷ [] }) h.holders
          (making number txn timeout new a b d);
      clients = All-push (Knows w.sent) w.clients c h.clients
          (new_knows w h number txn timeout new);
      known = λ m client there s.
          subst (λ l. Contains l client)
          (sym (map-append (λ (x : Client). x.number) w.clients (c ∷ [])))
          (Contains-append_left (map (λ (x : Client). x.number) w.clients) (number ∷ []) client
          (h.known m client there s));
      made = h.made;
    }

requests_first : (count : ℕ) → RequestsStand (start count)
requests_first count = record {
  holders = holders_first count;
  clients = All-nil (Knows []);
  known = λ m client there s. absurd (no_element m there);
  made = All-nil (AreMade []);
}

pub requests_stand_always : Always RequestsStand
requests_stand_always = always RequestsStand requests_first requests_next
