-- No two clients were ever handed the same id and epoch: a reply of code 0 gives the pair of a row
-- to the row's owner, or an id that is allotted then.
use Rattle.std.proofs.Common.{◌≡◌, ◌⊎◌, ℕ, ◌<◌, ◌≤◌, true, cond, List, []}
use Rattle.std.proofs.Common.{◌++◌, Option, Some, None, ◌==◌, Contains, All, refl, sym, ap, ◌∙◌}
use Rattle.std.proofs.Common.{subst}
use Rattle.std.proofs.Common.{inl, inr, ⊎_elim, arith}
use Rattle.std.specs.Prelude.{is_some, unwrap_or}
use Rattle.std.proofs.lemmas.Bool.{and_parts, cond_both}
use Rattle.std.proofs.lemmas.Bool.Decides.{nat_tests}
use Rattle.std.proofs.lemmas.List.Elements.{All-append, All-contains, All-map, All-nil, All-push}
use Rattle.std.proofs.lemmas.List.Elements.{All-weaker, Contains-append_cases}
use Rattle.std.proofs.lemmas.List.Elements.{Contains-append_left, Contains-push_cases}
use Rattle.kx_message.specs.Messages.{caller_with}
use Rattle.kx_message.specs.declared.requests.Caller.{Caller}
use Rattle.kx_model.specs.World.{is_given}
use Rattle.kx_message.specs.declared.code.ErrorCode.{ErrorCode}
use Rattle.kx_message.specs.declared.code.ErrorCode.TheVariants as code
use Rattle.kx_message.specs.declared.message.Held.{Held}
use Rattle.kx_message.specs.declared.message.Message.{Message}
use Rattle.kx_message.specs.declared.message.Message.TheVariants as msg
use Rattle.kx_message.specs.Messages as the
use Rattle.kx_model.specs.Client.{Client, new_client}
use Rattle.kx_model.specs.Coordinator.{Row, TxnEntry, Allot, Written, ends, next_id}
use Rattle.kx_model.specs.CoordinatorNode.{Coordinated, notes_of}
use Rattle.kx_model.specs.Headline.{Always, OneHolder}
use Rattle.kx_model.specs.World.{World, hands, holds, notes, same_pair, start, with_client}
use Rattle.kx_model.specs.World.{run, with_coordinator, with_partition}
use Rattle.kx_model.proofs.Notes.{next_id-push}
use Rattle.kx_headline.proofs.ClientHolds.{Handed, by_init, by_end, HoldsOwn, IsEntitled}
use Rattle.kx_headline.proofs.ClientHolds.{entitled_later, holds_later, turn_holds}
use Rattle.kx_headline.proofs.CoordinatorAlways.{CoordinatorStands}
use Rattle.kx_headline.proofs.CoordinatorAlways.{stands_first, stands_next, turn_does}
use Rattle.kx_headline.proofs.CoordinatorDoes.{CoordinatorDoes, GivesFirst, GivesNext, Has, by_row}
use Rattle.kx_headline.proofs.CoordinatorDoes.{by_allotment, IsCoordinators, Out, Says, does_ok}
use Rattle.kx_headline.proofs.CoordinatorDoes
use Rattle.kx_headline.proofs.CoordinatorGrows.{Grows, History, none, more}
use Rattle.kx_headline.proofs.CoordinatorGrows.{note_grows}
use Rattle.kx_headline.proofs.CoordinatorRows.{Names, own, previous, next, above_own, ends_tells}
use Rattle.kx_headline.proofs.CoordinatorRows.{Ends, one_higher, replaced}
use Rattle.kx_headline.proofs.CoordinatorTables.{Gives, gives_own, gives_next}
use Rattle.kx_headline.proofs.EventDoes.{CoordinatorTurn, Turn, nobodys, coordinators, partitions}
use Rattle.kx_headline.proofs.EventDoes.{clients, making, always}
use Rattle.kx_laws.proofs.Membership.{find_tells}
use Rattle.kx_laws.proofs.Membership.{any_holds, no_element}
use Rattle.kx_headline.proofs.Owners.{Pairs, has_now, promised, allotted_below}
use Rattle.kx_headline.proofs.Owners.{new_allotment, one_owner, unnamed}
use Rattle.kx_headline.proofs.SentKinds.{IsClients, IsPartitions, WaitsForOwn, client_sends}
use Rattle.kx_headline.proofs.SentKinds.{turn_sends}
use Rattle.kx_headline.proofs.SentKinds

------ whose a pair is

-- a row gives the pair to the client, or the id was allotted
pub data Owned (log : List TxnEntry) (client : ℕ) (held : Held) : Type 0 where
  by_pair : (r : Row) → Contains log (Written r) → r.owner ≡ client → Pairs r held.id held.epoch
      → Owned log client held
  by_id : Contains log (Allot held.id) → Owned log client held

owned_later : {log later : List TxnEntry} {client : ℕ} {held : Held}
    → ((note : TxnEntry) → Contains log note → Contains later note) → Owned log client held
    → Owned later client held
owned_later on (by_pair r c o p) = by_pair r (on (Written r) c) o p
owned_later on (by_id c) = by_id (on (Allot _) c)

names_pair : (r : Row) (id epoch : ℕ) → Pairs r id epoch → Names r id
names_pair r id epoch (has_now a b) = own a
names_pair r id epoch (promised a b) = next a

owned_below : (log : List TxnEntry) (client : ℕ) (held : Held) → Owned log client held
    → held.id < next_id log
owned_below log client held (by_pair r c o p) =
    above_own log r held.id c (names_pair r held.id held.epoch p)
owned_below log client held (by_id c) = allotted_below log held.id c

-- the pair that a row gives is one that it names
gives_after : (r : Row) (held : Held) → Gives r held → Pairs r held.id held.epoch
gives_after r held gives_own = has_now refl refl
gives_after r held gives_next = by r.next refl
  where
    by : (n : Option ℕ) → r.next ≡ n → Pairs r (unwrap_or n r.id) (cond (is_some n) 0 r.epoch)
    by None e = has_now refl refl
    by (Some n) e = promised e refl

names_ended : (r : Row) (id epoch : ℕ) → ends id epoch r ≡ true → Names r id
names_ended r id epoch h = by (ends_tells id epoch r h)
  where
    by : Ends id epoch r → Names r id
    by (one_higher a b c) = own a
    by (replaced a b c d) = previous b

------ what stands

-- two clients that were handed an allotted id are one
abbrev pub AllottedOnce : List Message → List TxnEntry → Type 0
AllottedOnce sent log = (c d k l : ℕ) (held other : Held)
    → Contains sent (the.InitReply (caller_with c k) code.NoError (Some held))
    → Contains sent (the.InitReply (caller_with d l) code.NoError (Some other))
    → Contains log (Allot held.id)
    → held.id ≡ other.id → c ≡ d

pub record HoldersStand (w : World) : Type 0 where
  pub stands : CoordinatorStands w
  pub clients : All (HoldsOwn w.sent) w.clients
  pub entitled : All (IsEntitled w.sent) w.sent
  pub owned : (c : ℕ) (held : Held) → Handed w.sent c held → Owned (notes w) c held
  pub once : AllottedOnce w.sent (notes w)

up : (sent messages : List Message) (m : Message) → Contains sent m
    → Contains (sent ++ messages) m
up sent messages m c = Contains-append_left sent messages m c

entitled_more : (sent messages : List Message) → All (IsEntitled sent) sent
    → All (IsEntitled (sent ++ messages)) messages
    → All (IsEntitled (sent ++ messages)) (sent ++ messages)
entitled_more sent messages old new =
    All-append (IsEntitled (sent ++ messages)) sent messages
    (All-weaker (IsEntitled sent) (IsEntitled (sent ++ messages))
    (entitled_later sent (sent ++ messages) (up sent messages)) sent old) new

------ messages that hand out no pair

-- it is no InitReply and no EndReply
data HandsNone : Message → Type 0 where
  partitions_own : {m : Message} → IsPartitions m → HandsNone m
  clients_own : {m : Message} → IsClients m → HandsNone m

no_init : (c k : ℕ) (held : Held)
    → HandsNone (the.InitReply (caller_with c k) code.NoError (Some held)) → ⊥
no_init c k held (partitions_own p) = elim p [ ]
no_init c k held (clients_own p) = elim p [ ]

no_end : (c k : ℕ) (held : Held)
    → HandsNone (the.EndReply (caller_with c k) code.NoError (Some held)) → ⊥
no_end c k held (partitions_own p) = elim p [ ]
no_end c k held (clients_own p) = elim p [ ]

module _ (sent messages : List Message) (quiet : All HandsNone messages) where
  init_before : (c k : ℕ) (held : Held)
      → Contains (sent ++ messages) (the.InitReply (caller_with c k) code.NoError (Some held))
      → Contains sent (the.InitReply (caller_with c k) code.NoError (Some held))
  init_before c k held there =
      ⊎_elim (λ c. c) (λ new. absurd (no_init c k held
      (All-contains HandsNone messages
      (the.InitReply (caller_with c k) code.NoError (Some held)) quiet new)))
      (Contains-append_cases sent messages
      (the.InitReply (caller_with c k) code.NoError (Some held)) there)

  handed_before : (c : ℕ) (held : Held) → Handed (sent ++ messages) c held → Handed sent c held
  handed_before c held (by_init k there) = by_init k (init_before c k held there)
  handed_before c held (by_end k there) =
      ⊎_elim (λ c. by_end k c) (λ new. absurd (no_end c k held
      (All-contains HandsNone messages
      (the.EndReply (caller_with c k) code.NoError (Some held)) quiet new)))
      (Contains-append_cases sent messages
      (the.EndReply (caller_with c k) code.NoError (Some held)) there)

------ the coordinator's turn

next_id_grows : {sent : List Message} {log later : List TxnEntry} → Grows sent log later
    → next_id log ≤ next_id later
next_id_grows none = omega arith
next_id_grows (more mid note g n) =
    let h = next_id_grows g in let e = next_id-push mid note in grind arith

-- an id below the next one that is allotted later was allotted before
allotted_before : {sent : List Message} {log later : List TxnEntry} → Grows sent log later
    → (id : ℕ) → id < next_id log → Contains later (Allot id) → Contains log (Allot id)
allotted_before none id low c = c
allotted_before (more mid note g n) id low c =
    ⊎_elim (allotted_before g id low)
    (λ e. let same = new_allotment n.follows id e in let h = next_id_grows g in
    absurd (omega arith)) (Contains-push_cases mid note (Allot id) c)

module _ (w : World) (h : HoldersStand w) (s : Coordinated)
    (d : CoordinatorDoes w.sent w.coordinator s) where
  history : History w.sent (notes_of s.0)
  history = (does_ok h.stands.coordinator d).history

  out : (m : Message) → Contains s.1 m → Out d.client w.sent (notes w) (notes_of s.0) m
  out m c = All-contains (Out d.client w.sent (notes w) (notes_of s.0)) s.1 m d.out c

  on : (note : TxnEntry) → Contains (notes w) note → Contains (notes_of s.0) note
  on = note_grows d.grows

  owned_init : (c k : ℕ) (held : Held)
      → Contains s.1 (the.InitReply (caller_with c k) code.NoError (Some held))
      → Owned (notes_of s.0) c held
  owned_init c k held there =
      let g : GivesFirst w.sent (notes_of s.0) (caller_with c k) held =
      (out (the.InitReply (caller_with c k) code.NoError (Some held)) there).says in
      by g.txn g.has
    where
      by : (txn : Option (List ℕ)) → Has (notes_of s.0) c txn held → Owned (notes_of s.0) c held
      by txn (by_row r at o e t) =
          by_pair r at o (has_now (sym (ap (λ x. x.id) e)) (sym (ap (λ x. x.epoch) e)))
      by txn (by_allotment at e t) = by_id at

  -- the row that ends a transaction has the owner of its pair
  ended_owner : (c : ℕ) (ending : Held) → Owned (notes w) c ending → (r : Row)
      → Contains (notes_of s.0) (Written r) → ends ending.id ending.epoch r ≡ true
      → r.owner ≡ c
  ended_owner c ending (by_pair q at o p) r written e =
      sym ((one_owner history).ended r q ending.id ending.epoch written (on (Written q) at) e p)
      ∙ o
  ended_owner c ending (by_id at) r written e =
      absurd (unnamed history ending.id (on (Allot ending.id) at) r written
      (names_ended r ending.id ending.epoch e))

  owned_end : (c k : ℕ) (held : Held)
      → Contains s.1 (the.EndReply (caller_with c k) code.NoError (Some held))
      → Owned (notes_of s.0) c held
  owned_end c k held there =
      let g : GivesNext w.sent (notes_of s.0) (caller_with c k) held =
      (out (the.EndReply (caller_with c k) code.NoError (Some held)) there).says in
      let entitled : Handed w.sent c g.ending =
      All-contains (IsEntitled w.sent) w.sent
      (the.EndTxn (caller_with c k) g.txn g.ending g.outcome) h.entitled
      g.asked in
      let o = ended_owner c g.ending (h.owned c g.ending entitled) g.row g.written g.its_end in
      by_pair g.row g.written o
      (gives_after g.row held g.given)

  owned_next : (c : ℕ) (held : Held) → Handed (w.sent ++ s.1) c held
      → Owned (notes_of s.0) c held
  owned_next c held (by_init k there) =
      ⊎_elim (λ old. owned_later on (h.owned c held (by_init k old))) (owned_init c k held)
      (Contains-append_cases w.sent s.1
      (the.InitReply (caller_with c k) code.NoError (Some held)) there)
  owned_next c held (by_end k there) =
      ⊎_elim (λ old. owned_later on (h.owned c held (by_end k old))) (owned_end c k held)
      (Contains-append_cases w.sent s.1
      (the.EndReply (caller_with c k) code.NoError (Some held)) there)

  -- an id that is allotted and handed out now is the next id
  handed_now : (c k : ℕ) (held : Held)
      → Contains s.1 (the.InitReply (caller_with c k) code.NoError (Some held))
      → Contains (notes_of s.0) (Allot held.id) → held.id ≡ next_id (notes w)
  handed_now c k held there allotted =
      ⊎_elim (λ r. absurd (unnamed history held.id allotted r.0 r.1
      (own (sym (ap (λ x. x.id) r.2))))) (λ e. e)
      (out (the.InitReply (caller_with c k) code.NoError (Some held)) there).is_new

  handed_below : (c k : ℕ) (held : Held)
      → Contains w.sent (the.InitReply (caller_with c k) code.NoError (Some held))
      → held.id < next_id (notes w)
  handed_below c k held there =
      owned_below (notes w) c held (h.owned c held (by_init k there))

  once_next : AllottedOnce (w.sent ++ s.1) (notes_of s.0)
  once_next c d' k l held other there there' allotted same =
      by (Contains-append_cases w.sent s.1
      (the.InitReply (caller_with c k) code.NoError (Some held)) there)
      (Contains-append_cases w.sent s.1
      (the.InitReply (caller_with d' l) code.NoError (Some other)) there')
    where
      by : Contains w.sent (the.InitReply (caller_with c k) code.NoError (Some held))
          ⊎ Contains s.1 (the.InitReply (caller_with c k) code.NoError (Some held))
          → Contains w.sent (the.InitReply (caller_with d' l) code.NoError (Some other))
          ⊎ Contains s.1 (the.InitReply (caller_with d' l) code.NoError (Some other)) → c ≡ d'
      by (inl a) (inl b) =
          h.once c d' k l held other a b
          (allotted_before d.grows held.id (handed_below c k held a) allotted) same
      by (inl a) (inr b) =
          let low = handed_below c k held a in
          let now = handed_now d' l other b
          (subst (λ i. Contains (notes_of s.0) (Allot i)) same allotted) in
          absurd (omega arith)
      by (inr a) (inl b) =
          let now = handed_now c k held a allotted in
          let low = handed_below d' l other b in
          absurd (omega arith)
      by (inr a) (inr b) =
          (out (the.InitReply (caller_with c k) code.NoError (Some held)) a).addressed
          ∙ sym (out (the.InitReply (caller_with d' l) code.NoError (Some other)) b).addressed

  -- the coordinator asks for no end of a transaction
  entitled_now : (m : Message) → IsCoordinators m → IsEntitled (w.sent ++ s.1) m
  entitled_now m CoordinatorDoes.marker = tt
  entitled_now m CoordinatorDoes.add_reply = tt
  entitled_now m CoordinatorDoes.init_reply = tt
  entitled_now m CoordinatorDoes.end_reply = tt

------ each turn

module _ (w : World) (h : HoldersStand w) where
  coordinators_turn : (clock : ℕ) (s : Coordinated) → CoordinatorTurn w s
      → HoldersStand (with_coordinator (record w { clock = clock }) s)
  coordinators_turn clock s turn =
      let d = turn_does w s h.stands.coordinator turn in
      record {
        stands = stands_next w (with_coordinator (record w { clock = clock }) s) h.stands
            (coordinators clock s turn);
        clients = All-weaker (HoldsOwn w.sent) (HoldsOwn (w.sent ++ s.1))
            (λ c k. holds_later (up w.sent s.1) k) w.clients h.clients;
        entitled = entitled_more w.sent s.1 h.entitled
            (All-weaker (Out d.client w.sent (notes w) (notes_of s.0))
            (IsEntitled (w.sent ++ s.1))
            (λ m o. entitled_now w h s d m o.kind) s.1 d.out);
        owned = owned_next w h s d;
        once = once_next w h s d;
      }

  -- what hands out no pair leaves whose each is
  quiet_owned : (messages : List Message) → All HandsNone messages → (c : ℕ) (held : Held)
      → Handed (w.sent ++ messages) c held → Owned (notes w) c held
  quiet_owned messages quiet c held there =
      h.owned c held (handed_before w.sent messages quiet c held there)

  quiet_once : (messages : List Message) → All HandsNone messages
      → AllottedOnce (w.sent ++ messages) (notes w)
  quiet_once messages quiet c d k l held other a b =
      h.once c d k l held other (init_before w.sent messages quiet c k held a)
      (init_before w.sent messages quiet d l other b)

  partitions_turn : (later : World) → CoordinatorStands later → (messages : List Message)
      → All IsPartitions messages → later.clients ≡ w.clients
      → later.sent ≡ w.sent ++ messages → notes later ≡ notes w → HoldersStand later
  partitions_turn later stands messages kinds same_clients same_sent same_notes = record {
    stands = stands;
    clients = subst (λ l. All (HoldsOwn later.sent) l) (sym same_clients)
        (subst (λ l. All (HoldsOwn l) w.clients) (sym same_sent)
        (All-weaker (HoldsOwn w.sent) (HoldsOwn (w.sent ++ messages))
        (λ c k. holds_later (up w.sent messages) k) w.clients h.clients));
    entitled = subst (λ l. All (IsEntitled l) l) (sym same_sent)
        (entitled_more w.sent messages h.entitled
        (All-weaker IsPartitions (IsEntitled (w.sent ++ messages)) entitled messages kinds));
    owned = subst (λ l. (c : ℕ) (held : Held) → Handed later.sent c held → Owned l c held)
        (sym same_notes)
        (subst (λ l. (c : ℕ) (held : Held) → Handed l c held → Owned (notes w) c held)
        (sym same_sent) (quiet_owned messages quiet));
    once = subst (AllottedOnce later.sent) (sym same_notes)
        (subst (λ l. AllottedOnce l (notes w)) (sym same_sent) (quiet_once messages quiet));
  }
    where
      quiet : All HandsNone messages
      quiet = All-weaker IsPartitions HandsNone (λ m p. partitions_own p) messages kinds

      entitled : (m : Message) → IsPartitions m → IsEntitled (w.sent ++ messages) m
      entitled m SentKinds.adding = tt
      entitled m SentKinds.marked = tt
      entitled m SentKinds.produced = tt
      entitled m SentKinds.fetch = tt
      entitled m SentKinds.joined = tt
      entitled m SentKinds.left = tt
      entitled m SentKinds.offsets_stand = tt
      entitled m SentKinds.offset_there = tt

  clients_turn : (c after : Client) (messages : List Message)
      → CoordinatorStands (with_client w after messages) → HoldsOwn w.sent after
      → All (IsEntitled w.sent) messages → All IsClients messages
      → HoldersStand (with_client w after messages)
  clients_turn c after messages stands holds_own entitled kinds = record {
    stands = stands;
    clients = All-map (HoldsOwn (w.sent ++ messages))
        (λ d. cond (d.number == after.number) after d) w.clients
        (All-weaker (HoldsOwn w.sent)
        (λ d. HoldsOwn (w.sent ++ messages) (cond (d.number == after.number) after d))
        (λ d k. cond_both (d.number == after.number) after d (HoldsOwn (w.sent ++ messages))
        (λ e. holds_later (up w.sent messages) holds_own)
        (λ e. holds_later (up w.sent messages) k))
        w.clients h.clients);
    entitled = entitled_more w.sent messages h.entitled
        (All-weaker (IsEntitled w.sent) (IsEntitled (w.sent ++ messages))
        (entitled_later w.sent (w.sent ++ messages) (up w.sent messages)) messages entitled);
    owned = quiet_owned messages quiet;
    once = quiet_once messages quiet;
  }
    where
      quiet : All HandsNone messages
      quiet = All-weaker IsClients HandsNone (λ m p. clients_own p) messages kinds

pub holders_next : (w later : World) → HoldersStand w → Turn w later → HoldersStand later
holders_next w later h nobodys = h
holders_next w later h (coordinators clock s turn) = coordinators_turn w h clock s turn
holders_next w later h (partitions number p s there turn) =
    partitions_turn w h (with_partition w number s)
    (stands_next w (with_partition w number s) h.stands (partitions number p s there turn)) s.1
    (turn_sends w number p s turn) refl refl refl
holders_next w later h (clients c after messages there turn) =
    let at = (find_tells (λ d. d.number == c.number) w.clients c there).0 in
    let mine = All-contains (HoldsOwn w.sent) w.clients c h.clients at in
    let waits = All-contains WaitsForOwn w.clients c h.stands.waiting at in
    let t = turn_holds w c after messages mine turn in
    clients_turn w h c after messages
    (stands_next w (with_client w after messages) h.stands (clients c after messages there turn))
    t.0 t.2 (client_sends w c after messages turn waits).1
holders_next w later h (making number txn timeout new a b c) = record {
  stands = stands_next w _ h.stands (making number txn timeout new a b c);
  clients = All-push (HoldsOwn w.sent) w.clients (new_client number txn timeout) h.clients
      (record { held = tt; waiting = All-nil (IsEntitled w.sent) });
  entitled = h.entitled;
  owned = h.owned;
  once = h.once;
}

pub holders_first : (count : ℕ) → HoldersStand (start count)
holders_first count = record {
  stands = stands_first count;
  clients = All-nil (HoldsOwn []);
  entitled = All-nil (IsEntitled []);
  owned = λ c held there. absurd (nothing c held there);
  once = λ c d k l held other there. absurd (no_element _ there);
}
  where
    nothing : (c : ℕ) (held : Held) → Handed [] c held → ⊥
    nothing c held (by_init k there) = no_element _ there
    nothing c held (by_end k there) = no_element _ there

pub holders_stand_always : Always HoldersStand
holders_stand_always = always HoldersStand holders_first holders_next

------ one holder

-- the reply is the client's, with the code 0 and this pair
given_tells : (c : ℕ) (held : Held) (caller : Caller) (k : ErrorCode) (given : Option Held)
    → is_given c held caller k given ≡ true
    → (k ≡ code.NoError) × (given ≡ Some held) × (caller.client ≡ c)
given_tells c held caller code.NoError (Some given) h =
    let a = and_parts (caller.client == c) (same_pair given held) h in
    let b = and_parts (given.id == held.id) (given.epoch == held.epoch) a.1 in
    let id : given.id ≡ held.id = grind (arith, nat_tests, b.0) in
    let epoch : given.epoch ≡ held.epoch = grind (arith, nat_tests, b.1) in
    let client : caller.client ≡ c = grind (arith, nat_tests, a.0) in
    (refl, λ i. Some (record { id = id i; epoch = epoch i }), client)
given_tells c held caller k given h = absurd cc

-- what is handed over by the message
hands_tells : (w : World) (c : ℕ) (held : Held) (m : Message) → Contains w.sent m
    → hands c held m ≡ true → Handed w.sent c held
hands_tells w c held (msg.InitReply it) there h =
    let (zero, given, client) = given_tells c held it.caller it.code it.held h in
    by_init it.caller.correlation
    (subst (λ x. Contains w.sent
    (the.InitReply (caller_with x it.caller.correlation) code.NoError (Some held))) client
    (subst (λ x. Contains w.sent (the.InitReply it.caller x (Some held))) zero
    (subst (λ x. Contains w.sent (the.InitReply it.caller it.code x)) given there)))
hands_tells w c held (msg.EndReply it) there h =
    let (zero, given, client) = given_tells c held it.caller it.code it.held h in
    by_end it.caller.correlation
    (subst (λ x. Contains w.sent
    (the.EndReply (caller_with x it.caller.correlation) code.NoError (Some held))) client
    (subst (λ x. Contains w.sent (the.EndReply it.caller x (Some held))) zero
    (subst (λ x. Contains w.sent (the.EndReply it.caller it.code x)) given there)))
hands_tells w c held m there h = absurd cc

pub holds_tells : (w : World) (c : ℕ) (held : Held) → holds w c held ≡ true
    → Handed w.sent c held
holds_tells w c held h =
    let (m, there, t) = any_holds (hands c held) w.sent h in
    hands_tells w c held m there t

module _ (w : World) (h : HoldersStand w) where
  history_now : History w.sent (notes w)
  history_now = h.stands.coordinator.history

  -- what the end of a transaction gives, a row names
  end_named : (c k : ℕ) (held : Held)
      → Contains w.sent (the.EndReply (caller_with c k) code.NoError (Some held))
      → Contains (notes w) (Allot held.id) → ⊥
  end_named c k held there allotted =
      let g : GivesNext w.sent (notes w) (caller_with c k) held =
      All-contains (Says w.sent (notes w)) w.sent
      (the.EndReply (caller_with c k) code.NoError (Some held))
      h.stands.says there in
      unnamed history_now held.id allotted g.row g.written
      (names_pair g.row held.id held.epoch (gives_after g.row held g.given))

  allotted_one : (c d : ℕ) (held : Held) → Contains (notes w) (Allot held.id)
      → Handed w.sent c held → Handed w.sent d held → c ≡ d
  allotted_one c d held allotted (by_init k a) (by_init l b) =
      h.once c d k l held held a b allotted refl
  allotted_one c d held allotted (by_end k a) y = absurd (end_named c k held a allotted)
  allotted_one c d held allotted x (by_end l b) = absurd (end_named d l held b allotted)

  pub one_client : (c d : ℕ) (held : Held) → Handed w.sent c held → Handed w.sent d held → c ≡ d
  one_client c d held x y = by (h.owned c held x) (h.owned d held y)
    where
      by : Owned (notes w) c held → Owned (notes w) d held → c ≡ d
      by (by_id a) o = allotted_one c d held a x y
      by o (by_id a) = allotted_one c d held a x y
      by (by_pair r a o p) (by_pair s b q t) =
          sym o ∙ (one_owner history_now).one r s held.id held.epoch a b p t ∙ q

pub one_holder : OneHolder
one_holder count events fits c d held x y =
    let w = run events (start count) in
    one_client w (holders_stand_always count events fits) c d held (holds_tells w c held x)
    (holds_tells w d held y)
