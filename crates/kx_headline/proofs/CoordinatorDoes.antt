-- All that the coordinator does in any event, once and for all: what its log grows to, what a
-- failed store may hold, which markers it has noted, and what each message that it hands out rests
-- on. The theorems read this, and no handler.
use Rattle.std.proofs.Common.{◌≡◌, ◌⊎◌, ℕ, ℤ, pos, max, Bool, true}
use Rattle.std.proofs.Common.{false}
use Rattle.std.proofs.Common.{not, ◌&&◌, ◌||◌, cond, List, [], ◌∷◌, ◌++◌, filter, flat_map}
use Rattle.std.proofs.Common.{Option, ◌==◌, nat_lt}
use Rattle.std.proofs.Common.{Some, None, Contains, All, refl, subst}
use Rattle.std.proofs.Common.{IfSome, arith, bytes_eq}
use Rattle.std.proofs.Common.{inl, inr, ◌+ℤ◌}
use Rattle.std.specs.Bool.{⊤}
use Rattle.std.specs.Prelude.{FitsSigned, int_lt}
use Rattle.std.specs.Int.{w32}
use Rattle.std.proofs.lemmas.Bool.{cond_both}
use Rattle.std.proofs.lemmas.Bool.Decides.{nat_tests}
use Rattle.std.proofs.lemmas.List.Elements.{All-append, All-cons, All-filter, All-nil, All-weaker}
use Rattle.std.proofs.lemmas.List.Elements.{All-map}
use Rattle.std.proofs.lemmas.List.Elements.{Contains-push}
use Rattle.kx_message.specs.declared.requests.Caller.{Caller}
use Rattle.kx_message.specs.declared.code.ErrorCode.{ErrorCode}
use Rattle.kx_message.specs.declared.code.ErrorCode.TheVariants as code
use Rattle.kx_message.specs.declared.message.Held.{Held}
use Rattle.kx_message.specs.declared.message.Message.{Message}
use Rattle.kx_message.specs.declared.message.Message.TheVariants as msg
use Rattle.kx_message.specs.Messages as the
use Rattle.kx_message.specs.Ranges.{spent_epoch}
use Rattle.kx_message.specs.declared.outcome.Outcome.{Outcome}
use Rattle.kx_model.specs.Coordinator.{Row, TxnEntry, CoordinatorEpoch, Allot, Written, State}
use Rattle.kx_model.specs.Coordinator.{Empty}
use Rattle.kx_model.specs.Coordinator.{Ongoing, Prepare, Complete, coordinator_epoch, ends, next_id}
use Rattle.kx_model.specs.Coordinator.{is, lists, outcome_of, row_of, rows}
use Rattle.kx_model.specs.CoordinatorNode.{Coordinator, Coordinated, Reply}
use Rattle.kx_model.specs.CoordinatorNode.{coordinator_restarts, coordinator_takes, expires}
use Rattle.kx_model.specs.CoordinatorNode.{expires_row, has_no_id, is_appended, notes_of}
use Rattle.kx_model.specs.CoordinatorNode.{on_marker_reply, on_settled, opened, opens, reminds}
use Rattle.kx_model.specs.CoordinatorNode.{replies, writes}
use Rattle.kx_model.specs.Disk.{Store, Works, Fails, Reopening, Reopens, CannotRead}
use Rattle.kx_model.specs.Disk.{CannotWrite, CannotLoad, is_written, left_behind, reread, works}
use Rattle.kx_model.specs.Markers.{Answered, Settled, Ignored, Noted, Completes}
use Rattle.kx_model.specs.Markers.{expire, greatest_epoch, is_answered, marker_message}
use Rattle.kx_model.specs.Markers.{markers_after, markers_in, markers_of}
use Rattle.kx_model.specs.Markers.{reopen, settle, without_row}
use Rattle.kx_model.specs.Requests.{Answer, add, add_at, add_in, end_txn, held_after, init}
use Rattle.kx_model.specs.Requests.{is_old, is_own}
use Rattle.kx_model.specs.Requests.{is_prepared, or_answer, own_pair, refused_first, refuses}
use Rattle.kx_model.specs.Requests.{repeats, with_added}
use Rattle.kx_model.specs.Requests as requests
use Rattle.kx_headline.proofs.Codes.{OfGiven, OfNext, OfNoGroup, WithNoError, of_next}
use Rattle.kx_headline.proofs.Codes.{with_no_error}
use Rattle.kx_headline.proofs.CoordinatorFollows
use Rattle.kx_headline.proofs.CoordinatorFollows.{Follows}
use Rattle.kx_headline.proofs.CoordinatorGrows.{Next, Grows, none, more, History, grows_later}
use Rattle.kx_headline.proofs.CoordinatorGrows.{grows_trans, history_in_range, history_sound}
use Rattle.kx_headline.proofs.CoordinatorGrows.{next_later, reread_grows}
use Rattle.kx_headline.proofs.CoordinatorRows.{row_of-found}
use Rattle.kx_headline.proofs.CoordinatorSound.{Sound}
use Rattle.kx_headline.proofs.CoordinatorTables.{Does, InitSays, owned, allotted, EndSays, ended}
use Rattle.kx_headline.proofs.CoordinatorTables.{Gives, Listed, IsReplied, SettleDoes}
use Rattle.kx_headline.proofs.CoordinatorTables.{writes_row, add_does, end_does, expire_follows}
use Rattle.kx_headline.proofs.CoordinatorTables.{init_does, log_after, noting_replied, rows_last}
use Rattle.kx_headline.proofs.CoordinatorTables.{settle_does}
use Rattle.kx_laws.proofs.Lists.{All-flat_map, All-from_contains, if_some_more}
use Rattle.kx_laws.proofs.Membership.{filter_holds}

------ what a message of the coordinator rests on

-- a row that waits for its markers lists the partition, with this outcome
pub record Marks (log : List TxnEntry) (partition : ℕ) (held : Held) (coordinator : ℤ)
    (outcome : Outcome) : Type 0 where
  pub row : Row
  pub written : Contains log (Written row)
  pub waits : row.state ≡ Prepare outcome
  pub its_pair : held ≡ own_pair row
  pub listed : Contains row.partitions partition
  pub in_range : FitsSigned w32 coordinator

-- a row of the transactional id has the pair, and its owner is the client; or, without one, the id
-- was allotted
pub data Has (log : List TxnEntry) (client : ℕ) (txn : Option (List ℕ)) (held : Held) : Type 0 where
  by_row : (r : Row) → Contains log (Written r) → r.owner ≡ client → held ≡ own_pair r
      → txn ≡ Some r.txn → Has log client txn held
  by_allotment : Contains log (Allot held.id) → held.epoch ≡ 0 → txn ≡ None
      → Has log client txn held

-- a pair that a client asked for
pub record GivesFirst (sent : List Message) (log : List TxnEntry) (caller : Caller)
    (held : Held) : Type 0 where
  pub txn : Option (List ℕ)
  pub timeout : ℕ
  pub asked : Contains sent (the.InitProducerId caller txn timeout)
  pub has : Has log caller.client txn held

-- a row ends the transaction of an EndTxn that was sent, as that asks, and gives the pair after it
pub record GivesNext (sent : List Message) (log : List TxnEntry) (caller : Caller)
    (held : Held) : Type 0 where
  pub txn : List ℕ
  pub ending : Held
  pub outcome : Outcome
  pub asked : Contains sent (the.EndTxn caller txn ending outcome)
  pub row : Row
  pub written : Contains log (Written row)
  pub its_txn : row.txn ≡ txn
  pub its_end : ends ending.id ending.epoch row ≡ true
  pub given : Gives row held
  pub so : outcome_of row.state ≡ Some outcome
  pub next : held ≡ held_after row

-- what a message says for good of the coordinator's log
abbrev pub Says : List Message → List TxnEntry → Message → Type 0
Says sent log (msg.WriteMarker it) =
    Marks log it.partition it.held it.coordinator_epoch it.outcome
Says sent log (msg.AddReply it) =
    WithNoError it.code (Listed log it.partition it.held.id it.held.epoch) × OfNoGroup it.code
Says sent log (msg.InitReply it) = OfNext it.code it.held (GivesFirst sent log it.caller)
Says sent log (msg.EndReply it) =
    OfNext it.code it.held (GivesNext sent log it.caller)
Says sent log m = ⊤

-- the kinds that the coordinator hands out
pub data IsCoordinators : Message → Type 0 where
  marker : {partition : ℕ} {txn : List ℕ} {held : Held} {coordinator : ℤ} {outcome : Outcome}
      → IsCoordinators (the.WriteMarker partition txn held coordinator outcome)
  add_reply : {partition : ℕ} {txn : List ℕ} {held : Held} {code : ErrorCode}
      → IsCoordinators (the.AddReply partition txn held code)
  init_reply : {caller : Caller} {code : ErrorCode} {held : Option Held}
      → IsCoordinators (the.InitReply caller code held)
  end_reply : {caller : Caller} {code : ErrorCode} {held : Option Held}
      → IsCoordinators (the.EndReply caller code held)

-- an id that is handed out by itself is allotted now
abbrev pub IsNew : List TxnEntry → List TxnEntry → Message → Type 0
IsNew before log (msg.InitReply it) = OfGiven it.code it.held (λ held.
    ((r : Row) × Contains log (Written r) × (held ≡ own_pair r)) ⊎ (held.id ≡ next_id before))
IsNew before log m = ⊤

-- the answer to a client that asks for an id goes to this client
abbrev pub IsFor : ℕ → Message → Type 0
IsFor client (msg.InitReply it) = it.caller.client ≡ client
IsFor client m = ⊤

pub record Out (client : ℕ) (sent : List Message) (before log : List TxnEntry) (m : Message) :
    Type 0 where
  pub says : Says sent log m
  pub kind : IsCoordinators m
  pub is_new : IsNew before log m
  pub addressed : IsFor client m

------ what stands as more is sent, and the log grows

has_later : (log log' : List TxnEntry) →
    ((note : TxnEntry) → Contains log note → Contains log' note)
    → (client : ℕ) (txn : Option (List ℕ)) (held : Held) → Has log client txn held
    → Has log' client txn held
has_later log log' on client txn held (by_row r w o e t) = by_row r (on (Written r) w) o e t
has_later log log' on client txn held (by_allotment w e t) =
    by_allotment (on (Allot held.id) w) e t

pub says_later : (sent later : List Message) (log log' : List TxnEntry)
    → ((m : Message) → Contains sent m → Contains later m)
    → ((note : TxnEntry) → Contains log note → Contains log' note)
    → (m : Message) → Says sent log m → Says later log' m
says_later sent later log log' up on (msg.WriteMarker it) s = record {
  row = s.row;
  written = on (Written s.row) s.written;
  waits = s.waits;
  its_pair = s.its_pair;
  listed = s.listed;
  in_range = s.in_range;
}
says_later sent later log log' up on (msg.AddReply it) said = (
  with_no_error it.code (λ s. record {
    row = s.row;
    written = on (Written s.row) s.written;
    its_id = s.its_id;
    its_epoch = s.its_epoch;
    going = s.going;
    listed = s.listed;
  }) said.0,
  said.1,
)
says_later sent later log log' up on (msg.InitReply it) said =
    of_next it.code it.held (λ held s. record {
      txn = s.txn;
      timeout = s.timeout;
      asked = up (the.InitProducerId it.caller s.txn s.timeout) s.asked;
      has = has_later log log' on it.caller.client s.txn held s.has;
    }) said
says_later sent later log log' up on (msg.EndReply it) said =
    of_next it.code it.held (λ held s. record {
      txn = s.txn;
      ending = s.ending;
      outcome = s.outcome;
      asked = up (the.EndTxn it.caller s.txn s.ending s.outcome) s.asked;
      row = s.row;
      written = on (Written s.row) s.written;
      its_txn = s.its_txn;
      its_end = s.its_end;
      given = s.given;
      so = s.so;
      next = s.next;
    }) said
says_later sent later log log' up on m s = tt

------ the coordinator, and its steps

pub record CoordinatorOk (sent : List Message) (co : Coordinator) : Type 0 where
  pub history : History sent (notes_of co)
  pub hidden : IfSome co.disk.hidden (Next sent (notes_of co))
  pub answered : All (IsReplied sent) co.answered

pub record CoordinatorDoes (sent : List Message) (co : Coordinator) (s : Coordinated) :
    Type 0 where
  pub grows : Grows sent (notes_of co) (notes_of s.0)
  pub hidden : IfSome s.0.disk.hidden (Next sent (notes_of s.0))
  pub answered : All (IsReplied sent) s.0.answered
  -- the client that asks for an id, if one does
  pub client : ℕ
  pub out : All (Out client sent (notes_of co) (notes_of s.0)) s.1

-- what it does keeps it so
pub does_ok : {sent : List Message} {co : Coordinator} {s : Coordinated} → CoordinatorOk sent co
    → CoordinatorDoes sent co s → CoordinatorOk sent s.0
does_ok ok d = record {
  history = grows_trans ok.history d.grows;
  hidden = d.hidden;
  answered = d.answered;
}

pub ok_later : {sent later : List Message} {co : Coordinator}
    → ((m : Message) → Contains sent m → Contains later m) → CoordinatorOk sent co
    → CoordinatorOk later co
ok_later {sent} {later} {co} up ok = record {
  history = grows_later up ok.history;
  hidden = if_some_more (Next sent (notes_of co)) (Next later (notes_of co))
      (λ note n. next_later up n) co.disk.hidden ok.hidden;
  answered = All-weaker (IsReplied sent) (IsReplied later)
      (λ a c. up (the.MarkerReply a.partition a.txn a.held code.NoError) c) co.answered
      ok.answered;
}

------ the markers of rows

-- the markers of a row at some of its partitions
markers_out : (n : ℕ) (sent : List Message) (before log : List TxnEntry) (k : ℤ) → FitsSigned w32 k
    → (r : Row)
    → Contains log (Written r) → (partitions : List ℕ)
    → ((p : ℕ) → Contains partitions p → Contains r.partitions p) → (st : State) → r.state ≡ st
    → All (Out n sent before log) (markers_in k (record r { partitions = partitions }) st)
markers_out n sent before log k low r c partitions sub Empty e = All-nil (Out n sent before log)
markers_out n sent before log k low r c partitions sub Ongoing e = All-nil (Out n sent before log)
markers_out n sent before log k low r c partitions sub (Prepare o) e =
    All-map (Out n sent before log) (marker_message k (record r { partitions = partitions }) o)
    partitions (All-from_contains
    (λ p. Out n sent before log (marker_message k (record r { partitions = partitions }) o p))
    partitions (λ p there. record {
      says = record {
        row = r;
        written = c;
        waits = e;
        its_pair = refl;
        listed = sub p there;
        in_range = low;
      };
      kind = marker;
      is_new = tt;
      addressed = tt;
    }))
markers_out n sent before log k low r c partitions sub (Complete o) e =
    All-nil (Out n sent before log)

after_out : (n : ℕ) (sent : List Message) (before log : List TxnEntry) (k : ℤ) → FitsSigned w32 k
    → (note : TxnEntry) → Contains log note → All (Out n sent before log) (markers_after k note)
after_out n sent before log k low (CoordinatorEpoch epoch) c = All-nil (Out n sent before log)
after_out n sent before log k low (Allot id) c = All-nil (Out n sent before log)
after_out n sent before log k low (Written r) c =
    markers_out n sent before log k low r c r.partitions (λ p there. there) r.state refl

-- of all rows, at some of their partitions
rows_out : (n : ℕ) (sent : List Message) (before log : List TxnEntry) (k : ℤ) → FitsSigned w32 k
    → (pick : Row → List ℕ)
    → ((r : Row) (p : ℕ) → Contains (pick r) p → Contains r.partitions p)
    → All (Out n sent before log)
    (flat_map (λ r. markers_of k (record r { partitions = pick r })) (rows log))
rows_out n sent before log k low pick sub =
    All-flat_map (Out n sent before log) (λ r. markers_of k (record r { partitions = pick r }))
    (rows log) (λ r c. markers_out n sent before log k low r
    (row_of-found log r.txn r (rows_last log r c)).0 (pick r) (sub r) r.state refl)

------ what each handler does

module _ (sent : List Message) (co : Coordinator) (ok : CoordinatorOk sent co) where
  sound : Sound (notes_of co)
  sound = history_sound ok.history

  low : FitsSigned w32 (coordinator_epoch (notes_of co))
  low = (history_in_range ok.history).epochs

  abbrev Told : ℕ → List TxnEntry → List Message → Type 0
  Told n log ms = All (Out n sent (notes_of co) log) ms

  one : (n : ℕ) (log : List TxnEntry) (m : Message) → Out n sent (notes_of co) log m
      → Told n log (m ∷ [])
  one n log m o = All-cons (Out n sent (notes_of co) log) m [] o
      (All-nil (Out n sent (notes_of co) log))

  silent : (n : ℕ) (log : List TxnEntry) → Told n log []
  silent n log = All-nil (Out n sent (notes_of co) log)

  still : (n clock : ℕ) (ms : List Message) → Told n (notes_of co) ms
      → CoordinatorDoes sent co (record co { clock = clock }, ms)
  still n clock ms told =
      record { grows = none; hidden = ok.hidden; answered = ok.answered; client = n; out = told }

  left_next : (store : Store) (note : TxnEntry) → Next sent (notes_of co) note
      → IfSome (left_behind store note) (Next sent (notes_of co))
  left_next Works note n = tt
  left_next (Fails true) note n = n
  left_next (Fails false) note n = tt
  left_next CannotLoad note n = tt

  -- the coordinator after an append: whether its ids are used up, and whether it was written
  abbrev after_append : ℕ → Store → TxnEntry → List Message → List Message → Bool → Bool →
      Coordinated
  after_append clock store note done failed spent written = (
    record co {
      disk = cond spent co.disk (record {
        kept = cond written (notes_of co ++ note ∷ []) (notes_of co);
        hidden = cond co.disk.closed co.disk.hidden (left_behind store note);
        closed = co.disk.closed || not (works store);
      });
      clock = clock;
    },
    cond (not spent && written)
        (done ++ markers_after (coordinator_epoch (notes_of co)) note) failed,
  )

  -- a note is appended, and messages follow it
  writes_does : (n clock : ℕ) (store : Store) (note : TxnEntry) (done failed : List Message)
      → Follows sent (notes_of co) note → Told n (notes_of co ++ note ∷ []) done
      → Told n (notes_of co) failed
      → CoordinatorDoes sent co (writes (record co { clock = clock }) store note done failed)
  writes_does n clock store note done failed f d e =
      by (has_no_id note) refl (is_written co.disk store) refl
    where
      nothing_left : (closed : Bool) (store : Store) → (not closed && works store) ≡ true
          → IfSome (cond closed co.disk.hidden (left_behind store note))
          (Next sent (notes_of co ++ note ∷ []))
      nothing_left true store e = absurd cc
      nothing_left false Works e = tt
      nothing_left false (Fails whole) e = absurd cc
      nothing_left false CannotLoad e = tt

      by : (spent : Bool) → has_no_id note ≡ spent → (written : Bool)
          → is_written co.disk store ≡ written
          → CoordinatorDoes sent co (after_append clock store note done failed spent written)
      by true e1 written e2 = still n clock failed e
      by false e1 false e2 = record {
        grows = none;
        hidden = cond_both co.disk.closed co.disk.hidden (left_behind store note)
            (λ h. IfSome h (Next sent (notes_of co))) (λ c. ok.hidden)
            (λ c. left_next store note (record { follows = f; has_id = e1 }));
        answered = ok.answered;
        client = n;
        out = e;
      }
      by false e1 true e2 = record {
        grows = more (notes_of co) note none (record { follows = f; has_id = e1 });
        hidden = nothing_left co.disk.closed store e2;
        answered = ok.answered;
        client = n;
        out = All-append (Out n sent (notes_of co) (notes_of co ++ note ∷ [])) done
            (markers_after (coordinator_epoch (notes_of co)) note) d
            (after_out n sent (notes_of co) (notes_of co ++ note ∷ [])
            (coordinator_epoch (notes_of co)) low note (Contains-push (notes_of co) note));
      }

  -- a request is answered
  replies_does : (n : ℕ) (store : Store) (Said : Option TxnEntry → Option Held → Type 0)
      (a : Answer)
      (reply : Reply) → Does sent (notes_of co) Said a
      → ((a.code ≡ code.NoError → Said a.note a.held)
      → Out n sent (notes_of co) (log_after (notes_of co) a.note) (reply a.code a.held))
      → Out n sent (notes_of co) (notes_of co) (reply code.KafkaStorageError None)
      → CoordinatorDoes sent co (replies co store a reply a.note)
  replies_does n store Said a reply d out failed = by a.note refl
    where
      by : (note : Option TxnEntry) → a.note ≡ note
          → CoordinatorDoes sent co (replies co store a reply note)
      by None e =
          still n co.clock (reply a.code a.held ∷ []) (one n (notes_of co) (reply a.code a.held)
          (subst (λ x. Out n sent (notes_of co) (log_after (notes_of co) x) (reply a.code a.held))
          e
          (out d.says)))
      by (Some note) e =
          writes_does n co.clock store note (reply a.code a.held ∷ [])
          (reply code.KafkaStorageError None ∷ [])
          (subst (λ x. IfSome x (Follows sent (notes_of co))) e d.follows)
          (one n (notes_of co ++ note ∷ []) (reply a.code a.held)
          (subst (λ x. Out n sent (notes_of co) (log_after (notes_of co) x) (reply a.code a.held))
          e
          (out d.says)))
          (one n (notes_of co) (reply code.KafkaStorageError None) failed)

  ------ requests

  init_out : (caller : Caller) (txn : Option (List ℕ)) (timeout : ℕ)
      → Contains sent (the.InitProducerId caller txn timeout) → (entry : Option TxnEntry)
      (c : ErrorCode) (held : Option Held)
      → (c ≡ code.NoError → InitSays (notes_of co) caller.client txn entry held)
      → Out caller.client sent (notes_of co) (log_after (notes_of co) entry)
      (the.InitReply caller c held)
  init_out caller txn timeout m entry code.NoError held h = by entry held (h refl)
    where
      by : (entry : Option TxnEntry) (held : Option Held)
          → InitSays (notes_of co) caller.client txn entry held
          → Out caller.client sent (notes_of co) (log_after (notes_of co) entry)
          (the.InitReply caller code.NoError held)
      by _ x (owned entry r there same its) = record {
        says = record {
          txn = txn;
          timeout = timeout;
          asked = m;
          has = by_row r there same refl its;
        };
        kind = init_reply;
        is_new = inl (r, there, refl);
        addressed = refl;
      }
      by _ x (allotted without) = record {
        says = record {
          txn = txn;
          timeout = timeout;
          asked = m;
          has = by_allotment (Contains-push (notes_of co) (Allot (next_id (notes_of co)))) refl
              without;
        };
        kind = init_reply;
        is_new = inr refl;
        addressed = refl;
      }
  init_out caller txn timeout m entry c held h =
      record { says = tt; kind = init_reply; is_new = tt; addressed = refl }

  add_in_code : (clock : ℕ) (r : Row) (held : Held) (partition : ℕ) (st : State)
      → OfNoGroup (add_in clock r held partition st).code
  add_in_code clock r held partition Empty = tt
  add_in_code clock r held partition Ongoing =
      cond_both (lists partition r) (repeats held)
      (requests.writes (with_added r r.start partition))
      (λ (a : Answer). OfNoGroup a.code) (λ e. tt) (λ e. tt)
  add_in_code clock r held partition (Prepare outcome) = tt
  add_in_code clock r held partition (Complete outcome) = tt

  -- none of its codes speaks of a group
  add_code : (log : List TxnEntry) (clock : ℕ) (txn : List ℕ) (held : Held) (partition : ℕ)
      → OfNoGroup (add log clock txn held partition).code
  add_code log clock txn held partition = at (row_of log txn)
    where
      first : (r : Row) (answer : Answer) → OfNoGroup answer.code
          → OfNoGroup (or_answer (refused_first r held) answer).code
      first r answer h =
          let spent = held.epoch == spent_epoch || (is_own r held && nat_lt r.epoch held.epoch) in
          let rest = cond spent (Some code.InvalidProducerEpoch) None in
          let mapping = cond (not (is_own r held || is r.previous held.id))
          (Some code.InvalidProducerIdMapping) rest in
          cond_both (is_prepared r.state && is r.next held.id) (Some code.ConcurrentTransactions)
          mapping (λ o. OfNoGroup (or_answer o answer).code) (λ e. tt)
          (λ e. cond_both (not (is_own r held || is r.previous held.id))
          (Some code.InvalidProducerIdMapping) rest (λ o. OfNoGroup (or_answer o answer).code)
          (λ e. tt)
          (λ e. cond_both spent
          (Some code.InvalidProducerEpoch) None (λ o. OfNoGroup (or_answer o answer).code)
          (λ e. tt) (λ e. h)))

      at : (o : Option Row) → OfNoGroup (add_at clock o held partition).code
      at None = tt
      at (Some r) =
          let last = add_in clock r held partition r.state in
          first r (cond (is_old r held) (refuses code.ProducerFenced) last)
          (cond_both (is_old r held) (refuses code.ProducerFenced) last
          (λ (a : Answer). OfNoGroup a.code) (λ e. tt)
          (λ e. add_in_code clock r held partition r.state))

  add_out : (partition : ℕ) (txn : List ℕ) (held : Held) (entry : Option TxnEntry) (c : ErrorCode)
      → OfNoGroup c
      → (c ≡ code.NoError → Listed (log_after (notes_of co) entry) partition held.id held.epoch)
      → Out 0 sent (notes_of co) (log_after (notes_of co) entry)
      (the.AddReply partition txn held c)
  add_out partition txn held entry code.NoError o h =
      record { says = (h refl, tt); kind = add_reply; is_new = tt; addressed = tt }
  add_out partition txn held entry c o h = record {
    says = (tt, o);
    kind = add_reply;
    is_new = tt;
    addressed = tt;
  }

  end_out : (caller : Caller) (txn : List ℕ) (ending : Held) (outcome : Outcome)
      → Contains sent (the.EndTxn caller txn ending outcome) → (entry : Option TxnEntry)
      (c : ErrorCode) (held : Option Held)
      → (c ≡ code.NoError → EndSays (notes_of co) txn ending outcome entry held)
      → Out 0 sent (notes_of co) (log_after (notes_of co) entry)
      (the.EndReply caller c held)
  end_out caller txn ending outcome m entry code.NoError held h =
      by entry held (h refl)
    where
      by : (entry : Option TxnEntry) (held : Option Held)
          → EndSays (notes_of co) txn ending outcome entry held
          → Out 0 sent (notes_of co) (log_after (notes_of co) entry)
          (the.EndReply caller code.NoError held)
      by _ x (ended entry r given there its_txn its_end gives so next) = record {
        says = record {
          txn = txn;
          ending = ending;
          outcome = outcome;
          asked = m;
          row = r;
          written = there;
          its_txn = its_txn;
          its_end = its_end;
          given = gives;
          so = so;
          next = next;
        };
        kind = end_reply;
        is_new = tt;
        addressed = tt;
      }
  end_out caller txn ending outcome m entry c held h =
      record { says = tt; kind = end_reply; is_new = tt; addressed = tt }

  init_request_does : (store : Store) (caller : Caller) (txn : Option (List ℕ))
      (timeout : ℕ) → Contains sent (the.InitProducerId caller txn timeout)
      → CoordinatorDoes sent co
      (coordinator_takes co store (the.InitProducerId caller txn timeout))
  init_request_does store caller txn timeout m =
      let a : Answer = init (notes_of co) caller.client txn timeout in
      replies_does caller.client store (InitSays (notes_of co) caller.client txn) a
      (the.InitReply caller)
      (init_does sent (notes_of co) caller timeout txn m)
      (λ h. init_out caller txn timeout m a.note a.code a.held h)
      (record { says = tt; kind = init_reply; is_new = tt; addressed = refl })

  add_request_does : (store : Store) (txn : List ℕ) (held : Held) (partition : ℕ)
      → Contains sent (the.AddPartition txn held partition)
      → CoordinatorDoes sent co (coordinator_takes co store (the.AddPartition txn held partition))
  add_request_does store txn held partition m =
      let a : Answer = add (notes_of co) co.clock txn held partition in
      replies_does 0 store
      (λ note after. Listed (log_after (notes_of co) note) partition held.id held.epoch) a
      (λ code after. the.AddReply partition txn held code)
      (add_does sent (notes_of co) co.clock held partition txn m)
      (λ h. add_out partition txn held a.note a.code
      (add_code (notes_of co) co.clock txn held partition) h)
      (record { says = (tt, tt); kind = add_reply; is_new = tt; addressed = tt })

  end_request_does : (store : Store) (caller : Caller) (txn : List ℕ) (held : Held)
      (outcome : Outcome) → Contains sent (the.EndTxn caller txn held outcome)
      → CoordinatorDoes sent co
      (coordinator_takes co store (the.EndTxn caller txn held outcome))
  end_request_does store caller txn held outcome m =
      let a : Answer = end_txn (notes_of co) txn held outcome in
      replies_does 0 store (EndSays (notes_of co) txn held outcome) a (the.EndReply caller)
      (end_does sent (notes_of co) sound caller held outcome txn m)
      (λ h. end_out caller txn held outcome m a.note a.code a.held h)
      (record { says = tt; kind = end_reply; is_new = tt; addressed = tt })

  ------ markers answered, time, reminders and restarts

  settled_does : (store : Store) (a : Answered) → IsReplied sent a → (s : Settled)
      → SettleDoes sent (notes_of co) s → CoordinatorDoes sent co (on_settled co store a s)
  settled_does store a here Ignored d = still 0 co.clock [] (silent 0 (notes_of co))
  settled_does store a here Noted d = record {
    grows = none;
    hidden = ok.hidden;
    answered = noting_replied sent co.answered a ok.answered here;
    client = 0;
    out = silent 0 (notes_of co);
  }
  settled_does store a here (Completes row) (writes_row same f) =
      let d = writes_does 0 co.clock store (Written row) [] [] f (silent 0 _)
      (silent 0 (notes_of co)) in
      record {
        grows = d.grows;
        hidden = d.hidden;
        answered = cond_both (is_appended co store (Written row)) (without_row co.answered row)
            co.answered (All (IsReplied sent))
            (λ e. All-filter (λ a. not (bytes_eq a.txn row.txn)) (IsReplied sent) co.answered
            ok.answered)
            (λ e. ok.answered);
        client = d.client;
        out = d.out;
      }

  marker_reply_does : (store : Store) (a : Answered) (c : ErrorCode)
      → Contains sent (the.MarkerReply a.partition a.txn a.held c)
      → CoordinatorDoes sent co (on_marker_reply co store a c)
  marker_reply_does store a code.NoError m =
      settled_does store a m (settle (notes_of co) co.answered a)
      (settle_does sent (notes_of co) co.answered a ok.answered m)
  marker_reply_does store a c m = still 0 co.clock [] (silent 0 (notes_of co))

  pub takes_does : (store : Store) (m : Message) → Contains sent m
      → CoordinatorDoes sent co (coordinator_takes co store m)
  takes_does store (msg.InitProducerId it) m =
      init_request_does store it.caller it.txn it.timeout m
  takes_does store (msg.EndTxn it) m =
      end_request_does store it.caller it.txn it.held it.outcome m
  takes_does store (msg.AddPartition it) m =
      add_request_does store it.txn it.held it.partition m
  takes_does store (msg.MarkerReply it) m =
      marker_reply_does store
      (record { txn = it.txn; held = it.held; partition = it.partition }) it.code m
  takes_does store other m = still 0 co.clock [] (silent 0 (notes_of co))

  pub passes_does : CoordinatorDoes sent co (co, [])
  passes_does = still 0 co.clock [] (silent 0 (notes_of co))

  pub expires_does : (now : ℕ) (store : Store) → CoordinatorDoes sent co (expires co now store)
  expires_does now store = by (expire (notes_of co) now) (expire_follows sent (notes_of co) now)
    where
      by : (row : Option Row) → IfSome row (λ r. Follows sent (notes_of co) (Written r))
          → CoordinatorDoes sent co
          (expires_row (record co { clock = max co.clock now }) store row)
      by None f = still 0 (max co.clock now) [] (silent 0 (notes_of co))
      by (Some row) f =
          writes_does 0 (max co.clock now) store (Written row) [] [] f (silent 0 _)
          (silent 0 (notes_of co))

  pub reminds_does : CoordinatorDoes sent co (reminds co)
  reminds_does = record {
    grows = none;
    hidden = ok.hidden;
    answered = ok.answered;
    client = 0;
    out = rows_out 0 sent (notes_of co) (notes_of co) (coordinator_epoch (notes_of co)) low
        (λ r. filter (λ p. not (is_answered co.answered r p)) r.partitions)
        (λ r p c. (filter_holds (λ p. not (is_answered co.answered r p)) r.partitions p c).0);
  }

  again : Grows sent (notes_of co) (reread co.disk)
  again = reread_grows (notes_of co) co.disk.hidden ok.hidden

  opening : (note : TxnEntry) → reopen (reread co.disk) ≡ Some note → Next sent
      (reread co.disk) note
  opening note e =
      at (int_lt (coordinator_epoch (reread co.disk)) greatest_epoch) refl e
    where
      at : (b : Bool) → int_lt (coordinator_epoch (reread co.disk)) greatest_epoch ≡ b
          → cond b (Some (CoordinatorEpoch (coordinator_epoch (reread co.disk) +ℤ pos 1))) None
          ≡ Some note → Next sent (reread co.disk) note
      at true e h =
          let same : CoordinatorEpoch (coordinator_epoch (reread co.disk) +ℤ pos 1) ≡ note = cc in
          subst (Next sent (reread co.disk)) same (record {
            follows = CoordinatorFollows.opens (grind (arith, nat_tests));
            has_id = refl;
          })
      at false e h = absurd cc

  opened_does : (now : ℕ) (how : Reopening) (note : TxnEntry) → Next sent (reread co.disk) note
      → CoordinatorDoes sent co (opened (reread co.disk) now note how)
  opened_does now Reopens note n =
      let log = reread co.disk ++ note ∷ [] in
      let grown : Grows sent (notes_of co) log = more (reread co.disk) note again n in
      record {
        grows = grown;
        hidden = tt;
        answered = All-nil (IsReplied sent);
        client = 0;
        out = rows_out 0 sent (notes_of co) log (coordinator_epoch log)
            (history_in_range (grows_trans ok.history grown)).epochs (λ r. r.partitions)
            (λ r p c. c);
      }
  opened_does now CannotRead note n = record {
    grows = again;
    hidden = tt;
    answered = All-nil (IsReplied sent);
    client = 0;
    out = silent 0 (reread co.disk);
  }
  opened_does now (CannotWrite whole) note n = record {
    grows = again;
    hidden = left whole;
    answered = All-nil (IsReplied sent);
    client = 0;
    out = silent 0 (reread co.disk);
  }
    where
      left : (whole : Bool)
          → IfSome (left_behind (Fails whole) note) (Next sent (reread co.disk))
      left true = n
      left false = tt

  opens_does : (now : ℕ) (how : Reopening) (note : Option TxnEntry) → reopen (reread co.disk) ≡ note
      → CoordinatorDoes sent co (opens co now how note)
  opens_does now how None e = still 0 co.clock [] (silent 0 (notes_of co))
  opens_does now how (Some note) e = opened_does now how note (opening note e)

  pub restarts_does : (now : ℕ) (how : Reopening)
      → CoordinatorDoes sent co (coordinator_restarts co now how)
  restarts_does now CannotRead = record {
    grows = none;
    hidden = ok.hidden;
    answered = ok.answered;
    client = 0;
    out = silent 0 (notes_of co);
  }
  restarts_does now Reopens = opens_does now Reopens (reopen (reread co.disk)) refl
  restarts_does now (CannotWrite whole) =
      opens_does now (CannotWrite whole) (reopen (reread co.disk)) refl
