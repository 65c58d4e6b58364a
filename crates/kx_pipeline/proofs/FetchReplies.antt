-- Over every schedule: a reply without error answers a fetch with a page, and where committed
-- records were asked for the page holds what is visible of its range, then and ever after.
use Rattle.std.proofs.Common.{◌≡◌, ◌⊎◌, inl, inr, ⊎_elim, ◌≤◌, ◌+◌, ◌-◌, ℕ, ℤ, pos, negsuc, ◌≤ℤ◌}
use Rattle.std.proofs.Common.{Bool, true, false, cond, List, [], ◌∷◌, map, min, All, Contains}
use Rattle.std.proofs.Common.{Option, Some, None, Ok, Err, ◌==◌, refl, sym, ap, ◌∙◌, subst, arith}
use Rattle.std.specs.Prelude.{IfSome, nat_le, nat_lt}
use Rattle.std.proofs.lemmas.Bool.{cond_both}
use Rattle.std.proofs.lemmas.Bool.Decides.{nat_tests}
use Rattle.std.proofs.lemmas.Int.{ints}
use Rattle.std.proofs.lemmas.List.Elements.{All-append, All-cons, All-contains, All-filter}
use Rattle.std.proofs.lemmas.List.Elements.{All-head, All-map, All-nil, All-tail, All-weaker}
use Rattle.std.proofs.lemmas.List.Elements.{Contains-append_left}
use Rattle.kx_message.specs.Messages as the
use Rattle.kx_message.specs.Ranges.{offsets_partition}
use Rattle.kx_message.specs.declared.code.ErrorCode.{ErrorCode}
use Rattle.kx_message.specs.declared.code.ErrorCode.TheVariants as code
use Rattle.kx_message.specs.declared.message.Held.{Held}
use Rattle.kx_message.specs.declared.message.Message.{Message}
use Rattle.kx_message.specs.declared.message.Message.TheVariants as msg
use Rattle.kx_message.specs.declared.replies.FetchReply.{FetchReply}
use Rattle.kx_message.specs.declared.requests.Caller.{Caller}
use Rattle.kx_message.specs.declared.requests.Fetch.{Fetch}
use Rattle.kx_batch.specs.Batch.{batch_limit}
use Rattle.kx_model.specs.CoordinatorNode.{notes_of}
use Rattle.kx_model.specs.Disk.{Store}
use Rattle.kx_model.specs.Groups.{judge_join}
use Rattle.kx_model.specs.Headline.{Always, HasOneOutcome}
use Rattle.kx_model.specs.Log.{Entry, Placed, Stored, end, entries, placed_by, stored_width}
use Rattle.kx_model.specs.Page.{Fetched, Page, aborted_txn, answer_to, as_fetched, at_least_one}
use Rattle.kx_model.specs.Page.{fetched, fetched_of, fitting, page, shown, size, upper_of, within}
use Rattle.kx_model.specs.PartitionNode.{Partition, Served, answers_request, changed, data_takes}
use Rattle.kx_model.specs.PartitionNode.{entries_of, fetch_reply, join_reply, offsets_takes}
use Rattle.kx_model.specs.PartitionNode.{on_add_reply, on_request, parks, passes_on}
use Rattle.kx_model.specs.PartitionNode.{partition_takes, resumes}
use Rattle.kx_model.specs.Produce.{Verdict, Next, Duplicate, Unverified, Refused}
use Rattle.kx_model.specs.Reading.{committed_of}
use Rattle.kx_model.specs.Transactions.{last_stable_offset}
use Rattle.kx_model.specs.Verification.{Parked, Request, Target, ToGroup, ToPartition, is_full}
use Rattle.kx_model.specs.Verification.{judge_request, pair_of, parked_for, reply_for, reply_to}
use Rattle.kx_model.specs.Verification.{request_of, without}
use Rattle.kx_model.specs.World.{Event, IsEvent, IsSchedule, World, entries_at, log_at, log_in}
use Rattle.kx_model.specs.World.{notes, partition_at, run, start, step}
use Rattle.kx_laws.specs.Grown.{IsGrown}
use Rattle.kx_laws.proofs.CommittedPages.{page_ends}
use Rattle.kx_laws.proofs.Lists.{All-from_contains}
use Rattle.kx_laws.proofs.Membership.{find_tells}
use Rattle.kx_headline.proofs.CoordinatorAlways.{turn_does}
use Rattle.kx_headline.proofs.CoordinatorDoes.{IsCoordinators, Out}
use Rattle.kx_headline.proofs.CoordinatorDoes
use Rattle.kx_headline.proofs.EventDoes.{PartitionTurn, takes, drops, puts_values, restarts, Turn}
use Rattle.kx_headline.proofs.EventDoes.{nobodys, coordinators, partitions, clients, making}
use Rattle.kx_headline.proofs.EventDoes.{step_is}
use Rattle.kx_headline.proofs.MarkersFit.{markers_fit}
use Rattle.kx_headline.proofs.OverSchedules.{fetches_get_what_is_visible, logs_grow, markers_agree}
use Rattle.kx_headline.proofs.PartitionHolds.{PartitionHolds}
use Rattle.kx_headline.proofs.PartitionsAlways.{PartitionsStand, partitions_stand_always}
use Rattle.kx_headline.proofs.SentKinds.{IsClients, WaitsForOwn, client_sends}
use Rattle.kx_headline.proofs.SentKinds
use Rattle.kx_partition.specs.Reply.{page_in, with_batches}
use Rattle.kx_pipeline.specs.Visible.{visible_in}
use Rattle.kx_pipeline.proofs.TextsRead.{IsRead, log_read, row_again}
use Rattle.kx_pipeline.proofs.VisibleStays.{range_stays, stable_stays}

------ what a reply says

-- the page has what is visible of a range, which is empty or ends by the last stable offset, so
-- that nothing of it will change
pub record IsCommitted (w : World) (partition : ℕ) (from next : ℤ) (page : Fetched) : Type 0 where
  pub shows : committed_of page ≡ visible_in w partition from next
  pub starts : from ≤ℤ next
  pub stable : (next ≡ from) ⊎ (next ≤ℤ pos (last_stable_offset (entries_at w partition)))

-- the fetch that was answered, and the page
pub record IsAnswer (w : World) (it : FetchReply) : Type 0 where
  pub fetch : Fetch
  pub asked : Contains w.sent (msg.Fetch fetch)
  pub caller : fetch.caller ≡ it.caller
  pub partition : fetch.partition ≡ it.partition
  pub page : Fetched
  pub reads : page_in fetch.from (msg.FetchReply it) ≡ Ok page
  pub from : page.from ≡ fetch.from
  pub next : page.next ≡ it.next
  pub committed : fetch.committed ≡ true → IsCommitted w it.partition fetch.from it.next page

abbrev pub IsAnswered : World → Message → Type 0
IsAnswered w (msg.FetchReply it) = it.code ≡ code.NoError → IsAnswer w it
IsAnswered w m = Unit {0}

------ the batches of a page are the log's

module _ (P : Stored → Type 0) where
  abbrev OfItem : Placed Stored → Type 0
  OfItem p = P p.item

  placed_have : (n : ℕ) (log : List Stored) → All P log → All OfItem (placed_by stored_width n log)
  placed_have n [] h = All-nil OfItem
  placed_have n (s ∷ log) h =
      All-cons OfItem (record { offset = n; item = s })
      (placed_by stored_width (n + stored_width s) log) (All-head P s log h)
      (placed_have (n + stored_width s) log (All-tail P s log h))

  fitting_have : (room : ℕ) (ps : List (Placed Stored)) → All OfItem ps
      → All OfItem (fitting room ps)
  fitting_have room [] h = All-nil OfItem
  fitting_have room (p ∷ ps) h =
      cond_both (nat_le (size p) room) (p ∷ fitting (room - size p) ps) [] (All OfItem)
      (λ e. All-cons OfItem p (fitting (room - size p) ps) (All-head OfItem p ps h)
      (fitting_have (room - size p) ps (All-tail OfItem p ps h)))
      (λ e. All-nil OfItem)

  some_have : (room : ℕ) (ps : List (Placed Stored)) → All OfItem ps
      → All OfItem (at_least_one room ps)
  some_have room [] h = All-nil OfItem
  some_have room (p ∷ ps) h =
      All-cons OfItem p (cond (nat_le (size p) room) (fitting (room - size p) ps) [])
      (All-head OfItem p ps h)
      (cond_both (nat_le (size p) room) (fitting (room - size p) ps) [] (All OfItem)
      (λ e. fitting_have (room - size p) ps (All-tail OfItem p ps h)) (λ e. All-nil OfItem))

  page_has : (log : List Stored) (from room : ℕ) (committed : Bool) → All P log
      → All P (page log from room committed).batches
  unfolding page
  page_has log from room committed h =
      All-map P (λ (p : Placed Stored). p.item) (shown log from room committed)
      (some_have room (within log from (upper_of (entries log) committed))
      (All-filter _ OfItem (placed_by stored_width 0 log) (placed_have 0 log h)))

-- the reply reads as the page
page_again : (log : List Stored) (caller : Caller) (number from room : ℕ) (committed : Bool)
    → All IsRead log
    → page_in (pos from) (fetch_reply caller number (Ok (page log from room committed)))
    ≡ Ok (fetched_of (page log from room committed))
unfolding page
page_again log caller number from room committed h =
    let p = page log from room committed in
    ap (with_batches (pos from) (pos p.next) (pos p.stable) (pos p.end) (map aborted_txn p.aborted))
    (row_again p.batches (page_has IsRead log from room committed h))

------ a world to which a schedule leads

record Stands (w : World) : Type 0 where
  partitions : PartitionsStand w
  grown : (q : ℕ) → IsGrown (log_at w q)
  one : HasOneOutcome w
  shows : (q room : ℕ) (from : ℤ) (got : Fetched) → answer_to (log_at w q) from room true ≡ Ok got
      → committed_of got ≡ visible_in w q got.from got.next

stands_always : Always Stands
stands_always count events fits = record {
  partitions = partitions_stand_always count events fits;
  grown = logs_grow count events fits;
  one = markers_agree count events fits;
  shows = fetches_get_what_is_visible count events fits;
}

------ a fetch that comes to a partition

module _ (w : World) (h : Stands w) (number : ℕ) (p : Partition)
    (there : partition_at w number ≡ Some p) where
  log_is : log_at w number ≡ p.disk.kept
  log_is = ap log_in there

  its_grown : IsGrown p.disk.kept
  its_grown = subst IsGrown log_is (h.grown number)

  its_read : All IsRead p.disk.kept
  its_read =
      let holds = subst (λ o. IfSome o (PartitionHolds w.sent number)) there
      (h.partitions.holds number) in
      log_read w.sent number (markers_fit w h.partitions.coordinator) p.disk.kept holds.log

  -- a page from an offset of the log gives what is visible
  page_committed : (from room : ℕ) (committed : Bool)
      → nat_lt (end (entries p.disk.kept)) from ≡ false → committed ≡ true
      → IsCommitted w number (pos from) (pos (page p.disk.kept from room committed).next)
      (fetched_of (page p.disk.kept from room committed))
  unfolding fetched page
  page_committed from room false low e = absurd cc
  page_committed from room true low e =
      let log = p.disk.kept in
      let got = page log from room true in
      let b = page_ends log from room its_grown in
      let is : answer_to (log_at w number) (pos from) room true ≡ Ok (fetched_of got) =
      ap (λ l. answer_to l (pos from) room true) log_is
      ∙ ap (λ t. as_fetched (cond t (Err code.OffsetOutOfRange) (Ok got))) low in
      record {
        shows = h.shows number room (pos from) (fetched_of got) is;
        starts = omega (arith, ints, b.starts);
        stable = subst (λ l. (pos got.next ≡ pos from)
            ⊎ (pos got.next ≤ℤ pos (last_stable_offset (entries l)))) (sym log_is)
            (in_numbers got.next b.stable);
      }
    where
      in_numbers : (next : ℕ) → (next ≡ from) ⊎ (next ≤ last_stable_offset (entries p.disk.kept))
          → (pos next ≡ pos from)
          ⊎ (pos next ≤ℤ pos (last_stable_offset (entries p.disk.kept)))
      in_numbers next (inl e) = inl (ap pos e)
      in_numbers next (inr le) = inr (omega (arith, ints, le))

  fetch_answers : (it : Fetch) → Contains w.sent (msg.Fetch it) → it.partition ≡ number
      → IsAnswered w (fetch_reply it.caller number
      (fetched p.disk.kept it.from (min it.max batch_limit) it.committed))
  unfolding fetched page
  fetch_answers it asked same = by it.from refl
    where
      room : ℕ
      room = min it.max batch_limit

      got : ℕ → Page
      got n = page p.disk.kept n room it.committed

      paged : (n : ℕ) → it.from ≡ pos n → nat_lt (end (entries p.disk.kept)) n ≡ false
          → IsAnswered w (fetch_reply it.caller number (Ok (got n)))
      paged n e low none = record {
        fetch = it;
        asked = asked;
        caller = refl;
        partition = same;
        page = fetched_of (got n);
        reads =
            ap (λ f. page_in f (fetch_reply it.caller number (Ok (got n)))) e
            ∙ page_again p.disk.kept it.caller number n room it.committed its_read;
        from = sym e;
        next = refl;
        committed = λ c.
            subst (λ f. IsCommitted w number f (pos (got n).next) (fetched_of (got n))) (sym e)
            (page_committed n room it.committed low c);
      }

      by : (from : ℤ) → it.from ≡ from
          → IsAnswered w (fetch_reply it.caller number (fetched p.disk.kept from room it.committed))
      by (negsuc n) e = λ none. absurd cc
      by (pos n) e =
          cond_both (nat_lt (end (entries p.disk.kept)) n) (Err code.OffsetOutOfRange)
          (Ok (got n)) (λ r. IsAnswered w (fetch_reply it.caller number r))
          (λ over none. absurd cc) (paged n e)

------ what a partition hands out

-- in a world, of messages other than replies with a page
module _ (w : World) where
  one : (m : Message) → IsAnswered w m → All (IsAnswered w) (m ∷ [])
  one m h = All-cons (IsAnswered w) m [] h (All-nil (IsAnswered w))

  reply_for_is : (r : Request) (code : ErrorCode) (offset : ℤ) (target : Target)
      → IsAnswered w (reply_for r code offset target)
  reply_for_is r code offset (ToPartition partition) = tt
  reply_for_is r code offset (ToGroup group member generation) = tt

  reply_is : (r : Request) (code : ErrorCode) (offset : ℤ)
      → IsAnswered w (reply_to r code offset)
  reply_is r code offset = reply_for_is r code offset r.target

  parks_sends : (number : ℕ) (p : Partition) (r : Request) (txn : Option (List ℕ))
      (held : Option Held) → All (IsAnswered w) (parks number p r txn held).1
  parks_sends number p r (Some txn) (Some held) =
      let full = reply_to r code.ConcurrentTransactions (negsuc 0) in
      one (cond (is_full p.parked held r) full (the.AddPartition txn held number))
      (cond_both (is_full p.parked held r) full (the.AddPartition txn held number) (IsAnswered w)
      (λ e. reply_is r code.ConcurrentTransactions (negsuc 0)) (λ e. tt))
  parks_sends number p r (Some txn) None = one _ (reply_is r code.InvalidTxnState (negsuc 0))
  parks_sends number p r None held = one _ (reply_is r code.InvalidTxnState (negsuc 0))

  answers_send : (number : ℕ) (p : Partition) (store : Store) (r : Request) (verdict : Verdict)
      → All (IsAnswered w) (answers_request number p store r verdict).1
  answers_send number p store r Next = one _ (reply_is r _ _)
  answers_send number p store r (Duplicate offset) = one _ (reply_is r _ _)
  answers_send number p store r Unverified = parks_sends number p r r.txn (pair_of r)
  answers_send number p store r (Refused code) = one _ (reply_is r _ _)

  request_sends : (number : ℕ) (p : Partition) (store : Store) (r : Option Request)
      → All (IsAnswered w) (on_request number p store r).1
  request_sends number p store None = All-nil (IsAnswered w)
  request_sends number p store (Some r) =
      answers_send number p store r (judge_request (entries_of p) false r)

  resumes_send : (number : ℕ) (p : Partition) (store : Store) (parked : List Parked)
      → All (IsAnswered w) (resumes number p store parked).1
  resumes_send number p store [] = All-nil (IsAnswered w)
  resumes_send number p store (parked ∷ rest) =
      let r = parked.request in
      let one = answers_request number p store r (judge_request (entries_of p) true r) in
      All-append (IsAnswered w) one.1 (resumes number one.0 store rest).1
      (answers_send number p store r (judge_request (entries_of p) true r))
      (resumes_send number one.0 store rest)

  add_reply_sends : (number : ℕ) (p : Partition) (store : Store) (held : Held) (code : ErrorCode)
      → All (IsAnswered w) (on_add_reply number p store held code).1
  add_reply_sends number p store held code.NoError =
      resumes_send number (record p { parked = without p.parked held }) store
      (parked_for p.parked held)
  add_reply_sends number p store held other =
      All-map (IsAnswered w) (passes_on other) (parked_for p.parked held)
      (All-from_contains (λ parked. IsAnswered w (passes_on other parked))
      (parked_for p.parked held) (λ parked c. reply_is parked.request _ _))

  join_sends : (caller : Caller) (group : List ℕ) (log : List Entry) (code : ErrorCode)
      → IsAnswered w (join_reply caller group log code)
  join_sends caller group log code.NoError = tt
  join_sends caller group log other = tt

  coordinators_are : (m : Message) → IsCoordinators m → IsAnswered w m
  coordinators_are m CoordinatorDoes.marker = tt
  coordinators_are m CoordinatorDoes.add_reply = tt
  coordinators_are m CoordinatorDoes.init_reply = tt
  coordinators_are m CoordinatorDoes.end_reply = tt

  clients_are : (m : Message) → IsClients m → IsAnswered w m
  clients_are m SentKinds.init = tt
  clients_are m SentKinds.ends = tt
  clients_are m SentKinds.produce = tt
  clients_are m SentKinds.commit = tt
  clients_are m SentKinds.join = tt
  clients_are m SentKinds.leave = tt
  clients_are m SentKinds.fetches = tt
  clients_are m SentKinds.fetches_offset = tt

-- in its turn, with each message of all that were sent
module _ (w : World) (h : Stands w) (number : ℕ) (p : Partition)
    (there : partition_at w number ≡ Some p) (store : Store) where
  abbrev AreAnswered : Served → Type 0
  AreAnswered s = All (IsAnswered w) s.1

  partition_sends : (m : Message) → Contains w.sent m
      → All (IsAnswered w) (partition_takes number p store m).1
  partition_sends (msg.AddReply it) c =
      cond_both (it.partition == number) _ _ AreAnswered
      (λ e. add_reply_sends w number p store it.held it.code) (λ e. All-nil (IsAnswered w))
  partition_sends (msg.WriteMarker it) c =
      cond_both (it.partition == number) _ _ AreAnswered
      (λ e. one w _ tt) (λ e. All-nil (IsAnswered w))
  partition_sends (msg.Fetch it) c =
      cond_both (it.partition == number) _ _ AreAnswered
      (λ e. one w _ (fetch_answers w h number p there it c (grind (arith, nat_tests, e))))
      (λ e. one w _ (λ none. absurd cc))
  partition_sends m c = All-nil (IsAnswered w)

  data_sends : (m : Message) → Contains w.sent m
      → All (IsAnswered w) (data_takes number p store m).1
  data_sends (msg.Produce it) c =
      cond_both (it.partition == number) _ _ AreAnswered
      (λ e. request_sends w number p store (request_of (msg.Produce it))) (λ e. one w _ tt)
  data_sends m c = partition_sends m c

  offsets_sends : number ≡ offsets_partition → (m : Message) → Contains w.sent m
      → All (IsAnswered w) (offsets_takes p store m).1
  offsets_sends same (msg.TxnOffsetCommit it) c =
      request_sends w offsets_partition p store (request_of (msg.TxnOffsetCommit it))
  offsets_sends same (msg.Join it) c =
      let t = changed p store (judge_join (entries_of p) it.group it.caller.client) in
      one w _ (join_sends w it.caller it.group (entries_of t.partition) t.code)
  offsets_sends same (msg.Leave it) c = one w _ tt
  offsets_sends same (msg.OffsetFetch it) c = one w _ tt
  offsets_sends same (msg.Produce it) c =
      cond_both (it.partition == offsets_partition) _ _ AreAnswered
      (λ e. All-nil (IsAnswered w)) (λ e. one w _ tt)
  offsets_sends same m c =
      subst (λ n. All (IsAnswered w) (partition_takes n p store m).1) same (partition_sends m c)

turn_sends : (w : World) → Stands w → (number : ℕ) (p : Partition) (s : Served)
    → partition_at w number ≡ Some p → PartitionTurn w number p s → All (IsAnswered w) s.1
turn_sends w h number p s there (takes store m c) =
    cond_both (number == offsets_partition) (offsets_takes p store m)
    (data_takes number p store m) (λ (s : Served). All (IsAnswered w) s.1)
    (λ e. offsets_sends w h number p there store (grind (arith, nat_tests, e)) m c)
    (λ e. data_sends w h number p there store m c)
turn_sends w h number p s there (drops group member store e a b) = All-nil (IsAnswered w)
turn_sends w h number p s there (puts_values value values store e fits) = All-nil (IsAnswered w)
turn_sends w h number p s there (restarts how) = All-nil (IsAnswered w)
turn_sends w h number p s there PartitionTurn.passes = All-nil (IsAnswered w)

------ each turn

-- what was handed out, and that all is still there
record Handed (w later : World) : Type 0 where
  answered : All (IsAnswered w) later.sent
  there : (m : Message) → Contains w.sent m → Contains later.sent m

sent_next : (w later : World) → Stands w → Turn w later → All (IsAnswered w) w.sent
    → Handed w later
sent_next w later h nobodys sent = record { answered = sent; there = λ m c. c }
sent_next w later h (coordinators clock s turn) sent =
    let d = turn_does w s h.partitions.coordinator.coordinator turn in
    record {
      answered = All-append (IsAnswered w) w.sent s.1 sent
          (All-weaker (Out d.client w.sent (notes w) (notes_of s.0)) (IsAnswered w)
          (λ m o. coordinators_are w m o.kind) s.1 d.out);
      there = Contains-append_left w.sent s.1;
    }
sent_next w later h (partitions number p s there turn) sent = record {
  answered = All-append (IsAnswered w) w.sent s.1 sent (turn_sends w h number p s there turn);
  there = Contains-append_left w.sent s.1;
}
sent_next w later h (clients c after messages there turn) sent =
    let at = (find_tells (λ d. d.number == c.number) w.clients c there).0 in
    let waits = All-contains WaitsForOwn w.clients c h.partitions.coordinator.waiting at in
    record {
      answered = All-append (IsAnswered w) w.sent messages sent
          (All-weaker IsClients (IsAnswered w) (clients_are w) messages
          (client_sends w c after messages turn waits).1);
      there = Contains-append_left w.sent messages;
    }
sent_next w later h (making number txn timeout new a b c) sent =
    record { answered = sent; there = λ m c. c }

------ it stays so

module _ (w : World) (h : Stands w) (event : Event) where
  abbrev later : World
  later = (step w event).0

  committed_later : (partition : ℕ) (from next : ℤ) (page : Fetched)
      → IsCommitted w partition from next page → IsCommitted later partition from next page
  unfolding run
  committed_later q from next page c = record {
    shows =
        c.shows
        ∙ sym (range_stays w (event ∷ []) q from next (h.grown q) h.one c.stable);
    starts = c.starts;
    stable = ⊎_elim inl (λ low. inr (stable_stays w (event ∷ []) q next low)) c.stable;
  }

  answered_later : ((m : Message) → Contains w.sent m → Contains later.sent m) → (m : Message)
      → IsAnswered w m → IsAnswered later m
  answered_later there (msg.FetchReply it) a = λ none.
      let answer = a none in
      record {
        fetch = answer.fetch;
        asked = there (msg.Fetch answer.fetch) answer.asked;
        caller = answer.caller;
        partition = answer.partition;
        page = answer.page;
        reads = answer.reads;
        from = answer.from;
        next = answer.next;
        committed = λ c.
            committed_later it.partition answer.fetch.from it.next answer.page
            (answer.committed c);
      }
  answered_later there m a = tt

------ whole schedules

-- every world to which a schedule leads from here stands
abbrev GoesOn : World → Type 0
GoesOn w = (events : List Event) → IsSchedule events → Stands (run events w)

here : (w : World) → GoesOn w → Stands w
unfolding run
here w h = h [] (All-nil IsEvent)

goes_on : (w : World) (event : Event) → IsEvent event → GoesOn w → GoesOn (step w event).0
unfolding run
goes_on w event fits h events more = h (event ∷ events) (All-cons IsEvent event events fits more)

sent_answered : (events : List Event) (w : World) → IsSchedule events → GoesOn w
    → All (IsAnswered w) w.sent → All (IsAnswered (run events w)) (run events w).sent
unfolding run
sent_answered [] w fits h sent = sent
sent_answered (event ∷ events) w fits h sent =
    let first = All-head IsEvent event events fits in
    let after = (step w event).0 in
    let stands = here w h in
    let n = sent_next w after stands (step_is w event first) sent in
    sent_answered events after (All-tail IsEvent event events fits) (goes_on w event first h)
    (All-weaker (IsAnswered w) (IsAnswered after) (answered_later w stands event n.there)
    after.sent n.answered)

-- each reply to a fetch without error holds the page that was asked for, and of committed records
-- what is visible
pub fetches_are_answered : Always (λ w. All (IsAnswered w) w.sent)
fetches_are_answered count events fits =
    sent_answered events (start count) fits (λ more ok. stands_always count more ok)
    (All-nil (IsAnswered (start count)))
