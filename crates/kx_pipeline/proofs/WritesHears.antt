-- A reply that comes to a processor leaves what stands of its batches standing.
use Rattle.std.proofs.Common.{◌≡◌, ◌+◌, ℕ, ℤ, pos, Bool, true, false, not, cond, List, [], ◌∷◌}
use Rattle.std.proofs.Common.{◌++◌}
use Rattle.std.proofs.Common.{filter, map, Option, Some, None, is_some, refl, Contains}
use Rattle.std.proofs.Common.{sym, ap, ◌∙◌, subst, arith, Result, Ok, Err, ◌||◌, append_assoc}
use Rattle.std.specs.Prelude.{IfSome, int_lt, option_map}
use Rattle.std.specs.List.{list_any}
use Rattle.std.proofs.lemmas.List.Elements.{All-contains}
use Rattle.kx_message.specs.Messages as the
use Rattle.kx_message.specs.Messages.{caller_with}
use Rattle.kx_message.specs.Receiver.{receiver_of}
use Rattle.kx_message.specs.declared.code.ErrorCode.{ErrorCode}
use Rattle.kx_message.specs.declared.code.ErrorCode.TheVariants as code
use Rattle.kx_message.specs.declared.message.Held.{Held}
use Rattle.kx_message.specs.declared.message.Message.{Message}
use Rattle.kx_message.specs.declared.message.Message.TheVariants as msg
use Rattle.kx_message.specs.declared.message.NodeId.TheVariants as node
use Rattle.kx_message.specs.declared.outcome.Outcome.TheVariants.{Commit}
use Rattle.kx_message.specs.declared.replies.FetchReply.{FetchReply}
use Rattle.kx_message.specs.declared.requests.EndTxn.{EndTxn}
use Rattle.kx_message.specs.declared.requests.Fetch.{Fetch}
use Rattle.kx_message.specs.declared.requests.Produce.{Produce}
use Rattle.kx_message.specs.declared.requests.TxnOffsetCommit.{TxnOffsetCommit}
use Rattle.kx_client.specs.declared.values.Values.{Values}
use Rattle.kx_log.specs.Row.{row_in}
use Rattle.kx_model.specs.Client.{Client, is_init}
use Rattle.kx_model.specs.Page.{Fetched}
use Rattle.kx_model.specs.Reading.{Shown, committed_of}
use Rattle.kx_model.specs.Replies.{Aborts, Done, Fails, Meaning, Waits as WaitsOn}
use Rattle.kx_model.specs.Replies.{holding, is_answer_to, is_awaited, learns}
use Rattle.kx_model.specs.Replies.{meaning}
use Rattle.kx_model.specs.Replies.{offset_meaning, offsets_meaning, placed_in, take_reply, told}
use Rattle.kx_headline.proofs.ClientHolds.{awaited_here}
use Rattle.kx_headline.proofs.ClientReplies.{Raises, IsBelow, earlier_epoch, earlier_id}
use Rattle.kx_headline.proofs.ClientRequests.{IsAwaited, IsUpTo, IsWithin, Knows, older_id, same_id}
use Rattle.kx_laws.proofs.Membership.{contains_head}
use Rattle.kx_partition.specs.Reply.{page_in, page_with, with_batches}
use Rattle.kx_partition.specs.declared.fault.ReplyFault.{ReplyFault}
use Rattle.kx_system.specs.Processor.{Aborting, Anew, Committing, Fetching, Joining, Locating}
use Rattle.kx_system.specs.Processor.{Overflown, Overflows, Processing, Sequel, Stage, Stopped}
use Rattle.kx_system.specs.Processor.{Stops, Writing, at_stage, batches_of, behind, from_offset}
use Rattle.kx_system.specs.Processor.{onward, owned, paged, stage_told, takes}
use Rattle.kx_pipeline.specs.Chain.{from_of, last_fetch}
use Rattle.kx_pipeline.proofs.ProcessorWrites.{At, HasOffsets, HasWritten, IsFresh}
use Rattle.kx_pipeline.proofs.ProcessorHears.{answers, init_kind}
use Rattle.kx_pipeline.proofs.ProcessorWrites.{IsOffsets, IsWritten, Ready, Waits, Writer}
use Rattle.kx_pipeline.proofs.ProcessorWrites.{Writes, for_id, idle, none_above, none_by, to_abort}
use Rattle.kx_pipeline.proofs.ProcessorWrites.{to_commit, to_end, to_fetch, to_join, to_locate}
use Rattle.kx_pipeline.proofs.ProcessorWrites.{to_write, waits, writer_of}
use Rattle.kx_pipeline.proofs.SoleBatches.{sole_first}

record Holds (o : Option Held) : Type 0 where
  held : Held
  is : o ≡ Some held

holds : (o : Option Held) → is_some o ≡ true → Holds o
holds None e = absurd cc
holds (Some held) e = record { held = held; is = refl }

module _ (sent : List Message) (reads : ℕ → ℤ → ℤ → List Shown → Type 0) (c : Client)
    (p : Processing) (k : Knows sent c)
    -- the pairs of its commits are up to its own
    (within : (it : TxnOffsetCommit) → IsOffsets sent reads p.inputs p.image c.number it
    → IsWithin it.held c.held)
    -- a page has what is visible
    (fetched : (it : Fetch) (r : FetchReply) → Contains sent (msg.Fetch it)
    → it.caller.client ≡ c.number → it.committed ≡ true → Contains sent (msg.FetchReply r)
    → r.caller ≡ it.caller → r.code ≡ code.NoError → (page : Fetched)
    → page_in it.from (msg.FetchReply r) ≡ Ok page
    → reads it.partition it.from page.next (committed_of page))
    (raised : (k : ℕ) (held : Option Held)
    → Contains sent (the.EndReply (caller_with c.number k) code.NoError held)
    → Raises sent c.number k held)
    (h : Writes sent reads c p) where
  abbrev me : Writer
  me = writer_of c

  abbrev IsReady : Writer → Stage → Type 0
  IsReady self stage = Ready sent reads p.inputs p.image self stage

  -- what stands of it by the client after the reply
  abbrev Heard : Client → Stage → Type 0
  Heard d stage =
      d.failed ≡ false → At sent reads p.inputs p.image (writer_of d) stage d.waiting

  abbrev left_over : Message → List Message
  left_over m = filter (λ y. not (is_answer_to m y)) c.waiting

  abbrev answered : Message → Client
  answered m = record c { waiting = left_over m }

  -- nothing waits once the one request is answered
  emptied : (x m : Message) → c.waiting ≡ x ∷ [] → is_answer_to m x ≡ true → left_over m ≡ []
  emptied x m alone is =
      ap (filter (λ y. not (is_answer_to m y))) alone
      ∙ ap {B = List Message} (λ b. cond (not b) (x ∷ []) []) is

  abbrev Told : Message → Stage → Type 0
  Told m stage = Heard (told c (answered m) m) (stage_told (at_stage p stage) m)

  nobodys : c.held ≡ None → (it : TxnOffsetCommit)
      → IsOffsets sent reads p.inputs p.image c.number it → ⊥
  nobodys none it its = subst (IsWithin it.held) none (within it its)

  -- with a new pair nothing is sent yet
  abbrev with_held : Held → Writer
  with_held held = record me { held = Some held; sequences = [] }

  abbrev Fresh : Writer → Type 0
  Fresh self = IsFresh sent reads p.inputs p.image self

  fresh_first : c.held ≡ None → (held : Held) → Fresh (with_held held)
  fresh_first none held = record {
    none = λ x is request b. none_by sent c k h.made none x request b;
    unheld = λ it its e. nobodys none it its;
    zero = λ partition. refl;
  }

  same_held : (a b : Held) → Some a ≡ Some b → a ≡ b
  same_held a b e = cc

  fresh_above : (ending given : Held) → c.held ≡ Some ending → IsBelow ending given
      → Fresh (with_held given)
  fresh_above ending given own below = record {
    none = λ x is request b.
        none_above sent c k h.made ending x own
        (subst (IsBelow ending) (same_held given x is) below) request b;
    unheld = λ it its e.
        not_above ending given below
        (subst (λ x. IsUpTo x ending) (sym (same_held given it.held e))
        (subst (IsWithin it.held) own (within it its)));
    zero = λ partition. refl;
  }
    where
      not_above : (a b : Held) → IsBelow a b → IsUpTo b a → ⊥
      not_above a b (earlier_id g) (older_id u) = omega (arith, u, g)
      not_above a b (earlier_epoch e g) (older_id u) = omega (arith, u, e)
      not_above a b (earlier_id g) (same_id e u) = omega (arith, e, g)
      not_above a b (earlier_epoch f g) (same_id e u) = omega (arith, u, g)

  ready_first : c.held ≡ None → (held : Held) → (stage : Stage) → IsReady me stage
      → IsReady (with_held held) stage
  ready_first none held Joining ready = fresh_first none held
  ready_first none held (Locating q left) ready = fresh_first none held
  ready_first none held (Fetching q left offset) ready = fresh_first none held
  ready_first none held (Writing q left next batches) ready =
      absurd (let both = sym ready.1.is ∙ none in cc)
  ready_first none held (Committing left) ready = absurd (let both = sym ready.is ∙ none in cc)
  ready_first none held (Aborting sequel) ready = tt
  ready_first none held Overflown ready = tt
  ready_first none held Stopped ready = tt

  -- the next input partition of the pass, or the next pass
  onward_ready : (self : Writer) → Fresh self → (left : List ℕ) → IsReady self (onward left)
  onward_ready self fresh [] = fresh
  onward_ready self fresh (q ∷ left) = fresh

  ------ by the request that waits

  -- what waits is this request
  record One (x : Message) : Type 0 where
    alone : c.waiting ≡ x ∷ []
    some : is_init x ≡ false → is_some c.held ≡ true

  heard_id : (stage : Stage) (x m : Message) → One x → is_init x ≡ true → IsReady me stage
      → c.held ≡ None → is_answer_to m x ≡ true → Told m stage
  heard_id stage x (msg.InitReply it) one init ready none is = by it.code it.held
    where
      m : Message
      m = msg.InitReply it

      over : left_over m ≡ []
      over = emptied x m one.alone is

      by : (y : ErrorCode) (held : Option Held)
          → Heard (learns (meaning y) c (answered m) (holding (answered m) held)) stage
      by code.NoError None = λ f. idle over ready
      by code.NoError (Some held) = λ f. idle over (ready_first none held stage ready)
      by code.OutOfOrderSequenceNumber held = λ f.
          waits x one.alone one.some (for_id stage x init ready)
      by code.ConcurrentTransactions held = λ f.
          waits x one.alone one.some (for_id stage x init ready)
      by code.KafkaStorageError held = λ f.
          waits x one.alone one.some (for_id stage x init ready)
      by other held = λ f. absurd cc
  heard_id stage x m one init ready none is =
      let k = (answers m x is).0 in
      let kind = init_kind x init in
      absurd (omega (arith, k, kind))

  heard_join : (k : ℕ) (group : List ℕ) (m : Message)
      → One (the.Join (caller_with c.number k) group) → Fresh me
      → is_answer_to m (the.Join (caller_with c.number k) group) ≡ true → Told m Joining
  heard_join k group (msg.JoinReply it) one fresh is = by it.code
    where
      m : Message
      m = msg.JoinReply it

      x : Message
      x = the.Join (caller_with c.number k) group

      over : left_over m ≡ []
      over = emptied x m one.alone is

      by : (y : ErrorCode)
          → Heard (learns (meaning y) c (answered m) (record (answered m) {
            place = option_map (placed_in it.generation it.place it.count) c.group;
          }))
          (stage_told (at_stage p Joining)
          (the.JoinReply it.caller y it.generation it.place it.count))
      by code.NoError = λ f. idle over (onward_ready me fresh (owned it.place it.count p.inputs))
      by code.OutOfOrderSequenceNumber = λ f.
          waits x one.alone one.some (to_join k group fresh)
      by code.ConcurrentTransactions = λ f. waits x one.alone one.some (to_join k group fresh)
      by code.KafkaStorageError = λ f. waits x one.alone one.some (to_join k group fresh)
      by other = λ f. absurd cc
  heard_join k group m one fresh is =
      let kind = (answers m (the.Join (caller_with c.number k) group) is).0 in
      absurd (omega (arith, kind))

  heard_locate : (k q : ℕ) (left group : List ℕ) (m : Message)
      → One (the.OffsetFetch (caller_with c.number k) group q true) → Fresh me
      → is_answer_to m (the.OffsetFetch (caller_with c.number k) group q true) ≡ true
      → Told m (Locating q left)
  heard_locate k q left group (msg.OffsetFetchReply it) one fresh is = by it.code
    where
      m : Message
      m = msg.OffsetFetchReply it

      x : Message
      x = the.OffsetFetch (caller_with c.number k) group q true

      over : left_over m ≡ []
      over = emptied x m one.alone is

      by : (y : ErrorCode)
          → Heard (learns (offset_meaning y) c (answered m) (answered m))
          (stage_told (at_stage p (Locating q left)) (the.OffsetFetchReply it.caller y it.offset))
      by code.NoError = λ f. idle over fresh
      by code.UnstableOffsetCommit = λ f. idle over (onward_ready me fresh left)
      by code.OutOfOrderSequenceNumber = λ f.
          waits x one.alone one.some (to_locate k q left group fresh)
      by code.ConcurrentTransactions = λ f.
          waits x one.alone one.some (to_locate k q left group fresh)
      by code.KafkaStorageError = λ f.
          waits x one.alone one.some (to_locate k q left group fresh)
      by other = λ f. absurd cc
  heard_locate k q left group m one fresh is =
      let kind = (answers m (the.OffsetFetch (caller_with c.number k) group q true) is).0 in
      absurd (omega (arith, kind))

  -- the stage after a page: the images of what is visible in its range are to be written
  paged_ready : (q : ℕ) (left : List ℕ) (offset : ℤ) → Fresh me → is_some c.held ≡ true
      → (r : Result Fetched ReplyFault)
      → ((page : Fetched) → r ≡ Ok page
      → reads q (from_of (last_fetch sent c.number c.correlation)) page.next (committed_of page))
      → IsReady me (paged p.image q left offset r)
  paged_ready q left offset fresh some (Err fault) shows = fresh
  paged_ready q left offset fresh some (Ok page) shows = by (int_lt page.from page.next)
    where
      batches : List Values
      batches = batches_of (map (λ s. p.image s.shown) (committed_of page))

      by : (b : Bool) → IsReady me (cond b (Writing q left page.next batches) (onward left))
      by true =
          let own = holds c.held some in (
            [],
            record {
              held = own.held;
              is = own.is;
              sole = sole_first sent c.number (q + p.inputs) own.held
                  (fresh.none own.held own.is);
              images = record {
                records = committed_of page;
                shows = shows page refl;
                are = refl;
              };
              unheld = fresh.unheld;
              count = fresh.zero (q + p.inputs);
            },
          )
      by false = onward_ready me fresh left

  heard_fetch : (q : ℕ) (left : List ℕ) (offset : ℤ) (it : Fetch) (m : Message)
      → One (msg.Fetch it) → Fresh me → last_fetch sent c.number c.correlation ≡ Some it
      → it.from ≡ pos (from_offset offset) → it.partition ≡ q → it.committed ≡ true
      → Contains sent (msg.Fetch it) → it.caller.client ≡ c.number
      → is_answer_to m (msg.Fetch it) ≡ true → Contains sent m
      → receiver_of m ≡ node.Client c.number → Told m (Fetching q left offset)
  heard_fetch q left offset it (msg.FetchReply r) one fresh last from its_q committed asked own is
      there here =
      by r.code refl
    where
      m : Message
      m = msg.FetchReply r

      over : left_over m ≡ []
      over = emptied (msg.Fetch it) m one.alone is

      pages : ℤ → Result Fetched ReplyFault
      pages first = with_batches first r.next r.lso r.end r.aborted (row_in r.batches)

      still : At sent reads p.inputs p.image me (Fetching q left offset) c.waiting
      still = waits (msg.Fetch it) one.alone one.some
          (to_fetch q left offset it fresh last from its_q committed)

      client : r.caller.client ≡ it.caller.client
      client = let here' : r.caller.client ≡ c.number = cc in here' ∙ sym own

      callers : r.caller ≡ it.caller
      callers = λ i. record {
        client = client i;
        correlation = (answers m (msg.Fetch it) is).1 i;
      }

      shows : r.code ≡ code.NoError → (page : Fetched)
          → pages (pos (from_offset offset)) ≡ Ok page
          → reads q (from_of (last_fetch sent c.number c.correlation)) page.next (committed_of page)
      shows e page reading =
          subst (λ x. reads q x page.next (committed_of page)) (sym (ap from_of last))
          (subst (λ x. reads x it.from page.next (committed_of page)) its_q
          (fetched it r asked own committed there callers e page
          (ap (λ y. page_with y (pages it.from)) e ∙ ap pages from ∙ reading)))

      by : (y : ErrorCode) → r.code ≡ y
          → Heard (learns (meaning y) c (answered m) (answered m))
          (paged p.image q left offset (page_with y
          (with_batches (pos (from_offset offset)) r.next r.lso r.end r.aborted
          (row_in r.batches))))
      by code.NoError e = λ f.
          idle over (paged_ready q left offset fresh (one.some refl)
          (pages (pos (from_offset offset))) (shows e))
      by code.OutOfOrderSequenceNumber e = λ f. still
      by code.ConcurrentTransactions e = λ f. still
      by code.KafkaStorageError e = λ f. still
      by other e = λ f. absurd cc
  heard_fetch q left offset it m one fresh last from its_q committed asked own is there here =
      let kind = (answers m (msg.Fetch it) is).0 in
      absurd (omega (arith, kind))

  heard_write : (q : ℕ) (left : List ℕ) (next : ℤ) (values : Values) (rest done : List Values)
      (it : Produce) (m : Message) → One (msg.Produce it)
      → HasWritten sent reads p.inputs p.image me q next (done ++ values ∷ rest)
      (done ++ values ∷ [])
      → is_answer_to m (msg.Produce it) ≡ true → Told m (Writing q left next (values ∷ rest))
  heard_write q left next values rest done it (msg.ProduceReply r) one has is = by r.code
    where
      m : Message
      m = msg.ProduceReply r

      over : left_over m ≡ []
      over = emptied (msg.Produce it) m one.alone is

      still : At sent reads p.inputs p.image me (Writing q left next (values ∷ rest)) c.waiting
      still = waits (msg.Produce it) one.alone one.some
          (to_write q left next values rest done it has)

      by : (y : ErrorCode) → Heard (learns (meaning y) c (answered m) (answered m))
          (stage_told (at_stage p (Writing q left next (values ∷ rest)))
          (the.ProduceReply r.caller r.partition y r.offset))
      by code.NoError = λ f.
          idle over (
            done ++ values ∷ [],
            subst (λ l. HasWritten sent reads p.inputs p.image me q next l (done ++ values ∷ []))
                (sym (append_assoc done (values ∷ []) rest)) has,
          )
      by code.OutOfOrderSequenceNumber = λ f. still
      by code.ConcurrentTransactions = λ f. still
      by code.KafkaStorageError = λ f. still
      by other = λ f. absurd cc
  heard_write q left next values rest done it m one has is =
      let kind = (answers m (msg.Produce it) is).0 in
      absurd (omega (arith, kind))

  heard_commit : (q : ℕ) (left : List ℕ) (next : ℤ) (it : TxnOffsetCommit) (m : Message)
      → One (msg.TxnOffsetCommit it) → IsOffsets sent reads p.inputs p.image c.number it
      → c.held ≡ Some it.held → is_answer_to m (msg.TxnOffsetCommit it) ≡ true → Contains sent m
      → receiver_of m ≡ node.Client c.number → Told m (Writing q left next [])
  heard_commit q left next it (msg.OffsetsReply r) one own held is there here = by r.code refl
    where
      m : Message
      m = msg.OffsetsReply r

      over : left_over m ≡ []
      over = emptied (msg.TxnOffsetCommit it) m one.alone is

      still : At sent reads p.inputs p.image me (Writing q left next []) c.waiting
      still = waits (msg.TxnOffsetCommit it) one.alone one.some (to_commit q left next it held)

      client : r.caller.client ≡ it.caller.client
      client = let here' : r.caller.client ≡ c.number = cc in here' ∙ sym own.1

      callers : r.caller ≡ it.caller
      callers = λ i. record {
        client = client i;
        correlation = (answers m (msg.TxnOffsetCommit it) is).1 i;
      }

      told_so : r.code ≡ code.NoError → Contains sent (the.OffsetsReply it.caller code.NoError)
      told_so e =
          subst (λ x. Contains sent (the.OffsetsReply it.caller x)) e
          (subst (λ x. Contains sent (the.OffsetsReply x r.code)) callers there)

      by : (y : ErrorCode) → r.code ≡ y
          → Heard (learns (offsets_meaning y) c (answered m) (answered m))
          (stage_told (at_stage p (Writing q left next [])) (the.OffsetsReply r.caller y))
      by code.NoError e = λ f.
          idle over (record {
            held = it.held;
            is = held;
            offsets = record { it = it; its = own; pair = refl; answered = told_so e };
          })
      by code.IllegalGeneration e = λ f. idle over tt
      by code.UnknownMemberId e = λ f. idle over tt
      by code.OutOfOrderSequenceNumber e = λ f. still
      by code.ConcurrentTransactions e = λ f. still
      by code.KafkaStorageError e = λ f. still
      by other e = λ f. absurd cc
  heard_commit q left next it m one own held is there here =
      let kind = (answers m (msg.TxnOffsetCommit it) is).0 in
      absurd (omega (arith, kind))

  ------ the end of a transaction

  -- the client after a transaction that ended
  abbrev ended_client : Message → Option Held → Client
  ended_client m held =
      record (holding (answered m) held) { in_transaction = false; must_abort = false }

  ended_at : (m : Message) (after : Stage) (k : ℕ) (held : Option Held) → left_over m ≡ []
      → (r : Raises sent c.number k held) → c.held ≡ Some r.ending
      → ((given : Held) → Fresh (with_held given) → IsReady (with_held given) after)
      → At sent reads p.inputs p.image (writer_of (ended_client m held)) after
      (ended_client m held).waiting
  ended_at m after k held over r own ready =
      subst (λ x. At sent reads p.inputs p.image (writer_of (ended_client m x)) after
      (ended_client m x).waiting) (sym r.is)
      (idle over (ready r.given (fresh_above r.ending r.given own r.below)))

  -- what waits is its own request
  waited : (x : Message) → c.waiting ≡ x ∷ [] → IsAwaited sent c x
  waited x alone =
      All-contains (IsAwaited sent c) c.waiting x k.waiting
      (subst (λ l. Contains l x) (sym alone) (contains_head x []))

  ends : (it : EndTxn) (held : Option Held) → c.waiting ≡ msg.EndTxn it ∷ []
      → (r : Raises sent c.number it.caller.correlation held) → c.held ≡ Some r.ending
  ends it held alone r =
      let a = waited (msg.EndTxn it) alone in
      let asked = the.EndTxn (caller_with c.number it.caller.correlation) r.txn r.ending
      r.outcome in
      let same = k.distinct (msg.EndTxn it) asked a.its (r.asked, refl) refl in
      a.ends it.caller.correlation r.txn r.ending r.outcome same

  abbrev Raised : EndTxn → Option Held → Type 0
  Raised it held = (r : Raises sent c.number it.caller.correlation held)
      × (c.held ≡ Some r.ending)

  raised_by : (it : EndTxn) (one : One (msg.EndTxn it)) (client k : ℕ) (y : ErrorCode)
      (held : Option Held) → client ≡ c.number → k ≡ it.caller.correlation → y ≡ code.NoError
      → Contains sent (the.EndReply (caller_with client k) y held) → Raised it held
  raised_by it one client k y held own number e there =
      let r = raised it.caller.correlation held
      (subst (λ z. Contains sent
      (the.EndReply (caller_with c.number it.caller.correlation) z held)) e
      (subst (λ z. Contains sent (the.EndReply (caller_with c.number z) y held)) number
      (subst (λ z. Contains sent (the.EndReply (caller_with z k) y held)) own there))) in
      (r, ends it held one.alone r)

  heard_end : (left : List ℕ) (it : EndTxn) (m : Message) → One (msg.EndTxn it)
      → is_answer_to m (msg.EndTxn it) ≡ true → Contains sent m
      → receiver_of m ≡ node.Client c.number → Told m (Committing left)
  heard_end left it (msg.EndReply r) one is there here = by r.code refl
    where
      m : Message
      m = msg.EndReply r

      over : left_over m ≡ []
      over = emptied (msg.EndTxn it) m one.alone is

      own : r.caller.client ≡ c.number
      own = cc

      still : At sent reads p.inputs p.image me (Committing left) c.waiting
      still = waits (msg.EndTxn it) one.alone one.some (to_end left it)

      by : (y : ErrorCode) → r.code ≡ y
          → Heard (learns (meaning y) c (answered m) (ended_client m r.held))
          (stage_told (at_stage p (Committing left)) (the.EndReply r.caller y r.held))
      by code.NoError e = λ f.
          let x = raised_by it one r.caller.client r.caller.correlation r.code r.held own
          (answers m (msg.EndTxn it) is).1 e there in
          ended_at m (onward left) it.caller.correlation r.held over x.0 x.1
          (λ given fresh. onward_ready (with_held given) fresh left)
      by code.OutOfOrderSequenceNumber e = λ f. still
      by code.ConcurrentTransactions e = λ f. still
      by code.KafkaStorageError e = λ f. still
      by other e = λ f. absurd cc
  heard_end left it m one is there here =
      let kind = (answers m (msg.EndTxn it) is).0 in
      absurd (omega (arith, kind))

  behind_ready : (sequel : Sequel) (self : Writer) → Fresh self → IsReady self (behind sequel)
  behind_ready Anew self fresh = fresh
  behind_ready Stops self fresh = tt
  behind_ready Overflows self fresh = tt

  heard_abort : (sequel : Sequel) (it : EndTxn) (m : Message) → One (msg.EndTxn it)
      → is_answer_to m (msg.EndTxn it) ≡ true → Contains sent m
      → receiver_of m ≡ node.Client c.number → Told m (Aborting sequel)
  heard_abort sequel it (msg.EndReply r) one is there here = by r.code refl
    where
      m : Message
      m = msg.EndReply r

      over : left_over m ≡ []
      over = emptied (msg.EndTxn it) m one.alone is

      own : r.caller.client ≡ c.number
      own = cc

      still : At sent reads p.inputs p.image me (Aborting sequel) c.waiting
      still = waits (msg.EndTxn it) one.alone one.some (to_abort sequel it)

      by : (y : ErrorCode) → r.code ≡ y
          → Heard (learns (meaning y) c (answered m) (ended_client m r.held))
          (stage_told (at_stage p (Aborting sequel)) (the.EndReply r.caller y r.held))
      by code.NoError e = λ f.
          let x = raised_by it one r.caller.client r.caller.correlation r.code r.held own
          (answers m (msg.EndTxn it) is).1 e there in
          ended_at m (behind sequel) it.caller.correlation r.held over x.0 x.1
          (λ given fresh. behind_ready sequel (with_held given) fresh)
      by code.OutOfOrderSequenceNumber e = λ f. still
      by code.ConcurrentTransactions e = λ f. still
      by code.KafkaStorageError e = λ f. still
      by other e = λ f. absurd cc
  heard_abort sequel it m one is there here =
      let kind = (answers m (msg.EndTxn it) is).0 in
      absurd (omega (arith, kind))

  ------ what a reply keeps

  -- its number and its transactional id stay, and a client that has failed stays so
  record Keeps (d : Client) : Type 0 where
    number : d.number ≡ c.number
    txn : d.txn ≡ c.txn
    group : d.group ≡ c.group
    placed : IfSome d.place (λ x. x.group ≡ p.group)
    inside : d.in_transaction ≡ true → c.in_transaction ≡ true
    works : d.failed ≡ false → c.failed ≡ false

  as_it_was : Keeps c
  as_it_was = record {
    number = refl;
    txn = refl;
    group = refl;
    placed = h.placed;
    inside = λ e. e;
    works = λ f. f;
  }

  learns_keeps : (mean : Meaning) (answered done : Client) → Keeps answered → Keeps done
      → Keeps (learns mean c answered done)
  learns_keeps Done answered done a d = d
  learns_keeps WaitsOn answered done a d =
      as_it_was
  learns_keeps Aborts answered done a d = record {
    number = a.number;
    txn = a.txn;
    group = a.group;
    placed = a.placed;
    inside = a.inside;
    works = a.works;
  }
  learns_keeps Fails answered done a d = record {
    number = a.number;
    txn = a.txn;
    group = a.group;
    placed = a.placed;
    inside = a.inside;
    works = λ f. absurd cc;
  }

  its_group : (generation : ℤ) (place count : ℕ) (o : Option (List ℕ))
      → IfSome o (λ g. g ≡ p.group)
      → IfSome (option_map (placed_in generation place count) o) (λ x. x.group ≡ p.group)
  its_group generation place count None e = tt
  its_group generation place count (Some g) e = e

  module _ (waiting : List Message) where
    abbrev fewer : Client
    fewer = record c { waiting = waiting }

    itself : Keeps fewer
    itself = record {
      number = refl;
      txn = refl;
      group = refl;
      placed = h.placed;
      inside = λ e. e;
      works = λ f. f;
    }

    holding_keeps : (held : Option Held) → Keeps (holding fewer held)
    holding_keeps None = itself
    holding_keeps (Some held) = record {
      number = refl;
      txn = refl;
      group = refl;
      placed = h.placed;
      inside = λ e. e;
      works = λ f. f;
    }

    ended_keeps : (held : Option Held)
        → Keeps (record (holding fewer held) { in_transaction = false; must_abort = false })
    ended_keeps None = record {
      number = refl;
      txn = refl;
      group = refl;
      placed = h.placed;
      inside = λ e. absurd cc;
      works = λ f. f;
    }
    ended_keeps (Some held) = record {
      number = refl;
      txn = refl;
      group = refl;
      placed = h.placed;
      inside = λ e. absurd cc;
      works = λ f. f;
    }

    told_keeps : (m : Message) → Keeps (told c fewer m)
    told_keeps (msg.InitReply it) =
        learns_keeps (meaning it.code) fewer _ itself (holding_keeps it.held)
    told_keeps (msg.EndReply it) =
        learns_keeps (meaning it.code) fewer _ itself (ended_keeps it.held)
    told_keeps (msg.ProduceReply it) = learns_keeps (meaning it.code) fewer fewer itself itself
    told_keeps (msg.JoinReply it) =
        learns_keeps (meaning it.code) fewer _ itself (record {
          number = refl;
          txn = refl;
          group = refl;
          placed = its_group it.generation it.place it.count c.group h.group;
          inside = λ e. e;
          works = λ f. f;
        })
    told_keeps (msg.LeaveReply it) = learns_keeps (meaning it.code) fewer fewer itself itself
    told_keeps (msg.OffsetsReply it) =
        learns_keeps (offsets_meaning it.code) fewer fewer itself itself
    told_keeps (msg.FetchReply it) = learns_keeps (meaning it.code) fewer fewer itself itself
    told_keeps (msg.OffsetFetchReply it) =
        learns_keeps (offset_meaning it.code) fewer fewer itself itself
    told_keeps m = as_it_was

  ------ any reply

  waits_hears : (stage : Stage) (x m : Message) → c.waiting ≡ x ∷ []
      → (is_init x ≡ false → is_some c.held ≡ true)
      → Waits sent reads p.inputs p.image me stage x
      → Contains sent m → receiver_of m ≡ node.Client c.number → is_answer_to m x ≡ true
      → Told m stage
  waits_hears stage x m alone some (for_id s n init ready) there here is =
      heard_id s n m (record { alone = alone; some = some }) init ready
      (k.asking (ap (list_any is_init) alone ∙ ap (λ b. b || false) init)) is
  waits_hears stage x m alone some (to_join n group fresh) there here is =
      heard_join n group m (record { alone = alone; some = some }) fresh is
  waits_hears stage x m alone some (to_locate n q left group fresh) there here is =
      heard_locate n q left group m (record { alone = alone; some = some }) fresh is
  waits_hears stage x m alone some (to_fetch q left offset it fresh last from its_q committed)
      there here is =
      let a = waited (msg.Fetch it) alone in
      let client : it.caller.client ≡ c.number = let s = a.its.1 in cc in
      heard_fetch q left offset it m (record { alone = alone; some = some }) fresh last from its_q
      committed a.its.0 client is there here
  waits_hears stage x m alone some (to_write q left next values rest done it has) there here is =
      heard_write q left next values rest done it m (record { alone = alone; some = some }) has is
  waits_hears stage x m alone some (to_commit q left next it held) there here is =
      let a = waited (msg.TxnOffsetCommit it) alone in
      let client : it.caller.client ≡ c.number = let s = a.its.1 in cc in
      heard_commit q left next it m (record { alone = alone; some = some }) (a.its.0, client) held
      is there here
  waits_hears stage x m alone some (to_end left it) there here is =
      heard_end left it m (record { alone = alone; some = some }) is there here
  waits_hears stage x m alone some (to_abort sequel it) there here is =
      heard_abort sequel it m (record { alone = alone; some = some }) is there here

  at_hears : (stage : Stage) (waiting : List Message) (m : Message) → c.waiting ≡ waiting
      → At sent reads p.inputs p.image me stage waiting → Contains sent m
      → receiver_of m ≡ node.Client c.number → list_any (is_answer_to m) waiting ≡ true
      → Told m stage
  at_hears stage waiting m same (idle e ready) there here is =
      absurd (let none = ap (list_any (is_answer_to m)) (sym e) ∙ is in cc)
  at_hears stage waiting m same (waits x e some w) there here is =
      waits_hears stage x m (same ∙ e) some w there here
      (or_false (is_answer_to m x) (ap (list_any (is_answer_to m)) (sym e) ∙ is))
    where
      or_false : (b : Bool) → (b || false) ≡ true → b ≡ true
      or_false true f = refl
      or_false false f = absurd cc

  -- a reply leaves what stands standing
  pub reply_leaves : (m : Message) → Contains sent m
      → let after = takes (record { client = c; processing = p }) m in
      Writes sent reads after.client after.processing
  unfolding takes take_reply
  reply_leaves m there = by (is_awaited c m) refl
    where
      rest : List Message
      rest = filter (λ y. not (is_answer_to m y)) c.waiting

      d : Client
      d = told c (record c { waiting = rest }) m

      keeps : Keeps d
      keeps = told_keeps rest m

      by : (b : Bool) → is_awaited c m ≡ b
          → Writes sent reads
          (cond b (told c (record c {
            waiting = filter (λ y. not (is_answer_to m y)) c.waiting;
          }) m) c) (cond b (at_stage p (stage_told p m)) p)
      by false e = h
      by true e =
          let a = awaited_here c m e in
          record {
            at = λ f. at_hears p.stage c.waiting m refl (h.at (keeps.works f)) there a.0 a.1 f;
            made = λ request in_sent its. h.made request in_sent (its ∙ keeps.number);
            written = subst (λ n. (it : TxnOffsetCommit)
                → IsOffsets sent reads p.inputs p.image n it
                → IsWritten sent reads p.inputs p.image n it) (sym keeps.number) h.written;
            ends = subst (λ n. (it : EndTxn) → Contains sent (msg.EndTxn it)
                → it.caller.client ≡ n → it.outcome ≡ Commit
                → HasOffsets sent reads p.inputs p.image n it.held) (sym keeps.number) h.ends;
            transactional = λ inside.
                ap is_some keeps.txn ∙ h.transactional (keeps.inside inside);
            group = subst (λ o. IfSome o (λ g. g ≡ p.group)) (sym keeps.group) h.group;
            placed = keeps.placed;
            of_group = subst (λ n. (it : TxnOffsetCommit)
                → IsOffsets sent reads p.inputs p.image n it → it.group ≡ p.group)
                (sym keeps.number) h.of_group;
          }
