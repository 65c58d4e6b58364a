-- A reply that comes to a processor leaves what stands of it standing.
use Rattle.std.proofs.Common.{◌≡◌, ◌⊎◌, ◌+◌, ◌<ℤ◌, ℕ, ℤ, pos, Bool, true, false, not, cond, List}
use Rattle.std.proofs.Common.{[]}
use Rattle.std.proofs.Common.{◌∷◌, ◌++◌, filter, length, map, Option, Some, None, is_some, ◌==◌}
use Rattle.std.proofs.Common.{refl}
use Rattle.std.proofs.Common.{Contains, All, sym, ap, ◌∙◌, subst, arith, ⊎_elim, Result, Ok}
use Rattle.std.proofs.Common.{Err, ◌||◌}
use Rattle.std.specs.Prelude.{IfSome, T, int_lt, option_map}
use Rattle.std.specs.Int.Signed.{lt_z_yes}
use Rattle.std.specs.List.{list_any, range_with_len}
use Rattle.std.proofs.lemmas.Bool.{and_parts}
use Rattle.std.proofs.lemmas.Bool.Decides.{nat_tests}
use Rattle.std.proofs.lemmas.List.Elements.{All-contains, All-tail, filter_passes}
use Rattle.kx_message.specs.Fields.{kind_of}
use Rattle.kx_message.specs.Messages as the
use Rattle.kx_message.specs.Messages.{caller_with}
use Rattle.kx_message.specs.Receiver.{receiver_of}
use Rattle.kx_message.specs.declared.code.ErrorCode.{ErrorCode}
use Rattle.kx_message.specs.declared.code.ErrorCode.TheVariants as code
use Rattle.kx_message.specs.declared.message.Held.{Held}
use Rattle.kx_message.specs.declared.message.Message.{Message}
use Rattle.kx_message.specs.declared.message.Message.TheVariants as msg
use Rattle.kx_message.specs.declared.message.NodeId.TheVariants as node
use Rattle.kx_message.specs.declared.payload.AbortedTxn.{AbortedTxn}
use Rattle.kx_message.specs.declared.requests.EndTxn.{EndTxn}
use Rattle.kx_message.specs.declared.requests.Fetch.{Fetch}
use Rattle.kx_message.specs.declared.requests.Produce.{Produce}
use Rattle.kx_message.specs.declared.requests.TxnOffsetCommit.{TxnOffsetCommit}
use Rattle.kx_batch.specs.declared.fault.BatchFault.{BatchFault}
use Rattle.kx_client.specs.declared.values.Values.{Values}
use Rattle.kx_log.specs.Row.{row_in}
use Rattle.kx_model.specs.Client.{Client, is_init}
use Rattle.kx_model.specs.Groups.{members, place_of}
use Rattle.kx_model.specs.Log.{Entry, Stored}
use Rattle.kx_model.specs.Page.{Fetched}
use Rattle.kx_model.specs.Reading.{committed_of}
use Rattle.kx_model.specs.Replies.{Aborts, Done, Fails, Meaning, Waits as WaitsOn}
use Rattle.kx_model.specs.Replies.{correlation_of, holding, is_answer_to, is_awaited, learns}
use Rattle.kx_model.specs.Replies.{meaning}
use Rattle.kx_model.specs.Replies.{offset_meaning, offsets_meaning, placed_in, take_reply, told}
use Rattle.kx_headline.proofs.ClientHolds.{awaited_here}
use Rattle.kx_headline.proofs.ClientReplies.{Raises, IsBelow, earlier_epoch, earlier_id}
use Rattle.kx_headline.proofs.ClientRequests.{IsAwaited, IsUpTo, IsWithin, Knows, older_id, same_id}
use Rattle.kx_laws.proofs.Membership.{contains_head}
use Rattle.kx_partition.specs.Reply.{page_with, with_batches}
use Rattle.kx_partition.specs.declared.fault.ReplyFault.{ReplyFault}
use Rattle.kx_system.specs.Processor.{Aborting, Anew, Committing, Fetching, Joining, Locating}
use Rattle.kx_system.specs.Processor.{Overflown, Overflows, Processing, Sequel, Stage}
use Rattle.kx_system.specs.Processor.{Stopped, Stops, Writing, at_stage, batches_of, behind}
use Rattle.kx_system.specs.Processor.{from_offset, onward, owned, owns, paged, stage_told, takes}
use Rattle.kx_pipeline.specs.Chain.{from_of, last_fetch}
use Rattle.kx_pipeline.proofs.LinkedCommits.{Settled, settled_later}
use Rattle.kx_pipeline.proofs.ProcessorWorks.{AllSettled, At, HasRead, IsCommitOf, IsEnding}
use Rattle.kx_pipeline.proofs.ProcessorWorks.{IsFetching, IsLocating, IsOut, IsWriting, Placed}
use Rattle.kx_pipeline.proofs.ProcessorWorks.{Ready}
use Rattle.kx_pipeline.proofs.ProcessorWorks.{Self, Unheld, Waits, Works, for_id, idle, self_of}
use Rattle.kx_pipeline.proofs.ProcessorWorks.{to_abort}
use Rattle.kx_pipeline.proofs.ProcessorWorks.{to_commit, to_end, to_fetch, to_join, to_locate}
use Rattle.kx_pipeline.proofs.ProcessorWorks.{to_write}
use Rattle.kx_pipeline.proofs.ProcessorWorks.{waits}
use Rattle.kx_pipeline.proofs.RepliesStand.{JoinedAt}

------ another pair, and what is left

module _ (sent : List Message) (log : List Entry) (me : Self) where
  abbrev with_held : Option Held → Self
  with_held held = record me { held = held }

  pub placed_held : (held : Option Held) (inputs : List ℕ) → Placed sent log me inputs
      → Placed sent log (with_held held) inputs
  placed_held held inputs h = record {
    joined = h.joined;
    behind = h.behind;
    parts = h.parts;
    place = h.place;
    is = h.is;
    of_group = h.of_group;
    named = h.named;
    owned = h.owned;
  }

  read_held : (held : Option Held) (joined : List Entry) (q : ℕ) (offset : ℤ)
      → HasRead sent log me joined q offset → HasRead sent log (with_held held) joined q offset
  read_held held joined q offset h = record {
    since = h.since;
    behind = h.behind;
    parts = h.parts;
    none_pending = h.none_pending;
    offset_is = h.offset_is;
    settled = h.settled;
  }

  pub ready_held : (held : Option Held) → Unheld sent log (with_held held) → (stage : Stage)
      → Ready sent log me stage → Ready sent log (with_held held) stage
  unfolding placed_held
  ready_held held u Joining h = (u, h.1)
  ready_held held u (Locating q left) h = record {
    placed = placed_held held (q ∷ left) h.placed;
    unheld = u;
    settled = h.settled;
  }
  ready_held held u (Fetching q left offset) h = record {
    placed = placed_held held (q ∷ left) h.placed;
    read = read_held held h.placed.joined q offset h.read;
    unheld = u;
  }
  ready_held held u (Writing q left next batches) h = record {
    placed = placed_held held (q ∷ left) h.placed;
    offset = h.offset;
    read = read_held held h.placed.joined q h.offset h.read;
    unheld = u;
    last = h.last;
    grows = h.grows;
  }
  ready_held held u (Committing left) h =
      record { placed = placed_held held left h.placed; settled = h.settled }
  ready_held held u (Aborting sequel) h = h
  ready_held held u Overflown h = tt
  ready_held held u Stopped h = tt

  pub placed_tail : (q : ℕ) (left : List ℕ) → Placed sent log me (q ∷ left)
      → Placed sent log me left
  placed_tail q left h = record {
    joined = h.joined;
    behind = h.behind;
    parts = h.parts;
    place = h.place;
    is = h.is;
    of_group = h.of_group;
    named = h.named;
    owned = All-tail (λ x. owns (place_of h.joined me.group me.number)
        (length (members h.joined me.group)) x ≡ true) q left h.owned;
  }

  -- the next input partition of the pass, or the next pass
  pub onward_ready : (left : List ℕ) → Placed sent log me left → Unheld sent log me
      → AllSettled sent log me log → Ready sent log me (onward left)
  onward_ready [] placed u s = (u, s)
  onward_ready (q ∷ left) placed u s =
      record { placed = placed; unheld = u; settled = s }

  -- what was settled when the log was read is settled now
  pub settled_since : (joined : List Entry) (q : ℕ) (offset : ℤ)
      → HasRead sent log me joined q offset → AllSettled sent log me log
  settled_since joined q offset h it its =
      subst (λ l. Settled l it) (sym h.parts)
      (settled_later (joined ++ h.since) h.behind it (h.settled it its))

------ pages

is_less : (a b : ℤ) → int_lt a b ≡ true → a <ℤ b
is_less a b e = lt_z_yes (subst T (sym e) tt)

start_of : ℤ → Result Fetched ReplyFault → ℤ
start_of other (Ok page) = page.from
start_of other (Err fault) = other

-- a page is one from the offset that was asked for
page_from : (from next stable end : ℤ) (aborted : List AbortedTxn)
    (row : Result (List Stored) BatchFault) (page : Fetched)
    → with_batches from next stable end aborted row ≡ Ok page → page.from ≡ from
unfolding start_of
page_from from next stable end aborted (Ok batches) page e = ap (start_of from) (sym e)
page_from from next stable end aborted (Err damage) page e = absurd cc

------ a reply that is awaited

pub init_kind : (x : Message) → is_init x ≡ true → kind_of x ≡ 1
init_kind (msg.InitProducerId it) e = refl
init_kind other e = absurd cc

pub answers : (m x : Message) → is_answer_to m x ≡ true
    → (kind_of m ≡ kind_of x + 1) × (correlation_of m ≡ correlation_of x)
answers m x e =
    let p = and_parts (kind_of m == kind_of x + 1) (correlation_of m == correlation_of x) e in (
      grind (arith, nat_tests, p.0),
      grind (arith, nat_tests, p.1),
    )

module _ (sent : List Message) (log : List Entry) (c : Client) (p : Processing)
    -- the pairs of its commits are up to its own, and what their answers say
    (within : (it : TxnOffsetCommit) → IsCommitOf sent log (self_of c p) it
    → IsWithin it.held c.held)
    (settles : (it : TxnOffsetCommit) → IsCommitOf sent log (self_of c p) it
    → Contains sent (the.OffsetsReply it.caller code.NoError) → Settled log it)
    (joined : (k : ℕ) (named : ℤ) (place count : ℕ)
    → Contains sent (the.JoinReply (caller_with c.number k) code.NoError named place count)
    → (g : List ℕ) × Contains sent (the.Join (caller_with c.number k) g)
    × JoinedAt log g c.number named place count)
    (raised : (k : ℕ) (held : Option Held)
    → Contains sent (the.EndReply (caller_with c.number k) code.NoError held)
    → Raises sent c.number k held)
    -- the pair of an EndTxn that waits is its own
    (ends : (it : EndTxn) (held : Option Held) → c.waiting ≡ msg.EndTxn it ∷ []
    → (r : Raises sent c.number it.caller.correlation held) → c.held ≡ Some r.ending)
    (h : Works sent log c p) where
  abbrev me : Self
  me = self_of c p

  -- what stands of it by the client after the reply
  abbrev Heard : Client → Stage → Type 0
  Heard d stage = d.failed ≡ false → At sent log (self_of d p) stage d.waiting

  abbrev left_over : Message → List Message
  left_over m = filter (λ y. not (is_answer_to m y)) c.waiting

  abbrev answered : Message → Client
  answered m = record c { waiting = left_over m }

  -- nothing waits once the one request is answered
  emptied : (x m : Message) → c.waiting ≡ x ∷ [] → is_answer_to m x ≡ true → left_over m ≡ []
  emptied x m alone is =
      ap (filter (λ y. not (is_answer_to m y))) alone
      ∙ ap {B = List Message} (λ b. cond (not b) (x ∷ []) []) is

  abbrev Told : Message → Stage → Type 0
  Told m stage = Heard (told c (answered m) m) (stage_told (at_stage p stage) m)

  nobodys : c.held ≡ None → (it : TxnOffsetCommit) → IsCommitOf sent log me it → ⊥
  nobodys none it its = subst (IsWithin it.held) none (within it its)

  ------ by the request that waits

  -- what waits is this request
  record One (x : Message) : Type 0 where
    alone : c.waiting ≡ x ∷ []
    some : is_init x ≡ false → is_some c.held ≡ true

  heard_id : (stage : Stage) (x m : Message) → One x → is_init x ≡ true
      → Ready sent log me stage → c.held ≡ None → is_answer_to m x ≡ true → Told m stage
  heard_id stage x (msg.InitReply it) one init ready none is = by it.code it.held
    where
      m : Message
      m = msg.InitReply it

      over : left_over m ≡ []
      over = emptied x m one.alone is

      by : (y : ErrorCode) (held : Option Held)
          → Heard (learns (meaning y) c (answered m) (holding (answered m) held)) stage
      by code.NoError None = λ f. idle over ready
      by code.NoError (Some held) = λ f.
          idle over (ready_held sent log me (Some held) (λ n its e. nobodys none n its) stage ready)
      by code.OutOfOrderSequenceNumber held = λ f.
          waits x one.alone one.some (for_id stage x init ready)
      by code.ConcurrentTransactions held = λ f.
          waits x one.alone one.some (for_id stage x init ready)
      by code.KafkaStorageError held = λ f.
          waits x one.alone one.some (for_id stage x init ready)
      by other held = λ f. absurd cc
  heard_id stage x m one init ready none is =
      let k = (answers m x is).0 in
      let kind = init_kind x init in
      absurd (omega (arith, k, kind))

  -- the group that it knows when it joined
  record JoinsNow (named : ℤ) (place count : ℕ) : Type 0 where
    group_is : c.group ≡ Some p.group
    at : JoinedAt log p.group c.number named place count

  heard_join : (k : ℕ) (m : Message) → One (the.Join (caller_with c.number k) p.group)
      → Ready sent log me Joining
      → is_answer_to m (the.Join (caller_with c.number k) p.group) ≡ true
      → Contains sent m → receiver_of m ≡ node.Client c.number → Told m Joining
  heard_join k (msg.JoinReply it) one ready is there here = by it.code refl
    where
      m : Message
      m = msg.JoinReply it

      x : Message
      x = the.Join (caller_with c.number k) p.group

      over : left_over m ≡ []
      over = emptied x m one.alone is

      own : it.caller.client ≡ c.number
      own = cc

      joins_now : it.code ≡ code.NoError → JoinsNow it.generation it.place it.count
      joins_now e =
          let i = it.caller.correlation in
          let told_so = subst (λ y. Contains sent (the.JoinReply (caller_with c.number i) y
          it.generation it.place it.count)) e
          (subst (λ y. Contains sent (the.JoinReply (caller_with y i) it.code it.generation it.place
          it.count)) own there) in
          let j = joined i it.generation it.place it.count told_so in
          let g = h.joins i j.0 j.1 in
          record {
            group_is = g.1;
            at = subst (λ g. JoinedAt log g c.number it.generation it.place it.count) g.0 j.2;
          }

      placed_client : Option (List ℕ) → Client
      placed_client group = record (answered m) {
        place = option_map (placed_in it.generation it.place it.count) group;
      }

      ready_now : JoinsNow it.generation it.place it.count → (f : c.failed ≡ false)
          → At sent log (self_of (placed_client (Some p.group)) p)
          (onward (owned it.place it.count p.inputs)) (left_over m)
      ready_now j f =
          let d = placed_client (Some p.group) in
          let at = j.at in
          idle over (onward_ready sent log (self_of d p) (owned it.place it.count p.inputs)
          (record {
            joined = at.joined;
            behind = at.behind;
            parts = at.parts;
            place = placed_in it.generation it.place it.count p.group;
            is = refl;
            of_group = refl;
            named = at.is.of_generation;
            owned = subst (λ n. All (λ q. owns n (length (members at.joined p.group)) q ≡ true)
                (owned it.place it.count p.inputs)) at.is.at_place
                (subst (λ n. All (λ q. owns it.place n q ≡ true)
                (owned it.place it.count p.inputs)) at.is.of_count
                (filter_passes (owns it.place it.count) (range_with_len 0 p.inputs)));
          }) ready.0 ready.1)

      by : (y : ErrorCode) → it.code ≡ y
          → Heard (learns (meaning y) c (answered m) (placed_client c.group))
          (stage_told (at_stage p Joining)
          (the.JoinReply it.caller y it.generation it.place it.count))
      by code.NoError e = λ f.
          let j = joins_now e in
          subst (λ g. At sent log (self_of (placed_client g) p)
          (onward (owned it.place it.count p.inputs)) (left_over m)) (sym j.group_is)
          (ready_now j f)
      by code.OutOfOrderSequenceNumber e = λ f. waits x one.alone one.some (to_join k ready)
      by code.ConcurrentTransactions e = λ f. waits x one.alone one.some (to_join k ready)
      by code.KafkaStorageError e = λ f. waits x one.alone one.some (to_join k ready)
      by other e = λ f. absurd cc
  heard_join k m one ready is there here =
      let kind = (answers m (the.Join (caller_with c.number k) p.group) is).0 in
      absurd (omega (arith, kind))

  heard_locate : (k q : ℕ) (left : List ℕ) (m : Message)
      → One (the.OffsetFetch (caller_with c.number k) p.group q true)
      → (ready : IsLocating sent log me q left)
      → ((offset : ℤ)
      → Contains sent (the.OffsetFetchReply (caller_with c.number k) code.NoError offset)
      → HasRead sent log me ready.placed.joined q offset)
      → is_answer_to m (the.OffsetFetch (caller_with c.number k) p.group q true) ≡ true
      → Contains sent m → receiver_of m ≡ node.Client c.number → Told m (Locating q left)
  heard_locate k q left (msg.OffsetFetchReply it) one ready says is there here = by it.code refl
    where
      m : Message
      m = msg.OffsetFetchReply it

      x : Message
      x = the.OffsetFetch (caller_with c.number k) p.group q true

      over : left_over m ≡ []
      over = emptied x m one.alone is

      own : it.caller.client ≡ c.number
      own = cc

      number : it.caller.correlation ≡ k
      number = (answers m x is).1

      told_so : it.code ≡ code.NoError
          → Contains sent (the.OffsetFetchReply (caller_with c.number k) code.NoError it.offset)
      told_so e =
          subst (λ y. Contains sent (the.OffsetFetchReply (caller_with c.number k) y it.offset)) e
          (subst (λ i. Contains sent (the.OffsetFetchReply (caller_with c.number i) it.code
          it.offset)) number
          (subst (λ y. Contains sent (the.OffsetFetchReply (caller_with y it.caller.correlation)
          it.code it.offset)) own there))

      by : (y : ErrorCode) → it.code ≡ y
          → Heard (learns (offset_meaning y) c (answered m) (answered m))
          (stage_told (at_stage p (Locating q left)) (the.OffsetFetchReply it.caller y it.offset))
      by code.NoError e = λ f.
          idle over (record {
            placed = ready.placed;
            read = says it.offset (told_so e);
            unheld = ready.unheld;
          })
      by code.UnstableOffsetCommit e = λ f.
          idle over (onward_ready sent log me left (placed_tail sent log me q left ready.placed)
          ready.unheld ready.settled)
      by code.OutOfOrderSequenceNumber e = λ f.
          waits x one.alone one.some (to_locate k q left ready says)
      by code.ConcurrentTransactions e = λ f.
          waits x one.alone one.some (to_locate k q left ready says)
      by code.KafkaStorageError e = λ f.
          waits x one.alone one.some (to_locate k q left ready says)
      by other e = λ f. absurd cc
  heard_locate k q left m one ready says is there here =
      let kind = (answers m (the.OffsetFetch (caller_with c.number k) p.group q true) is).0 in
      absurd (omega (arith, kind))

  -- the stage after a page, which begins at the offset that was asked for
  paged_ready : (q : ℕ) (left : List ℕ) (offset : ℤ) → IsFetching sent log me q left offset
      → from_of (last_fetch sent c.number c.correlation) ≡ pos (from_offset offset)
      → (r : Result Fetched ReplyFault)
      → ((page : Fetched) → r ≡ Ok page → page.from ≡ pos (from_offset offset))
      → Ready sent log me (paged p.image q left offset r)
  paged_ready q left offset ready last (Err fault) from = ready
  paged_ready q left offset ready last (Ok page) from =
      by (int_lt page.from page.next) refl
    where
      writing : Stage
      writing = Writing q left page.next
          (batches_of (map (λ s. p.image s.shown) (committed_of page)))

      by : (b : Bool) → int_lt page.from page.next ≡ b
          → Ready sent log me (cond b writing (onward left))
      by true e = record {
        placed = ready.placed;
        offset = offset;
        read = ready.read;
        unheld = ready.unheld;
        last = last;
        grows = subst (λ x. x <ℤ page.next) (from page refl) (is_less page.from page.next e);
      }
      by false e =
          onward_ready sent log me left (placed_tail sent log me q left ready.placed) ready.unheld
          (settled_since sent log me ready.placed.joined q offset ready.read)

  heard_fetch : (q : ℕ) (left : List ℕ) (offset : ℤ) (it : Fetch) (m : Message)
      → One (msg.Fetch it) → IsFetching sent log me q left offset
      → last_fetch sent c.number c.correlation ≡ Some it → it.from ≡ pos (from_offset offset)
      → is_answer_to m (msg.Fetch it) ≡ true → Told m (Fetching q left offset)
  heard_fetch q left offset it (msg.FetchReply r) one ready last from is = by r.code
    where
      m : Message
      m = msg.FetchReply r

      over : left_over m ≡ []
      over = emptied (msg.Fetch it) m one.alone is

      pages : Result Fetched ReplyFault
      pages =
          with_batches (pos (from_offset offset)) r.next r.lso r.end r.aborted (row_in r.batches)

      still : At sent log me (Fetching q left offset) c.waiting
      still = waits (msg.Fetch it) one.alone one.some (to_fetch q left offset it ready last from)

      by : (y : ErrorCode)
          → Heard (learns (meaning y) c (answered m) (answered m))
          (paged p.image q left offset (page_with y
          (with_batches (pos (from_offset offset)) r.next r.lso r.end r.aborted
          (row_in r.batches))))
      by code.NoError = λ f.
          idle over (paged_ready q left offset ready (ap from_of last ∙ from) pages
          (λ page same. page_from (pos (from_offset offset)) r.next r.lso r.end r.aborted
          (row_in r.batches) page same))
      by code.OutOfOrderSequenceNumber = λ f. still
      by code.ConcurrentTransactions = λ f. still
      by code.KafkaStorageError = λ f. still
      by other = λ f. absurd cc
  heard_fetch q left offset it m one ready last from is =
      let kind = (answers m (msg.Fetch it) is).0 in
      absurd (omega (arith, kind))

  heard_write : (q : ℕ) (left : List ℕ) (next : ℤ) (values : Values) (rest : List Values)
      (it : Produce) (m : Message) → One (msg.Produce it) → IsWriting sent log me q left next
      → is_answer_to m (msg.Produce it) ≡ true → Told m (Writing q left next (values ∷ rest))
  heard_write q left next values rest it (msg.ProduceReply r) one ready is = by r.code
    where
      m : Message
      m = msg.ProduceReply r

      over : left_over m ≡ []
      over = emptied (msg.Produce it) m one.alone is

      still : At sent log me (Writing q left next (values ∷ rest)) c.waiting
      still = waits (msg.Produce it) one.alone one.some (to_write q left next values rest it ready)

      by : (y : ErrorCode) → Heard (learns (meaning y) c (answered m) (answered m))
          (stage_told (at_stage p (Writing q left next (values ∷ rest)))
          (the.ProduceReply r.caller r.partition y r.offset))
      by code.NoError = λ f. idle over ready
      by code.OutOfOrderSequenceNumber = λ f. still
      by code.ConcurrentTransactions = λ f. still
      by code.KafkaStorageError = λ f. still
      by other = λ f. absurd cc
  heard_write q left next values rest it m one ready is =
      let kind = (answers m (msg.Produce it) is).0 in
      absurd (omega (arith, kind))

  heard_commit : (q : ℕ) (left : List ℕ) (next : ℤ) (it : TxnOffsetCommit) (m : Message)
      → One (msg.TxnOffsetCommit it) → IsCommitOf sent log me it → Placed sent log me left
      → ((n : TxnOffsetCommit) → IsCommitOf sent log me n → (n ≡ it) ⊎ Settled log n)
      → IsOut sent log me it → is_answer_to m (msg.TxnOffsetCommit it) ≡ true → Contains sent m
      → receiver_of m ≡ node.Client c.number → Told m (Writing q left next [])
  heard_commit q left next it (msg.OffsetsReply r) one own placed others out is there here =
      by r.code refl
    where
      m : Message
      m = msg.OffsetsReply r

      over : left_over m ≡ []
      over = emptied (msg.TxnOffsetCommit it) m one.alone is

      still : At sent log me (Writing q left next []) c.waiting
      still =
          waits (msg.TxnOffsetCommit it) one.alone one.some
          (to_commit q left next it placed others out)

      client : r.caller.client ≡ it.caller.client
      client = let here' : r.caller.client ≡ c.number = cc in here' ∙ sym own.1

      number : r.caller.correlation ≡ it.caller.correlation
      number = (answers m (msg.TxnOffsetCommit it) is).1

      callers : r.caller ≡ it.caller
      callers = λ i. record { client = client i; correlation = number i }

      told_so : (y : ErrorCode) → r.code ≡ y → Contains sent (the.OffsetsReply it.caller y)
      told_so y e =
          subst (λ x. Contains sent (the.OffsetsReply it.caller x)) e
          (subst (λ x. Contains sent (the.OffsetsReply x r.code)) callers there)

      all_settled : Settled log it → AllSettled sent log me log
      all_settled s n its =
          ⊎_elim (λ same. subst (Settled log) (sym same) s) (λ settled. settled) (others n its)

      by : (y : ErrorCode) → r.code ≡ y
          → Heard (learns (offsets_meaning y) c (answered m) (answered m))
          (stage_told (at_stage p (Writing q left next [])) (the.OffsetsReply r.caller y))
      by code.NoError e = λ f.
          idle over (record {
            placed = placed;
            settled = all_settled (settles it own (told_so code.NoError e));
          })
      by code.IllegalGeneration e = λ f.
          idle over (all_settled (out.refusals code.IllegalGeneration
          (told_so code.IllegalGeneration e)))
      by code.UnknownMemberId e = λ f.
          idle over (all_settled (out.refusals code.UnknownMemberId
          (told_so code.UnknownMemberId e)))
      by code.OutOfOrderSequenceNumber e = λ f. still
      by code.ConcurrentTransactions e = λ f. still
      by code.KafkaStorageError e = λ f. still
      by other e = λ f. absurd cc
  heard_commit q left next it m one own placed others out is there here =
      let kind = (answers m (msg.TxnOffsetCommit it) is).0 in
      absurd (omega (arith, kind))

  ------ the end of a transaction

  -- a pair above its own
  unheld_above : (ending given : Held) → c.held ≡ Some ending → IsBelow ending given
      → Unheld sent log (record me { held = Some given })
  unheld_above ending given own below it its e =
      let same : given ≡ it.held = cc in
      let up = subst (IsWithin it.held) own (within it its) in
      not_above ending given below (subst (λ x. IsUpTo x ending) (sym same) up)
    where
      not_above : (a b : Held) → IsBelow a b → IsUpTo b a → ⊥
      not_above a b (earlier_id g) (older_id u) = omega (arith, u, g)
      not_above a b (earlier_epoch e g) (older_id u) = omega (arith, u, e)
      not_above a b (earlier_id g) (same_id e u) = omega (arith, e, g)
      not_above a b (earlier_epoch f g) (same_id e u) = omega (arith, u, g)

  -- the client after a transaction that ended
  abbrev ended_client : Message → Option Held → Client
  ended_client m held =
      record (holding (answered m) held) { in_transaction = false; must_abort = false }

  ended_at : (m : Message) (after : Stage) (k : ℕ) (held : Option Held) → left_over m ≡ []
      → (r : Raises sent c.number k held) → c.held ≡ Some r.ending
      → ((held : Option Held) → Unheld sent log (record me { held = held })
      → Ready sent log (record me { held = held }) after)
      → At sent log (self_of (ended_client m held) p) after (ended_client m held).waiting
  ended_at m after k held over r own ready =
      subst (λ x. At sent log (self_of (ended_client m x) p) after (ended_client m x).waiting)
      (sym r.is) (idle over (ready (Some r.given) (unheld_above r.ending r.given own r.below)))

  abbrev Raised : EndTxn → Option Held → Type 0
  Raised it held = (r : Raises sent c.number it.caller.correlation held)
      × (c.held ≡ Some r.ending)

  raised_by : (it : EndTxn) (m : Message) (one : One (msg.EndTxn it)) (client k : ℕ)
      (y : ErrorCode) (held : Option Held) → client ≡ c.number → k ≡ it.caller.correlation
      → y ≡ code.NoError → Contains sent (the.EndReply (caller_with client k) y held)
      → Raised it held
  raised_by it m one client k y held own number e there =
      let r = raised it.caller.correlation held
      (subst (λ z. Contains sent
      (the.EndReply (caller_with c.number it.caller.correlation) z held)) e
      (subst (λ z. Contains sent (the.EndReply (caller_with c.number z) y held)) number
      (subst (λ z. Contains sent (the.EndReply (caller_with z k) y held)) own there))) in
      (r, ends it held one.alone r)

  heard_end : (left : List ℕ) (it : EndTxn) (m : Message) → One (msg.EndTxn it)
      → IsEnding sent log me left → is_answer_to m (msg.EndTxn it) ≡ true → Contains sent m
      → receiver_of m ≡ node.Client c.number → Told m (Committing left)
  heard_end left it (msg.EndReply r) one ready is there here = by r.code refl
    where
      m : Message
      m = msg.EndReply r

      over : left_over m ≡ []
      over = emptied (msg.EndTxn it) m one.alone is

      own : r.caller.client ≡ c.number
      own = cc

      still : At sent log me (Committing left) c.waiting
      still = waits (msg.EndTxn it) one.alone one.some (to_end left it ready)

      by : (y : ErrorCode) → r.code ≡ y
          → Heard (learns (meaning y) c (answered m) (ended_client m r.held))
          (stage_told (at_stage p (Committing left)) (the.EndReply r.caller y r.held))
      by code.NoError e = λ f.
          let x = raised_by it m one r.caller.client r.caller.correlation r.code r.held own
          (answers m (msg.EndTxn it) is).1 e there in
          ended_at m (onward left) it.caller.correlation r.held over x.0 x.1
          (λ held u. onward_ready sent log (record me { held = held }) left
          (placed_held sent log me held left ready.placed) u ready.settled)
      by code.OutOfOrderSequenceNumber e = λ f. still
      by code.ConcurrentTransactions e = λ f. still
      by code.KafkaStorageError e = λ f. still
      by other e = λ f. absurd cc
  heard_end left it m one ready is there here =
      let kind = (answers m (msg.EndTxn it) is).0 in
      absurd (omega (arith, kind))

  behind_ready : (sequel : Sequel) (held : Option Held)
      → Unheld sent log (record me { held = held }) → AllSettled sent log me log
      → Ready sent log (record me { held = held }) (behind sequel)
  behind_ready Anew held u s = (u, s)
  behind_ready Stops held u s = tt
  behind_ready Overflows held u s = tt

  heard_abort : (sequel : Sequel) (it : EndTxn) (m : Message) → One (msg.EndTxn it)
      → AllSettled sent log me log → is_answer_to m (msg.EndTxn it) ≡ true → Contains sent m
      → receiver_of m ≡ node.Client c.number → Told m (Aborting sequel)
  heard_abort sequel it (msg.EndReply r) one settled is there here = by r.code refl
    where
      m : Message
      m = msg.EndReply r

      over : left_over m ≡ []
      over = emptied (msg.EndTxn it) m one.alone is

      own : r.caller.client ≡ c.number
      own = cc

      still : At sent log me (Aborting sequel) c.waiting
      still = waits (msg.EndTxn it) one.alone one.some (to_abort sequel it settled)

      by : (y : ErrorCode) → r.code ≡ y
          → Heard (learns (meaning y) c (answered m) (ended_client m r.held))
          (stage_told (at_stage p (Aborting sequel)) (the.EndReply r.caller y r.held))
      by code.NoError e = λ f.
          let x = raised_by it m one r.caller.client r.caller.correlation r.code r.held own
          (answers m (msg.EndTxn it) is).1 e there in
          ended_at m (behind sequel) it.caller.correlation r.held over x.0 x.1
          (λ held u. behind_ready sequel held u settled)
      by code.OutOfOrderSequenceNumber e = λ f. still
      by code.ConcurrentTransactions e = λ f. still
      by code.KafkaStorageError e = λ f. still
      by other e = λ f. absurd cc
  heard_abort sequel it m one settled is there here =
      let kind = (answers m (msg.EndTxn it) is).0 in
      absurd (omega (arith, kind))

------ what a reply keeps

module _ (c : Client) where
  -- its number and group stay, and a client that has failed stays so
  record Keeps (d : Client) : Type 0 where
    number : d.number ≡ c.number
    group : d.group ≡ c.group
    works : d.failed ≡ false → c.failed ≡ false

  learns_keeps : (mean : Meaning) (answered done : Client) → Keeps answered → Keeps done
      → Keeps (learns mean c answered done)
  learns_keeps Done answered done a d = d
  learns_keeps WaitsOn answered done a d = record { number = refl; group = refl; works = λ f. f }
  learns_keeps Aborts answered done a d =
      record { number = a.number; group = a.group; works = a.works }
  learns_keeps Fails answered done a d =
      record { number = a.number; group = a.group; works = λ f. absurd cc }

  module _ (waiting : List Message) where
    abbrev fewer : Client
    fewer = record c { waiting = waiting }

    itself : Keeps fewer
    itself = record { number = refl; group = refl; works = λ f. f }

    holding_keeps : (held : Option Held) → Keeps (holding fewer held)
    holding_keeps None = itself
    holding_keeps (Some held) = record { number = refl; group = refl; works = λ f. f }

    ended_keeps : (held : Option Held)
        → Keeps (record (holding fewer held) { in_transaction = false; must_abort = false })
    ended_keeps None = record { number = refl; group = refl; works = λ f. f }
    ended_keeps (Some held) = record { number = refl; group = refl; works = λ f. f }

    told_keeps : (m : Message) → Keeps (told c fewer m)
    told_keeps (msg.InitReply it) =
        learns_keeps (meaning it.code) fewer _ itself (holding_keeps it.held)
    told_keeps (msg.EndReply it) =
        learns_keeps (meaning it.code) fewer _ itself (ended_keeps it.held)
    told_keeps (msg.ProduceReply it) = learns_keeps (meaning it.code) fewer fewer itself itself
    told_keeps (msg.JoinReply it) =
        learns_keeps (meaning it.code) fewer _ itself
        (record { number = refl; group = refl; works = λ f. f })
    told_keeps (msg.LeaveReply it) = learns_keeps (meaning it.code) fewer fewer itself itself
    told_keeps (msg.OffsetsReply it) =
        learns_keeps (offsets_meaning it.code) fewer fewer itself itself
    told_keeps (msg.FetchReply it) = learns_keeps (meaning it.code) fewer fewer itself itself
    told_keeps (msg.OffsetFetchReply it) =
        learns_keeps (offset_meaning it.code) fewer fewer itself itself
    told_keeps m = record { number = refl; group = refl; works = λ f. f }

------ any reply

module _ (sent : List Message) (log : List Entry) (c : Client) (p : Processing) (k : Knows sent c)
    (within : (it : TxnOffsetCommit) → IsCommitOf sent log (self_of c p) it
    → IsWithin it.held c.held)
    (settles : (it : TxnOffsetCommit) → IsCommitOf sent log (self_of c p) it
    → Contains sent (the.OffsetsReply it.caller code.NoError) → Settled log it)
    (joined : (k : ℕ) (named : ℤ) (place count : ℕ)
    → Contains sent (the.JoinReply (caller_with c.number k) code.NoError named place count)
    → (g : List ℕ) × Contains sent (the.Join (caller_with c.number k) g)
    × JoinedAt log g c.number named place count)
    (raised : (k : ℕ) (held : Option Held)
    → Contains sent (the.EndReply (caller_with c.number k) code.NoError held)
    → Raises sent c.number k held)
    (h : Works sent log c p) where
  -- what waits is its own request
  waited : (x : Message) → c.waiting ≡ x ∷ [] → IsAwaited sent c x
  waited x alone =
      All-contains (IsAwaited sent c) c.waiting x k.waiting
      (subst (λ l. Contains l x) (sym alone) (contains_head x []))

  ends : (it : EndTxn) (held : Option Held) → c.waiting ≡ msg.EndTxn it ∷ []
      → (r : Raises sent c.number it.caller.correlation held) → c.held ≡ Some r.ending
  ends it held alone r =
      let a = waited (msg.EndTxn it) alone in
      let caller = caller_with c.number it.caller.correlation in
      let asked = the.EndTxn caller r.txn r.ending r.outcome in
      let same = k.distinct (msg.EndTxn it) asked a.its (r.asked, refl) refl in
      a.ends it.caller.correlation r.txn r.ending r.outcome same

  waits_hears : (stage : Stage) (x m : Message) → c.waiting ≡ x ∷ []
      → (is_init x ≡ false → is_some c.held ≡ true) → Waits sent log (self_of c p) stage x
      → Contains sent m → receiver_of m ≡ node.Client c.number → is_answer_to m x ≡ true
      → Told sent log c p within settles joined raised ends h m stage
  waits_hears stage x m alone some (for_id s n init ready) there here is =
      heard_id sent log c p within settles joined raised ends h s n m
      (record { alone = alone; some = some }) init ready
      (k.asking (ap (list_any is_init) alone ∙ ap (λ b. b || false) init)) is
  waits_hears stage x m alone some (to_join n ready) there here is =
      heard_join sent log c p within settles joined raised ends h n m
      (record { alone = alone; some = some }) ready is there here
  waits_hears stage x m alone some (to_locate n q left ready says) there here is =
      heard_locate sent log c p within settles joined raised ends h n q left m
      (record { alone = alone; some = some }) ready says is there here
  waits_hears stage x m alone some (to_fetch q left offset it ready last from) there here is =
      heard_fetch sent log c p within settles joined raised ends h q left offset it m
      (record { alone = alone; some = some }) ready last from is
  waits_hears stage x m alone some (to_write q left next values rest it ready) there here is =
      heard_write sent log c p within settles joined raised ends h q left next values rest it m
      (record { alone = alone; some = some }) ready is
  waits_hears stage x m alone some (to_commit q left next it placed others out) there here is =
      let a = waited (msg.TxnOffsetCommit it) alone in
      let client : it.caller.client ≡ c.number = let s = a.its.1 in cc in
      heard_commit sent log c p within settles joined raised ends h q left next it m
      (record { alone = alone; some = some }) (a.its.0, client) placed others out is there here
  waits_hears stage x m alone some (to_end left it ready) there here is =
      heard_end sent log c p within settles joined raised ends h left it m
      (record { alone = alone; some = some }) ready is there here
  waits_hears stage x m alone some (to_abort sequel it settled) there here is =
      heard_abort sent log c p within settles joined raised ends h sequel it m
      (record { alone = alone; some = some }) settled is there here

  at_hears : (stage : Stage) (waiting : List Message) (m : Message) → c.waiting ≡ waiting
      → At sent log (self_of c p) stage waiting → Contains sent m
      → receiver_of m ≡ node.Client c.number → list_any (is_answer_to m) waiting ≡ true
      → Told sent log c p within settles joined raised ends h m stage
  at_hears stage waiting m same (idle e ready) there here is =
      absurd (let none = ap (list_any (is_answer_to m)) (sym e) ∙ is in cc)
  at_hears stage waiting m same (waits x e some w) there here is =
      waits_hears stage x m (same ∙ e) some w there here
      (or_false (is_answer_to m x) (ap (list_any (is_answer_to m)) (sym e) ∙ is))
    where
      or_false : (b : Bool) → (b || false) ≡ true → b ≡ true
      or_false true f = refl
      or_false false f = absurd cc

  -- a reply leaves what stands standing
  pub hears : (m : Message) → Contains sent m
      → let after = takes (record { client = c; processing = p }) m in
      Works sent log after.client after.processing
  unfolding takes take_reply
  hears m there = by (is_awaited c m) refl
    where
      rest : List Message
      rest = filter (λ y. not (is_answer_to m y)) c.waiting

      d : Client
      d = told c (record c { waiting = rest }) m

      keeps : Keeps c d
      keeps = told_keeps c rest m

      by : (b : Bool) → is_awaited c m ≡ b
          → Works sent log
          (cond b (told c (record c {
            waiting = filter (λ y. not (is_answer_to m y)) c.waiting;
          }) m) c) (cond b (at_stage p (stage_told p m)) p)
      by false e = h
      by true e =
          let a = awaited_here c m e in
          record {
            joins = λ n g in_sent.
                let j = h.joins n g (subst (λ x. Contains sent (the.Join (caller_with x n) g))
                keeps.number in_sent) in
                (j.0, keeps.group ∙ j.1);
            group = subst (λ o. IfSome o (λ g. g ≡ p.group)) (sym keeps.group) h.group;
            at = λ f.
                at_hears p.stage c.waiting m refl (h.at (keeps.works f)) there a.0 a.1 f;
          }
