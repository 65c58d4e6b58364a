-- What of a processor's batches stands at each stage, given all messages: nothing is written of a
-- transaction before it has read, then the images of what it read are, and a commit of an offset
-- that it has handed out has all of them before it.
use Rattle.std.proofs.Common.{◌≡◌, ◌⊎◌, ◌^◌, ◌<◌, ◌+◌, ℕ, ℤ, pos, Bool, true, false, ◌&&◌, List, []}
use Rattle.std.proofs.Common.{◌∷◌}
use Rattle.std.proofs.Common.{◌++◌, length, map, Option, Some, None, is_some, Contains, refl, sym}
use Rattle.std.proofs.Common.{ap}
use Rattle.std.proofs.Common.{◌∙◌, subst, arith, inl, inr, ⊎_elim, ◌==◌, nat_lt}
use Rattle.std.specs.Prelude.{IfSome}
use Rattle.std.proofs.lemmas.Bool.Decides.{nat_tests}
use Rattle.std.proofs.lemmas.List.Elements.{Contains-append_cases, Contains-append_left}
use Rattle.kx_message.specs.Messages as the
use Rattle.kx_message.specs.Messages.{caller_with}
use Rattle.kx_message.specs.declared.code.ErrorCode.TheVariants as code
use Rattle.kx_message.specs.declared.message.Held.{Held}
use Rattle.kx_message.specs.declared.message.Message.{Message}
use Rattle.kx_message.specs.declared.message.Message.TheVariants as msg
use Rattle.kx_message.specs.declared.outcome.Outcome.TheVariants.{Commit}
use Rattle.kx_message.specs.declared.requests.EndTxn.{EndTxn}
use Rattle.kx_message.specs.declared.requests.Fetch.{Fetch}
use Rattle.kx_message.specs.declared.requests.Produce.{Produce}
use Rattle.kx_message.specs.declared.requests.TxnOffsetCommit.{TxnOffsetCommit}
use Rattle.kx_batch.specs.Batch.{batch_of}
use Rattle.kx_client.specs.declared.values.Values.{Values}
use Rattle.kx_model.specs.Client.{Client, Sequence, client_batch, is_init, sequence_of}
use Rattle.kx_model.specs.Client.{value_records}
use Rattle.kx_model.specs.Log.{Data, Sequenced, entry_in}
use Rattle.kx_model.specs.Reading.{Shown}
use Rattle.kx_headline.proofs.ClientReplies.{IsBelow, earlier_epoch, earlier_id}
use Rattle.kx_headline.proofs.ClientRequests.{Carries, HeldFits, IsUpTo, IsWithin, Knows, older_id}
use Rattle.kx_headline.proofs.ClientRequests.{same_id, sender}
use Rattle.kx_system.specs.Processor.{Aborting, Committing, Fetching, Images, Joining, Locating}
use Rattle.kx_system.specs.Processor.{Overflown, Processing, Sequel, Stage, Stopped, Writing}
use Rattle.kx_system.specs.Processor.{batches_of, fits, from_offset}
use Rattle.kx_pipeline.specs.Chain.{from_of, last_fetch}
use Rattle.kx_pipeline.specs.Outputs.{all_in, values_of}
use Rattle.kx_pipeline.proofs.BatchesRead.{data_with, values_read}
use Rattle.kx_pipeline.proofs.LastFetches.{IsNoFetch, last_same}
use Rattle.kx_pipeline.proofs.SentTexts.{IsAs}
use Rattle.kx_pipeline.proofs.SoleBatches.{IsBy, Sole, sole_on}

------ what stands

-- what of a client its batches rest on
pub record Writer : Type 0 where
  pub number : ℕ
  pub correlation : ℕ
  pub held : Option Held
  pub sequences : List Sequence

abbrev pub writer_of : Client → Writer
writer_of c = record {
  number = c.number;
  correlation = c.correlation;
  held = c.held;
  sequences = c.sequences;
}

-- a batch of images, as a client makes it
pub record IsFitted (request : Produce) : Type 0 where
  pub held : Held
  pub first : ℕ
  pub values : Values
  pub text : request.batch ≡ client_batch true held first (value_records (all_in values))
  pub held_fits : HeldFits held
  pub low : first < 2 ^ 31
  pub fit : fits values ≡ true
  pub carries : Carries (msg.Produce request)
      (record { partition = request.partition; held = held; first = first })

module _ (sent : List Message) (reads : ℕ → ℤ → ℤ → List Shown → Type 0) (inputs : ℕ)
    (image : Images) (number : ℕ) where
  -- a commit of offsets of the client
  abbrev pub IsOffsets : TxnOffsetCommit → Type 0
  IsOffsets it = Contains sent (msg.TxnOffsetCommit it) × (it.caller.client ≡ number)

  -- the batches are those of the images of what is visible in the range
  pub record AreImages (q : ℕ) (from next : ℤ) (batches : List Values) : Type 0 where
    pub records : List Shown
    pub shows : reads q from next records
    pub are : batches_of (map (λ s. image s.shown) records) ≡ batches

  -- all of them were sent as the pair of the commit
  pub record IsWritten (it : TxnOffsetCommit) : Type 0 where
    pub input : ℕ
    pub next : ℤ
    pub one : it.offsets ≡ record { partition = input; offset = next } ∷ []
    pub batches : List Values
    pub images : AreImages input
        (from_of (last_fetch sent number it.caller.correlation)) next batches
    pub sole : Sole sent number (input + inputs) it.held batches

  -- a commit of the pair was answered
  pub record HasOffsets (held : Held) : Type 0 where
    pub it : TxnOffsetCommit
    pub its : IsOffsets it
    pub pair : it.held ≡ held
    pub answered : Contains sent (the.OffsetsReply it.caller code.NoError)

module _ (sent : List Message) (reads : ℕ → ℤ → ℤ → List Shown → Type 0) (inputs : ℕ)
    (image : Images) (me : Writer) where
  -- none of its commits is of the pair that it holds
  abbrev pub Unheld : Type 0
  Unheld = (it : TxnOffsetCommit) → IsOffsets sent reads inputs image me.number it
      → me.held ≡ Some it.held → ⊥

  -- nothing was sent as the pair that it holds
  pub record IsFresh : Type 0 where
    pub none : (held : Held) → me.held ≡ Some held → (request : Produce)
        → IsBy sent me.number held request → ⊥
    pub unheld : Unheld
    pub zero : (partition : ℕ) → sequence_of me.sequences partition ≡ 0

  -- of the batches that it is to write it has sent these
  pub record HasWritten (q : ℕ) (next : ℤ) (batches done : List Values) : Type 0 where
    pub held : Held
    pub is : me.held ≡ Some held
    pub sole : Sole sent me.number (q + inputs) held done
    pub images : AreImages sent reads inputs image me.number q
        (from_of (last_fetch sent me.number me.correlation)) next batches
    pub unheld : Unheld
    pub count : sequence_of me.sequences (q + inputs) ≡ length (values_of done)

  pub record HasCommitted : Type 0 where
    pub held : Held
    pub is : me.held ≡ Some held
    pub offsets : HasOffsets sent reads inputs image me.number held

  -- ready to ask for the next thing
  abbrev pub Ready : Stage → Type 0
  Ready Joining = IsFresh
  Ready (Locating q left) = IsFresh
  Ready (Fetching q left offset) = IsFresh
  Ready (Writing q left next batches) =
      (done : List Values) × HasWritten q next (done ++ batches) done
  Ready (Committing left) = HasCommitted
  Ready (Aborting sequel) = Unit {0}
  Ready Overflown = Unit {0}
  Ready Stopped = Unit {0}

  -- it waits for this request
  pub data Waits : Stage → Message → Type 0 where
    for_id : (stage : Stage) (m : Message) → is_init m ≡ true → Ready stage → Waits stage m
    to_join : (k : ℕ) (group : List ℕ) → IsFresh
        → Waits Joining (the.Join (caller_with me.number k) group)
    to_locate : (k q : ℕ) (left group : List ℕ) → IsFresh
        → Waits (Locating q left) (the.OffsetFetch (caller_with me.number k) group q true)
    to_fetch : (q : ℕ) (left : List ℕ) (offset : ℤ) (it : Fetch) → IsFresh
        → last_fetch sent me.number me.correlation ≡ Some it
        → it.from ≡ pos (from_offset offset) → it.partition ≡ q → it.committed ≡ true
        → Waits (Fetching q left offset) (msg.Fetch it)
    to_write : (q : ℕ) (left : List ℕ) (next : ℤ) (values : Values) (rest done : List Values)
        (it : Produce) → HasWritten q next (done ++ values ∷ rest) (done ++ values ∷ [])
        → Waits (Writing q left next (values ∷ rest)) (msg.Produce it)
    to_commit : (q : ℕ) (left : List ℕ) (next : ℤ) (it : TxnOffsetCommit)
        → me.held ≡ Some it.held → Waits (Writing q left next []) (msg.TxnOffsetCommit it)
    to_end : (left : List ℕ) (it : EndTxn) → Waits (Committing left) (msg.EndTxn it)
    to_abort : (sequel : Sequel) (it : EndTxn) → Waits (Aborting sequel) (msg.EndTxn it)

  -- one request at most is unanswered
  pub data At (stage : Stage) (waiting : List Message) : Type 0 where
    idle : waiting ≡ [] → Ready stage → At stage waiting
    waits : (m : Message) → waiting ≡ m ∷ [] → (is_init m ≡ false → is_some me.held ≡ true)
        → Waits stage m → At stage waiting

-- a processor, by its client and what it is beside
pub record Writes (sent : List Message) (reads : ℕ → ℤ → ℤ → List Shown → Type 0) (c : Client)
    (p : Processing) : Type 0 where
  pub at : c.failed ≡ false → At sent reads p.inputs p.image (writer_of c) p.stage c.waiting
  pub made : (request : Produce) → Contains sent (msg.Produce request)
      → request.caller.client ≡ c.number → IsFitted request
  pub written : (it : TxnOffsetCommit)
      → IsOffsets sent reads p.inputs p.image c.number it
      → IsWritten sent reads p.inputs p.image c.number it
  pub ends : (it : EndTxn) → Contains sent (msg.EndTxn it) → it.caller.client ≡ c.number
      → it.outcome ≡ Commit → HasOffsets sent reads p.inputs p.image c.number it.held
  -- only a client with a transactional id is in a transaction
  pub transactional : c.in_transaction ≡ true → is_some c.txn ≡ true
  -- it joins its group alone, and its commits are of that
  pub group : IfSome c.group (λ g. g ≡ p.group)
  pub placed : IfSome c.place (λ x. x.group ≡ p.group)
  pub of_group : (it : TxnOffsetCommit)
      → IsOffsets sent reads p.inputs p.image c.number it → it.group ≡ p.group

------ the pair of a batch

same_batch : (d e : Sequenced) → Data d ≡ Data e → d ≡ e
same_batch d e is = cc

-- a batch of images reads as the pair that it was made with
pub pair_of : (request : Produce) (f : IsFitted request) (partition id epoch : ℕ)
    → IsAs partition id epoch request → (id ≡ f.held.id) × (epoch ≡ f.held.epoch)
pair_of request f partition id epoch a =
    let records = value_records (all_in f.values) in
    let same : a.batch ≡ data_with f.held f.first records =
    same_batch a.batch (data_with f.held f.first records)
    (sym a.reads ∙ ap (λ x. entry_in (batch_of x)) f.text
    ∙ values_read f.held f.held_fits f.first f.low (all_in f.values) f.fit) in (
      sym a.its_id ∙ ap (λ (x : Sequenced). x.id) same,
      sym a.its_epoch ∙ ap (λ (x : Sequenced). x.epoch) same,
    )

module _ (sent : List Message) (c : Client) (k : Knows sent c)
    (made : (request : Produce) → Contains sent (msg.Produce request)
    → request.caller.client ≡ c.number → IsFitted request) where
  -- a pair of a batch that the client sent is up to its own
  pub by_within : (held : Held) (request : Produce) → IsBy sent c.number held request
      → IsWithin held c.held
  by_within held request b =
      let f = made request b.there b.its in
      let is = pair_of request f request.partition held.id held.epoch b.pair in
      subst (λ x. IsWithin x c.held) (λ i. record { id = sym is.0 i; epoch = sym is.1 i })
      (k.within (msg.Produce request) _ (b.there, ap Some b.its) f.carries)

  pub none_by : c.held ≡ None → (held : Held) (request : Produce)
      → IsBy sent c.number held request → ⊥
  none_by none held request b = subst (IsWithin held) none (by_within held request b)

  -- and no pair above its own
  pub none_above : (ending given : Held) → c.held ≡ Some ending → IsBelow ending given
      → (request : Produce) → IsBy sent c.number given request → ⊥
  none_above ending given own below request b =
      not_above ending given below (subst (IsWithin given) own (by_within given request b))
    where
      not_above : (a b : Held) → IsBelow a b → IsUpTo b a → ⊥
      not_above a b (earlier_id g) (older_id u) = omega (arith, u, g)
      not_above a b (earlier_epoch e g) (older_id u) = omega (arith, u, e)
      not_above a b (earlier_id g) (same_id e u) = omega (arith, e, g)
      not_above a b (earlier_epoch f g) (same_id e u) = omega (arith, u, g)

------ what others do

-- more messages, none of which is a new one of the client, and what was read goes on to be visible
pub record Others (sent later : List Message) (reads after : ℕ → ℤ → ℤ → List Shown → Type 0)
    (client : ℕ) : Type 0 where
  pub messages : List Message
  pub whole : later ≡ sent ++ messages
  pub back : (m : Message) → Contains messages m → sender m ≡ Some client → Contains sent m
  pub shows : (q : ℕ) (from next : ℤ) (records : List Shown) → reads q from next records
      → after q from next records

module _ (sent later : List Message) (reads after : ℕ → ℤ → ℤ → List Shown → Type 0) (c : Client)
    (p : Processing) (o : Others sent later reads after c.number) where
  abbrev me : Writer
  me = writer_of c

  up : (m : Message) → Contains sent m → Contains later m
  up m there =
      subst (λ l. Contains l m) (sym o.whole) (Contains-append_left sent o.messages m there)

  own : (m : Message) → Contains later m → sender m ≡ Some c.number → Contains sent m
  own m there its =
      ⊎_elim (λ old. old) (λ new. o.back m new its)
      (Contains-append_cases sent o.messages m (subst (λ l. Contains l m) o.whole there))

  by_before : (held : Held) (request : Produce) → IsBy later c.number held request
      → IsBy sent c.number held request
  by_before held request b = record {
    there = own (msg.Produce request) b.there (ap Some b.its);
    its = b.its;
    pair = b.pair;
  }

  offsets_before : (it : TxnOffsetCommit) → IsOffsets later after p.inputs p.image c.number it
      → IsOffsets sent reads p.inputs p.image c.number it
  offsets_before it its = (own (msg.TxnOffsetCommit it) its.0 (ap Some its.1), its.1)

  last_on : (n : ℕ) → last_fetch later c.number n ≡ last_fetch sent c.number n
  last_on n =
      ap (λ l. last_fetch l c.number n) o.whole
      ∙ last_same sent o.messages c.number n (λ m there. by m there)
    where
      by : (m : Message) → Contains o.messages m → IsNoFetch c.number n m ⊎ Contains sent m
      by (msg.Fetch it) there = at (it.caller.client == c.number) refl
        where
          at : (b : Bool) → (it.caller.client == c.number) ≡ b
              → IsNoFetch c.number n (msg.Fetch it) ⊎ Contains sent (msg.Fetch it)
          at true e =
              inr (o.back (msg.Fetch it) there (ap Some (grind (arith, nat_tests, e))))
          at false e = inl (ap (λ b. b && nat_lt it.caller.correlation n) e)
      by m there = inl tt

  images_on : (q n : ℕ) (next : ℤ) (batches : List Values)
      → AreImages sent reads p.inputs p.image c.number q (from_of (last_fetch sent c.number n)) next
      batches
      → AreImages later after p.inputs p.image c.number q (from_of (last_fetch later c.number n))
      next batches
  images_on q n next batches h = record {
    records = h.records;
    shows = subst (λ f. after q (from_of f) next h.records) (sym (last_on n))
        (o.shows q (from_of (last_fetch sent c.number n)) next h.records h.shows);
    are = h.are;
  }

  fresh_on : IsFresh sent reads p.inputs p.image me → IsFresh later after p.inputs p.image me
  fresh_on h = record {
    none = λ held is request b. h.none held is request (by_before held request b);
    unheld = λ it its e. h.unheld it (offsets_before it its) e;
    zero = h.zero;
  }

  has_on : (q : ℕ) (next : ℤ) (batches done : List Values)
      → HasWritten sent reads p.inputs p.image me q next batches done
      → HasWritten later after p.inputs p.image me q next batches done
  has_on q next batches done h = record {
    held = h.held;
    is = h.is;
    sole = sole_on sent c.number (q + p.inputs) h.held done h.sole later up (by_before h.held);
    images = images_on q c.correlation next batches h.images;
    unheld = λ it its e. h.unheld it (offsets_before it its) e;
    count = h.count;
  }

  offsets_on : (held : Held) → HasOffsets sent reads p.inputs p.image c.number held
      → HasOffsets later after p.inputs p.image c.number held
  offsets_on held h = record {
    it = h.it;
    its = (up (msg.TxnOffsetCommit h.it) h.its.0, h.its.1);
    pair = h.pair;
    answered = up (the.OffsetsReply h.it.caller code.NoError) h.answered;
  }

  committed_on : HasCommitted sent reads p.inputs p.image me
      → HasCommitted later after p.inputs p.image me
  committed_on h = record { held = h.held; is = h.is; offsets = offsets_on h.held h.offsets }

  ready_on : (stage : Stage) → Ready sent reads p.inputs p.image me stage
      → Ready later after p.inputs p.image me stage
  ready_on Joining h = fresh_on h
  ready_on (Locating q left) h = fresh_on h
  ready_on (Fetching q left offset) h = fresh_on h
  ready_on (Writing q left next batches) h = (h.0, has_on q next (h.0 ++ batches) h.0 h.1)
  ready_on (Committing left) h = committed_on h
  ready_on (Aborting sequel) h = tt
  ready_on Overflown h = tt
  ready_on Stopped h = tt

  waits_on : (stage : Stage) (m : Message) → Waits sent reads p.inputs p.image me stage m
      → Waits later after p.inputs p.image me stage m
  waits_on stage m (for_id s n e ready) = for_id s n e (ready_on s ready)
  waits_on stage m (to_join n group fresh) = to_join n group (fresh_on fresh)
  waits_on stage m (to_locate n q left group fresh) = to_locate n q left group (fresh_on fresh)
  waits_on stage m (to_fetch q left offset it fresh last from its_q committed) =
      to_fetch q left offset it (fresh_on fresh) (last_on c.correlation ∙ last) from its_q
      committed
  waits_on stage m (to_write q left next values rest done it h) =
      to_write q left next values rest done it
      (has_on q next (done ++ values ∷ rest) (done ++ values ∷ []) h)
  waits_on stage m (to_commit q left next it held) = to_commit q left next it held
  waits_on stage m (to_end left it) = to_end left it
  waits_on stage m (to_abort sequel it) = to_abort sequel it

  at_on : (stage : Stage) (waiting : List Message)
      → At sent reads p.inputs p.image me stage waiting
      → At later after p.inputs p.image me stage waiting
  at_on stage waiting (idle e ready) = idle e (ready_on stage ready)
  at_on stage waiting (waits m e some w) = waits m e some (waits_on stage m w)

  written_on : (it : TxnOffsetCommit) → IsWritten sent reads p.inputs p.image c.number it
      → IsWritten later after p.inputs p.image c.number it
  written_on it h = record {
    input = h.input;
    next = h.next;
    one = h.one;
    batches = h.batches;
    images = images_on h.input it.caller.correlation h.next h.batches h.images;
    sole = sole_on sent c.number (h.input + p.inputs) it.held h.batches h.sole later up
        (by_before it.held);
  }

  -- what others do leaves it as it was
  pub writes_on : Writes sent reads c p → Writes later after c p
  writes_on h = record {
    at = λ f. at_on p.stage c.waiting (h.at f);
    made = λ request there its. h.made request
        (own (msg.Produce request) there (ap Some its)) its;
    written = λ it its. written_on it (h.written it (offsets_before it its));
    ends = λ it there its outcome.
        offsets_on it.held
        (h.ends it (own (msg.EndTxn it) there (ap Some its)) its outcome);
    transactional = h.transactional;
    group = h.group;
    placed = h.placed;
    of_group = λ it its. h.of_group it (offsets_before it its);
  }
