-- What a processor asks for leaves what stands of its batches standing: a batch that it hands out
-- is the next one of the images of what it read, and a commit of an offset comes behind all of
-- them.
use Rattle.std.proofs.Common.{◌≡◌, ◌+◌, ◌<◌, ◌≤◌, ◌^◌, ℕ, ℤ, pos, Bool, true, false, not, ◌&&◌}
use Rattle.std.proofs.Common.{◌||◌}
use Rattle.std.proofs.Common.{cond, List, [], ◌∷◌, ◌++◌, filter, length, Option, Some, None}
use Rattle.std.proofs.Common.{is_some}
use Rattle.std.proofs.Common.{is_none, Contains, refl, sym, ap, ◌∙◌, subst, arith}
use Rattle.std.proofs.Common.{⊎_elim, ◌==◌, append-nil, nat_lt, nat_le}
use Rattle.std.specs.Prelude.{IfSome}
use Rattle.std.specs.List.{list_any}
use Rattle.std.proofs.lemmas.Bool.{or_parts}
use Rattle.std.proofs.lemmas.Bool.Decides.{nat_tests}
use Rattle.std.proofs.lemmas.Grind.{flat_map-append}
use Rattle.std.proofs.lemmas.List.{length-append}
use Rattle.std.proofs.lemmas.List.Elements.{All-contains, Contains-append_left}
use Rattle.std.proofs.lemmas.List.Elements.{Contains-push_cases}
use Rattle.kx_message.specs.Messages as the
use Rattle.kx_message.specs.Messages.{caller_with}
use Rattle.kx_message.specs.Ranges.{offsets_partition}
use Rattle.kx_message.specs.declared.code.ErrorCode.TheVariants as code
use Rattle.kx_message.specs.declared.message.Held.{Held}
use Rattle.kx_message.specs.declared.message.Message.{Message}
use Rattle.kx_message.specs.declared.message.Message.TheVariants as msg
use Rattle.kx_message.specs.declared.outcome.Outcome.TheVariants.{Abort, Commit}
use Rattle.kx_message.specs.declared.payload.PartitionOffset.{PartitionOffset}
use Rattle.kx_message.specs.declared.requests.EndTxn.{EndTxn}
use Rattle.kx_message.specs.declared.requests.Fetch.{Fetch}
use Rattle.kx_message.specs.declared.requests.Produce.{Produce}
use Rattle.kx_message.specs.declared.requests.TxnOffsetCommit.{TxnOffsetCommit}
use Rattle.kx_client.specs.declared.values.Values.{Values}
use Rattle.kx_client.proofs.Sizes.{length-value_records}
use Rattle.kx_model.specs.Client.{Begin, Client, Command, Commanded, Declines, Does, End, Fault}
use Rattle.kx_model.specs.Client.{FetchOffset, FetchPage, Init, JoinGroup, Place, Poll}
use Rattle.kx_model.specs.Client.{Resend, Send, Sequence, SendOffsets, TooLarge, NotReady, InFlight}
use Rattle.kx_model.specs.Client.{WindowFull, Failed, NotTransactional, UsedUp, MustAbort}
use Rattle.kx_model.specs.Client.{and_then, asks, caller_of, client_batch, command, does}
use Rattle.kx_model.specs.Client.{is_end, is_init, page_room, refusals, sending, sends, sends_end}
use Rattle.kx_model.specs.Client.{sends_offsets, sequence_of, value_records, with_sequence}
use Rattle.kx_model.specs.Reading.{Shown}
use Rattle.kx_model.specs.Replies.{correlation_of}
use Rattle.kx_model.specs.Step.{Commands, NodeStep}
use Rattle.kx_headline.proofs.ClientCommands.{nothing_waits, passes}
use Rattle.kx_headline.proofs.ClientRequests.{Carries, HeldFits, IsAwaited, Knows, sender}
use Rattle.kx_headline.proofs.ClientRequests.{with_batch}
use Rattle.kx_laws.proofs.Membership.{filter_holds, no_element}
use Rattle.kx_system.specs.Processor.{Aborting, Committing, Fetching, Joining, Locating, Overflown}
use Rattle.kx_system.specs.Processor.{Overflows, Processing, Processor, Sequel, Stage, Stopped}
use Rattle.kx_system.specs.Processor.{Writing}
use Rattle.kx_system.specs.Processor.{as_client, at_stage, fits, foreign, from_offset}
use Rattle.kx_system.specs.Processor.{in_transaction}
use Rattle.kx_system.specs.Processor.{is_overflown, is_stopped, is_waiting, needs_transactions}
use Rattle.kx_system.specs.Processor.{next_commands, obeys, polled, processor_step}
use Rattle.kx_system.specs.Processor.{stage_polled, stage_refused, stage_sent, told_all, writes}
use Rattle.kx_pipeline.specs.Chain.{from_of, last_fetch}
use Rattle.kx_pipeline.specs.Outputs.{all_in, values_of}
use Rattle.kx_pipeline.proofs.LastFetches.{IsNoFetch, last_alike, last_is, last_stays}
use Rattle.kx_pipeline.proofs.ProcessorAsks.{begun, does_is, in_state}
use Rattle.kx_pipeline.proofs.ProcessorWrites.{AreImages, At, HasCommitted, HasOffsets, HasWritten}
use Rattle.kx_pipeline.proofs.ProcessorWrites.{IsFitted, IsFresh, IsOffsets, IsWritten, Ready}
use Rattle.kx_pipeline.proofs.ProcessorWrites.{Waits, Writer, Writes, for_id, idle, pair_of}
use Rattle.kx_pipeline.proofs.ProcessorWrites.{to_abort, to_commit, to_end, to_fetch, to_join}
use Rattle.kx_pipeline.proofs.ProcessorWrites.{to_locate, to_write, waits, writer_of, writes_on}
use Rattle.kx_pipeline.proofs.SentTexts.{IsAs, same_request}
use Rattle.kx_pipeline.proofs.SoleBatches.{IsBy, Sole, sole_more, sole_on}

------ sequences, and a transactional id

sequence_here : (ss : List Sequence) (p n : ℕ) → sequence_of (with_sequence ss p n) p ≡ n
sequence_here [] p n =
    let same : (p == p) ≡ true = grind (arith, nat_tests) in ap (λ b. cond b n 0) same
sequence_here (s ∷ ss) p n = by (s.partition == p) refl (sequence_here ss p n)
  where
    by : (b : Bool) → (s.partition == p) ≡ b → sequence_of (with_sequence ss p n) p ≡ n
        → sequence_of (cond b (record { partition = p; next = n } ∷ ss)
        (s ∷ with_sequence ss p n)) p
        ≡ n
    by true e rest =
        let same : (p == p) ≡ true = grind (arith, nat_tests) in
        ap (λ b. cond b n (sequence_of ss p)) same
    by false e rest =
        ap (λ b. cond b s.next (sequence_of (with_sequence ss p n) p)) e ∙ rest

none_not : (o : Option (List ℕ)) → is_none o ≡ false → is_some o ≡ true
none_not None e = absurd cc
none_not (Some txn) e = refl

-- a client that is in a transaction, or begins one, has a transactional id
begun_some : (c : Client) (what : Command) (after : Client) (messages : List Message)
    → (c.in_transaction ≡ true → is_some c.txn ≡ true)
    → told_all c (in_transaction c what) ≡ Does after messages → is_some c.txn ≡ true
unfolding command
begun_some c what after messages inside e = by c.in_transaction refl e
  where
    second : (done : Commanded) → command c Begin ≡ done
        → and_then done (λ d. command d what) ≡ Does after messages → is_some c.txn ≡ true
    second (Declines fault) first e = absurd cc
    second (Does d sent) first e =
        none_not c.txn (passes (refusals c Begin) (does c Begin) d sent first).0.1.0

    by : (b : Bool) → c.in_transaction ≡ b
        → told_all c (cond b (what ∷ []) (Begin ∷ what ∷ [])) ≡ Does after messages
        → is_some c.txn ≡ true
    by true f e = inside f
    by false f e = second (command c Begin) refl e

------ one new message

abbrev NoBatch : Message → Type 0
NoBatch (msg.Produce it) = ⊥
NoBatch m = Unit {0}

abbrev NoOffsets : Message → Type 0
NoOffsets (msg.TxnOffsetCommit it) = ⊥
NoOffsets m = Unit {0}

abbrev NoFetch : Message → Type 0
NoFetch (msg.Fetch it) = ⊥
NoFetch m = Unit {0}

abbrev NoCommit : Message → Type 0
NoCommit (msg.EndTxn it) = it.outcome ≡ Commit → ⊥
NoCommit m = Unit {0}

-- equal messages hold equal requests
abbrev end_in : EndTxn → Message → EndTxn
end_in other (msg.EndTxn it) = it
end_in other m = other

abbrev commit_in : TxnOffsetCommit → Message → TxnOffsetCommit
commit_in other (msg.TxnOffsetCommit it) = it
commit_in other m = other

no_fetch : (client below : ℕ) (m : Message) → NoFetch m → IsNoFetch client below m
no_fetch client below (msg.Fetch it) h = absurd h
no_fetch client below m h = tt

module _ (sent : List Message) (reads : ℕ → ℤ → ℤ → List Shown → Type 0) (c : Client)
    (p : Processing) (k : Knows sent c) (fit : (held : Held) → c.held ≡ Some held → HeldFits held)
    (h : Writes sent reads c p) where
  abbrev me : Writer
  me = writer_of c

  -- with the number of its next request, and these sequences
  abbrev next_self : List Sequence → Writer
  next_self sequences =
      record me { correlation = c.correlation + 1; sequences = sequences }

  fetches_below : (it : Fetch) → Contains sent (msg.Fetch it) → it.caller.client ≡ c.number
      → it.caller.correlation < c.correlation
  fetches_below it there e = k.numbered (msg.Fetch it) (there, ap Some e)

  module _ (m : Message) (its_sender : sender m ≡ Some c.number)
      (its_number : correlation_of m ≡ c.correlation) where
    abbrev later : List Message
    later = sent ++ m ∷ []

    up : (x : Message) → Contains sent x → Contains later x
    up x there = Contains-append_left sent (m ∷ []) x there

    by_before : (held : Held) (request : Produce) → IsBy later c.number held request
        → (m ≡ msg.Produce request → ⊥) → IsBy sent c.number held request
    by_before held request b other = record {
      there = ⊎_elim (λ old. old) (λ new. absurd (other new))
          (Contains-push_cases sent m (msg.Produce request) b.there);
      its = b.its;
      pair = b.pair;
    }

    offsets_before : (it : TxnOffsetCommit) → NoOffsets m
        → IsOffsets later reads p.inputs p.image c.number it
        → IsOffsets sent reads p.inputs p.image c.number it
    offsets_before it none its = (
      ⊎_elim (λ old. old) (λ new. absurd (subst NoOffsets new none))
          (Contains-push_cases sent m (msg.TxnOffsetCommit it) its.0),
      its.1,
    )

    -- its last fetch before an older request stays
    last_old : (n : ℕ) → n ≤ c.correlation
        → last_fetch later c.number n ≡ last_fetch sent c.number n
    last_old n low =
        last_stays sent (m ∷ []) c.number n (λ x there.
        ⊎_elim (λ empty. absurd (no_element x empty))
        (λ same. subst (IsNoFetch c.number n) same (by m its_number))
        (Contains-push_cases [] m x there))
      where
        both_false : (a b : Bool) → b ≡ false → (a && b) ≡ false
        both_false true b e = e
        both_false false b e = refl

        by : (x : Message) → correlation_of x ≡ c.correlation → IsNoFetch c.number n x
        by (msg.Fetch it) e =
            both_false (it.caller.client == c.number) (nat_lt it.caller.correlation n)
            (grind (arith, nat_tests, e, low))
        by x e = tt

    -- and its last before the next one, if the message is no fetch
    last_asks : NoFetch m → last_fetch later c.number (c.correlation + 1)
        ≡ last_fetch sent c.number c.correlation
    last_asks none =
        last_stays sent (m ∷ []) c.number (c.correlation + 1) (λ x there.
        ⊎_elim (λ empty. absurd (no_element x empty))
        (λ same. no_fetch c.number (c.correlation + 1) x (subst NoFetch same none))
        (Contains-push_cases [] m x there))
        ∙ last_alike sent c.number (c.correlation + 1) c.correlation (λ it there e.
        let low = fetches_below it there e in (omega (arith, low), low))

    images_later : (q : ℕ) (f g next : ℤ) (batches : List Values) → g ≡ f
        → AreImages sent reads p.inputs p.image c.number q f next batches
        → AreImages later reads p.inputs p.image c.number q g next batches
    images_later q f g next batches same i = record {
      records = i.records;
      shows = subst (λ x. reads q x next i.records) (sym same) i.shows;
      are = i.are;
    }

    written_later : (it : TxnOffsetCommit) → IsOffsets sent reads p.inputs p.image c.number it
        → ((request : Produce) → m ≡ msg.Produce request → IsBy later c.number it.held request → ⊥)
        → IsWritten sent reads p.inputs p.image c.number it
        → IsWritten later reads p.inputs p.image c.number it
    written_later it its apart w =
        let low = k.numbered (msg.TxnOffsetCommit it) (its.0, ap Some its.1) in
        record {
          input = w.input;
          next = w.next;
          one = w.one;
          batches = w.batches;
          images = images_later w.input
              (from_of (last_fetch sent c.number it.caller.correlation))
              (from_of (last_fetch later c.number it.caller.correlation)) w.next w.batches
              (ap from_of (last_old it.caller.correlation (omega (arith, low)))) w.images;
          sole = sole_on sent c.number (w.input + p.inputs) it.held w.batches w.sole later up
              (λ request b. by_before it.held request b (λ new. apart request new b));
        }

    offsets_later : (held : Held) → HasOffsets sent reads p.inputs p.image c.number held
        → HasOffsets later reads p.inputs p.image c.number held
    offsets_later held o = record {
      it = o.it;
      its = (up (msg.TxnOffsetCommit o.it) o.its.0, o.its.1);
      pair = o.pair;
      answered = up (the.OffsetsReply o.it.caller code.NoError) o.answered;
    }

    fresh_asks : NoBatch m → NoOffsets m → IsFresh sent reads p.inputs p.image me
        → IsFresh later reads p.inputs p.image (next_self c.sequences)
    fresh_asks no_batch no_offsets f = record {
      none = λ held is request b. f.none held is request
          (by_before held request b (λ new. subst NoBatch new no_batch));
      unheld = λ it its e. f.unheld it (offsets_before it no_offsets its) e;
      zero = f.zero;
    }

  ------ a processor that asks for one more thing

  module _ (b : Client) (m : Message) (stage : Stage) where
    abbrev asker : Client
    asker = record b { correlation = b.correlation + 1; waiting = b.waiting ++ m ∷ [] }

    -- what is new of it
    record Asks : Type 0 where
      number : b.number ≡ c.number
      correlation : b.correlation ≡ c.correlation
      held : b.held ≡ c.held
      none_waits : b.waiting ≡ []
      works : b.failed ≡ c.failed
      transactional : b.in_transaction ≡ true → is_some b.txn ≡ true
      group : IfSome b.group (λ g. g ≡ p.group)
      placed : IfSome b.place (λ x. x.group ≡ p.group)
      of_group : (it : TxnOffsetCommit) → m ≡ msg.TxnOffsetCommit it → it.group ≡ p.group
      its_sender : sender m ≡ Some c.number
      its_number : correlation_of m ≡ c.correlation
      some : is_init m ≡ false → is_some c.held ≡ true
      made : (request : Produce) → m ≡ msg.Produce request → IsFitted request
      apart : (it : TxnOffsetCommit) → IsOffsets sent reads p.inputs p.image c.number it
          → (request : Produce) → m ≡ msg.Produce request
          → IsBy (sent ++ m ∷ []) c.number it.held request → ⊥
      written : (it : TxnOffsetCommit) → m ≡ msg.TxnOffsetCommit it
          → IsWritten (sent ++ m ∷ []) reads p.inputs p.image c.number it
      ends : (it : EndTxn) → m ≡ msg.EndTxn it → it.outcome ≡ Commit
          → HasOffsets sent reads p.inputs p.image c.number it.held
      waits : c.failed ≡ false → Waits (sent ++ m ∷ []) reads p.inputs p.image
          (next_self b.sequences) stage m

    abbrev Left : Client → List Message → Type 0
    Left after messages = Writes (sent ++ messages) reads after (at_stage p stage)

    asks_left : Asks → (after : Client) (messages : List Message)
        → asks b m ≡ Does after messages → Left after messages
    asks_left a after messages e =
        let is = does_is asker after (m ∷ []) messages e in
        subst (λ x. Left x messages) is.0 (subst (λ l. Left asker l) is.1 (record {
          at = λ f. waits m (ap (λ l. l ++ m ∷ []) a.none_waits)
              (λ i. ap is_some a.held ∙ a.some i)
              (subst (λ s. Waits (sent ++ m ∷ []) reads p.inputs p.image s stage m) (sym selves)
              (a.waits (sym a.works ∙ f)));
          made = λ request there its.
              ⊎_elim (λ old. h.made request old (its ∙ a.number)) (λ new. a.made request new)
              (Contains-push_cases sent m (msg.Produce request) there);
          written = subst (λ n. (it : TxnOffsetCommit)
              → IsOffsets (sent ++ m ∷ []) reads p.inputs p.image n it
              → IsWritten (sent ++ m ∷ []) reads p.inputs p.image n it) (sym a.number)
              (λ it its.
              ⊎_elim
              (λ old. written_later m a.its_sender a.its_number it (old, its.1)
              (a.apart it (old, its.1)) (h.written it (old, its.1)))
              (λ new. a.written it new)
              (Contains-push_cases sent m (msg.TxnOffsetCommit it) its.0));
          ends = subst (λ n. (it : EndTxn) → Contains (sent ++ m ∷ []) (msg.EndTxn it)
              → it.caller.client ≡ n → it.outcome ≡ Commit
              → HasOffsets (sent ++ m ∷ []) reads p.inputs p.image n it.held) (sym a.number)
              (λ it there its outcome.
              offsets_later m a.its_sender a.its_number it.held
              (⊎_elim (λ old. h.ends it old its outcome) (λ new. a.ends it new outcome)
              (Contains-push_cases sent m (msg.EndTxn it) there)));
          transactional = a.transactional;
          group = a.group;
          placed = a.placed;
          of_group = λ it its.
              ⊎_elim (λ old. h.of_group it (old, its.1 ∙ a.number)) (λ new. a.of_group it new)
              (Contains-push_cases sent m (msg.TxnOffsetCommit it) its.0);
        }))
      where
        selves : writer_of asker ≡ next_self b.sequences
        selves = λ i. record {
          number = a.number i;
          correlation = ap (λ n. n + 1) a.correlation i;
          held = a.held i;
          sequences = b.sequences;
        }

  abbrev Turned : Stage → Client → List Message → Type 0
  Turned stage after messages = Writes (sent ++ messages) reads after (at_stage p stage)

  -- a request that carries nothing, ends no transaction by a commit, and leaves the sequences
  module _ (b : Client) (m : Message) (stage : Stage) (number : b.number ≡ c.number)
      (correlation : b.correlation ≡ c.correlation) (held : b.held ≡ c.held)
      (none_waits : b.waiting ≡ []) (works : b.failed ≡ c.failed)
      (transactional : b.in_transaction ≡ true → is_some b.txn ≡ true)
      (group : IfSome b.group (λ g. g ≡ p.group))
      (placed : IfSome b.place (λ x. x.group ≡ p.group))
      (its_sender : sender m ≡ Some c.number) (its_number : correlation_of m ≡ c.correlation)
      (some : is_init m ≡ false → is_some c.held ≡ true) (no_batch : NoBatch m)
      (no_offsets : NoOffsets m) (no_commit : NoCommit m)
      (waits_now : c.failed ≡ false → Waits (sent ++ m ∷ []) reads p.inputs p.image
      (next_self b.sequences) stage m) where
    plain_asks : Asks b m stage
    plain_asks = record {
      number = number;
      correlation = correlation;
      held = held;
      none_waits = none_waits;
      works = works;
      transactional = transactional;
      group = group;
      placed = placed;
      of_group = λ it new. absurd (subst NoOffsets new no_offsets);
      its_sender = its_sender;
      its_number = its_number;
      some = some;
      made = λ request new. absurd (subst NoBatch new no_batch);
      apart = λ it its request new by. subst NoBatch new no_batch;
      written = λ it new. absurd (subst NoOffsets new no_offsets);
      ends = λ it new outcome. absurd (subst NoCommit new no_commit outcome);
      waits = waits_now;
    }

  does_of : (d : Client) (what : Command) (after : Client) (messages : List Message)
      → command d what ≡ Does after messages → does d what ≡ Does after messages
  unfolding command
  does_of d what after messages e = (passes (refusals d what) (does d what) after messages e).1

  polls_join : IsFresh sent reads p.inputs p.image me → c.waiting ≡ [] → is_some c.held ≡ true
      → (after : Client) (messages : List Message)
      → command c (JoinGroup p.group) ≡ Does after messages → Turned Joining after messages
  polls_join fresh none some after messages e =
      let m = the.Join (caller_of c) p.group in
      let b = record c { group = Some p.group } in
      asks_left b m Joining
      (plain_asks b m Joining refl refl refl none refl h.transactional refl h.placed refl refl
      (λ i. some) tt tt tt
      (λ f. to_join c.correlation p.group (fresh_asks m refl refl tt tt fresh)))
      after messages (does_of c (JoinGroup p.group) after messages e)

  polls_locate : (q : ℕ) (left : List ℕ) → IsFresh sent reads p.inputs p.image me
      → c.waiting ≡ [] → is_some c.held ≡ true → (after : Client) (messages : List Message)
      → command c (FetchOffset p.group q) ≡ Does after messages
      → Turned (Locating q left) after messages
  polls_locate q left fresh none some after messages e =
      let m = the.OffsetFetch (caller_of c) p.group q true in
      asks_left c m (Locating q left)
      (plain_asks c m (Locating q left) refl refl refl none refl h.transactional h.group h.placed
      refl refl
      (λ i. some) tt tt tt
      (λ f. to_locate c.correlation q left p.group (fresh_asks m refl refl tt tt fresh)))
      after messages (does_of c (FetchOffset p.group q) after messages e)

  polls_fetch : (q : ℕ) (left : List ℕ) (offset : ℤ) → IsFresh sent reads p.inputs p.image me
      → c.waiting ≡ [] → is_some c.held ≡ true → (after : Client) (messages : List Message)
      → command c (FetchPage q (from_offset offset)) ≡ Does after messages
      → Turned (Fetching q left offset) after messages
  polls_fetch q left offset fresh none some after messages e =
      let it : Fetch = record {
        caller = caller_of c;
        partition = q;
        from = pos (from_offset offset);
        max = page_room;
        committed = true;
      } in
      let m = msg.Fetch it in
      asks_left c m (Fetching q left offset)
      (plain_asks c m (Fetching q left offset) refl refl refl none refl h.transactional h.group
      h.placed refl refl
      (λ i. some) tt tt tt
      (λ f. to_fetch q left offset it (fresh_asks m refl refl tt tt fresh)
      (last_is sent it (c.correlation + 1) (omega arith) (λ f there same.
      fetches_below f there same)) refl refl refl))
      after messages (does_of c (FetchPage q (from_offset offset)) after messages e)

  ------ a batch of images

  same_held : (a b : Held) → Some a ≡ Some b → a ≡ b
  same_held a b e = cc

  fault_free : (d : Client) (partition : ℕ) (value : List ℕ) (more : List (List ℕ))
      (after : Client) (messages : List Message)
      → command d (Send partition value more) ≡ Does after messages
      → sequence_of d.sequences partition + length (value ∷ more) ≤ 2 ^ 31
  unfolding command
  fault_free d partition value more after messages e =
      let t = passes (refusals d (Send partition value more)) (does d (Send partition value more))
      after messages e in
      let room = (or_parts (nat_le (2 ^ 32) d.correlation)
      (nat_lt (2 ^ 31) (sequence_of d.sequences partition + length (value ∷ more)))
      t.0.1.1.1.1.0).1 in
      grind (arith, nat_tests, room)

  sends_turn : (b : Client) → b.number ≡ c.number → b.correlation ≡ c.correlation
      → b.held ≡ c.held → b.waiting ≡ [] → b.failed ≡ c.failed → b.sequences ≡ c.sequences
      → is_some b.txn ≡ true → IfSome b.group (λ g. g ≡ p.group)
      → IfSome b.place (λ x. x.group ≡ p.group)
      → (q : ℕ) (left : List ℕ) (next : ℤ) (values : Values) (rest done : List Values)
      → fits values ≡ true
      → HasWritten sent reads p.inputs p.image me q next (done ++ values ∷ rest) done
      → sequence_of b.sequences (q + p.inputs) + length (all_in values) ≤ 2 ^ 31
      → (held : Option Held) → b.held ≡ held → (after : Client) (messages : List Message)
      → sends b (q + p.inputs) (value_records (values.first ∷ values.more)) held
      ≡ Does after messages
      → Turned (Writing q left next (values ∷ rest)) after messages
  sends_turn b number correlation own none works sequences txn group placed q left next values rest
      done fit_in has room None is_held after messages e = absurd cc
  sends_turn b number correlation own none works sequences txn group placed q left next values rest
      done fit_in has room (Some held) is_held after messages e =
      asks_left (sending b (q + p.inputs) (length (value_records (all_in values)))) m
      (Writing q left next (values ∷ rest)) (record {
        number = number;
        correlation = correlation;
        held = own;
        none_waits = none;
        works = works;
        transactional = λ inside. txn;
        group = group;
        placed = placed;
        of_group = λ it new. absurd cc;
        its_sender = ap Some number;
        its_number = correlation;
        some = λ i. ap is_some has.is;
        made = λ r new. subst IsFitted (same_request request r new) fitted;
        apart = λ it its r new by.
            has.unheld it its (own_held ∙ ap Some (pairs it r new by));
        written = λ it new. absurd cc;
        ends = λ it new outcome. absurd cc;
        waits = λ f. to_write q left next values rest done request (record {
          held = held;
          is = own_held;
          sole = subst (λ x. Sole (sent ++ m ∷ []) c.number (q + p.inputs) x
              (done ++ values ∷ [])) same
              (sole_more sent c.number (q + p.inputs) has.held done has.sole request values refl
              (ap (λ t. client_batch t held first (value_records (all_in values))) txn
              ∙ ap (λ x. client_batch true x first (value_records (all_in values))) (sym same)
              ∙ ap (λ n. client_batch true has.held n (value_records (all_in values))) counted)
              fit_in (subst (λ n. n + length (all_in values) ≤ 2 ^ 31) counted room));
          images = images_later m (ap Some number) correlation q
              (from_of (last_fetch sent c.number c.correlation))
              (from_of (last_fetch (sent ++ m ∷ []) c.number (c.correlation + 1))) next
              (done ++ values ∷ rest)
              (ap from_of (last_asks m (ap Some number) correlation tt)) has.images;
          unheld = λ it its is.
              has.unheld it (offsets_before m (ap Some number) correlation it tt its) is;
          count = sequence_here b.sequences (q + p.inputs)
              (first + length (value_records (all_in values))) ∙ more;
        });
      }) after messages e
    where
      first : ℕ
      first = sequence_of b.sequences (q + p.inputs)

      request : Produce
      request = record {
        caller = caller_of b;
        txn = b.txn;
        partition = q + p.inputs;
        batch = client_batch (is_some b.txn) held first (value_records (all_in values));
      }

      m : Message
      m = msg.Produce request

      own_held : c.held ≡ Some held
      own_held = sym own ∙ is_held

      same : has.held ≡ held
      same = same_held has.held held (sym has.is ∙ own_held)

      counted : first ≡ length (values_of done)
      counted = ap (λ l. sequence_of l (q + p.inputs)) sequences ∙ has.count

      low : first < 2 ^ 31
      low = omega (arith, room)

      fitted : IsFitted request
      fitted = record {
        held = held;
        first = first;
        values = values;
        text = ap (λ t. client_batch t held first (value_records (all_in values))) txn;
        held_fits = fit held own_held;
        low = low;
        fit = fit_in;
        carries = subst (λ t. Carries (the.Produce (caller_of b) b.txn (q + p.inputs)
            (client_batch t held first (value_records (all_in values))))
            (record { partition = q + p.inputs; held = held; first = first })) (sym txn)
            (with_batch (caller_of b) b.txn (q + p.inputs) true held first
            (value_records (all_in values)) (fit held own_held) low);
      }

      pairs : (it : TxnOffsetCommit) (r : Produce) → m ≡ msg.Produce r
          → IsBy (sent ++ m ∷ []) c.number it.held r → held ≡ it.held
      pairs it r new by =
          let is = pair_of request fitted request.partition it.held.id it.held.epoch
          (subst (λ x. IsAs x.partition it.held.id it.held.epoch x)
          (sym (same_request request r new)) by.pair) in
          λ i. record { id = sym is.0 i; epoch = sym is.1 i }

      more : first + length (value_records (all_in values))
          ≡ length (values_of (done ++ values ∷ []))
      more =
          omega (
            arith,
            counted,
            length-value_records (all_in values),
            ap length (flat_map-append all_in done (values ∷ [])),
            length-append (values_of done) (values_of (values ∷ [])),
            ap length (append-nil (all_in values)),
          )

  ------ the end of the transaction

  aborts_turn : (b : Client) → b.number ≡ c.number → b.correlation ≡ c.correlation
      → b.held ≡ c.held → b.failed ≡ c.failed
      → (b.in_transaction ≡ true → is_some b.txn ≡ true)
      → IfSome b.group (λ g. g ≡ p.group) → IfSome b.place (λ x. x.group ≡ p.group)
      → (sequel : Sequel) → is_some c.held ≡ true
      → (txn : Option (List ℕ)) (held : Option Held) (after : Client) (messages : List Message)
      → sends_end b Abort txn held ≡ Does after messages
      → Turned (Aborting sequel) after messages
  aborts_turn b number correlation own works inside group placed sequel some None held after
      messages e =
      absurd cc
  aborts_turn b number correlation own works inside group placed sequel some (Some txn) None after
      messages e =
      absurd cc
  aborts_turn b number correlation own works inside group placed sequel some (Some txn) (Some held)
      after messages e =
      asks_left (record b { waiting = [] }) (the.EndTxn (caller_of b) txn held Abort)
      (Aborting sequel)
      (plain_asks (record b { waiting = [] }) (the.EndTxn (caller_of b) txn held Abort)
      (Aborting sequel) number correlation own refl works inside group placed (ap Some number)
      correlation
      (λ i. some) tt tt (λ is. absurd cc) (λ f. to_abort sequel _))
      after messages e

  commits_turn : (left : List ℕ) → HasCommitted sent reads p.inputs p.image me → c.waiting ≡ []
      → is_some c.held ≡ true → (txn : Option (List ℕ)) (held : Option Held) → c.held ≡ held
      → (after : Client) (messages : List Message)
      → sends_end c Commit txn held ≡ Does after messages
      → Turned (Committing left) after messages
  commits_turn left ready none some None held is_held after messages e = absurd cc
  commits_turn left ready none some (Some txn) None is_held after messages e = absurd cc
  commits_turn left ready none some (Some txn) (Some held) is_held after messages e =
      by c.sent_some e
    where
      m : Message
      m = the.EndTxn (caller_of c) txn held Commit

      same : ready.held ≡ held
      same = same_held ready.held held (sym ready.is ∙ is_held)

      by : (b : Bool) → cond b (asks c (the.EndTxn (caller_of c) txn held Commit))
          (Does (record c { in_transaction = false }) []) ≡ Does after messages
          → Turned (Committing left) after messages
      by true e =
          asks_left c (the.EndTxn (caller_of c) txn held Commit) (Committing left) (record {
            number = refl;
            correlation = refl;
            held = refl;
            none_waits = none;
            works = refl;
            transactional = h.transactional;
            group = h.group;
            placed = h.placed;
            of_group = λ it new. absurd cc;
            its_sender = refl;
            its_number = refl;
            some = λ i. some;
            made = λ request new. absurd cc;
            apart = λ it its request new by. absurd cc;
            written = λ it new. absurd cc;
            ends = λ it new outcome.
                subst (HasOffsets sent reads p.inputs p.image c.number)
                (same ∙ ap (λ x. (end_in it x).held) new) ready.offsets;
            waits = λ f. to_end left _;
          }) after messages e
      by false e =
          let d = record c { in_transaction = false } in
          let is = does_is d after [] messages e in
          subst (λ x. Turned (Committing left) x messages) is.0
          (subst (λ l. Turned (Committing left) d l) is.1
          (subst (λ l. Writes l reads d (at_stage p (Committing left))) (sym (append-nil sent))
          (record {
            at = λ f. idle none ready;
            made = h.made;
            written = h.written;
            ends = h.ends;
            transactional = λ inside. absurd cc;
            group = h.group;
            placed = h.placed;
            of_group = h.of_group;
          })))

  ------ the commit of the offset behind the page

  offsets_turn : (b : Client) → b.number ≡ c.number → b.correlation ≡ c.correlation
      → b.held ≡ c.held → b.waiting ≡ [] → b.failed ≡ c.failed → is_some b.txn ≡ true
      → IfSome b.group (λ g. g ≡ p.group) → IfSome b.place (λ x. x.group ≡ p.group)
      → (q : ℕ) (left : List ℕ) (next : ℤ) (done : List Values)
      → HasWritten sent reads p.inputs p.image me q next (done ++ []) done
      → (txn : Option (List ℕ)) (held : Option Held) (place : Option Place) → b.held ≡ held
      → b.place ≡ place → (after : Client) (messages : List Message)
      → sends_offsets b (record { partition = q; offset = next } ∷ []) txn held place
      ≡ Does after messages
      → Turned (Writing q left next []) after messages
  offsets_turn b number correlation own none works some_txn group placed q left next done has None
      held place is_held is_place after messages e = absurd cc
  offsets_turn b number correlation own none works some_txn group placed q left next done has
      (Some txn) None place is_held is_place after messages e = absurd cc
  offsets_turn b number correlation own none works some_txn group placed q left next done has
      (Some txn) (Some held) None is_held is_place after messages e = absurd cc
  offsets_turn b number correlation own none works some_txn group placed q left next done has
      (Some txn) (Some held) (Some place) is_held is_place after messages e =
      asks_left (sending b offsets_partition 1) m (Writing q left next []) (record {
        number = number;
        correlation = correlation;
        held = own;
        none_waits = none;
        works = works;
        transactional = λ inside. some_txn;
        group = group;
        placed = placed;
        of_group = λ it new. subst (λ x. x.group ≡ p.group) (ap (commit_in request) new)
            (subst (λ o. IfSome o (λ x. x.group ≡ p.group)) is_place placed);
        its_sender = ap Some number;
        its_number = correlation;
        some = λ i. ap is_some has.is;
        made = λ r new. absurd cc;
        apart = λ it its r new by. absurd cc;
        written = λ it new. subst (IsWritten (sent ++ m ∷ []) reads p.inputs p.image c.number)
            (ap (commit_in request) new) written_now;
        ends = λ it new outcome. absurd cc;
        waits = λ f. to_commit q left next request own_held;
      }) after messages e
    where
      request : TxnOffsetCommit
      request = record {
        caller = caller_of b;
        txn = txn;
        group = place.group;
        member = b.number;
        generation = place.generation;
        held = held;
        first_sequence = pos (sequence_of b.sequences offsets_partition);
        offsets = record { partition = q; offset = next } ∷ [];
      }

      m : Message
      m = msg.TxnOffsetCommit request

      own_held : c.held ≡ Some held
      own_held = sym own ∙ is_held

      same : has.held ≡ held
      same = same_held has.held held (sym has.is ∙ own_held)

      written_now : IsWritten (sent ++ m ∷ []) reads p.inputs p.image c.number request
      written_now = record {
        input = q;
        next = next;
        one = refl;
        batches = done;
        images = images_later m (ap Some number) correlation q
            (from_of (last_fetch sent c.number c.correlation))
            (from_of (last_fetch (sent ++ m ∷ []) c.number b.correlation)) next done
            (ap (λ n. from_of (last_fetch (sent ++ m ∷ []) c.number n)) correlation
            ∙ ap from_of (last_old m (ap Some number) correlation c.correlation (omega arith)))
            (subst (AreImages sent reads p.inputs p.image c.number q
            (from_of (last_fetch sent c.number c.correlation)) next) (append-nil done) has.images);
        sole = subst (λ x. Sole (sent ++ m ∷ []) c.number (q + p.inputs) x done) same
            (sole_on sent c.number (q + p.inputs) has.held done has.sole (sent ++ m ∷ [])
            (up m (ap Some number) correlation)
            (λ r by. by_before m (ap Some number) correlation has.held r by (λ new. absurd cc)));
      }

  ------ a poll

  -- old messages go out again, or none
  again_left : (messages : List Message)
      → ((m : Message) → Contains messages m → Contains sent m) → (stage : Stage)
      → Writes sent reads c (at_stage p stage) → Turned stage c messages
  again_left messages old stage writes =
      writes_on sent (sent ++ messages) reads reads c (at_stage p stage) (record {
        messages = messages;
        whole = refl;
        back = λ m there s. old m there;
        shows = λ q from next records shows. shows;
      }) writes

  unchanged : (stage : Stage) → Writes sent reads c (at_stage p stage) → Turned stage c []
  unchanged stage writes = again_left [] (λ m there. absurd (no_element m there)) stage writes

  -- as it was, at another stage
  writes_at : (stage : Stage)
      → (c.failed ≡ false → At sent reads p.inputs p.image me stage c.waiting)
      → Writes sent reads c (at_stage p stage)
  writes_at stage at = record {
    at = at;
    made = h.made;
    written = h.written;
    ends = h.ends;
    transactional = h.transactional;
    group = h.group;
    placed = h.placed;
    of_group = h.of_group;
  }

  abbrev IsReady : Stage → Type 0
  IsReady stage = Ready sent reads p.inputs p.image me stage

  polled_at : (stage : Stage) → IsReady stage → c.waiting ≡ [] → is_some c.held ≡ true
      → (after : Client) (messages : List Message)
      → told_all c (next_commands c p stage) ≡ Does after messages
      → Turned (stage_sent stage) after messages
  polled_at Joining ready none some after messages e = polls_join ready none some after messages e
  polled_at (Locating q left) ready none some after messages e =
      polls_locate q left ready none some after messages e
  polled_at (Fetching q left offset) ready none some after messages e =
      polls_fetch q left offset ready none some after messages e
  polled_at (Writing q left next []) ready none some after messages e =
      let o : PartitionOffset = record { partition = q; offset = next } in
      let b = begun c (SendOffsets o []) after messages e in
      let d = in_state c b.inside b.sent_some b.aborts in
      let txn = begun_some c (SendOffsets o []) after messages h.transactional e in
      offsets_turn d refl refl refl none refl txn h.group h.placed q left next ready.0 ready.1 d.txn
      d.held d.place refl refl after messages
      (does_of d (SendOffsets o []) after messages b.does_so)
  polled_at (Writing q left next (values ∷ rest)) ready none some after messages e =
      by (fits values) refl e
    where
      by : (f : Bool) → fits values ≡ f → told_all c (in_transaction c
          (cond f (Send (q + p.inputs) values.first values.more) (End Abort)))
          ≡ Does after messages
          → Turned (cond f (Writing q left next (values ∷ rest)) (Aborting Overflows)) after
          messages
      by true fit_in e =
          let what = Send (q + p.inputs) values.first values.more in
          let b = begun c what after messages e in
          let d = in_state c b.inside b.sent_some b.aborts in
          let txn = begun_some c what after messages h.transactional e in
          sends_turn d refl refl refl none refl refl txn h.group h.placed q left next values rest
          ready.0 fit_in ready.1
          (fault_free d (q + p.inputs) values.first values.more after messages b.does_so)
          d.held refl after messages (does_of d what after messages b.does_so)
      by false fit_in e =
          let b = begun c (End Abort) after messages e in
          let d = in_state c b.inside b.sent_some b.aborts in
          let txn = begun_some c (End Abort) after messages h.transactional e in
          aborts_turn d refl refl refl refl (λ inside. txn) h.group h.placed Overflows some d.txn
          d.held
          after messages (does_of d (End Abort) after messages b.does_so)
  polled_at (Committing left) ready none some after messages e =
      commits_turn left ready none some c.txn c.held refl after messages
      (does_of c (End Commit) after messages e)
  polled_at (Aborting sequel) ready none some after messages e =
      aborts_turn c refl refl refl refl h.transactional h.group h.placed sequel some c.txn c.held
      after messages
      (does_of c (End Abort) after messages e)
  polled_at Overflown ready none some after messages e =
      let is = does_is c after [] messages e in
      subst (λ x. Turned Overflown x messages) is.0
      (subst (λ l. Turned Overflown c l) is.1
      (unchanged Overflown (writes_at Overflown (λ f. idle none tt))))
  polled_at Stopped ready none some after messages e =
      let is = does_is c after [] messages e in
      subst (λ x. Turned Stopped x messages) is.0
      (subst (λ l. Turned Stopped c l) is.1
      (unchanged Stopped (writes_at Stopped (λ f. idle none tt))))

  -- where nothing waits it is ready
  ready_now : (stage : Stage) (waiting : List Message)
      → At sent reads p.inputs p.image me stage waiting → waiting ≡ [] → IsReady stage
  ready_now stage waiting (idle e ready) none = ready
  ready_now stage waiting (waits m e some w) none = absurd (let both = sym e ∙ none in cc)

  poll_leaves : (after : Client) (messages : List Message)
      → polled (record { client = c; processing = p }) ≡ Does after messages
      → Turned (stage_polled (record { client = c; processing = p })) after messages
  poll_leaves after messages e =
      let t = passes ((c.failed || is_stopped p.stage, Failed)
      ∷ (not (is_waiting c) && is_none c.held, NotReady)
      ∷ (not (is_waiting c) && is_overflown p.stage, TooLarge) ∷ [])
      (cond (is_waiting c) (Does c []) (told_all c (next_commands c p p.stage))) after messages e in
      let works = (or_parts c.failed (is_stopped p.stage) t.0.0).0 in
      by (is_waiting c) refl works t.0.1.0 t.1
    where
      id_there : (a b : Bool) → a ≡ false → (not a && b) ≡ false → b ≡ false
      id_there true b e f = absurd cc
      id_there false b e f = f

      some_held : (o : Option Held) → is_none o ≡ false → is_some o ≡ true
      some_held None e = absurd cc
      some_held (Some held) e = refl

      by : (b : Bool) → is_waiting c ≡ b → c.failed ≡ false
          → (not (is_waiting c) && is_none c.held) ≡ false
          → cond b (Does c []) (told_all c (next_commands c p p.stage)) ≡ Does after messages
          → Turned (cond b p.stage (stage_sent p.stage)) after messages
      by true w works held e =
          let is = does_is c after [] messages e in
          subst (λ x. Turned p.stage x messages) is.0
          (subst (λ l. Turned p.stage c l) is.1 (unchanged p.stage (writes_at p.stage h.at)))
      by false w works held e =
          let none = nothing_waits c.waiting w in
          polled_at p.stage (ready_now p.stage c.waiting (h.at works) none) none
          (some_held c.held (id_there (is_waiting c) (is_none c.held) w held)) after messages e

  ------ other commands

  refused_at : (fault : Fault) (stage : Stage) (waiting : List Message)
      → At sent reads p.inputs p.image me stage waiting
      → At sent reads p.inputs p.image me (stage_refused fault stage) waiting
  refused_at TooLarge Overflown waiting (idle e ready) = idle e tt
  refused_at TooLarge Overflown waiting (waits m e some w) =
      waits m e some (by Overflown m refl w)
    where
      by : (stage : Stage) (m : Message) → stage ≡ Overflown
          → Waits sent reads p.inputs p.image me stage m
          → Waits sent reads p.inputs p.image me Stopped m
      by stage m same (for_id s n init ready) = for_id Stopped n init tt
      by stage m same (to_join n group fresh) = absurd cc
      by stage m same (to_locate n q left group fresh) = absurd cc
      by stage m same (to_fetch q left offset it fresh last from its_q committed) = absurd cc
      by stage m same (to_write q left next values rest done it has) = absurd cc
      by stage m same (to_commit q left next it held) = absurd cc
      by stage m same (to_end left it) = absurd cc
      by stage m same (to_abort sequel it) = absurd cc
  refused_at TooLarge stage waiting at = at
  refused_at NotReady stage waiting at = at
  refused_at InFlight stage waiting at = at
  refused_at WindowFull stage waiting at = at
  refused_at Failed stage waiting at = at
  refused_at NotTransactional stage waiting at = at
  refused_at UsedUp stage waiting at = at
  refused_at MustAbort stage waiting at = at

  -- what waits was handed out
  waiting_old : (m : Message) → Contains c.waiting m → Contains sent m
  waiting_old m there = (All-contains (IsAwaited sent c) c.waiting m k.waiting there).its.0

  resend_leaves : (after : Client) (messages : List Message)
      → command c Resend ≡ Does after messages → Turned p.stage after messages
  resend_leaves after messages e =
      let is = does_is c after c.waiting messages (does_of c Resend after messages e) in
      subst (λ x. Turned p.stage x messages) is.0
      (subst (λ l. Turned p.stage c l) is.1
      (again_left c.waiting waiting_old p.stage (writes_at p.stage h.at)))

  -- an id is asked for while none is held
  ready_asks : (m : Message) → sender m ≡ Some c.number → correlation_of m ≡ c.correlation
      → NoBatch m → NoOffsets m → c.held ≡ None → (stage : Stage) → IsReady stage
      → Ready (sent ++ m ∷ []) reads p.inputs p.image (next_self c.sequences) stage
  ready_asks m s n a b none Joining ready = fresh_asks m s n a b ready
  ready_asks m s n a b none (Locating q left) ready = fresh_asks m s n a b ready
  ready_asks m s n a b none (Fetching q left offset) ready = fresh_asks m s n a b ready
  ready_asks m s n a b none (Writing q left next batches) ready =
      absurd (let both = sym ready.1.is ∙ none in cc)
  ready_asks m s n a b none (Committing left) ready =
      absurd (let both = sym ready.is ∙ none in cc)
  ready_asks m s n a b none (Aborting sequel) ready = tt
  ready_asks m s n a b none Overflown ready = tt
  ready_asks m s n a b none Stopped ready = tt

  init_leaves : (after : Client) (messages : List Message)
      → command c Init ≡ Does after messages → Turned p.stage after messages
  unfolding command
  init_leaves after messages e =
      let t = passes (refusals c Init) (does c Init) after messages e in
      let held = (or_parts (is_some c.held) (list_any is_end c.waiting) t.0.1.0).0 in
      by (list_any is_init c.waiting) refl held t.0.0 t.1
    where
      m : Message
      m = the.InitProducerId (caller_of c) c.txn c.timeout

      no_held : (o : Option Held) → is_some o ≡ false → o ≡ None
      no_held None e = refl
      no_held (Some held) e = absurd cc

      idle_only : (stage : Stage) (waiting : List Message)
          → At sent reads p.inputs p.image me stage waiting → is_some c.held ≡ false
          → list_any is_init waiting ≡ false → (waiting ≡ []) × IsReady stage
      idle_only stage waiting (idle e ready) held none = (e, ready)
      idle_only stage waiting (waits x e some w) held none =
          absurd (let first = none_first (is_init x)
          (ap (list_any is_init) (sym e) ∙ none) in
          let yes_some = some first in
          let both = sym yes_some ∙ held in cc)
        where
          none_first : (b : Bool) → (b || false) ≡ false → b ≡ false
          none_first true f = absurd cc
          none_first false f = refl

      by : (b : Bool) → list_any is_init c.waiting ≡ b → is_some c.held ≡ false
          → c.failed ≡ false
          → cond b (Does c (filter is_init c.waiting)) (asks c m) ≡ Does after messages
          → Turned p.stage after messages
      by true w held works e =
          let is = does_is c after (filter is_init c.waiting) messages e in
          subst (λ x. Turned p.stage x messages) is.0
          (subst (λ l. Turned p.stage c l) is.1 (again_left (filter is_init c.waiting)
          (λ x there. waiting_old x (filter_holds is_init c.waiting x there).0) p.stage
          (writes_at p.stage h.at)))
      by false w held works e =
          let i = idle_only p.stage c.waiting (h.at works) held w in
          asks_left c m p.stage
          (plain_asks c m p.stage refl refl refl i.0 refl h.transactional h.group h.placed refl refl
          (λ f. absurd cc) tt tt tt
          (λ f. for_id p.stage m refl
          (ready_asks m refl refl tt tt (no_held c.held held) p.stage i.1)))
          after messages e

  ------ any command

  -- what a command leaves if it is declined
  declined_leaves : (fault : Fault) → Turned (stage_refused fault p.stage) c []
  declined_leaves fault =
      unchanged (stage_refused fault p.stage)
      (writes_at (stage_refused fault p.stage)
      (λ f. refused_at fault p.stage c.waiting (h.at f)))

  abbrev self : Processor
  self = record { client = c; processing = p }

  abbrev Obeyed : NodeStep Processor → Type 0
  Obeyed s = Writes (sent ++ s.messages) reads s.state.client s.state.processing

  obeys_leaves : (stage : Stage) → (done : Commanded)
      → ((after : Client) (messages : List Message) → done ≡ Does after messages
      → Turned stage after messages)
      → Obeyed (obeys self stage done)
  obeys_leaves stage (Declines fault) does_so = declined_leaves fault
  obeys_leaves stage (Does after messages) does_so = does_so after messages refl

  foreign_declines : (what : Command) (stage : Stage) (after : Client) (messages : List Message)
      → foreign self what ≡ Does after messages → Turned stage after messages
  foreign_declines what stage after messages e =
      absurd (let t = passes ((c.failed || is_stopped p.stage, Failed)
      ∷ (needs_transactions what && is_none c.txn, NotTransactional) ∷ []) (Declines NotReady) after
      messages e in
      let no_does = t.1 in cc)

  own_command : (what : Command) (after : Client) (messages : List Message)
      → as_client self what ≡ Does after messages → command c what ≡ Does after messages
  own_command what after messages e =
      (passes ((c.failed || is_stopped p.stage, Failed) ∷ []) (command c what) after messages e).1

  -- what a processor is told leaves what stands of its batches standing
  pub command_leaves : (what : Command) → Obeyed (processor_step self (Commands what))
  unfolding processor_step
  command_leaves Poll = obeys_leaves (stage_polled self) (polled self) poll_leaves
  command_leaves Init =
      obeys_leaves p.stage (as_client self Init)
      (λ after messages e. init_leaves after messages (own_command Init after messages e))
  command_leaves Resend =
      obeys_leaves p.stage (as_client self Resend)
      (λ after messages e. resend_leaves after messages (own_command Resend after messages e))
  command_leaves what =
      obeys_leaves p.stage (foreign self what) (foreign_declines what p.stage)
