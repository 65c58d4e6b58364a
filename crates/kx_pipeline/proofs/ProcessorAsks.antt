-- What a processor asks for leaves what stands of it standing, and a commit that it hands out rests
-- on what it read.
use Rattle.std.proofs.Common.{◌≡◌, ◌⊎◌, ◌+◌, ◌<◌, ◌<ℤ◌, ℕ, ℤ, pos, Bool, true, false, not, ◌&&◌}
use Rattle.std.proofs.Common.{◌||◌}
use Rattle.std.proofs.Common.{cond, List, [], ◌∷◌, ◌++◌, filter, length, Option, Some, None}
use Rattle.std.proofs.Common.{is_some, is_none}
use Rattle.std.proofs.Common.{Contains, refl, sym, ap, ◌∙◌, subst, arith, inl, inr, ⊎_elim}
use Rattle.std.proofs.Common.{append-nil, ◌≤◌}
use Rattle.std.specs.Prelude.{IfSome}
use Rattle.std.specs.List.{list_any}
use Rattle.std.proofs.lemmas.Bool.{or_parts}
use Rattle.std.proofs.lemmas.List.Elements.{All-contains, All-head, Contains-append_cases}
use Rattle.std.proofs.lemmas.List.Elements.{Contains-append_left, Contains-push_cases}
use Rattle.kx_message.specs.Messages as the
use Rattle.kx_message.specs.Messages.{caller_with}
use Rattle.kx_message.specs.Ranges.{offsets_partition}
use Rattle.kx_message.specs.declared.code.ErrorCode.{ErrorCode}
use Rattle.kx_message.specs.declared.code.ErrorCode.TheVariants as code
use Rattle.kx_message.specs.declared.message.Held.{Held}
use Rattle.kx_message.specs.declared.message.Message.{Message}
use Rattle.kx_message.specs.declared.message.Message.TheVariants as msg
use Rattle.kx_message.specs.declared.outcome.Outcome.TheVariants.{Abort, Commit}
use Rattle.kx_message.specs.declared.payload.PartitionOffset.{PartitionOffset}
use Rattle.kx_message.specs.declared.requests.Fetch.{Fetch}
use Rattle.kx_message.specs.declared.requests.TxnOffsetCommit.{TxnOffsetCommit}
use Rattle.kx_client.specs.declared.values.Values.{Values}
use Rattle.kx_model.specs.Client.{Begin, Client, Command, Commanded, Declines, Does, End, Fault}
use Rattle.kx_model.specs.Client.{Failed, FetchOffset, FetchPage, InFlight, Init, JoinGroup}
use Rattle.kx_model.specs.Client.{MustAbort}
use Rattle.kx_model.specs.Client.{NotReady, NotTransactional, Place, Poll, Resend, Send, UsedUp}
use Rattle.kx_model.specs.Client.{WindowFull}
use Rattle.kx_model.specs.Client.{SendOffsets, TooLarge, and_then, asks, caller_of, command}
use Rattle.kx_model.specs.Client.{does, is_end, is_init, page_room, refusals, sending, sends}
use Rattle.kx_model.specs.Client.{sends_end}
use Rattle.kx_model.specs.Client.{sends_offsets, value_records}
use Rattle.kx_model.specs.Groups.{generation, is_pending, marked_offset, members, place_of}
use Rattle.kx_model.specs.Log.{Entry, Data, Sequenced}
use Rattle.kx_model.specs.Replies.{correlation_of}
use Rattle.kx_headline.proofs.ClientCommands.{nothing_waits, passes}
use Rattle.kx_headline.proofs.ClientRequests.{IsAwaited, Knows, sender}
use Rattle.kx_laws.proofs.Membership.{filter_holds, no_element}
use Rattle.kx_system.specs.Processor.{Aborting, Committing, Fetching, Joining, Locating, Overflown}
use Rattle.kx_system.specs.Processor.{Overflows, Processing, Processor, Sequel, Stage, Stopped}
use Rattle.kx_system.specs.Processor.{Writing}
use Rattle.kx_system.specs.Processor.{at_stage, fits, from_offset, in_transaction, is_overflown}
use Rattle.kx_system.specs.Processor.{is_stopped, is_waiting, polled, stage_polled}
use Rattle.kx_model.specs.Step.{Commands, NodeStep}
use Rattle.kx_system.specs.Processor.{as_client, foreign, needs_transactions, next_commands, obeys}
use Rattle.kx_system.specs.Processor.{owns, processor_step, stage_refused, stage_sent, told_all}
use Rattle.kx_pipeline.specs.Chain.{from_of, last_fetch}
use Rattle.kx_pipeline.proofs.LastFetches.{IsNoFetch, last_alike, last_is, last_stays}
use Rattle.kx_pipeline.proofs.LinkedCommits.{Based, Settled}
use Rattle.kx_pipeline.proofs.Generations.{generation_grows}
use Rattle.kx_pipeline.proofs.ProcessorHears.{placed_tail, settled_since}
use Rattle.kx_pipeline.proofs.ProcessorWorks.{AllSettled, At, HasRead, IsCommitOf, IsEnding}
use Rattle.kx_pipeline.proofs.ProcessorWorks.{IsFetching, IsLocating, IsOut, IsWriting, Placed}
use Rattle.kx_pipeline.proofs.ProcessorWorks.{Ready}
use Rattle.kx_pipeline.proofs.ProcessorWorks.{Self, Unheld, Waits, Works, for_id, idle, self_of}
use Rattle.kx_pipeline.proofs.ProcessorWorks.{to_abort}
use Rattle.kx_pipeline.proofs.ProcessorWorks.{to_commit, to_end, to_fetch, to_join, to_locate}
use Rattle.kx_pipeline.proofs.ProcessorWorks.{to_write}
use Rattle.kx_pipeline.proofs.ProcessorWorks.{Onward, waits, works_on}

------ commands in a row

-- what is done is done so
pub does_is : (a b : Client) (x y : List Message) → Does a x ≡ Does b y → (a ≡ b) × (x ≡ y)
does_is a b x y e = (cc, cc)

-- a client that is in a transaction, or has begun one
abbrev pub in_state : Client → Bool → Bool → Bool → Client
in_state c inside sent_some aborts =
    record c { in_transaction = inside; sent_some = sent_some; must_abort = aborts }

pub record Begun (c : Client) (what : Command) (after : Client) (messages : List Message)
    : Type 0 where
  pub inside : Bool
  pub sent_some : Bool
  pub aborts : Bool
  pub does_so : command (in_state c inside sent_some aborts) what ≡ Does after messages

behind_nothing : (d : Client) (what : Command) (after : Client) (messages : List Message)
    → and_then (Does d []) (λ b. command b what) ≡ Does after messages
    → command d what ≡ Does after messages
behind_nothing d what after messages e = by (command d what) e
  where
    by : (done : Commanded) → and_then (Does d []) (λ b. done) ≡ Does after messages
        → done ≡ Does after messages
    by (Declines fault) e = absurd cc
    by (Does client sent) e = e

pub begun : (c : Client) (what : Command) (after : Client) (messages : List Message)
    → told_all c (in_transaction c what) ≡ Does after messages → Begun c what after messages
unfolding command
begun c what after messages e = by c.in_transaction refl e
  where
    second : (done : Commanded) → command c Begin ≡ done
        → and_then done (λ d. command d what) ≡ Does after messages → Begun c what after messages
    second (Declines fault) first e = absurd cc
    second (Does d sent) first e =
        let begins = (passes (refusals c Begin) (does c Begin) d sent first).1 in
        let is = does_is (in_state c true false false) d [] sent begins in
        record {
          inside = true;
          sent_some = false;
          aborts = false;
          does_so = behind_nothing (in_state c true false false) what after messages
              (ap (λ x. and_then (Does x []) (λ b. command b what)) is.0
              ∙ ap (λ (x : List Message). and_then (Does d x) (λ b. command b what)) is.1 ∙ e);
        }

    by : (b : Bool) → c.in_transaction ≡ b
        → told_all c (cond b (what ∷ []) (Begin ∷ what ∷ [])) ≡ Does after messages
        → Begun c what after messages
    by true f e = record {
      inside = c.in_transaction;
      sent_some = c.sent_some;
      aborts = c.must_abort;
      does_so = e;
    }
    by false f e = second (command c Begin) refl e

------ one new message

-- a message that is no commit of offsets
abbrev NoCommit : Message → Type 0
NoCommit (msg.TxnOffsetCommit it) = ⊥
NoCommit m = Unit {0}

abbrev NoFetch : Message → Type 0
NoFetch (msg.Fetch it) = ⊥
NoFetch m = Unit {0}

no_fetch : (client below : ℕ) (m : Message) → NoFetch m → IsNoFetch client below m
no_fetch client below (msg.Fetch it) h = absurd h
no_fetch client below m h = tt

not_commit : (m : Message) (it : TxnOffsetCommit) → NoCommit m → m ≡ msg.TxnOffsetCommit it → ⊥
not_commit m it h e = subst NoCommit e h

module _ (sent : List Message) (log : List Entry) (me : Self) (m : Message)
    (no_commit : NoCommit m) (client : sender m ≡ Some me.number)
    (below : (it : Fetch) → Contains sent (msg.Fetch it) → it.caller.client ≡ me.number
    → it.caller.correlation < me.correlation) where
  abbrev later : List Message
  later = sent ++ m ∷ []

  -- with the number of its next request
  abbrev next_self : Self
  next_self = record me { correlation = me.correlation + 1 }

  old_commit : (it : TxnOffsetCommit) → IsCommitOf later log next_self it
      → IsCommitOf sent log me it
  old_commit it its = (
    ⊎_elim (λ old. old) (λ new. absurd (not_commit m it no_commit new))
        (Contains-push_cases sent m (msg.TxnOffsetCommit it) its.0),
    its.1,
  )

  unheld_asks : Unheld sent log me → Unheld later log next_self
  unheld_asks u it its e = u it (old_commit it its) e

  settled_asks : (read : List Entry) → AllSettled sent log me read
      → AllSettled later log next_self read
  settled_asks read s it its = s it (old_commit it its)

  placed_asks : (inputs : List ℕ) → Placed sent log me inputs → Placed later log next_self inputs
  placed_asks inputs h = record {
    joined = h.joined;
    behind = h.behind;
    parts = h.parts;
    place = h.place;
    is = h.is;
    of_group = h.of_group;
    named = h.named;
    owned = h.owned;
  }

  read_asks : (joined : List Entry) (q : ℕ) (offset : ℤ) → HasRead sent log me joined q offset
      → HasRead later log next_self joined q offset
  read_asks joined q offset h = record {
    since = h.since;
    behind = h.behind;
    parts = h.parts;
    none_pending = h.none_pending;
    offset_is = h.offset_is;
    settled = settled_asks (joined ++ h.since) h.settled;
  }

  locating_asks : (q : ℕ) (left : List ℕ) → IsLocating sent log me q left
      → IsLocating later log next_self q left
  locating_asks q left h = record {
    placed = placed_asks (q ∷ left) h.placed;
    unheld = unheld_asks h.unheld;
    settled = settled_asks log h.settled;
  }

  fetching_asks : (q : ℕ) (left : List ℕ) (offset : ℤ) → IsFetching sent log me q left offset
      → IsFetching later log next_self q left offset
  unfolding placed_asks
  fetching_asks q left offset h = record {
    placed = placed_asks (q ∷ left) h.placed;
    read = read_asks h.placed.joined q offset h.read;
    unheld = unheld_asks h.unheld;
  }

  ending_asks : (left : List ℕ) → IsEnding sent log me left → IsEnding later log next_self left
  ending_asks left h =
      record { placed = placed_asks left h.placed; settled = settled_asks log h.settled }

  -- its last fetch stays if the message is no fetch
  last_asks : NoFetch m → last_fetch later me.number (me.correlation + 1)
      ≡ last_fetch sent me.number me.correlation
  last_asks none =
      last_stays sent (m ∷ []) me.number (me.correlation + 1) (λ x c.
      ⊎_elim (λ empty. absurd (no_element x empty))
      (λ same. no_fetch me.number (me.correlation + 1) x (subst NoFetch same none))
      (Contains-push_cases [] m x c))
      ∙ last_alike sent me.number (me.correlation + 1) me.correlation (λ it c e.
      let low = below it c e in (omega (arith, low), low))

  writing_asks : NoFetch m → (q : ℕ) (left : List ℕ) (next : ℤ) → IsWriting sent log me q left next
      → IsWriting later log next_self q left next
  unfolding placed_asks
  writing_asks none q left next h = record {
    placed = placed_asks (q ∷ left) h.placed;
    offset = h.offset;
    read = read_asks h.placed.joined q h.offset h.read;
    unheld = unheld_asks h.unheld;
    last = ap from_of (last_asks none) ∙ h.last;
    grows = h.grows;
  }

  ready_asks : NoFetch m → (stage : Stage) → Ready sent log me stage
      → Ready later log next_self stage
  ready_asks none Joining h = (unheld_asks h.0, settled_asks log h.1)
  ready_asks none (Locating q left) h = locating_asks q left h
  ready_asks none (Fetching q left offset) h = fetching_asks q left offset h
  ready_asks none (Writing q left next batches) h = writing_asks none q left next h
  ready_asks none (Committing left) h = ending_asks left h
  ready_asks none (Aborting sequel) h = settled_asks log h
  ready_asks none Overflown h = tt
  ready_asks none Stopped h = tt

------ a turn

-- a commit of offsets that goes out rests on what was read, and none before it holds its pair
abbrev pub NewCommit : List Message → List Entry → Client → Message → Type 0
NewCommit sent log c (msg.TxnOffsetCommit it) =
    Based (sent ++ msg.TxnOffsetCommit it ∷ []) log it × (c.held ≡ Some it.held)
    × ((n : TxnOffsetCommit) → Contains sent (msg.TxnOffsetCommit n)
    → n.caller.client ≡ c.number → c.held ≡ Some n.held → ⊥)
NewCommit sent log c m = Unit {0}

-- what goes out: old messages, or one new request
pub data Out (sent : List Message) (log : List Entry) (c : Client) (messages : List Message)
    : Type 0 where
  again : ((m : Message) → Contains messages m → Contains sent m) → Out sent log c messages
  new : (m : Message) → messages ≡ m ∷ [] → sender m ≡ Some c.number
      → correlation_of m ≡ c.correlation → NewCommit sent log c m → Out sent log c messages

-- what a processor is after its turn
pub record Moved (sent : List Message) (log : List Entry) (c : Client) (p : Processing)
    (after : Client) (q : Processing) (messages : List Message) : Type 0 where
  pub number : after.number ≡ c.number
  pub its_number : q.number ≡ p.number
  pub works : Works (sent ++ messages) log after q
  pub out : Out sent log c messages

module _ (sent : List Message) (log : List Entry) (c : Client) (p : Processing)
    (numbered : (m : Message) → Contains sent m → sender m ≡ Some c.number
    → correlation_of m < c.correlation)
    -- no reply to the next request was handed out
    (unlocated : (offset : ℤ)
    → Contains sent (the.OffsetFetchReply (caller_with c.number c.correlation) code.NoError offset)
    → ⊥)
    (unanswered : (x : ErrorCode)
    → Contains sent (the.OffsetsReply (caller_with c.number c.correlation) x) → ⊥)
    -- a batch of the pair that it holds came by its commit
    (unread : Unheld sent log (self_of c p) → (held : Held) → c.held ≡ Some held
    → (batch : Sequenced) → Contains log (Data batch) → batch.id ≡ held.id
    → batch.epoch ≡ held.epoch → ⊥)
    (h : Works sent log c p) where
  abbrev me : Self
  me = self_of c p

  fetches_below : (it : Fetch) → Contains sent (msg.Fetch it) → it.caller.client ≡ c.number
      → it.caller.correlation < c.correlation
  fetches_below it there e = numbered (msg.Fetch it) there (ap Some e)

  -- a processor that asks for one more thing
  module _ (b : Client) (m : Message) (stage : Stage) where
    abbrev asker : Client
    asker = record b { correlation = b.correlation + 1; waiting = b.waiting ++ m ∷ [] }

    -- what is new of it
    record Asks : Type 0 where
      number : b.number ≡ c.number
      correlation : b.correlation ≡ c.correlation
      held : b.held ≡ c.held
      place : b.place ≡ c.place
      none_waits : b.waiting ≡ []
      works : b.failed ≡ false → c.failed ≡ false
      its_sender : sender m ≡ Some c.number
      its_number : correlation_of m ≡ c.correlation
      joins : (k : ℕ) (g : List ℕ) → Contains (sent ++ m ∷ []) (the.Join (caller_with c.number k) g)
          → (g ≡ p.group) × (b.group ≡ Some p.group)
      group : IfSome b.group (λ g. g ≡ p.group)
      some : is_init m ≡ false → is_some c.held ≡ true
      waits : c.failed ≡ false → Waits (sent ++ m ∷ []) log
          (record me { correlation = c.correlation + 1 }) stage m
      commit : NewCommit sent log c m

    asks_moved : Asks → (after : Client) (messages : List Message) → asks b m ≡ Does after messages
        → Moved sent log c p after (at_stage p stage) messages
    asks_moved a after messages e =
        let is = does_is asker after (m ∷ []) messages e in
        subst (λ x. Moved sent log c p x (at_stage p stage) messages) is.0
        (subst (λ l. Moved sent log c p asker (at_stage p stage) l) is.1 (record {
          number = a.number;
          its_number = refl;
          works = record {
            joins = λ k g there. a.joins k g
                (subst (λ n. Contains (sent ++ m ∷ []) (the.Join (caller_with n k) g)) a.number
                there);
            group = a.group;
            at = λ f. waits m (ap (λ l. l ++ m ∷ []) a.none_waits)
                (λ i. ap is_some a.held ∙ a.some i)
                (subst (λ (s : Self). Waits (sent ++ m ∷ []) log s stage m) (sym selves)
                (a.waits (a.works f)));
          };
          out = new m refl a.its_sender a.its_number a.commit;
        }))
      where
        selves : self_of asker (at_stage p stage) ≡ record me { correlation = c.correlation + 1 }
        selves = λ i. record {
          number = a.number i;
          correlation = ap (λ n. n + 1) a.correlation i;
          held = a.held i;
          place = a.place i;
          group = p.group;
        }

  ------ nothing new

  -- old messages go out again, or none
  module _ (messages : List Message)
      (old : (m : Message) → Contains messages m → Contains sent m) where
    onto : Onward sent (sent ++ messages) log log c.number
    onto = record {
      messages = messages;
      whole = refl;
      back = λ m there s. old m there;
      up = λ m there. Contains-append_left sent messages m there;
      more = [];
      longer = sym (append-nil log);
      located = λ k offset there. inl (before _ there);
      refusals = λ caller x there. inl (before _ there);
    }
      where
        before : (m : Message) → Contains (sent ++ messages) m → Contains sent m
        before m there =
            ⊎_elim (λ o. o) (λ n. old m n) (Contains-append_cases sent messages m there)

    again_moved : (stage : Stage) → Works sent log c (at_stage p stage)
        → Knows sent c → Moved sent log c p c (at_stage p stage) messages
    again_moved stage works k = record {
      number = refl;
      its_number = refl;
      works = works_on sent (sent ++ messages) log log c (at_stage p stage) onto k works;
      out = again old;
    }

  ------ one new request

  -- a request that is no Join leaves what is known of those
  abbrev NoJoin : Message → Type 0
  NoJoin (msg.Join it) = ⊥
  NoJoin m = Unit {0}

  joins_still : (m : Message) → NoJoin m → (k : ℕ) (g : List ℕ)
      → Contains (sent ++ m ∷ []) (the.Join (caller_with c.number k) g)
      → (g ≡ p.group) × (c.group ≡ Some p.group)
  joins_still m none k g there =
      ⊎_elim (λ old. h.joins k g old) (λ same. absurd (subst NoJoin same none))
      (Contains-push_cases sent m (the.Join (caller_with c.number k) g) there)

  -- a request of a client that is as it was, but for its transaction and its sequences
  module _ (b : Client) (m : Message) (stage : Stage) (number : b.number ≡ c.number)
      (correlation : b.correlation ≡ c.correlation) (held : b.held ≡ c.held)
      (place : b.place ≡ c.place) (none_waits : b.waiting ≡ []) (group : b.group ≡ c.group)
      (works : b.failed ≡ c.failed) (its_sender : sender m ≡ Some c.number)
      (its_number : correlation_of m ≡ c.correlation) (none : NoJoin m)
      (some : is_init m ≡ false → is_some c.held ≡ true) (commit : NewCommit sent log c m)
      (waits_now : c.failed ≡ false → Waits (sent ++ m ∷ []) log
      (record me { correlation = c.correlation + 1 }) stage m) where
    plain_asks : Asks b m stage
    plain_asks = record {
      number = number;
      correlation = correlation;
      held = held;
      place = place;
      none_waits = none_waits;
      works = λ f. sym works ∙ f;
      its_sender = its_sender;
      its_number = its_number;
      joins = λ k g there. let j = joins_still m none k g there in (j.0, group ∙ j.1);
      group = subst (λ o. IfSome o (λ g. g ≡ p.group)) (sym group) h.group;
      some = some;
      waits = waits_now;
      commit = commit;
    }

  abbrev Turned : Stage → Client → List Message → Type 0
  Turned stage after messages = Moved sent log c p after (at_stage p stage) messages

  join_in : List ℕ → Message → List ℕ
  join_in other (msg.Join it) = it.group
  join_in other m = other

  does_of : (d : Client) (what : Command) (after : Client) (messages : List Message)
      → command d what ≡ Does after messages → does d what ≡ Does after messages
  unfolding command
  does_of d what after messages e = (passes (refusals d what) (does d what) after messages e).1

  polls_join : Ready sent log me Joining → c.waiting ≡ [] → is_some c.held ≡ true
      → (after : Client) (messages : List Message)
      → command c (JoinGroup p.group) ≡ Does after messages → Turned Joining after messages
  unfolding join_in
  polls_join ready none some after messages e =
      let m = the.Join (caller_of c) p.group in
      let b = record c { group = Some p.group } in
      asks_moved b m Joining (record {
        number = refl;
        correlation = refl;
        held = refl;
        place = refl;
        none_waits = none;
        works = λ f. f;
        its_sender = refl;
        its_number = refl;
        joins = λ k g there. (
          ⊎_elim (λ old. (h.joins k g old).0) (λ same. sym (ap (join_in p.group) same))
              (Contains-push_cases sent m (the.Join (caller_with c.number k) g) there),
          refl,
        );
        group = refl;
        some = λ i. some;
        waits = λ f. to_join c.correlation
            (ready_asks sent log me m tt refl fetches_below tt Joining ready);
        commit = tt;
      }) after messages (does_of c (JoinGroup p.group) after messages e)

  polls_locate : (q : ℕ) (left : List ℕ) → IsLocating sent log me q left → c.waiting ≡ []
      → is_some c.held ≡ true → (after : Client) (messages : List Message)
      → command c (FetchOffset p.group q) ≡ Does after messages
      → Turned (Locating q left) after messages
  polls_locate q left ready none some after messages e =
      let m = the.OffsetFetch (caller_of c) p.group q true in
      asks_moved c m (Locating q left)
      (plain_asks c m (Locating q left) refl refl refl refl none refl refl refl refl tt (λ i. some)
      tt (λ f. to_locate c.correlation q left
      (locating_asks sent log me m tt refl fetches_below q left ready)
      (λ offset there. absurd (⊎_elim (unlocated offset) (λ same. cc)
      (Contains-push_cases sent m
      (the.OffsetFetchReply (caller_with c.number c.correlation) code.NoError offset) there)))))
      after messages (does_of c (FetchOffset p.group q) after messages e)

  polls_fetch : (q : ℕ) (left : List ℕ) (offset : ℤ) → IsFetching sent log me q left offset
      → c.waiting ≡ [] → is_some c.held ≡ true → (after : Client) (messages : List Message)
      → command c (FetchPage q (from_offset offset)) ≡ Does after messages
      → Turned (Fetching q left offset) after messages
  polls_fetch q left offset ready none some after messages e =
      let it : Fetch = record {
        caller = caller_of c;
        partition = q;
        from = pos (from_offset offset);
        max = page_room;
        committed = true;
      } in
      let m = msg.Fetch it in
      asks_moved c m (Fetching q left offset)
      (plain_asks c m (Fetching q left offset) refl refl refl refl none refl refl refl refl tt
      (λ i. some) tt (λ f. to_fetch q left offset it
      (fetching_asks sent log me m tt refl fetches_below q left offset ready)
      (last_is sent it (c.correlation + 1) (omega arith) (λ f there same.
      fetches_below f there same)) refl))
      after messages (does_of c (FetchPage q (from_offset offset)) after messages e)

  -- a batch of images, by a client in its transaction
  sends_turn : (b : Client) → b.number ≡ c.number → b.correlation ≡ c.correlation
      → b.held ≡ c.held → b.place ≡ c.place → b.waiting ≡ [] → b.group ≡ c.group
      → b.failed ≡ c.failed → (q : ℕ) (left : List ℕ) (next : ℤ) (values : Values)
      (rest : List Values) → IsWriting sent log me q left next → is_some c.held ≡ true
      → (output : ℕ) (held : Option Held) (after : Client) (messages : List Message)
      → sends b output (value_records (values.first ∷ values.more)) held ≡ Does after messages
      → Turned (Writing q left next (values ∷ rest)) after messages
  sends_turn b number correlation own place none group works q left next values rest ready some
      output None after messages e = absurd cc
  sends_turn b number correlation own place none group works q left next values rest ready some
      output (Some held) after messages e =
      asks_moved (sending b output (length (value_records (values.first ∷ values.more)))) _
      (Writing q left next (values ∷ rest))
      (plain_asks (sending b output (length (value_records (values.first ∷ values.more)))) _
      (Writing q left next (values ∷ rest)) number correlation own place none group works
      (ap Some number) correlation tt (λ i. some) tt
      (λ f. to_write q left next values rest _
      (writing_asks sent log me _ tt (ap Some number) fetches_below tt q left next ready)))
      after messages e

  -- the end of the transaction, by an abort
  aborts_turn : (b : Client) → b.number ≡ c.number → b.correlation ≡ c.correlation
      → b.held ≡ c.held → b.place ≡ c.place → b.group ≡ c.group → b.failed ≡ c.failed
      → (sequel : Sequel) → AllSettled sent log me log → is_some c.held ≡ true
      → (txn : Option (List ℕ)) (held : Option Held) (after : Client) (messages : List Message)
      → sends_end b Abort txn held ≡ Does after messages
      → Turned (Aborting sequel) after messages
  aborts_turn b number correlation own place group works sequel settled some None held after
      messages e = absurd cc
  aborts_turn b number correlation own place group works sequel settled some (Some txn) None after
      messages e = absurd cc
  aborts_turn b number correlation own place group works sequel settled some (Some txn)
      (Some held) after messages e =
      asks_moved (record b { waiting = [] }) (the.EndTxn (caller_of b) txn held Abort)
      (Aborting sequel)
      (plain_asks (record b { waiting = [] }) (the.EndTxn (caller_of b) txn held Abort)
      (Aborting sequel) number correlation own place refl group works
      (ap Some number) correlation tt
      (λ i. some) tt
      (λ f. to_abort sequel _ (settled_asks sent log me (the.EndTxn (caller_of b) txn held Abort) tt
      (ap Some number) fetches_below log settled)))
      after messages e

  -- the end of the transaction, by a commit
  commits_turn : (left : List ℕ) → IsEnding sent log me left → c.waiting ≡ []
      → is_some c.held ≡ true → Knows sent c → c.failed ≡ false
      → (txn : Option (List ℕ)) (held : Option Held) (after : Client) (messages : List Message)
      → sends_end c Commit txn held ≡ Does after messages
      → Turned (Committing left) after messages
  commits_turn left ready none some k working None held after messages e = absurd cc
  commits_turn left ready none some k working (Some txn) None after messages e = absurd cc
  commits_turn left ready none some k working (Some txn) (Some held) after messages e =
      by c.sent_some e
    where
      m : Message
      m = the.EndTxn (caller_of c) txn held Commit

      by : (b : Bool) → cond b (asks c (the.EndTxn (caller_of c) txn held Commit))
          (Does (record c { in_transaction = false }) []) ≡ Does after messages
          → Turned (Committing left) after messages
      by true e =
          asks_moved c (the.EndTxn (caller_of c) txn held Commit) (Committing left)
          (plain_asks c (the.EndTxn (caller_of c) txn held Commit) (Committing left) refl refl refl
          refl none refl refl refl refl tt (λ i. some) tt
          (λ f. to_end left _ (ending_asks sent log me (the.EndTxn (caller_of c) txn held Commit) tt
          refl fetches_below left ready)))
          after messages e
      by false e =
          let d = record c { in_transaction = false } in
          let is = does_is d after [] messages e in
          subst (λ x. Turned (Committing left) x messages) is.0
          (subst (λ l. Turned (Committing left) d l) is.1 (record {
            number = refl;
            its_number = refl;
            works = subst (λ l. Works l log d (at_stage p (Committing left)))
                (sym (append-nil sent)) (record {
                  joins = h.joins;
                  group = h.group;
                  at = λ f. idle none ready;
                });
            out = again (λ x there. absurd (no_element x there));
          }))

  commit_in : TxnOffsetCommit → Message → TxnOffsetCommit
  commit_in other (msg.TxnOffsetCommit it) = it
  commit_in other m = other

  -- the commit of the offset behind the page
  module _ (q : ℕ) (left : List ℕ) (next : ℤ) (ready : IsWriting sent log me q left next)
      (it : TxnOffsetCommit) (number : it.caller.client ≡ c.number)
      (correlation : it.caller.correlation ≡ c.correlation) (held : c.held ≡ Some it.held)
      (place : Place) (placed : c.place ≡ Some place) (group : it.group ≡ place.group)
      (named : it.generation ≡ place.generation)
      (one : it.offsets ≡ record { partition = q; offset = next } ∷ []) where
    abbrev m : Message
    m = msg.TxnOffsetCommit it

    abbrev with_commit : List Message
    with_commit = sent ++ m ∷ []

    abbrev pl : Placed sent log me (q ∷ left)
    pl = ready.placed

    abbrev read : List Entry
    read = pl.joined ++ ready.read.since

    same_place : pl.place ≡ place
    same_place = let e = sym pl.is ∙ placed in cc

    its_group : it.group ≡ p.group
    its_group = group ∙ sym (ap (λ (x : Place). x.group) same_place) ∙ pl.of_group

    generation_is : it.generation ≡ pos (generation pl.joined p.group)
    generation_is = named ∙ sym (ap (λ (x : Place). x.generation) same_place) ∙ pl.named

    -- its client's other commits are older
    older : (n : TxnOffsetCommit) → Contains with_commit (msg.TxnOffsetCommit n)
        → (n ≡ it) ⊎ Contains sent (msg.TxnOffsetCommit n)
    unfolding commit_in
    older n there =
        ⊎_elim inr (λ same. inl (sym (ap (commit_in it) same)))
        (Contains-push_cases sent m (msg.TxnOffsetCommit n) there)

    based : Based with_commit log it
    based = record {
      joined = pl.joined;
      since = ready.read.since;
      behind = ready.read.behind;
      parts = ready.read.parts;
      named = generation_is ∙ ap (λ g. pos (generation pl.joined g)) (sym its_group);
      input = q;
      next = next;
      one = one;
      owned = ap (λ g. owns (place_of pl.joined g it.caller.client)
          (length (members pl.joined g)) q) its_group
          ∙ ap (λ n. owns (place_of pl.joined p.group n) (length (members pl.joined p.group)) q)
          number
          ∙ All-head (λ x. owns (place_of pl.joined p.group c.number)
          (length (members pl.joined p.group)) x ≡ true) q left pl.owned;
      none_pending = ap (λ g. is_pending read g q) its_group ∙ ready.read.none_pending;
      from_is = ap (λ n. from_of (last_fetch with_commit n it.caller.correlation)) number
          ∙ ap (λ n. from_of (last_fetch with_commit c.number n)) correlation
          ∙ ap from_of (last_stays sent (m ∷ []) c.number c.correlation (λ x there.
          ⊎_elim (λ empty. absurd (no_element x empty))
          (λ same. subst (IsNoFetch c.number c.correlation) same tt)
          (Contains-push_cases [] m x there)))
          ∙ ready.last ∙ ap (λ o. pos (from_offset o)) offset_now;
      grows = subst (λ o. pos (from_offset o) <ℤ next) offset_now ready.grows;
      earlier = λ n there client lower.
          ⊎_elim (λ same. absurd (
          let is = ap (λ (x : TxnOffsetCommit). x.caller.correlation) same in
          omega (arith, is, lower)))
          (λ old. ready.read.settled n (old, client ∙ number)) (older n there);
      unread = λ batch there is.
          unread ready.unheld it.held held batch
          (subst (λ l. Contains l (Data batch)) (sym ready.read.parts)
          (Contains-append_left read ready.read.behind (Data batch) there)) is.0 is.1;
    }
      where
        offset_now : ready.offset ≡ marked_offset read it.group q
        offset_now = ready.read.offset_is ∙ ap (λ g. marked_offset read g q) (sym its_group)

    out : IsOut with_commit log (record me { correlation = c.correlation + 1 }) it
    out = record {
      named = generation pl.joined p.group;
      is = generation_is;
      reached = subst (λ l. generation pl.joined p.group ≤ generation l it.group) (sym pl.parts)
          (subst (λ g. generation pl.joined p.group ≤ generation (pl.joined ++ pl.behind) g)
          (sym its_group) (generation_grows pl.joined pl.behind p.group));
      refusals = λ x there.
          absurd (⊎_elim
          (λ old. unanswered x (subst (λ k. Contains sent (the.OffsetsReply k x)) callers old))
          (λ same. cc) (Contains-push_cases sent m (the.OffsetsReply it.caller x) there));
    }
      where
        callers : it.caller ≡ caller_with c.number c.correlation
        callers = λ i. record { client = number i; correlation = correlation i }

    others : (n : TxnOffsetCommit)
        → IsCommitOf with_commit log (record me { correlation = c.correlation + 1 }) n
        → (n ≡ it) ⊎ Settled log n
    others n its =
        ⊎_elim inl
        (λ old. inr (settled_since sent log me pl.joined q ready.offset ready.read n (old, its.1)))
        (older n its.0)

    waits_now : Waits with_commit log (record me { correlation = c.correlation + 1 })
        (Writing q left next []) m
    waits_now =
        to_commit q left next it
        (placed_tail with_commit log (record me { correlation = c.correlation + 1 }) q left
        (record {
          joined = pl.joined;
          behind = pl.behind;
          parts = pl.parts;
          place = pl.place;
          is = pl.is;
          of_group = pl.of_group;
          named = pl.named;
          owned = pl.owned;
        })) others out

    commit : NewCommit sent log c m
    commit = (based, held, λ n there client e. ready.unheld n (there, client) e)

  offsets_turn : (b : Client) → b.number ≡ c.number → b.correlation ≡ c.correlation
      → b.held ≡ c.held → b.place ≡ c.place → b.waiting ≡ [] → b.group ≡ c.group
      → b.failed ≡ c.failed → (q : ℕ) (left : List ℕ) (next : ℤ)
      → IsWriting sent log me q left next → is_some c.held ≡ true → (txn : Option (List ℕ))
      (held : Option Held) (place : Option Place) → b.held ≡ held → b.place ≡ place
      → (after : Client) (messages : List Message)
      → sends_offsets b (record { partition = q; offset = next } ∷ []) txn held place
      ≡ Does after messages
      → Turned (Writing q left next []) after messages
  offsets_turn b number correlation own place none group works q left next ready some None held pl
      is_held is_place after messages e = absurd cc
  offsets_turn b number correlation own place none group works q left next ready some (Some txn)
      None pl is_held is_place after messages e = absurd cc
  offsets_turn b number correlation own place none group works q left next ready some (Some txn)
      (Some held) None is_held is_place after messages e = absurd cc
  offsets_turn b number correlation own place none group works q left next ready some (Some txn)
      (Some held) (Some at) is_held is_place after messages e =
      asks_moved (sending b offsets_partition 1) _ (Writing q left next [])
      (plain_asks (sending b offsets_partition 1) _ (Writing q left next []) number correlation own
      place none group works (ap Some number) correlation tt (λ i. some)
      (commit q left next ready _ number correlation (sym own ∙ is_held) at (sym place ∙ is_place)
      refl refl refl)
      (λ f. waits_now q left next ready _ number correlation (sym own ∙ is_held) at
      (sym place ∙ is_place) refl refl refl))
      after messages e

  ------ a poll

  unchanged : Knows sent c → (stage : Stage) → Works sent log c (at_stage p stage)
      → Turned stage c []
  unchanged k stage works = again_moved [] (λ m there. absurd (no_element m there)) stage works k

  -- as it was, at another stage
  works_at : (stage : Stage) → (c.failed ≡ false → At sent log me stage c.waiting)
      → Works sent log c (at_stage p stage)
  works_at stage at = record { joins = h.joins; group = h.group; at = at }

  polled_at : Knows sent c → (stage : Stage) → Ready sent log me stage → c.waiting ≡ []
      → c.failed ≡ false → is_some c.held ≡ true → (after : Client) (messages : List Message)
      → told_all c (next_commands c p stage) ≡ Does after messages
      → Turned (stage_sent stage) after messages
  polled_at k Joining ready none works some after messages e =
      polls_join ready none some after messages e
  polled_at k (Locating q left) ready none works some after messages e =
      polls_locate q left ready none some after messages e
  polled_at k (Fetching q left offset) ready none works some after messages e =
      polls_fetch q left offset ready none some after messages e
  polled_at k (Writing q left next []) ready none works some after messages e =
      let o : PartitionOffset = record { partition = q; offset = next } in
      let b = begun c (SendOffsets o []) after messages e in
      let d = in_state c b.inside b.sent_some b.aborts in
      offsets_turn d refl refl refl refl none refl refl q left next ready some d.txn d.held d.place
      refl refl after messages (does_of d (SendOffsets o []) after messages b.does_so)
  polled_at k (Writing q left next (values ∷ rest)) ready none works some after messages e =
      by (fits values) e
    where
      output : ℕ
      output = q + p.inputs

      by : (f : Bool) → told_all c (in_transaction c
          (cond f (Send (q + p.inputs) values.first values.more) (End Abort)))
          ≡ Does after messages
          → Turned (cond f (Writing q left next (values ∷ rest)) (Aborting Overflows))
          after messages
      by true e =
          let what = Send (q + p.inputs) values.first values.more in
          let b = begun c what after messages e in
          let d = in_state c b.inside b.sent_some b.aborts in
          sends_turn d refl refl refl refl none refl refl q left next values rest ready some
          (q + p.inputs) d.held after messages (does_of d what after messages b.does_so)
      by false e =
          let b = begun c (End Abort) after messages e in
          let d = in_state c b.inside b.sent_some b.aborts in
          aborts_turn d refl refl refl refl refl refl Overflows
          (settled_since sent log me ready.placed.joined q ready.offset ready.read) some d.txn
          d.held
          after messages (does_of d (End Abort) after messages b.does_so)
  polled_at k (Committing left) ready none works some after messages e =
      commits_turn left ready none some k works c.txn c.held after messages
      (does_of c (End Commit) after messages e)
  polled_at k (Aborting sequel) ready none works some after messages e =
      aborts_turn c refl refl refl refl refl refl sequel ready some c.txn c.held after messages
      (does_of c (End Abort) after messages e)
  polled_at k Overflown ready none works some after messages e =
      let is = does_is c after [] messages e in
      subst (λ x. Turned Overflown x messages) is.0
      (subst (λ l. Turned Overflown c l) is.1
      (unchanged k Overflown (works_at Overflown (λ f. idle none tt))))
  polled_at k Stopped ready none works some after messages e =
      let is = does_is c after [] messages e in
      subst (λ x. Turned Stopped x messages) is.0
      (subst (λ l. Turned Stopped c l) is.1
      (unchanged k Stopped (works_at Stopped (λ f. idle none tt))))

  -- where nothing waits it is ready
  ready_now : (stage : Stage) (waiting : List Message) → At sent log me stage waiting
      → waiting ≡ [] → Ready sent log me stage
  ready_now stage waiting (idle e ready) none = ready
  ready_now stage waiting (waits m e some w) none = absurd (let both = sym e ∙ none in cc)

  poll_moves : Knows sent c → (after : Client) (messages : List Message)
      → polled (record { client = c; processing = p }) ≡ Does after messages
      → Turned (stage_polled (record { client = c; processing = p })) after messages
  poll_moves k after messages e =
      let t = passes ((c.failed || is_stopped p.stage, Failed)
      ∷ (not (is_waiting c) && is_none c.held, NotReady)
      ∷ (not (is_waiting c) && is_overflown p.stage, TooLarge) ∷ [])
      (cond (is_waiting c) (Does c []) (told_all c (next_commands c p p.stage))) after messages e in
      let works = (or_parts c.failed (is_stopped p.stage) t.0.0).0 in
      by (is_waiting c) refl works t.0.1.0 t.1
    where
      id_there : (a b : Bool) → a ≡ false → (not a && b) ≡ false → b ≡ false
      id_there true b e f = absurd cc
      id_there false b e f = f

      some_held : (o : Option Held) → is_none o ≡ false → is_some o ≡ true
      some_held None e = absurd cc
      some_held (Some held) e = refl

      by : (b : Bool) → is_waiting c ≡ b → c.failed ≡ false
          → (not (is_waiting c) && is_none c.held) ≡ false
          → cond b (Does c []) (told_all c (next_commands c p p.stage)) ≡ Does after messages
          → Turned (cond b p.stage (stage_sent p.stage)) after messages
      by true w works held e =
          let is = does_is c after [] messages e in
          subst (λ x. Turned p.stage x messages) is.0
          (subst (λ l. Turned p.stage c l) is.1 (unchanged k p.stage (works_at p.stage h.at)))
      by false w works held e =
          let none = nothing_waits c.waiting w in
          polled_at k p.stage (ready_now p.stage c.waiting (h.at works) none) none works
          (some_held c.held (id_there (is_waiting c) (is_none c.held) w held)) after messages e

  ------ other commands

  refused_at : (fault : Fault) (stage : Stage) (waiting : List Message)
      → At sent log me stage waiting → At sent log me (stage_refused fault stage) waiting
  refused_at TooLarge Overflown waiting (idle e ready) = idle e tt
  refused_at TooLarge Overflown waiting (waits m e some w) =
      waits m e some (by Overflown m refl w)
    where
      by : (stage : Stage) (m : Message) → stage ≡ Overflown → Waits sent log me stage m
          → Waits sent log me Stopped m
      by stage m same (for_id s n init ready) = for_id Stopped n init tt
      by stage m same (to_join n ready) = absurd cc
      by stage m same (to_locate n q left ready says) = absurd cc
      by stage m same (to_fetch q left offset it ready last from) = absurd cc
      by stage m same (to_write q left next values rest it ready) = absurd cc
      by stage m same (to_commit q left next it placed others out) = absurd cc
      by stage m same (to_end left it ready) = absurd cc
      by stage m same (to_abort sequel it s) = absurd cc
  refused_at TooLarge stage waiting at = at
  refused_at NotReady stage waiting at = at
  refused_at InFlight stage waiting at = at
  refused_at WindowFull stage waiting at = at
  refused_at Failed stage waiting at = at
  refused_at NotTransactional stage waiting at = at
  refused_at UsedUp stage waiting at = at
  refused_at MustAbort stage waiting at = at

  resend_moves : Knows sent c → (after : Client) (messages : List Message)
      → command c Resend ≡ Does after messages → Turned p.stage after messages
  resend_moves k after messages e =
      let is = does_is c after c.waiting messages (does_of c Resend after messages e) in
      subst (λ x. Turned p.stage x messages) is.0
      (subst (λ l. Turned p.stage c l) is.1 (again_moved c.waiting
      (λ m there. (All-contains (IsAwaited sent c) c.waiting m k.waiting there).its.0) p.stage
      (works_at p.stage h.at) k))

  init_moves : Knows sent c → (after : Client) (messages : List Message)
      → command c Init ≡ Does after messages → Turned p.stage after messages
  unfolding command
  init_moves k after messages e =
      let t = passes (refusals c Init) (does c Init) after messages e in
      let held = (or_parts (is_some c.held) (list_any is_end c.waiting) t.0.1.0).0 in
      by (list_any is_init c.waiting) refl held t.0.0 t.1
    where
      m : Message
      m = the.InitProducerId (caller_of c) c.txn c.timeout

      idle_only : (stage : Stage) (waiting : List Message) → At sent log me stage waiting
          → is_some c.held ≡ false → list_any is_init waiting ≡ false
          → (waiting ≡ []) × Ready sent log me stage
      idle_only stage waiting (idle e ready) held none = (e, ready)
      idle_only stage waiting (waits x e some w) held none =
          absurd (let first = none_first (is_init x)
          (ap (list_any is_init) (sym e) ∙ none) in
          let yes_some = some first in
          let both = sym yes_some ∙ held in cc)
        where
          none_first : (b : Bool) → (b || false) ≡ false → b ≡ false
          none_first true f = absurd cc
          none_first false f = refl

      by : (b : Bool) → list_any is_init c.waiting ≡ b → is_some c.held ≡ false
          → c.failed ≡ false
          → cond b (Does c (filter is_init c.waiting)) (asks c m) ≡ Does after messages
          → Turned p.stage after messages
      by true w held works e =
          let is = does_is c after (filter is_init c.waiting) messages e in
          subst (λ x. Turned p.stage x messages) is.0
          (subst (λ l. Turned p.stage c l) is.1 (again_moved (filter is_init c.waiting)
          (λ x there. (All-contains (IsAwaited sent c) c.waiting x k.waiting
          (filter_holds is_init c.waiting x there).0).its.0) p.stage (works_at p.stage h.at) k))
      by false w held works e =
          let i = idle_only p.stage c.waiting (h.at works) held w in
          asks_moved c m p.stage
          (plain_asks c m p.stage refl refl refl refl i.0 refl refl refl refl tt (λ f. absurd cc) tt
          (λ f. for_id p.stage m refl
          (ready_asks sent log me m tt refl fetches_below tt p.stage i.1)))
          after messages e

  ------ any command

  -- what a command leaves if it is declined
  declined_moves : Knows sent c → (fault : Fault)
      → Turned (stage_refused fault p.stage) c []
  declined_moves k fault =
      unchanged k (stage_refused fault p.stage)
      (works_at (stage_refused fault p.stage)
      (λ f. refused_at fault p.stage c.waiting (h.at f)))

  abbrev self : Processor
  self = record { client = c; processing = p }

  abbrev Obeyed : NodeStep Processor → Type 0
  Obeyed s = Moved sent log c p s.state.client s.state.processing s.messages

  obeys_moves : Knows sent c → (stage : Stage) → (done : Commanded)
      → ((after : Client) (messages : List Message) → done ≡ Does after messages
      → Turned stage after messages)
      → Obeyed (obeys self stage done)
  obeys_moves k stage (Declines fault) does_so = declined_moves k fault
  obeys_moves k stage (Does after messages) does_so = does_so after messages refl

  foreign_declines : (what : Command) (stage : Stage) (after : Client) (messages : List Message)
      → foreign self what ≡ Does after messages → Turned stage after messages
  foreign_declines what stage after messages e =
      absurd (let t = passes ((c.failed || is_stopped p.stage, Failed)
      ∷ (needs_transactions what && is_none c.txn, NotTransactional) ∷ []) (Declines NotReady) after
      messages e in
      let no_does = t.1 in cc)

  own_command : (what : Command) (after : Client) (messages : List Message)
      → as_client self what ≡ Does after messages → command c what ≡ Does after messages
  own_command what after messages e =
      (passes ((c.failed || is_stopped p.stage, Failed) ∷ []) (command c what) after messages e).1

  -- what a processor is told leaves what stands of it standing
  pub commanded : Knows sent c → (what : Command)
      → Obeyed (processor_step self (Commands what))
  unfolding processor_step
  commanded k Poll = obeys_moves k (stage_polled self) (polled self) (poll_moves k)
  commanded k Init =
      obeys_moves k p.stage (as_client self Init)
      (λ after messages e. init_moves k after messages (own_command Init after messages e))
  commanded k Resend =
      obeys_moves k p.stage (as_client self Resend)
      (λ after messages e. resend_moves k after messages (own_command Resend after messages e))
  commanded k what =
      obeys_moves k p.stage (foreign self what) (foreign_declines what p.stage)
