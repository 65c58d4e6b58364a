-- What stands of a processor at each stage, given all messages and the offsets partition's log: the
-- group as it was when it joined, what it has read since, and that its commits are settled.
use Rattle.std.proofs.Common.{◌≡◌, ◌⊎◌, ◌≤◌, ◌<ℤ◌, ℕ, ℤ, pos, Bool, true, false, List, [], ◌∷◌}
use Rattle.std.proofs.Common.{◌++◌}
use Rattle.std.proofs.Common.{length, Option, Some, is_some, Contains, All, refl, sym, ap, ◌∙◌}
use Rattle.std.proofs.Common.{subst, arith, inl, inr, ⊎_elim, append_assoc, cond, negsuc, ◌==◌}
use Rattle.std.proofs.Common.{◌&&◌, nat_lt}
use Rattle.std.specs.Prelude.{IfSome}
use Rattle.std.proofs.lemmas.Bool.Decides.{nat_tests}
use Rattle.std.proofs.lemmas.List.Elements.{All-contains, Contains-append_cases}
use Rattle.kx_message.specs.Messages as the
use Rattle.kx_message.specs.Messages.{caller_with}
use Rattle.kx_message.specs.declared.code.ErrorCode.{ErrorCode}
use Rattle.kx_message.specs.declared.code.ErrorCode.TheVariants as code
use Rattle.kx_message.specs.declared.message.Held.{Held}
use Rattle.kx_message.specs.declared.message.Message.{Message}
use Rattle.kx_message.specs.declared.message.Message.TheVariants as msg
use Rattle.kx_message.specs.declared.requests.Caller.{Caller}
use Rattle.kx_message.specs.declared.requests.EndTxn.{EndTxn}
use Rattle.kx_message.specs.declared.requests.Fetch.{Fetch}
use Rattle.kx_message.specs.declared.requests.OffsetFetch.{OffsetFetch}
use Rattle.kx_message.specs.declared.requests.Produce.{Produce}
use Rattle.kx_message.specs.declared.requests.TxnOffsetCommit.{TxnOffsetCommit}
use Rattle.kx_client.specs.declared.values.Values.{Values}
use Rattle.kx_model.specs.Client.{Client, Place, is_init}
use Rattle.kx_model.specs.Groups.{OffsetAnswer, generation, is_pending, marked_offset, members}
use Rattle.kx_model.specs.Groups.{offset_fetch, place_of}
use Rattle.kx_model.specs.Log.{Entry}
use Rattle.kx_headline.proofs.ClientRequests.{IsAwaited, Knows, sender}
use Rattle.kx_laws.proofs.Membership.{contains_head}
use Rattle.kx_system.specs.Processor.{Aborting, Committing, Fetching, Joining, Locating, Overflown}
use Rattle.kx_system.specs.Processor.{Processing, Sequel, Stage, Stopped, Writing, from_offset}
use Rattle.kx_system.specs.Processor.{owns}
use Rattle.kx_pipeline.specs.Chain.{from_of, last_fetch}
use Rattle.kx_pipeline.proofs.Generations.{accepts, generation_grows}
use Rattle.kx_pipeline.proofs.LastFetches.{IsNoFetch, last_same}
use Rattle.kx_pipeline.proofs.LinkedCommits.{Settled, refused, settled_later}
use Rattle.kx_pipeline.proofs.OffsetsSay.{AsRefused}

------ what stands

-- what of a processor its requests rest on
pub record Self : Type 0 where
  pub number : ℕ
  pub correlation : ℕ
  pub held : Option Held
  pub place : Option Place
  pub group : List ℕ

abbrev pub self_of : Client → Processing → Self
self_of c p = record {
  number = c.number;
  correlation = c.correlation;
  held = c.held;
  place = c.place;
  group = p.group;
}

module _ (sent : List Message) (log : List Entry) (me : Self) where
  abbrev pub IsCommitOf : TxnOffsetCommit → Type 0
  IsCommitOf it = Contains sent (msg.TxnOffsetCommit it) × (it.caller.client ≡ me.number)

  -- none of its commits is of the pair that it holds
  abbrev pub Unheld : Type 0
  Unheld = (it : TxnOffsetCommit) → IsCommitOf it → me.held ≡ Some it.held → ⊥

  abbrev pub AllSettled : List Entry → Type 0
  AllSettled read = (it : TxnOffsetCommit) → IsCommitOf it → Settled read it

  -- the group when it joined, of which it owned these input partitions
  pub record Placed (inputs : List ℕ) : Type 0 where
    pub joined : List Entry
    pub behind : List Entry
    pub parts : log ≡ joined ++ behind
    pub place : Place
    pub is : me.place ≡ Some place
    pub of_group : place.group ≡ me.group
    pub named : place.generation ≡ pos (generation joined me.group)
    pub owned : All (λ q. owns (place_of joined me.group me.number)
        (length (members joined me.group)) q ≡ true) inputs

  -- the log when it fetched the offset of an input partition
  pub record HasRead (joined : List Entry) (q : ℕ) (offset : ℤ) : Type 0 where
    pub since : List Entry
    pub behind : List Entry
    pub parts : log ≡ (joined ++ since) ++ behind
    pub none_pending : is_pending (joined ++ since) me.group q ≡ false
    pub offset_is : offset ≡ marked_offset (joined ++ since) me.group q
    pub settled : AllSettled (joined ++ since)

  pub record IsLocating (q : ℕ) (left : List ℕ) : Type 0 where
    pub placed : Placed (q ∷ left)
    pub unheld : Unheld
    pub settled : AllSettled log

  pub record IsFetching (q : ℕ) (left : List ℕ) (offset : ℤ) : Type 0 where
    pub placed : Placed (q ∷ left)
    pub read : HasRead placed.joined q offset
    pub unheld : Unheld

  pub record IsWriting (q : ℕ) (left : List ℕ) (next : ℤ) : Type 0 where
    pub placed : Placed (q ∷ left)
    pub offset : ℤ
    pub read : HasRead placed.joined q offset
    pub unheld : Unheld
    pub last : from_of (last_fetch sent me.number me.correlation) ≡ pos (from_offset offset)
    pub grows : pos (from_offset offset) <ℤ next

  pub record IsEnding (left : List ℕ) : Type 0 where
    pub placed : Placed left
    pub settled : AllSettled log

  -- ready to ask for the next thing
  abbrev pub Ready : Stage → Type 0
  Ready Joining = Unheld × AllSettled log
  Ready (Locating q left) = IsLocating q left
  Ready (Fetching q left offset) = IsFetching q left offset
  Ready (Writing q left next batches) = IsWriting q left next
  Ready (Committing left) = IsEnding left
  Ready (Aborting sequel) = AllSettled log
  Ready Overflown = Unit {0}
  Ready Stopped = Unit {0}

  -- a commit that was handed out: where it is refused it is settled
  pub record IsOut (it : TxnOffsetCommit) : Type 0 where
    pub named : ℕ
    pub is : it.generation ≡ pos named
    pub reached : named ≤ generation log it.group
    pub refusals : (x : ErrorCode) → Contains sent (the.OffsetsReply it.caller x)
        → AsRefused x (Settled log it)

  -- it waits for this request
  pub data Waits : Stage → Message → Type 0 where
    for_id : (stage : Stage) (m : Message) → is_init m ≡ true → Ready stage → Waits stage m
    to_join : (k : ℕ) → Ready Joining → Waits Joining (the.Join (caller_with me.number k) me.group)
    to_locate : (k q : ℕ) (left : List ℕ) → (ready : IsLocating q left)
        → ((offset : ℤ)
        → Contains sent (the.OffsetFetchReply (caller_with me.number k) code.NoError offset)
        → HasRead ready.placed.joined q offset)
        → Waits (Locating q left) (the.OffsetFetch (caller_with me.number k) me.group q true)
    to_fetch : (q : ℕ) (left : List ℕ) (offset : ℤ) (it : Fetch) → IsFetching q left offset
        → last_fetch sent me.number me.correlation ≡ Some it
        → it.from ≡ pos (from_offset offset) → Waits (Fetching q left offset) (msg.Fetch it)
    to_write : (q : ℕ) (left : List ℕ) (next : ℤ) (values : Values) (rest : List Values)
        (it : Produce) → IsWriting q left next
        → Waits (Writing q left next (values ∷ rest)) (msg.Produce it)
    to_commit : (q : ℕ) (left : List ℕ) (next : ℤ) (it : TxnOffsetCommit) → Placed left
        → ((n : TxnOffsetCommit) → IsCommitOf n → (n ≡ it) ⊎ Settled log n) → IsOut it
        → Waits (Writing q left next []) (msg.TxnOffsetCommit it)
    to_end : (left : List ℕ) (it : EndTxn) → IsEnding left
        → Waits (Committing left) (msg.EndTxn it)
    to_abort : (sequel : Sequel) (it : EndTxn) → AllSettled log
        → Waits (Aborting sequel) (msg.EndTxn it)

  -- one request at most is unanswered; any but that for an id goes out with an id
  pub data At (stage : Stage) (waiting : List Message) : Type 0 where
    idle : waiting ≡ [] → Ready stage → At stage waiting
    waits : (m : Message) → waiting ≡ m ∷ [] → (is_init m ≡ false → is_some me.held ≡ true)
        → Waits stage m → At stage waiting

-- a processor, by its client and what it is beside
pub record Works (sent : List Message) (log : List Entry) (c : Client)
    (p : Processing) : Type 0 where
  pub joins : (k : ℕ) (g : List ℕ) → Contains sent (the.Join (caller_with c.number k) g)
      → (g ≡ p.group) × (c.group ≡ Some p.group)
  pub group : IfSome c.group (λ g. g ≡ p.group)
  pub at : c.failed ≡ false → At sent log (self_of c p) p.stage c.waiting

------ what others do

-- a log between two
pub record Between (log later : List Entry) (it : TxnOffsetCommit) : Type 0 where
  pub judged : List Entry
  pub since : List Entry
  pub behind : List Entry
  pub from : judged ≡ log ++ since
  pub to : later ≡ judged ++ behind
  pub refuses : accepts judged it.group it.member it.generation ≡ false

-- more messages, none of which is a new one of the client, and a longer log; new replies say what
-- the log was
pub record Onward (sent later : List Message) (log grown : List Entry) (client : ℕ) : Type 0 where
  pub messages : List Message
  pub whole : later ≡ sent ++ messages
  pub back : (m : Message) → Contains messages m → sender m ≡ Some client → Contains sent m
  pub up : (m : Message) → Contains sent m → Contains later m
  pub more : List Entry
  pub longer : grown ≡ log ++ more
  pub located : (k : ℕ) (offset : ℤ)
      → Contains later (the.OffsetFetchReply (caller_with client k) code.NoError offset)
      → Contains sent (the.OffsetFetchReply (caller_with client k) code.NoError offset)
      ⊎ ((group : List ℕ) × (q : ℕ) × (stable : Bool)
      × Contains sent (the.OffsetFetch (caller_with client k) group q stable)
      × (code.NoError ≡ (offset_fetch log group q stable).code)
      × (offset ≡ (offset_fetch log group q stable).offset))
  pub refusals : (caller : Caller) (x : ErrorCode) → Contains later (the.OffsetsReply caller x)
      → Contains sent (the.OffsetsReply caller x)
      ⊎ ((n : TxnOffsetCommit) × Contains sent (msg.TxnOffsetCommit n) × (n.caller ≡ caller)
      × AsRefused x (Between log grown n))

pub as_refused : {A B : Type 0} (x : ErrorCode) → (A → B) → AsRefused x A → AsRefused x B
as_refused code.IllegalGeneration f a = f a
as_refused code.UnknownMemberId f a = f a
as_refused x f a = tt

-- equal messages hold equal requests
abbrev fetch_in : OffsetFetch → Message → OffsetFetch
fetch_in other (msg.OffsetFetch it) = it
fetch_in other m = other

-- an answer without error says that none is pending, and which offset was committed
stable_tells : (log : List Entry) (group : List ℕ) (q : ℕ) (offset : ℤ)
    → code.NoError ≡ (offset_fetch log group q true).code
    → offset ≡ (offset_fetch log group q true).offset
    → (is_pending log group q ≡ false) × (offset ≡ marked_offset log group q)
stable_tells log group q offset e f = by (is_pending log group q) refl e f
  where
    answer : ℤ → OffsetAnswer
    answer x = record { code = code.NoError; offset = x }

    unstable : OffsetAnswer
    unstable = record { code = code.UnstableOffsetCommit; offset = negsuc 0 }

    by : (b : Bool) → is_pending log group q ≡ b
        → code.NoError ≡ (cond b unstable (answer (marked_offset log group q))).code
        → offset ≡ (cond b unstable (answer (marked_offset log group q))).offset
        → (is_pending log group q ≡ false) × (offset ≡ marked_offset log group q)
    by true b e f = absurd cc
    by false b e f = (b, f)

module _ (sent later : List Message) (log grown : List Entry) (c : Client) (p : Processing)
    (o : Onward sent later log grown c.number) (k : Knows sent c) where
  abbrev me : Self
  me = self_of c p

  old_commit : (it : TxnOffsetCommit) → IsCommitOf later grown me it → IsCommitOf sent log me it
  old_commit it (there, client) = (
    ⊎_elim (λ old. old) (λ new. o.back (msg.TxnOffsetCommit it) new (ap Some client))
        (Contains-append_cases sent o.messages (msg.TxnOffsetCommit it)
        (subst (λ l. Contains l (msg.TxnOffsetCommit it)) o.whole there)),
    client,
  )

  unheld_on : Unheld sent log me → Unheld later grown me
  unheld_on u it its held = u it (old_commit it its) held

  settled_on : (read : List Entry) → AllSettled sent log me read → AllSettled later grown me read
  settled_on read s it its = s it (old_commit it its)

  settled_there : AllSettled sent log me log → AllSettled later grown me grown
  settled_there s it its =
      subst (λ l. Settled l it) (sym o.longer)
      (settled_later log o.more it (s it (old_commit it its)))

  placed_on : (inputs : List ℕ) → Placed sent log me inputs → Placed later grown me inputs
  placed_on inputs h = record {
    joined = h.joined;
    behind = h.behind ++ o.more;
    parts = o.longer ∙ ap (λ l. l ++ o.more) h.parts ∙ append_assoc h.joined h.behind o.more;
    place = h.place;
    is = h.is;
    of_group = h.of_group;
    named = h.named;
    owned = h.owned;
  }

  read_on : (joined : List Entry) (q : ℕ) (offset : ℤ) → HasRead sent log me joined q offset
      → HasRead later grown me joined q offset
  read_on joined q offset h = record {
    since = h.since;
    behind = h.behind ++ o.more;
    parts = o.longer ∙ ap (λ l. l ++ o.more) h.parts
        ∙ append_assoc (joined ++ h.since) h.behind o.more;
    none_pending = h.none_pending;
    offset_is = h.offset_is;
    settled = settled_on (joined ++ h.since) h.settled;
  }

  last_on : (n : ℕ) → last_fetch later c.number n ≡ last_fetch sent c.number n
  last_on n =
      ap (λ l. last_fetch l c.number n) o.whole
      ∙ last_same sent o.messages c.number n (λ m there. by m there)
    where
      by : (m : Message) → Contains o.messages m
          → IsNoFetch c.number n m ⊎ Contains sent m
      by (msg.Fetch it) there = at (it.caller.client == c.number) refl
        where
          at : (b : Bool) → (it.caller.client == c.number) ≡ b
              → IsNoFetch c.number n (msg.Fetch it) ⊎ Contains sent (msg.Fetch it)
          at true e =
              inr (o.back (msg.Fetch it) there (ap Some (grind (arith, nat_tests, e))))
          at false e = inl (ap (λ b. b && nat_lt it.caller.correlation n) e)
      by m there = inl tt

  locating_on : (q : ℕ) (left : List ℕ) → IsLocating sent log me q left
      → IsLocating later grown me q left
  locating_on q left h = record {
    placed = placed_on (q ∷ left) h.placed;
    unheld = unheld_on h.unheld;
    settled = settled_there h.settled;
  }

  fetching_on : (q : ℕ) (left : List ℕ) (offset : ℤ) → IsFetching sent log me q left offset
      → IsFetching later grown me q left offset
  unfolding placed_on
  fetching_on q left offset h = record {
    placed = placed_on (q ∷ left) h.placed;
    read = read_on h.placed.joined q offset h.read;
    unheld = unheld_on h.unheld;
  }

  writing_on : (q : ℕ) (left : List ℕ) (next : ℤ) → IsWriting sent log me q left next
      → IsWriting later grown me q left next
  unfolding placed_on
  writing_on q left next h = record {
    placed = placed_on (q ∷ left) h.placed;
    offset = h.offset;
    read = read_on h.placed.joined q h.offset h.read;
    unheld = unheld_on h.unheld;
    last = ap from_of (last_on c.correlation) ∙ h.last;
    grows = h.grows;
  }

  ending_on : (left : List ℕ) → IsEnding sent log me left → IsEnding later grown me left
  ending_on left h =
      record { placed = placed_on left h.placed; settled = settled_there h.settled }

  pub ready_on : (stage : Stage) → Ready sent log me stage → Ready later grown me stage
  ready_on Joining h = (unheld_on h.0, settled_there h.1)
  ready_on (Locating q left) h = locating_on q left h
  ready_on (Fetching q left offset) h = fetching_on q left offset h
  ready_on (Writing q left next batches) h = writing_on q left next h
  ready_on (Committing left) h = ending_on left h
  ready_on (Aborting sequel) h = settled_there h
  ready_on Overflown h = tt
  ready_on Stopped h = tt

  ------ what it waits for

  abbrev IsOwn : Message → Type 0
  IsOwn m = Contains sent m × (sender m ≡ Some c.number)

  -- an answer that comes now says what the log is
  located_on : (n q : ℕ) (left : List ℕ) (ready : IsLocating sent log me q left)
      → IsOwn (the.OffsetFetch (caller_with c.number n) p.group q true)
      → ((offset : ℤ)
      → Contains sent (the.OffsetFetchReply (caller_with c.number n) code.NoError offset)
      → HasRead sent log me ready.placed.joined q offset) → (offset : ℤ)
      → Contains later (the.OffsetFetchReply (caller_with c.number n) code.NoError offset)
      → HasRead later grown me ready.placed.joined q offset
  located_on n q left ready own says offset there =
      ⊎_elim (λ old. read_on ready.placed.joined q offset (says offset old))
      (λ new. now new.0 new.1 new.2 new.3 new.4 new.5) (o.located n offset there)
    where
      now : (group : List ℕ) (r : ℕ) (stable : Bool)
          → Contains sent (the.OffsetFetch (caller_with c.number n) group r stable)
          → code.NoError ≡ (offset_fetch log group r stable).code
          → offset ≡ (offset_fetch log group r stable).offset
          → HasRead later grown me ready.placed.joined q offset
      now group r stable asked e f =
          let same = k.distinct (the.OffsetFetch (caller_with c.number n) group r stable)
          (the.OffsetFetch (caller_with c.number n) p.group q true) (asked, refl) own refl in
          let held : OffsetFetch = record {
            caller = caller_with c.number n;
            group = p.group;
            partition = q;
            stable = true;
          } in
          let a : group ≡ p.group = ap (λ m. (fetch_in held m).group) same in
          let b : r ≡ q = ap (λ m. (fetch_in held m).partition) same in
          let d : stable ≡ true = ap (λ m. (fetch_in held m).stable) same in
          let answer = λ (g : List ℕ) (i : ℕ) (s : Bool). offset_fetch log g i s in
          let all : answer group r stable ≡ answer p.group q true =
          λ i. answer (a i) (b i) (d i) in
          let t = stable_tells log p.group q offset
          (e ∙ ap (λ (x : OffsetAnswer). x.code) all)
          (f ∙ ap (λ (x : OffsetAnswer). x.offset) all) in
          let whole = ready.placed.parts in
          record {
            since = ready.placed.behind;
            behind = o.more;
            parts = o.longer ∙ ap (λ l. l ++ o.more) whole;
            none_pending = ap (λ l. is_pending l p.group q) (sym whole) ∙ t.0;
            offset_is = t.1 ∙ ap (λ l. marked_offset l p.group q) whole;
            settled = settled_on (ready.placed.joined ++ ready.placed.behind)
                (subst (AllSettled sent log me) whole ready.settled);
          }

  out_on : (it : TxnOffsetCommit) → IsOwn (msg.TxnOffsetCommit it) → IsOut sent log me it
      → IsOut later grown me it
  out_on it own h = record {
    named = h.named;
    is = h.is;
    reached = subst (λ l. h.named ≤ generation l it.group) (sym o.longer)
        (omega (arith, h.reached, generation_grows log o.more it.group));
    refusals = λ x there.
        ⊎_elim (λ old. as_refused x (λ s. subst (λ l. Settled l it) (sym o.longer)
        (settled_later log o.more it s)) (h.refusals x old))
        (λ new. as_refused x (now new.0 new.1 new.2) new.3) (o.refusals it.caller x there);
  }
    where
      now : (n : TxnOffsetCommit) → Contains sent (msg.TxnOffsetCommit n) → n.caller ≡ it.caller
          → Between log grown n → Settled grown it
      now n asked caller b =
          let its = own.1 in
          let one = k.distinct (msg.TxnOffsetCommit n) (msg.TxnOffsetCommit it)
          (asked, ap (λ (x : Caller). Some x.client) caller ∙ its) own
          (ap (λ (x : Caller). x.correlation) caller) in
          let same : n ≡ it = cc in
          refused b.judged b.behind h.named b.to h.is
          (subst (λ l. h.named ≤ generation l it.group) (sym b.from)
          (omega (arith, h.reached, generation_grows log b.since it.group)))
          (ap (accepts b.judged it.group it.member) (sym h.is)
          ∙ ap (λ (x : TxnOffsetCommit). accepts b.judged x.group x.member x.generation) (sym same)
          ∙ b.refuses)

  waits_on : (stage : Stage) (m : Message) → IsOwn m → Waits sent log me stage m
      → Waits later grown me stage m
  unfolding locating_on placed_on
  waits_on stage m own (for_id s n e ready) = for_id s n e (ready_on s ready)
  waits_on stage m own (to_join n ready) = to_join n (ready_on Joining ready)
  waits_on stage m own (to_locate n q left ready says) =
      to_locate n q left (locating_on q left ready) (located_on n q left ready own says)
  waits_on stage m own (to_fetch q left offset it ready last from) =
      to_fetch q left offset it (fetching_on q left offset ready)
      (last_on c.correlation ∙ last) from
  waits_on stage m own (to_write q left next values rest it ready) =
      to_write q left next values rest it (writing_on q left next ready)
  waits_on stage m own (to_commit q left next it placed others out) =
      to_commit q left next it (placed_on left placed)
      (λ n its. ⊎_elim inl (λ s. inr (subst (λ l. Settled l n) (sym o.longer)
      (settled_later log o.more n s))) (others n (old_commit n its))) (out_on it own out)
  waits_on stage m own (to_end left it ready) = to_end left it (ending_on left ready)
  waits_on stage m own (to_abort sequel it s) = to_abort sequel it (settled_there s)

  own_waiting : (m : Message) → c.waiting ≡ m ∷ [] → IsOwn m
  own_waiting m e =
      (All-contains (IsAwaited sent c) c.waiting m k.waiting
      (subst (λ l. Contains l m) (sym e) (contains_head m []))).its

  at_on : (stage : Stage) (waiting : List Message) → c.waiting ≡ waiting
      → At sent log me stage waiting → At later grown me stage waiting
  at_on stage waiting same (idle e ready) = idle e (ready_on stage ready)
  at_on stage waiting same (waits m e some w) =
      waits m e some (waits_on stage m (own_waiting m (same ∙ e)) w)

  -- what others do leaves it as it was
  pub works_on : Works sent log c p → Works later grown c p
  works_on h = record {
    joins = λ n g there. h.joins n g (⊎_elim (λ old. old)
        (λ new. o.back (the.Join (caller_with c.number n) g) new refl)
        (Contains-append_cases sent o.messages (the.Join (caller_with c.number n) g)
        (subst (λ l. Contains l (the.Join (caller_with c.number n) g)) o.whole there)));
    group = h.group;
    at = λ f. at_on p.stage c.waiting refl (h.at f);
  }
