-- A command keeps what stands of its client's requests.
use Rattle.std.proofs.Common.{◌≡◌, ◌⊎◌, ◌+◌, ◌<◌, ◌≤◌, ◌==◌, ◌||◌, not, ℕ, pos, Bool, true, false}
use Rattle.std.proofs.Common.{cond, List, [], ◌∷◌, ◌++◌, length, filter, nat_lt, Option, Some, None}
use Rattle.std.proofs.Common.{Contains, All, refl, sym, ap, ◌∙◌, subst, arith, inl, inr, ⊎_elim}
use Rattle.std.proofs.Common.{is_some, is_none, append-nil}
use Rattle.std.specs.List.{list_any}
use Rattle.std.proofs.lemmas.Bool.{cond_both, or_parts}
use Rattle.std.proofs.lemmas.Bool.Decides.{nat_tests}
use Rattle.std.proofs.lemmas.List.Elements.{All-contains, All-nil, Contains-append_cases}
use Rattle.std.proofs.lemmas.List.Elements.{Contains-append_left, Contains-push_cases}
use Rattle.kx_model.specs.Client.{caller_of}
use Rattle.kx_message.specs.Ranges.{offsets_partition}
use Rattle.kx_message.specs.declared.message.Held.{Held}
use Rattle.kx_message.specs.declared.message.Message.{Message}
use Rattle.kx_message.specs.declared.message.Message.TheVariants as msg
use Rattle.kx_message.specs.Messages as the
use Rattle.kx_message.specs.declared.outcome.Outcome.{Outcome}
use Rattle.kx_message.specs.declared.outcome.Outcome.TheVariants.{Abort, Commit}
use Rattle.kx_message.specs.declared.payload.PartitionOffset.{PartitionOffset}
use Rattle.kx_model.specs.Client.{Begin, Client, Command, Commanded, Declines, Does, End}
use Rattle.kx_model.specs.Client.{Fault, FetchOffset, FetchPage, Init, Poll, page_room}
use Rattle.kx_model.specs.Client.{JoinGroup, LeaveGroup, Place, Resend, Send, SendOffsets, Sequence}
use Rattle.kx_model.specs.Client.{asks, client_batch, command, does, is_end, is_ending, is_init}
use Rattle.kx_model.specs.Client.{leaves, refusals, sending, sends, sends_end, sends_offsets}
use Rattle.kx_model.specs.Client.{sequence_of, unless, value_records, with_sequence}
use Rattle.kx_model.specs.Replies.{correlation_of}
use Rattle.kx_headline.proofs.Codes.{end_of}
use Rattle.kx_headline.proofs.ClientAsks as ask
use Rattle.kx_headline.proofs.ClientAsks.{Asks, asked, knows_later}
use Rattle.kx_headline.proofs.ClientRequests.{Answered, Carries, HasEnded, HeldFits}
use Rattle.kx_headline.proofs.ClientRequests.{IsIts, Knows, Load}
use Rattle.kx_headline.proofs.ClientRequests.{IsAwaited, is_batch, is_offsets, sender}
use Rattle.kx_headline.proofs.ClientRequests.{with_batch, with_offsets}
use Rattle.kx_laws.proofs.Lists.{All-from_contains}
use Rattle.kx_laws.proofs.Membership.{filter_holds, no_element}

------ the checks of a command

-- none of the checks is against it
abbrev pub Passed : List (Bool × Fault) → Type 0
Passed [] = Unit {0}
Passed (check ∷ checks) = (check.0 ≡ false) × Passed checks

pub passes : (checks : List (Bool × Fault)) (done : Commanded) (after : Client)
    (messages : List Message) → unless checks done ≡ Does after messages
    → Passed checks × (done ≡ Does after messages)
passes [] done after messages e = (tt, e)
passes (check ∷ checks) done after messages e =
    by check.0 refl e (passes checks done after messages)
  where
    by : (b : Bool) → check.0 ≡ b → cond b (Declines check.1) (unless checks done)
        ≡ Does after messages
        → (unless checks done ≡ Does after messages
        → Passed checks × (done ≡ Does after messages))
        → Passed (check ∷ checks) × (done ≡ Does after messages)
    by true f e more = absurd cc
    by false f e more = let rest = more e in ((f, rest.0), rest.1)

pub nothing_waits : {A : Type 0} (l : List A) → nat_lt 0 (length l) ≡ false → l ≡ []
nothing_waits [] e = refl
nothing_waits (x ∷ l) e = let some : 0 < length (x ∷ l) = omega arith in
    absurd (grind (arith, nat_tests))

------ sequences

sequence_with : (ss : List Sequence) (p n q : ℕ)
    → sequence_of (with_sequence ss p n) q ≡ cond (p == q) n (sequence_of ss q)
sequence_with [] p n q = refl
sequence_with (s ∷ ss) p n q = at (s.partition == p) refl (sequence_with ss p n q)
  where
    at : (b : Bool) → (s.partition == p) ≡ b
        → sequence_of (with_sequence ss p n) q ≡ cond (p == q) n (sequence_of ss q)
        → sequence_of (cond b (record { partition = p; next = n } ∷ ss)
        (s ∷ with_sequence ss p n)) q
        ≡ cond (p == q) n (cond (s.partition == q) s.next (sequence_of ss q))
    at true e more =
        let same : s.partition ≡ p = grind (arith, nat_tests) in
        other (p == q) (ap (λ x. x == q) same)
      where
        other : (b : Bool) → (s.partition == q) ≡ b
            → cond b n (sequence_of ss q)
            ≡ cond b n (cond (s.partition == q) s.next (sequence_of ss q))
        other true e = refl
        other false e = sym (ap (λ b. cond b s.next (sequence_of ss q)) e)
    at false e more = behind (s.partition == q) (p == q) refl refl
      where
        behind : (b d : Bool) → (s.partition == q) ≡ b → (p == q) ≡ d
            → cond b s.next (sequence_of (with_sequence ss p n) q)
            ≡ cond d n (cond b s.next (sequence_of ss q))
        behind true true f g = absurd (grind (arith, nat_tests))
        behind true false f g = refl
        behind false d f g = more ∙ ap (λ b. cond b n (sequence_of ss q)) g

sequence_grows : (ss : List Sequence) (p more q : ℕ)
    → sequence_of ss q ≤ sequence_of (with_sequence ss p (sequence_of ss p + more)) q
sequence_grows ss p more q =
    subst (λ n. sequence_of ss q ≤ n)
    (sym (sequence_with ss p (sequence_of ss p + more) q)) (at (p == q) refl)
  where
    at : (b : Bool) → (p == q) ≡ b
        → sequence_of ss q ≤ cond b (sequence_of ss p + more) (sequence_of ss q)
    at true e =
        let same : p ≡ q = grind (arith, nat_tests) in
        let is = ap (sequence_of ss) same in
        omega (arith, is)
    at false e = omega arith

sequence_now : (ss : List Sequence) (p n : ℕ) → sequence_of (with_sequence ss p n) p ≡ n
sequence_now ss p n =
    let same : (p == p) ≡ true = grind (arith, nat_tests) in
    sequence_with ss p n p ∙ ap (λ b. cond b n (sequence_of ss p)) same

------ what a command leaves

-- a message that goes out carries no batch, or one of the pair that its client holds
abbrev pub Makes : Client → Message → Type 0
Makes c (msg.Produce it) =
    (l : Load) × Carries (msg.Produce it) l
    × (c.held ≡ Some l.held)
Makes c (msg.TxnOffsetCommit it) =
    (l : Load) × Carries
    (msg.TxnOffsetCommit it) l
    × (c.held ≡ Some l.held)
Makes c m = Unit {0}

-- given all messages before, of a client that takes its turn
module _ (sent : List Message) (c : Client) where
  -- what it is after it, and what it handed out: old messages again, or new requests of its own
  pub record Moved (after : Client) (messages : List Message) : Type 0 where
    pub number : after.number ≡ c.number
    pub knows : Knows (sent ++ messages) after
    pub out : (m : Message) → Contains messages m
        → IsIts sent c m ⊎ ((sender m ≡ Some c.number) × Makes c m)

  -- what a command does, unless it is declined
  data Goes : Commanded → Type 0 where
    declined : (fault : Fault) → Goes (Declines fault)
    goes : (after : Client) (messages : List Message) → Moved after messages
        → Goes (Does after messages)

module _ (sent : List Message) (c : Client) (k : Knows sent c)
    (fits : (held : Held) → c.held ≡ Some held → HeldFits held)
    (one_load : (m : Message) (l j : Load) → Carries m l → Carries m j → l ≡ j) where
  asks_goes : (b : Client) (m : Message) → Asks sent c k b m → Makes c m → Goes sent c (asks b m)
  asks_goes b m a makes = goes (ask.after sent c k b m) (m ∷ []) (record {
    number = a.number;
    knows = asked sent c k b m a;
    out = λ x there.
        ⊎_elim (λ none. absurd (no_element x none))
        (λ e. inr (subst (λ y. (sender y ≡ Some c.number) × Makes c y) e (a.its_sender, makes)))
        (Contains-push_cases [] m x there);
  })

  -- old messages again
  repeats : (messages : List Message) → ((m : Message) → Contains messages m → IsIts sent c m)
      → Goes sent c (Does c messages)
  repeats messages old = goes c messages (record {
    number = refl;
    knows = knows_later sent (sent ++ messages) c
        (λ x there. Contains-append_left sent messages x there)
        (λ x its. ⊎_elim (λ there. there) (λ again. (old x again).0)
        (Contains-append_cases sent messages x its.0)) k;
    out = λ m there. inl (old m there);
  })

  waited : (m : Message) → Contains c.waiting m → IsIts sent c m
  waited m there = (All-contains (IsAwaited sent c) c.waiting m k.waiting there).its

  -- nothing goes out
  quietly : (after : Client) → after.number ≡ c.number → Knows sent after
      → Goes sent c (Does after [])
  quietly after n h = goes after [] (record {
    number = n;
    knows = subst (λ l. Knows l after) (sym (append-nil sent)) h;
    out = λ m there. absurd (no_element m there);
  })

  -- a request that carries no batch and ends nothing
  plain : (b : Client) (m : Message) → b.number ≡ c.number → b.held ≡ c.held
      → b.correlation ≡ c.correlation → c.failed ≡ false → b.must_abort ≡ c.must_abort
      → b.in_transaction ≡ c.in_transaction → b.sequences ≡ c.sequences → b.waiting ≡ c.waiting
      → sender m ≡ Some c.number → correlation_of m ≡ c.correlation
      → ((l : Load) → Carries m l → ⊥) → is_end m ≡ false → is_batch m ≡ false
      → is_offsets m ≡ false
      → (is_init m ≡ true → (c.held ≡ None) × (list_any is_init c.waiting ≡ false))
      → Asks sent c k b m
  plain b m number held correlation works aborting inside sequences waiting s n none not_end
      not_batch not_offsets init = record {
        number = number;
        held = held;
        correlation = correlation;
        works = works;
        aborting = aborting;
        inside = inside;
        its_sender = s;
        its_number = n;
        sequences = λ q. let same = ap (λ l. sequence_of l q) sequences in omega (arith, same);
        waiting = λ x there. subst (λ l. Contains l x) waiting there;
        kept = inl waiting;
        load = λ l carries. absurd (none l carries);
        batch = λ e. absurd (let no = sym e ∙ not_batch in cc);
        offsets = λ e. absurd (let no = sym e ∙ not_offsets in cc);
        ending = λ i txn h outcome e. absurd (let no = sym not_end ∙ ap is_end e in cc);
        init = init;
      }

  -- a batch goes out
  carrying : (partition more : ℕ) (m : Message) (held : Held) → c.held ≡ Some held
      → c.failed ≡ false → list_any is_end c.waiting ≡ false → 1 ≤ more
      → sender m ≡ Some c.number → correlation_of m ≡ c.correlation
      → Carries m (record {
        partition = partition;
        held = held;
        first = sequence_of c.sequences partition;
      })
      → is_end m ≡ false → is_init m ≡ false → (is_offsets m ≡ true → c.in_transaction ≡ true)
      → Asks sent c k (sending c partition more) m
  carrying partition more m held there works none some s n carries not_end not_init inside =
      record {
        number = refl;
        held = refl;
        correlation = refl;
        works = works;
        aborting = refl;
        inside = refl;
        its_sender = s;
        its_number = n;
        sequences = sequence_grows c.sequences partition more;
        waiting = λ x w. w;
        kept = inl refl;
        load = λ l other. subst Loads (one_load m own l carries other) own_loads;
        batch = λ e. (not_end, none);
        offsets = inside;
        ending = λ i txn h outcome e. absurd (let no = sym not_end ∙ ap is_end e in cc);
        init = λ e. absurd (let no = sym e ∙ not_init in cc);
      }
    where
      own : Load
      own = record {
        partition = partition;
        held = held;
        first = sequence_of c.sequences partition;
      }

      Loads : Load → Type 0
      Loads l = (c.held ≡ Some l.held) × (l.first ≡ sequence_of c.sequences l.partition)
          × (l.first < sequence_of (sending c partition more).sequences l.partition)

      own_loads : Loads own
      own_loads =
          let now = sequence_now c.sequences partition
          (sequence_of c.sequences partition + more) in
          (there, refl, omega (arith, now, some))

  ------ each command

  sends_goes : (partition : ℕ) (value : List ℕ) (more : List (List ℕ)) (held : Option Held)
      → c.held ≡ held → Passed (refusals c (Send partition value more))
      → Goes sent c (sends c partition (value_records (value ∷ more)) held)
  sends_goes partition value more None there passed = declined _
  sends_goes partition value more (Some held) there passed =
      let records = value_records (value ∷ more) in
      let first = sequence_of c.sequences partition in
      let m = the.Produce (caller_of c) c.txn partition
      (client_batch (is_some c.txn) held first records) in
      let ready = or_parts (is_none c.held || is_ending c) _ passed.1.0 in
      let none = (or_parts (is_none c.held) (is_ending c) ready.0).1 in
      let used = (or_parts _ (nat_lt (2147483647 + 1) (first + length (value ∷ more)))
      passed.1.1.1.1.0).1 in
      let low : first < 2147483648 = grind (arith, nat_tests) in
      let carries = with_batch (caller_of c) c.txn partition (is_some c.txn) held first
      records (fits held there) low in
      asks_goes (sending c partition (length records)) m
      (carrying partition (length records) m held there passed.0 none (omega arith) refl refl
      carries refl refl (λ e. absurd cc))
      (record { partition = partition; held = held; first = first }, carries, there)

  offsets_go : (offset : PartitionOffset) (more : List PartitionOffset) (txn : Option (List ℕ))
      (held : Option Held) (place : Option Place) → c.held ≡ held
      → Passed (refusals c (SendOffsets offset more))
      → Goes sent c (sends_offsets c (offset ∷ more) txn held place)
  offsets_go offset more None held place there passed = declined _
  offsets_go offset more (Some txn) None place there passed = declined _
  offsets_go offset more (Some txn) (Some held) None there passed = declined _
  offsets_go offset more (Some txn) (Some held) (Some place) there passed =
      let first = sequence_of c.sequences offsets_partition in
      let m = the.TxnOffsetCommit (caller_of c) txn place.group c.number place.generation
      held (pos first) (offset ∷ more) in
      let ready = or_parts (not c.in_transaction || is_none c.held || is_ending c) _
      passed.1.1.0 in
      let inside = or_parts (not c.in_transaction || is_none c.held) (is_ending c) ready.0 in
      let going : c.in_transaction ≡ true =
      is_on c.in_transaction (or_parts (not c.in_transaction) (is_none c.held) inside.0).0 in
      let used = (or_parts _ (nat_lt (2147483647 + 1) (first + length (offset ∷ more)))
      passed.1.1.1.1.1.0).1 in
      let low : first < 2147483648 = grind (arith, nat_tests) in
      let carries = with_offsets (caller_of c) txn place.group c.number place.generation
      held first (offset ∷ more) (fits held there) low in
      asks_goes (sending c offsets_partition (length (offset ∷ more))) m
      (carrying offsets_partition (length (offset ∷ more)) m held there passed.0 inside.1
      (omega arith) refl refl carries refl refl (λ e. going))
      (record { partition = offsets_partition; held = held; first = first }, carries, there)
    where
      is_on : (b : Bool) → not b ≡ false → b ≡ true
      is_on true e = refl
      is_on false e = absurd cc

  -- an EndTxn that goes out, with what waits then
  ending : (b : Client) (txn : List ℕ) (held : Held) (outcome : Outcome) → c.held ≡ Some held
      → b.number ≡ c.number → b.held ≡ c.held → b.correlation ≡ c.correlation
      → b.must_abort ≡ c.must_abort → b.in_transaction ≡ c.in_transaction
      → b.sequences ≡ c.sequences → b.waiting ≡ [] → c.failed ≡ false
      → (outcome ≡ Commit → (x : Message) (l : Load) → IsIts sent c x → Carries x l
      → l.held ≡ held → Answered sent x)
      → Asks sent c k b (the.EndTxn (caller_of c) txn held outcome)
  ending b txn held outcome there number same correlation aborting inside sequences empty works
      answered = record {
        number = number;
        held = same;
        correlation = correlation;
        works = works;
        aborting = aborting;
        inside = inside;
        its_sender = refl;
        its_number = refl;
        sequences = λ q. let is = ap (λ l. sequence_of l q) sequences in omega (arith, is);
        waiting = λ x w. absurd (no_element x (subst (λ l. Contains l x) empty w));
        kept = inr refl;
        load = λ l carries. absurd (ask.no_end
            (the.EndTxn (caller_of c) txn held outcome) l carries refl);
        batch = λ e. absurd cc;
        offsets = λ e. absurd cc;
        ending = λ i t h o e.
            let it = ap (end_of (record {
              caller = caller_of c;
              txn = txn;
              held = held;
              outcome = outcome;
            })) e in
            let pair : held ≡ h = ap (λ x. x.held) it in
            let so : outcome ≡ o = ap (λ x. x.outcome) it in (
              there ∙ ap Some pair,
              empty,
              λ commit x l its carries eq. answered (so ∙ commit) x l its carries (eq ∙ sym pair),
            );
        init = λ e. absurd cc;
      }

  -- what was sent of the pair is answered if nothing waits
  all_answered : (held : Held) → c.held ≡ Some held → c.failed ≡ false → c.must_abort ≡ false
      → list_any is_end c.waiting ≡ false → c.waiting ≡ [] → (x : Message) (l : Load)
      → IsIts sent c x → Carries x l → l.held ≡ held → Answered sent x
  all_answered held there works going none empty x l its carries same =
      ⊎_elim (λ waits. absurd (no_element x (subst (λ m. Contains m x) empty waits))) (λ a. a)
      (k.answered works going (λ h. let no = sym none ∙ k.ended works h in cc) x l its carries
      (there ∙ ap Some (sym same)))

  ends_go : (outcome : Outcome) (txn : Option (List ℕ)) (held : Option Held) → c.held ≡ held
      → Passed (refusals c (End outcome)) → Goes sent c (sends_end c outcome txn held)
  ends_go Commit None held there passed = declined _
  ends_go Commit (Some txn) None there passed = declined _
  ends_go Abort None held there passed = declined _
  ends_go Abort (Some txn) None there passed = declined _
  ends_go Abort (Some txn) (Some held) there passed =
      asks_goes (record c { waiting = [] }) (the.EndTxn (caller_of c) txn held Abort)
      (ending (record c { waiting = [] }) txn held Abort there refl refl refl refl refl refl refl
      passed.0 (λ e. absurd cc)) tt
  ends_go Commit (Some txn) (Some held) there passed =
      let none = (or_parts (not c.in_transaction || is_none c.held) (is_ending c)
      passed.1.1.0).1 in
      let going : c.must_abort ≡ false = passed.1.1.1.0 in
      let empty = nothing_waits c.waiting passed.1.1.1.1.0 in
      cond_both c.sent_some (asks c (the.EndTxn (caller_of c) txn held Commit))
      (Does (record c { in_transaction = false }) []) (Goes sent c)
      (λ e. asks_goes c (the.EndTxn (caller_of c) txn held Commit)
      (ending c txn held Commit there refl refl refl refl refl refl empty passed.0
      (λ commit. all_answered held there passed.0 going none empty)) tt)
      (λ e. quietly (record c { in_transaction = false }) refl (record {
        numbered = k.numbered;
        distinct = k.distinct;
        within = k.within;
        ends_within = k.ends_within;
        behind = k.behind;
        once = k.once;
        waiting = subst (λ l. All (IsAwaited sent (record c { in_transaction = false })) l)
            (sym empty) (All-nil (IsAwaited sent (record c { in_transaction = false })));
        beside = k.beside;
        asking = k.asking;
        asks_once = k.asks_once;
        offsets_inside = λ m w is. absurd (no_element m (subst (λ l. Contains l m) empty w));
        aborting = λ e. absurd (let no = sym going ∙ e in cc);
        answered = λ f a none' m l its carries h.
            k.answered f a (λ x. none' (as_ended x)) m l its carries h;
        ended = λ f h. k.ended f (of_ended h);
        committed = k.committed;
      }))
    where
      as_ended : HasEnded sent c → HasEnded sent (record c { in_transaction = false })
      as_ended x = record {
        correlation = x.correlation;
        txn = x.txn;
        held = x.held;
        outcome = x.outcome;
        there = x.there;
        present = x.present;
      }

      of_ended : HasEnded sent (record c { in_transaction = false }) → HasEnded sent c
      of_ended x = record {
        correlation = x.correlation;
        txn = x.txn;
        held = x.held;
        outcome = x.outcome;
        there = x.there;
        present = x.present;
      }

  leaves_go : (place : Option Place) → Passed (refusals c LeaveGroup) → Goes sent c (leaves c place)
  leaves_go None passed = declined _
  leaves_go (Some place) passed =
      asks_goes c (the.Leave (caller_of c) place.group)
      (plain c (the.Leave (caller_of c) place.group) refl refl refl passed.0 refl refl
      refl refl refl refl (λ l carries. elim carries [ ]) refl refl refl (λ e. absurd cc)) tt

  none_held : (o : Option Held) → is_some o ≡ false → o ≡ None
  none_held None e = refl
  none_held (Some held) e = absurd cc

  begins : Passed (refusals c Begin) → Goes sent c (does c Begin)
  begins passed =
      let after : Client =
      record c { in_transaction = true; sent_some = false; must_abort = false } in
      let outside = or_parts (is_none c.held || c.in_transaction) (is_ending c) passed.1.1.0 in
      let not_in = (or_parts (is_none c.held) c.in_transaction outside.0).1 in
      quietly after refl (record {
        numbered = k.numbered;
        distinct = k.distinct;
        within = k.within;
        ends_within = k.ends_within;
        behind = k.behind;
        once = k.once;
        waiting = All-from_contains (IsAwaited sent after) c.waiting (λ x w.
            let a = All-contains (IsAwaited sent c) c.waiting x k.waiting w in
            record { its = a.its; load = a.load; ends = a.ends });
        beside = k.beside;
        asking = k.asking;
        asks_once = k.asks_once;
        offsets_inside = λ m w is. refl;
        aborting = λ e. absurd cc;
        answered = λ f a none m l its carries h.
            k.answered f (not_aborting c.must_abort refl not_in) (λ x. none (record {
              correlation = x.correlation;
              txn = x.txn;
              held = x.held;
              outcome = x.outcome;
              there = x.there;
              present = x.present;
            })) m l its carries h;
        ended = λ f x. k.ended f (record {
          correlation = x.correlation;
          txn = x.txn;
          held = x.held;
          outcome = x.outcome;
          there = x.there;
          present = x.present;
        });
        committed = k.committed;
      })
    where
      not_aborting : (b : Bool) → c.must_abort ≡ b → c.in_transaction ≡ false
          → c.must_abort ≡ false
      not_aborting false e f = e
      not_aborting true e f = absurd (let no = sym f ∙ k.aborting e in cc)

  does_goes : (what : Command) → Passed (refusals c what) → Goes sent c (does c what)
  does_goes Init passed =
      let none = (or_parts (is_some c.held) (is_ending c) passed.1.0).0 in
      let m = the.InitProducerId (caller_of c) c.txn c.timeout in
      cond_both (list_any is_init c.waiting) (Does c (filter is_init c.waiting)) (asks c m)
      (Goes sent c)
      (λ e. repeats (filter is_init c.waiting)
      (λ x there. waited x (filter_holds is_init c.waiting x there).0))
      (λ e. asks_goes c m (plain c m refl refl refl passed.0 refl refl refl refl refl refl
      (λ l carries. elim carries [ ]) refl refl refl (λ is. (none_held c.held none, e))) tt)
  does_goes Begin passed = begins passed
  does_goes (Send partition value more) passed =
      sends_goes partition value more c.held refl passed
  does_goes (JoinGroup group) passed =
      let m = the.Join (caller_of c) group in
      asks_goes (record c { group = Some group }) m
      (plain (record c { group = Some group }) m refl refl refl passed.0 refl refl refl refl refl
      refl (λ l carries. elim carries [ ]) refl refl refl (λ e. absurd cc)) tt
  does_goes LeaveGroup passed = leaves_go c.place passed
  does_goes (SendOffsets offset more) passed =
      offsets_go offset more c.txn c.held c.place refl passed
  does_goes (End outcome) passed = ends_go outcome c.txn c.held refl passed
  does_goes Resend passed = repeats c.waiting waited
  does_goes Poll passed = declined _
  does_goes (FetchPage partition from) passed =
      let m = the.Fetch (caller_of c) partition (pos from) page_room true in
      asks_goes c m
      (plain c m refl refl refl passed.0 refl refl refl refl refl refl
      (λ l carries. elim carries [ ]) refl refl refl (λ e. absurd cc)) tt
  does_goes (FetchOffset group partition) passed =
      let m = the.OffsetFetch (caller_of c) group partition true in
      asks_goes c m
      (plain c m refl refl refl passed.0 refl refl refl refl refl refl
      (λ l carries. elim carries [ ]) refl refl refl (λ e. absurd cc)) tt

  -- a command that isn't declined
  pub command_moves : (what : Command) (after : Client) (messages : List Message)
      → command c what ≡ Does after messages → Moved sent c after messages
  unfolding command
  command_moves what after messages e =
      let p = passes (refusals c what) (does c what) after messages e in
      by (does c what) (does_goes what p.0) p.1
    where
      by : (done : Commanded) → Goes sent c done → done ≡ Does after messages
          → Moved sent c after messages
      by done (declined fault) f = absurd cc
      by done (goes d ms m) f =
          let same : d ≡ after = cc in
          let those : ms ≡ messages = cc in
          subst (λ x. Moved sent c x messages) same (subst (Moved sent c d) those m)
