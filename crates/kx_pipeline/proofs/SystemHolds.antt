-- Over every schedule of a system: what stands of each processor, and that its commits rest on what
-- it read.
use Rattle.std.proofs.Common.{◌≡◌, ◌⊎◌, ◌<◌, ◌≤◌, ℕ, Bool, true, false, ◌&&◌, cond, List, [], ◌∷◌}
use Rattle.std.proofs.Common.{◌++◌}
use Rattle.std.proofs.Common.{map, Option, Some, None, Contains, refl, sym, ap, ◌∙◌, subst, arith}
use Rattle.std.proofs.Common.{inl}
use Rattle.std.proofs.Common.{inr, ⊎_elim, ◌==◌, append_assoc, append-nil, nat_lt, slice_get}
use Rattle.std.specs.Prelude.{IfSome}
use Rattle.std.proofs.lemmas.Bool.{cond_both}
use Rattle.std.proofs.lemmas.Bool.Decides.{nat_tests}
use Rattle.std.proofs.lemmas.List.{map-append}
use Rattle.std.proofs.lemmas.List.Elements.{All-contains_itself}
use Rattle.std.proofs.lemmas.List.Elements.{Contains-append_cases, Contains-append_left}
use Rattle.std.proofs.lemmas.List.Elements.{Contains-push, Contains-push_cases}
use Rattle.kx_message.specs.Messages as the
use Rattle.kx_message.specs.Messages.{caller_with}
use Rattle.kx_message.specs.Ranges.{offsets_partition}
use Rattle.kx_message.specs.declared.message.Message.{Message}
use Rattle.kx_message.specs.declared.message.Message.TheVariants as msg
use Rattle.kx_message.specs.declared.requests.TxnOffsetCommit.{TxnOffsetCommit}
use Rattle.kx_model.specs.Client.{Client, new_client}
use Rattle.kx_model.specs.Log.{Entry}
use Rattle.kx_model.specs.Replies.{correlation_of}
use Rattle.kx_message.specs.declared.message.NodeId.{NodeId}
use Rattle.kx_message.specs.declared.message.NodeId.TheVariants as node
use Rattle.kx_model.specs.Step.{Input, Comes, Commands, Expires, Reminds, Drops, Puts, Restarts}
use Rattle.kx_model.specs.World.{Event, IsEvent, World, Make, Deliver, Hand, client_at, entries_at}
use Rattle.kx_model.specs.World.{is_new, step, with_client}
use Rattle.kx_headline.proofs.ClientHolds.{Handed}
use Rattle.kx_headline.proofs.ClientRequests.{sender}
use Rattle.kx_headline.proofs.EventDoes
use Rattle.kx_laws.proofs.Lists.{All-slice_get, list_all_tells}
use Rattle.kx_laws.proofs.Membership.{find_tells, map_holds, no_element}
use Rattle.kx_system.specs.Processor.{Images, Processing, new_processing, processor_step}
use Rattle.kx_system.specs.System.{Happens, IsSystemEvent, MakeProcessor, System, SystemEvent, Turn}
use Rattle.kx_system.specs.System.{happens, processing_at, system_step, turn_at, turn_delivered}
use Rattle.kx_system.specs.System.{turn_handed, turn_of, turn_with, with_processor}
use Rattle.kx_pipeline.specs.Chain.{from_of, last_fetch}
use Rattle.kx_pipeline.proofs.LastFetches.{IsNoFetch, last_same}
use Rattle.kx_pipeline.proofs.LinkedCommits.{Based}
use Rattle.kx_pipeline.proofs.ProcessorAsks.{Moved, NewCommit, Out, again, new}
use Rattle.kx_pipeline.proofs.ProcessorTurns.{Facts, IsThere, commit_handed, knows, one_holder}
use Rattle.kx_pipeline.proofs.ProcessorTurns.{turns}
use Rattle.kx_pipeline.proofs.ProcessorWorks.{Onward, Works, idle, works_on}
use Rattle.kx_pipeline.proofs.QuietTurns.{AreClients, IsNumbered, Quiet, QuietDoes, onward}
use Rattle.kx_pipeline.proofs.QuietTurns.{quiet_does}
use Rattle.kx_pipeline.proofs.QuietTurns.{new_number, numbers_stay, quiet_is, some_is, turn_is}
use Rattle.kx_pipeline.proofs.RepliesStand.{entries_grow}

------ a commit as more is sent

module _ (sent later : List Message) (log grown : List Entry) (messages : List Message)
    (whole : later ≡ sent ++ messages) (more : List Entry) (longer : grown ≡ log ++ more)
    (it : TxnOffsetCommit)
    -- a message of its client is an old one, or a later one
    (behind : (m : Message) → Contains messages m → sender m ≡ Some it.caller.client
    → Contains sent m ⊎ (it.caller.correlation ≤ correlation_of m)) where
  old_or_later : (m : Message) → Contains later m → sender m ≡ Some it.caller.client
      → Contains sent m ⊎ (it.caller.correlation ≤ correlation_of m)
  old_or_later m there own =
      ⊎_elim inl (λ new. behind m new own)
      (Contains-append_cases sent messages m (subst (λ l. Contains l m) whole there))

  same_last : last_fetch later it.caller.client it.caller.correlation
      ≡ last_fetch sent it.caller.client it.caller.correlation
  same_last =
      ap (λ l. last_fetch l it.caller.client it.caller.correlation) whole
      ∙ last_same sent messages it.caller.client it.caller.correlation (λ m there. by m there)
    where
      by : (m : Message) → Contains messages m
          → IsNoFetch it.caller.client it.caller.correlation m ⊎ Contains sent m
      by (msg.Fetch f) there = at (f.caller.client == it.caller.client) refl
        where
          at : (b : Bool) → (f.caller.client == it.caller.client) ≡ b
              → IsNoFetch it.caller.client it.caller.correlation (msg.Fetch f)
              ⊎ Contains sent (msg.Fetch f)
          at true e =
              let client : f.caller.client ≡ it.caller.client = grind (arith, nat_tests, e) in
              ⊎_elim inr
              (λ le. let high : nat_lt f.caller.correlation it.caller.correlation ≡ false =
              grind (arith, nat_tests, le) in
              inl (ap (λ b. b && nat_lt f.caller.correlation it.caller.correlation) e ∙ high))
              (behind (msg.Fetch f) there (ap Some client))
          at false e = inl (ap (λ b. b && nat_lt f.caller.correlation it.caller.correlation) e)
      by m there = inl tt

  based_later : Based sent log it → Based later grown it
  based_later b = record {
    joined = b.joined;
    since = b.since;
    behind = b.behind ++ more;
    parts = longer ∙ ap (λ l. l ++ more) b.parts
        ∙ append_assoc (b.joined ++ b.since) b.behind more;
    named = b.named;
    input = b.input;
    next = b.next;
    one = b.one;
    owned = b.owned;
    none_pending = b.none_pending;
    from_is = ap from_of same_last ∙ b.from_is;
    grows = b.grows;
    earlier = λ n there client lower.
        ⊎_elim (λ old. b.earlier n old client lower)
        (λ le. absurd (omega (arith, le, lower)))
        (old_or_later (msg.TxnOffsetCommit n) there (ap Some client));
    unread = b.unread;
  }

------ what stands of a system

abbrev pub offsets_of : System → List Entry
offsets_of s = entries_at s.world offsets_partition

pub record Holds (s : System) : Type 0 where
  pub facts : Facts s.world
  pub known : AreClients s
  pub works : (c : Client) (p : Processing) → Contains s.world.clients c
      → Contains s.processors p → p.number ≡ c.number
      → Works s.world.sent (offsets_of s) c p
  pub based : (it : TxnOffsetCommit) → Contains s.world.sent (msg.TxnOffsetCommit it)
      → IsNumbered s it.caller.client → Based s.world.sent (offsets_of s) it
  -- no other commit holds the pair of a processor's
  pub alone : (it n : TxnOffsetCommit) → Contains s.world.sent (msg.TxnOffsetCommit it)
      → Contains s.world.sent (msg.TxnOffsetCommit n) → IsNumbered s it.caller.client
      → n.held ≡ it.held → n ≡ it

-- two commits of one pair are of one client
same_client : (w : World) → Facts w → (it n : TxnOffsetCommit)
    → Contains w.sent (msg.TxnOffsetCommit it) → Contains w.sent (msg.TxnOffsetCommit n)
    → n.held ≡ it.held → n.caller.client ≡ it.caller.client
same_client w f it n a b same =
    one_holder w f n.caller.client it.caller.client it.held
    (subst (Handed w.sent n.caller.client) same (commit_handed w f n b)) (commit_handed w f it a)

------ a turn of another

-- an event that is no processor's turn
pub quiet_holds : (s : System) (later : World) → Quiet s later → Facts later → Holds s
    → Holds (record s { world = later })
quiet_holds s later quiet facts h = record {
  facts = facts;
  known = λ p there. d.numbers p.number (h.known p there);
  works = λ c p at there same.
      let here : Contains s.world.clients c =
      ⊎_elim (λ old. old) (λ none. absurd (none (p, there, same))) (d.clients c at) in
      works_on s.world.sent later.sent (offsets_of s) grown c p
      (onward s.world later h.facts turn d.messages d.whole c.number
      (λ m new own. absurd (d.senders m new c.number own (p, there, same))))
      (knows s.world h.facts c here) (h.works c p here there same);
  based = λ it there numbered.
      based_later s.world.sent later.sent (offsets_of s) grown d.messages d.whole more.0 more.1 it
      (λ m new own. absurd (d.senders m new it.caller.client own numbered))
      (h.based it (old it there numbered) numbered);
  alone = λ it n a b numbered held.
      let client = same_client later facts it n a b held in
      h.alone it n (old it a numbered)
      (old n b (subst (IsNumbered s) (sym client) numbered)) numbered held;
}
  where
    turn : EventDoes.Turn s.world later
    turn = turn_is s later quiet

    d : QuietDoes s later
    d = quiet_does s h.facts h.known later quiet

    grown : List Entry
    grown = entries_at later offsets_partition

    more : (more : List Entry) × (grown ≡ offsets_of s ++ more)
    more = entries_grow s.world later h.facts.replies.partitions turn

    old : (it : TxnOffsetCommit) → Contains later.sent (msg.TxnOffsetCommit it)
        → IsNumbered s it.caller.client → Contains s.world.sent (msg.TxnOffsetCommit it)
    old it there numbered =
        ⊎_elim (λ o. o)
        (λ new. absurd (d.senders (msg.TxnOffsetCommit it) new it.caller.client refl numbered))
        (Contains-append_cases s.world.sent d.messages (msg.TxnOffsetCommit it)
        (subst (λ l. Contains l (msg.TxnOffsetCommit it)) d.whole there))

------ a processor's turn

-- one message that goes out, a new request of the client
record IsNew (sent : List Message) (log : List Entry) (c : Client) (messages : List Message)
    (m : Message) : Type 0 where
  single : messages ≡ m ∷ []
  its_sender : sender m ≡ Some c.number
  its_number : correlation_of m ≡ c.correlation
  commit : NewCommit sent log c m

out_of : (sent : List Message) (log : List Entry) (c : Client) (messages : List Message)
    → Out sent log c messages → (m : Message) → Contains messages m
    → Contains sent m ⊎ IsNew sent log c messages m
out_of sent log c messages (again old) m there = inl (old m there)
out_of sent log c messages (new y e s n commit) m there =
    let same : y ≡ m =
    ⊎_elim (λ none. absurd (no_element m none)) (λ first. first)
    (Contains-push_cases [] y m (subst (λ l. Contains l m) e there)) in
    inr (subst (IsNew sent log c messages) same
    (record { single = e; its_sender = s; its_number = n; commit = commit }))

module _ (s : System) (c : Client) (p : Processing) (after : Client) (q : Processing)
    (messages : List Message) (at : Contains s.world.clients c) (pat : Contains s.processors p)
    (paired : p.number ≡ c.number)
    (moved : Moved s.world.sent (offsets_of s) c p after q messages)
    (facts : Facts (with_client s.world after messages)) (h : Holds s) where
  abbrev later : System
  later = with_processor s (record { client = after; processing = q }) messages

  abbrev log : List Entry
  log = offsets_of s

  abbrev sent : List Message
  sent = s.world.sent

  pub q_number : q.number ≡ after.number
  q_number = moved.its_number ∙ paired ∙ sym moved.number

  out : (m : Message) → Contains messages m → Contains sent m ⊎ IsNew sent log c messages m
  out m there = out_of sent log c messages moved.out m there

  -- numbers stay
  number_stays : (r : Processing) → (cond (r.number == q.number) q r).number ≡ r.number
  number_stays r =
      cond_both (r.number == q.number) q r (λ (x : Processing). x.number ≡ r.number)
      (λ e. grind (arith, nat_tests, e)) (λ e. refl)

  numbered_before : (n : ℕ) → IsNumbered later n → IsNumbered s n
  numbered_before n (x, there, same) =
      let (r, there', is) = map_holds (λ (r : Processing). cond (r.number == q.number) q r)
      s.processors x there in
      (r, there', sym (number_stays r) ∙ ap (λ (y : Processing). y.number) is ∙ same)

  own_known : AreClients later
  own_known x there =
      let (r, there', is) = map_holds (λ (r : Processing). cond (r.number == q.number) q r)
      s.processors x there in
      subst (λ n. Contains (map (λ (d : Client). d.number) later.world.clients) n)
      (sym (number_stays r) ∙ ap (λ (y : Processing). y.number) is)
      (subst (λ l. Contains l r.number) (sym (numbers_stay after s.world.clients))
      (h.known r there'))

  -- another client's messages are old ones
  pub own_back : (n : ℕ) → (n ≡ c.number → ⊥) → (m : Message) → Contains messages m
      → sender m ≡ Some n → Contains sent m
  own_back n differs m there e =
      ⊎_elim (λ old. old)
      (λ new. absurd (differs (some_is n c.number (sym e ∙ new.its_sender)))) (out m there)

  nobodys_old : (m : Message) → sender m ≡ None → Contains (sent ++ messages) m → Contains sent m
  nobodys_old m none there =
      ⊎_elim (λ old. old)
      (λ new. ⊎_elim (λ old. old)
      (λ now. absurd (let both = sym none ∙ now.its_sender in cc)) (out m new))
      (Contains-append_cases sent messages m there)

  own_onward : (n : ℕ) → (n ≡ c.number → ⊥) → Onward sent (sent ++ messages) log log n
  own_onward n differs = record {
    messages = messages;
    whole = refl;
    back = own_back n differs;
    up = λ m there. Contains-append_left sent messages m there;
    more = [];
    longer = sym (append-nil log);
    located = λ k offset there. inl (nobodys_old _ refl there);
    refusals = λ caller x there. inl (nobodys_old _ refl there);
  }

  own_works : (d : Client) (r : Processing) → Contains later.world.clients d
      → Contains later.processors r → r.number ≡ d.number
      → Works (sent ++ messages) log d r
  own_works d r there rthere same =
      let (x, xat, xis) = map_holds (λ (x : Client). cond (x.number == after.number) after x)
      s.world.clients d there in
      let (y, yat, yis) = map_holds (λ (y : Processing). cond (y.number == q.number) q y)
      s.processors r rthere in
      subst (λ e. Works (sent ++ messages) log e r) xis
      (subst (λ e. Works (sent ++ messages) log (cond (x.number == after.number) after x) e) yis
      (by x y xat yat (x.number == after.number) refl (y.number == q.number) refl
      (ap (λ (z : Processing). z.number) yis ∙ same ∙ sym (ap (λ (z : Client). z.number) xis))))
    where
      by : (x : Client) (y : Processing) → Contains s.world.clients x → Contains s.processors y
          → (a : Bool) → (x.number == after.number) ≡ a → (b : Bool) → (y.number == q.number) ≡ b
          → (cond b q y).number ≡ (cond a after x).number
          → Works (sent ++ messages) log (cond a after x) (cond b q y)
      by x y xat yat true e true f n = moved.works
      by x y xat yat true e false f n =
          absurd (let same = q_number in grind (arith, nat_tests, f, n, same))
      by x y xat yat false e true f n =
          absurd (let same = q_number in grind (arith, nat_tests, e, n, same))
      by x y xat yat false e false f n =
          works_on sent (sent ++ messages) log log x y
          (own_onward x.number (λ is. let number = moved.number in
          grind (arith, nat_tests, e, is, number)))
          (knows s.world h.facts x xat) (h.works x y xat yat n)

  own_based : (it : TxnOffsetCommit) → Contains (sent ++ messages) (msg.TxnOffsetCommit it)
      → IsNumbered later it.caller.client → Based (sent ++ messages) log it
  own_based it there numbered =
      ⊎_elim old (λ new. ⊎_elim old now (out (msg.TxnOffsetCommit it) new))
      (Contains-append_cases sent messages (msg.TxnOffsetCommit it) there)
    where
      old : Contains sent (msg.TxnOffsetCommit it) → Based (sent ++ messages) log it
      old here =
          based_later sent (sent ++ messages) log log messages refl [] (sym (append-nil log)) it
          (λ m mine own. ⊎_elim inl
          (λ new. let client = some_is it.caller.client c.number (sym own ∙ new.its_sender) in
          let low = (knows s.world h.facts c at).numbered (msg.TxnOffsetCommit it)
          (here, ap Some client) in
          inr (omega (arith, low, new.its_number))) (out m mine))
          (h.based it here (numbered_before it.caller.client numbered))

      now : IsNew sent log c messages (msg.TxnOffsetCommit it) → Based (sent ++ messages) log it
      now fresh = subst (λ l. Based (sent ++ l) log it) (sym fresh.single) fresh.commit.0

  own_alone : (it n : TxnOffsetCommit) → Contains (sent ++ messages) (msg.TxnOffsetCommit it)
      → Contains (sent ++ messages) (msg.TxnOffsetCommit n) → IsNumbered later it.caller.client
      → n.held ≡ it.held → n ≡ it
  own_alone it n a b numbered held =
      by (cases it a) (cases n b)
    where
      cases : (x : TxnOffsetCommit) → Contains (sent ++ messages) (msg.TxnOffsetCommit x)
          → Contains sent (msg.TxnOffsetCommit x)
          ⊎ IsNew sent log c messages (msg.TxnOffsetCommit x)
      cases x there =
          ⊎_elim inl (λ new. out (msg.TxnOffsetCommit x) new)
          (Contains-append_cases sent messages (msg.TxnOffsetCommit x) there)

      client : n.caller.client ≡ it.caller.client
      client = same_client later.world facts it n a b held

      by : Contains sent (msg.TxnOffsetCommit it)
          ⊎ IsNew sent log c messages (msg.TxnOffsetCommit it)
          → Contains sent (msg.TxnOffsetCommit n)
          ⊎ IsNew sent log c messages (msg.TxnOffsetCommit n) → n ≡ it
      by (inl x) (inl y) =
          h.alone it n x y (numbered_before it.caller.client numbered) held
      by (inl x) (inr y) =
          absurd (y.commit.2 it x
          (sym client ∙ some_is n.caller.client c.number y.its_sender)
          (y.commit.1 ∙ ap Some held))
      by (inr x) (inl y) =
          absurd (x.commit.2 n y
          (client ∙ some_is it.caller.client c.number x.its_sender)
          (x.commit.1 ∙ ap Some (sym held)))
      by (inr x) (inr y) = let both = sym y.single ∙ x.single in cc

  -- a processor's turn
  pub own_holds : Holds later
  own_holds = record {
    facts = facts;
    known = own_known;
    works = own_works;
    based = own_based;
    alone = own_alone;
  }

------ a new processor

module _ (s : System) (number : ℕ) (txn : Option (List ℕ)) (timeout : ℕ) (group : List ℕ)
    (inputs : ℕ) (image : Images) (is : is_new number s.world.clients ≡ true) (h : Holds s) where
  abbrev made_client : Client
  made_client = new_client number txn timeout

  abbrev made_processing : Processing
  made_processing = new_processing number group inputs image

  abbrev with_made : System
  with_made = record {
    world = record s.world { clients = s.world.clients ++ made_client ∷ [] };
    processors = s.processors ++ made_processing ∷ [];
  }

  -- nobody has sent anything under its number
  pub nothing_sent : (m : Message) → Contains s.world.sent m → sender m ≡ Some number → ⊥
  nothing_sent m there e =
      let (c, at, same) = map_holds (λ (c : Client). c.number) s.world.clients number
      (h.facts.requests.known m number there e) in
      let low = list_all_tells (λ (d : Client). nat_lt d.number number) s.world.clients c is at in
      let lower : c.number < number = grind (arith, nat_tests, low) in
      omega (arith, lower, same)

  pub none_before : IsNumbered s number → ⊥
  none_before numbered = new_number s h.known number is numbered

  numbered_old : (n : ℕ) → (n ≡ number → ⊥) → IsNumbered with_made n → IsNumbered s n
  numbered_old n differs (p, there, same) =
      ⊎_elim (λ old. (p, old, same))
      (λ now. absurd (differs (sym same ∙ sym (ap (λ (x : Processing). x.number) now))))
      (Contains-push_cases s.processors made_processing p there)

  -- a client below the number
  pub below : (c : Client) → Contains s.world.clients c → c.number ≡ number → ⊥
  below c at same =
      let low = list_all_tells (λ (d : Client). nat_lt d.number number) s.world.clients c is at in
      let lower : c.number < number = grind (arith, nat_tests, low) in
      omega (arith, lower, same)

  made_works : (c : Client) (p : Processing) → Contains with_made.world.clients c
      → Contains with_made.processors p → p.number ≡ c.number
      → Works s.world.sent (offsets_of s) c p
  made_works c p there pthere same =
      by (Contains-push_cases s.world.clients made_client c there)
      (Contains-push_cases s.processors made_processing p pthere)
    where
      by : Contains s.world.clients c ⊎ (made_client ≡ c)
          → Contains s.processors p ⊎ (made_processing ≡ p)
          → Works s.world.sent (offsets_of s) c p
      by (inl x) (inl y) = h.works c p x y same
      by (inl x) (inr y) =
          absurd (below c x (sym same ∙ sym (ap (λ (z : Processing). z.number) y)))
      by (inr x) (inl y) =
          absurd (none_before (p, y, same ∙ sym (ap (λ (z : Client). z.number) x)))
      by (inr x) (inr y) =
          subst (λ z. Works s.world.sent (offsets_of s) z p) x
          (subst (Works s.world.sent (offsets_of s) made_client) y (record {
            joins = λ k g sent.
                absurd (nothing_sent (the.Join (caller_with number k) g) sent refl);
            group = tt;
            at = λ f. idle refl (
              λ it its e. absurd cc,
              λ it its. absurd (nothing_sent (msg.TxnOffsetCommit it) its.0 (ap Some its.1)),
            );
          }))

  pub made_holds : Facts with_made.world → Holds with_made
  made_holds facts = record {
    facts = facts;
    known = λ p there.
        subst (λ l. Contains l p.number)
        (sym (map-append (λ (c : Client). c.number) s.world.clients (made_client ∷ [])))
        (⊎_elim
        (λ old. Contains-append_left (map (λ (c : Client). c.number) s.world.clients)
        (number ∷ []) p.number (h.known p old))
        (λ now. subst (Contains (map (λ (c : Client). c.number) s.world.clients ++ number ∷ []))
        (ap (λ (x : Processing). x.number) now)
        (Contains-push (map (λ (c : Client). c.number) s.world.clients) number))
        (Contains-push_cases s.processors made_processing p there));
    works = made_works;
    based = λ it there numbered.
        h.based it there (numbered_old it.caller.client
        (λ same. nothing_sent (msg.TxnOffsetCommit it) there (ap Some same)) numbered);
    alone = λ it n a b numbered held.
        h.alone it n a b (numbered_old it.caller.client
        (λ same. nothing_sent (msg.TxnOffsetCommit it) a (ap Some same)) numbered) held;
  }

------ an event

-- a message that comes was handed out
abbrev pub HasCome : World → Input → Type 0
HasCome w (Comes m) = Contains w.sent m
HasCome w input = Unit {0}

-- whose turn it is
pub record TurnThere (s : System) (turn : Turn) : Type 0 where
  pub client : Contains s.world.clients turn.processor.client
  pub processing : Contains s.processors turn.processor.processing
  pub paired : turn.processor.processing.number ≡ turn.processor.client.number
  pub input : HasCome s.world turn.input

module _ (s : System) where
  with_there : (number : ℕ) (input : Input) → HasCome s.world input → (c : Option Client)
      → client_at s.world number ≡ c → (p : Option Processing) → processing_at s number ≡ p
      → (turn : Turn) → turn_with input c p ≡ Some turn → TurnThere s turn
  with_there number input come None e p f turn is = absurd cc
  with_there number input come (Some c) e None f turn is = absurd cc
  with_there number input come (Some c) e (Some p) f turn is =
      let x = find_tells (λ (d : Client). d.number == number) s.world.clients c e in
      let y = find_tells (λ (q : Processing). q.number == number) s.processors p f in
      subst (TurnThere s) (turn_same _ turn is) (record {
        client = x.0;
        processing = y.0;
        paired = grind (arith, nat_tests, x.1, y.1);
        input = come;
      })
    where
      turn_same : (a b : Turn) → Some a ≡ Some b → a ≡ b
      turn_same a b e = cc

  at_there : (to : NodeId) (input : Input) → HasCome s.world input → (turn : Turn)
      → turn_at s to input ≡ Some turn → TurnThere s turn
  at_there node.Coordinator input come turn is = absurd cc
  at_there (node.Partition number) input come turn is = absurd cc
  at_there (node.Client number) input come turn is =
      with_there number input come (client_at s.world number) refl
      (processing_at s number) refl turn
      is

  delivered_there : (to : NodeId) (o : Option Message) → IfSome o (Contains s.world.sent)
      → (turn : Turn) → turn_delivered s to o ≡ Some turn → TurnThere s turn
  delivered_there to None come turn is = absurd cc
  delivered_there to (Some m) come turn is = at_there to (Comes m) come turn is

  handed_there : (to : NodeId) (input : Input) → (turn : Turn) → turn_handed s to input ≡ Some turn
      → TurnThere s turn
  handed_there to (Comes m) turn is = absurd cc
  handed_there to (Commands what) turn is = at_there to (Commands what) tt turn is
  handed_there to (Expires now) turn is = at_there to (Expires now) tt turn is
  handed_there to Reminds turn is = at_there to Reminds tt turn is
  handed_there to (Drops group member) turn is = at_there to (Drops group member) tt turn is
  handed_there to (Puts value more) turn is = at_there to (Puts value more) tt turn is
  handed_there to (Restarts now) turn is = at_there to (Restarts now) tt turn is

  pub turn_there : (event : Event) (turn : Turn) → turn_of s event ≡ Some turn → TurnThere s turn
  turn_there (Make client txn timeout) turn is = absurd cc
  turn_there (Deliver which to store) turn is =
      delivered_there to (slice_get s.world.sent which)
      (All-slice_get (Contains s.world.sent) s.world.sent which
      (All-contains_itself s.world.sent)) turn is
  turn_there (Hand to input store) turn is = handed_there to input turn is

  module _ (h : Holds s) where
    pub come_is : (c : Client) (at : Contains s.world.clients c) (input : Input)
        → HasCome s.world input → IsThere s.world h.facts c at input
    come_is c at (Comes m) there = there
    come_is c at (Commands what) there = tt
    come_is c at (Expires now) there = tt
    come_is c at Reminds there = tt
    come_is c at (Drops group member) there = tt
    come_is c at (Puts value more) there = tt
    come_is c at (Restarts now) there = tt

    turn_holds : (event : Event) → IsEvent event → (o : Option Turn) → turn_of s event ≡ o
        → Facts (happens s event o).0.world → Holds (happens s event o).0
    turn_holds event fits None none facts =
        quiet_holds s (step s.world event).0 (quiet_is s event fits none) facts h
    turn_holds event fits (Some turn) is facts =
        let t = turn_there event turn is in
        let c = turn.processor.client in
        let p = turn.processor.processing in
        let works = h.works c p t.client t.processing t.paired in
        let after = processor_step turn.processor turn.input in
        own_holds s c p after.state.client after.state.processing after.messages t.client
        t.processing t.paired
        (turns s.world h.facts c t.client p works turn.input
        (come_is c t.client turn.input t.input))
        facts h

    pub event_holds : (event : SystemEvent) → IsSystemEvent event
        → Facts (system_step s event).0.world → Holds (system_step s event).0
    unfolding system_step step
    event_holds (Happens event) fits facts =
        turn_holds event fits (turn_of s event) refl facts
    event_holds (MakeProcessor number txn timeout group inputs image) fits facts =
        by (is_new number s.world.clients) refl facts
      where
        by : (b : Bool) → is_new number s.world.clients ≡ b
            → Facts (record s.world {
              clients = cond b (s.world.clients ++ new_client number txn timeout ∷ [])
                  s.world.clients;
            })
            → Holds (record {
              world = record s.world {
                clients = cond b (s.world.clients ++ new_client number txn timeout ∷ [])
                    s.world.clients;
              };
              processors = cond b (s.processors ++ new_processing number group inputs image ∷ [])
                  s.processors;
            })
        by true e facts = made_holds s number txn timeout group inputs image e h facts
        by false e facts = h
