-- Over every schedule of a system: what stands of each processor's batches.
use Rattle.std.proofs.Common.{◌≡◌, ◌⊎◌, ◌≤ℤ◌, ℕ, ℤ, pos, Bool, true, false, cond, List, [], ◌∷◌}
use Rattle.std.proofs.Common.{◌++◌, Option, Some, None, Contains, All, refl, sym, ap, ◌∙◌, subst}
use Rattle.std.proofs.Common.{arith, inl, inr, ⊎_elim, ◌==◌, append-nil, Ok, Err, Result}
use Rattle.std.specs.Prelude.{IfSome}
use Rattle.std.proofs.lemmas.Bool.Decides.{nat_tests}
use Rattle.std.proofs.lemmas.List.Elements.{All-contains, All-head, All-tail, Contains-push_cases}
use Rattle.kx_message.specs.declared.code.ErrorCode.TheVariants as code
use Rattle.kx_message.specs.declared.message.Held.{Held}
use Rattle.kx_message.specs.declared.message.Message.{Message}
use Rattle.kx_message.specs.declared.message.Message.TheVariants as msg
use Rattle.kx_message.specs.declared.replies.FetchReply.{FetchReply}
use Rattle.kx_message.specs.declared.requests.Caller.{Caller}
use Rattle.kx_message.specs.declared.requests.Fetch.{Fetch}
use Rattle.kx_model.specs.Client.{Client, new_client}
use Rattle.kx_model.specs.Headline.{Always, HasOneOutcome}
use Rattle.kx_model.specs.Page.{Fetched}
use Rattle.kx_model.specs.Reading.{Shown, committed_of}
use Rattle.kx_model.specs.Step.{Input, Comes, Commands, Expires, Reminds, Drops, Puts, Restarts}
use Rattle.kx_model.specs.Transactions.{last_stable_offset}
use Rattle.kx_model.specs.World.{Event, IsEvent, World, entries_at, is_new, log_at, run, step}
use Rattle.kx_model.specs.World.{with_client}
use Rattle.kx_headline.proofs.ClientHolds.{Handed, HoldsOwn}
use Rattle.kx_headline.proofs.ClientRequests.{HeldFits, Knows, sender}
use Rattle.kx_headline.proofs.OverSchedules.{markers_agree}
use Rattle.kx_headline.proofs.RequestsAlways.{handed_fits, raised}
use Rattle.kx_laws.specs.Grown.{IsGrown}
use Rattle.kx_laws.proofs.Membership.{map_holds, no_element}
use Rattle.kx_partition.specs.Reply.{page_in}
use Rattle.kx_partition.specs.declared.fault.ReplyFault.{ReplyFault}
use Rattle.kx_system.specs.Events.{events_of}
use Rattle.kx_system.specs.Processor.{Images, Processing, new_processing, processor_step, takes}
use Rattle.kx_system.specs.System.{Happens, IsSystemEvent, IsSystemSchedule, MakeProcessor, System}
use Rattle.kx_system.specs.System.{SystemEvent, Turn, happens, run_system, start_system}
use Rattle.kx_system.specs.System.{system_step}
use Rattle.kx_system.specs.System.{turn_of, with_processor}
use Rattle.kx_pipeline.specs.Visible.{visible_in}
use Rattle.kx_pipeline.proofs.FetchReplies.{IsAnswered, fetches_are_answered}
use Rattle.kx_pipeline.proofs.ProcessorAsks.{Moved}
use Rattle.kx_pipeline.proofs.ProcessorTurns.{Facts, IsThere, knows, turns, within}
use Rattle.kx_pipeline.proofs.ProcessorWrites.{Writes, idle, writes_on}
use Rattle.kx_pipeline.proofs.QuietTurns.{Quiet, QuietDoes, quiet_does, quiet_is}
use Rattle.kx_pipeline.proofs.SystemHolds.{Holds, below, come_is, none_before, nothing_sent}
use Rattle.kx_pipeline.proofs.SystemHolds.{own_back}
use Rattle.kx_pipeline.proofs.SystemHolds.{offsets_of, q_number, turn_there}
use Rattle.kx_pipeline.proofs.SystemLinks.{IsLed, Led, led_first, led_next}
use Rattle.kx_pipeline.proofs.VisibleStays.{range_stays, stable_stays}
use Rattle.kx_pipeline.proofs.WritesAsks.{command_leaves}
use Rattle.kx_pipeline.proofs.WritesHears.{reply_leaves}

------ what is read

-- these are the visible records of the range, which is empty or ends by a last stable offset
abbrev pub Reads : World → ℕ → ℤ → ℤ → List Shown → Type 0
Reads w q from next records =
    (records ≡ visible_in w q from next)
    × ((next ≡ from) ⊎ (next ≤ℤ pos (last_stable_offset (entries_at w q))))

-- it stays so
reads_stay : (w : World) (events : List Event) (q : ℕ) (from next : ℤ) (records : List Shown)
    → IsGrown (log_at w q) → HasOneOutcome w → Reads w q from next records
    → Reads (run events w) q from next records
reads_stay w events q from next records grown one (shows, stable) = (
  shows ∙ sym (range_stays w events q from next grown one stable),
  ⊎_elim inl (λ low. inr (stable_stays w events q next low)) stable,
)

------ a processor's turn

same_fetch : (a b : Fetch) → msg.Fetch a ≡ msg.Fetch b → a ≡ b
same_fetch a b e = cc

page_of : Fetched → Result Fetched ReplyFault → Fetched
page_of other (Ok page) = page
page_of other (Err fault) = other

same_page : (a b : Fetched) (r : Result Fetched ReplyFault) → r ≡ Ok a → r ≡ Ok b → a ≡ b
unfolding page_of
same_page a b r e f = ap (page_of a) (sym e ∙ f)

module _ (w : World) (f : Facts w) (answered : All (IsAnswered w) w.sent) (c : Client)
    (at : Contains w.clients c) (p : Processing) (h : Writes w.sent (Reads w) c p) where
  k : Knows w.sent c
  k = knows w f c at

  -- the pair that it holds fits a batch
  held_fits : (held : Held) → c.held ≡ Some held → HeldFits held
  held_fits held own =
      let mine = All-contains (HoldsOwn w.sent) w.clients c f.requests.holders.clients at in
      handed_fits w f.requests.holders.stands c.number held
      (subst (λ o. IfSome o (Handed w.sent c.number)) own mine.held)

  -- a page has what is visible
  fetched : (it : Fetch) (r : FetchReply) → Contains w.sent (msg.Fetch it)
      → it.caller.client ≡ c.number → it.committed ≡ true → Contains w.sent (msg.FetchReply r)
      → r.caller ≡ it.caller → r.code ≡ code.NoError → (page : Fetched)
      → page_in it.from (msg.FetchReply r) ≡ Ok page
      → Reads w it.partition it.from page.next (committed_of page)
  fetched it r asked own committed there callers e page reading =
      let a = All-contains (IsAnswered w) w.sent (msg.FetchReply r) answered there e in
      let caller : a.fetch.caller ≡ it.caller = a.caller ∙ callers in
      let same : a.fetch ≡ it =
      same_fetch a.fetch it (k.distinct (msg.Fetch a.fetch) (msg.Fetch it)
      (a.asked, ap (λ (x : Caller). Some x.client) caller ∙ ap Some own) (asked, ap Some own)
      (ap (λ (x : Caller). x.correlation) caller)) in
      let pages : a.page ≡ page =
      same_page a.page page (page_in it.from (msg.FetchReply r))
      (ap (λ (x : Fetch). page_in x.from (msg.FetchReply r)) (sym same) ∙ a.reads) reading in
      let is = a.committed (ap (λ (x : Fetch). x.committed) same ∙ committed) in
      let all : Reads w r.partition a.fetch.from r.next (committed_of a.page) =
      (is.shows, is.stable) in
      subst (λ x. Reads w it.partition it.from x.next (committed_of x)) pages
      (subst (λ x. Reads w it.partition it.from x (committed_of a.page)) (sym a.next)
      (subst (λ x. Reads w it.partition x r.next (committed_of a.page))
      (ap (λ (x : Fetch). x.from) same)
      (subst (λ x. Reads w x a.fetch.from r.next (committed_of a.page))
      (sym a.partition ∙ ap (λ (x : Fetch). x.partition) same) all)))

  abbrev After : Input → Type 0
  After input =
      let s = processor_step (record { client = c; processing = p }) input in
      Writes (w.sent ++ s.messages) (Reads w) s.state.client s.state.processing

  rested : Writes (w.sent ++ []) (Reads w) c p
  rested = subst (λ l. Writes l (Reads w) c p) (sym (append-nil w.sent)) h

  hears_leaves : (m : Message) → Contains w.sent m → After (Comes m)
  unfolding processor_step
  hears_leaves m there =
      let after = takes (record { client = c; processing = p }) m in
      subst (λ l. Writes l (Reads w) after.client after.processing) (sym (append-nil w.sent))
      (reply_leaves w.sent (Reads w) c p k (within w f c at p) fetched
      (λ k held told. raised w f.requests.holders.stands c.number k held told) h m there)

  pub turn_leaves : (input : Input) → IsThere w f c at input → After input
  unfolding processor_step
  turn_leaves (Comes m) there = hears_leaves m there
  turn_leaves (Commands what) there =
      command_leaves w.sent (Reads w) c p k held_fits h what
  turn_leaves (Expires now) there = rested
  turn_leaves Reminds there = rested
  turn_leaves (Drops group member) there = rested
  turn_leaves (Puts value more) there = rested
  turn_leaves (Restarts now) there = rested

------ what stands of a system

abbrev pub AllWrite : System → Type 0
AllWrite s =
    (c : Client) (p : Processing) → Contains s.world.clients c → Contains s.processors p
    → p.number ≡ c.number → Writes s.world.sent (Reads s.world) c p

-- what was read goes on to be visible
abbrev Stays : World → World → Type 0
Stays w later =
    (q : ℕ) (from next : ℤ) (records : List Shown) → Reads w q from next records
    → Reads later q from next records

-- an event that is no processor's turn
quiet_writes : (s : System) (later : World) → Quiet s later → Stays s.world later → Holds s
    → AllWrite s → AllWrite (record s { world = later })
quiet_writes s later quiet stays h writes c p at there same =
    let d : QuietDoes s later = quiet_does s h.facts h.known later quiet in
    let here : Contains s.world.clients c =
    ⊎_elim (λ old. old) (λ none. absurd (none (p, there, same))) (d.clients c at) in
    writes_on s.world.sent later.sent (Reads s.world) (Reads later) c p (record {
      messages = d.messages;
      whole = d.whole;
      back = λ m new own. absurd (d.senders m new c.number own (p, there, same));
      shows = stays;
    }) (writes c p here there same)

module _ (s : System) (c : Client) (p : Processing) (after : Client) (q : Processing)
    (messages : List Message) (at : Contains s.world.clients c) (pat : Contains s.processors p)
    (paired : p.number ≡ c.number)
    (moved : Moved s.world.sent (offsets_of s) c p after q messages)
    (facts : Facts (with_client s.world after messages)) (h : Holds s)
    (stays : Stays s.world (with_client s.world after messages))
    (own : Writes (s.world.sent ++ messages) (Reads s.world) after q) (writes : AllWrite s) where
  abbrev later : System
  later = with_processor s (record { client = after; processing = q }) messages

  abbrev sent : List Message
  sent = s.world.sent

  own_now : Writes (sent ++ messages) (Reads later.world) after q
  own_now =
      writes_on (sent ++ messages) (sent ++ messages) (Reads s.world) (Reads later.world) after q
      (record {
        messages = [];
        whole = sym (append-nil (sent ++ messages));
        back = λ m none e. absurd (no_element m none);
        shows = stays;
      }) own

  -- a processor's turn
  own_writes : AllWrite later
  own_writes d r there rthere same =
      let (x, xat, xis) = map_holds (λ (x : Client). cond (x.number == after.number) after x)
      s.world.clients d there in
      let (y, yat, yis) = map_holds (λ (y : Processing). cond (y.number == q.number) q y)
      s.processors r rthere in
      subst (λ e. Writes (sent ++ messages) (Reads later.world) e r) xis
      (subst (λ e. Writes (sent ++ messages) (Reads later.world)
      (cond (x.number == after.number) after x) e) yis
      (by x y xat yat (x.number == after.number) refl (y.number == q.number) refl
      (ap (λ (z : Processing). z.number) yis ∙ same ∙ sym (ap (λ (z : Client). z.number) xis))))
    where
      q_is : q.number ≡ after.number
      q_is = q_number s c p after q messages at pat paired moved facts h

      by : (x : Client) (y : Processing) → Contains s.world.clients x → Contains s.processors y
          → (a : Bool) → (x.number == after.number) ≡ a → (b : Bool) → (y.number == q.number) ≡ b
          → (cond b q y).number ≡ (cond a after x).number
          → Writes (sent ++ messages) (Reads later.world) (cond a after x) (cond b q y)
      by x y xat yat true e true f n = own_now
      by x y xat yat true e false f n =
          absurd (let same = q_is in grind (arith, nat_tests, f, n, same))
      by x y xat yat false e true f n =
          absurd (let same = q_is in grind (arith, nat_tests, e, n, same))
      by x y xat yat false e false f n =
          writes_on sent (sent ++ messages) (Reads s.world) (Reads later.world) x y (record {
            messages = messages;
            whole = refl;
            back = own_back s c p after q messages at pat paired moved facts h x.number
                (λ is. let number = moved.number in grind (arith, nat_tests, e, is, number));
            shows = stays;
          }) (writes x y xat yat n)

------ a new processor

module _ (s : System) (number : ℕ) (txn : Option (List ℕ)) (timeout : ℕ) (group : List ℕ)
    (inputs : ℕ) (image : Images) (is : is_new number s.world.clients ≡ true) (h : Holds s)
    (writes : AllWrite s) where
  abbrev made_client : Client
  made_client = new_client number txn timeout

  abbrev made_processing : Processing
  made_processing = new_processing number group inputs image

  none_sent : (m : Message) → Contains s.world.sent m → sender m ≡ Some number → ⊥
  none_sent m there e =
      nothing_sent s number txn timeout group inputs image is h m there e

  made_writes : AllWrite (record {
    world = record s.world { clients = s.world.clients ++ made_client ∷ [] };
    processors = s.processors ++ made_processing ∷ [];
  })
  made_writes c p there pthere same =
      by (Contains-push_cases s.world.clients made_client c there)
      (Contains-push_cases s.processors made_processing p pthere)
    where
      by : Contains s.world.clients c ⊎ (made_client ≡ c)
          → Contains s.processors p ⊎ (made_processing ≡ p)
          → Writes s.world.sent (Reads s.world) c p
      by (inl x) (inl y) = writes c p x y same
      by (inl x) (inr y) =
          absurd (below s number txn timeout group inputs image is h c x
          (sym same ∙ sym (ap (λ (z : Processing). z.number) y)))
      by (inr x) (inl y) =
          absurd (none_before s number txn timeout group inputs image is h
          (p, y, same ∙ sym (ap (λ (z : Client). z.number) x)))
      by (inr x) (inr y) =
          subst (λ z. Writes s.world.sent (Reads s.world) z p) x
          (subst (Writes s.world.sent (Reads s.world) made_client) y (record {
            at = λ f. idle refl (record {
              none = λ held e. absurd cc;
              unheld = λ it its e. absurd cc;
              zero = λ partition. refl;
            });
            made = λ request sent its.
                absurd (none_sent (msg.Produce request) sent (ap Some its));
            written = λ it its.
                absurd (none_sent (msg.TxnOffsetCommit it) its.0 (ap Some its.1));
            ends = λ it sent its outcome.
                absurd (none_sent (msg.EndTxn it) sent (ap Some its));
            transactional = λ inside. absurd cc;
            group = tt;
            placed = tt;
            of_group = λ it its.
                absurd (none_sent (msg.TxnOffsetCommit it) its.0 (ap Some its.1));
          }))

------ an event

module _ (s : System) (h : Holds s) (answered : All (IsAnswered s.world) s.world.sent)
    (writes : AllWrite s) where
  turn_writes : (event : Event) → IsEvent event → (o : Option Turn) → turn_of s event ≡ o
      → Facts (happens s event o).0.world → Stays s.world (happens s event o).0.world
      → AllWrite (happens s event o).0
  turn_writes event fits None none facts stays =
      quiet_writes s (step s.world event).0 (quiet_is s event fits none) stays h writes
  turn_writes event fits (Some turn) is facts stays =
      let t = turn_there s event turn is in
      let c = turn.processor.client in
      let p = turn.processor.processing in
      let after = processor_step turn.processor turn.input in
      let there = come_is s h c t.client turn.input t.input in
      own_writes s c p after.state.client after.state.processing after.messages t.client
      t.processing t.paired
      (turns s.world h.facts c t.client p (h.works c p t.client t.processing t.paired) turn.input
      there)
      facts h stays
      (turn_leaves s.world h.facts answered c t.client p
      (writes c p t.client t.processing t.paired) turn.input there)
      writes

  event_writes : (event : SystemEvent) → IsSystemEvent event
      → Facts (system_step s event).0.world → Stays s.world (system_step s event).0.world
      → AllWrite (system_step s event).0
  unfolding system_step step
  event_writes (Happens event) fits facts stays =
      turn_writes event fits (turn_of s event) refl facts stays
  event_writes (MakeProcessor number txn timeout group inputs image) fits facts stays =
      by (is_new number s.world.clients) refl
    where
      by : (b : Bool) → is_new number s.world.clients ≡ b
          → AllWrite (record {
            world = record s.world {
              clients = cond b (s.world.clients ++ new_client number txn timeout ∷ [])
                  s.world.clients;
            };
            processors = cond b (s.processors ++ new_processing number group inputs image ∷ [])
                s.processors;
          })
      by true e = made_writes s number txn timeout group inputs image e h writes
      by false e = writes

------ whole schedules

module _ (grow : Always (λ w. (q : ℕ) → IsGrown (log_at w q)))
    (follows : (s : System) (event : SystemEvent)
    → run (events_of s event) s.world ≡ (system_step s event).0.world) where
  pub record LedWrites (count : ℕ) (s : System) : Type 0 where
    pub led : Led grow follows count s
    pub writes : AllWrite s

  all_answered : (count : ℕ) (s : System) → IsLed grow follows count s
      → All (IsAnswered s.world) s.world.sent
  all_answered count s led =
      subst (λ (w : World). All (IsAnswered w) w.sent) led.is
      (fetches_are_answered count led.events led.scheduled)

  pub one_outcome : (count : ℕ) (s : System) → IsLed grow follows count s
      → HasOneOutcome s.world
  one_outcome count s led =
      subst HasOneOutcome led.is (markers_agree count led.events led.scheduled)

  event_stays : (count : ℕ) (s : System) (event : SystemEvent) → IsLed grow follows count s
      → Stays s.world (system_step s event).0.world
  event_stays count s event led =
      subst (Stays s.world) (follows s event)
      (λ q from next records reads. reads_stay s.world (events_of s event) q from next records
      (subst (λ (w : World). IsGrown (log_at w q)) led.is
      (grow count led.events led.scheduled q)) (one_outcome count s led) reads)

  writes_next : (count : ℕ) (s : System) (event : SystemEvent) → IsSystemEvent event
      → LedWrites count s → LedWrites count (system_step s event).0
  writes_next count s event fits l =
      let next = led_next grow follows count s event fits l.led in
      record {
        led = next;
        writes = event_writes s l.led.holds (all_answered count s l.led.led) l.writes event fits
            next.holds.facts (event_stays count s event l.led.led);
      }

  writes_run : (count : ℕ) (events : List SystemEvent) (s : System) → IsSystemSchedule events
      → LedWrites count s → LedWrites count (run_system events s)
  unfolding run_system
  writes_run count [] s fits l = l
  writes_run count (event ∷ events) s fits l =
      writes_run count events (system_step s event).0 (All-tail IsSystemEvent event events fits)
      (writes_next count s event (All-head IsSystemEvent event events fits) l)

  -- what stands after a whole schedule
  pub writes_always : (count : ℕ) (events : List SystemEvent) → IsSystemSchedule events
      → LedWrites count (run_system events (start_system count))
  writes_always count events fits =
      writes_run count events (start_system count) fits (record {
        led = led_first grow follows count;
        writes = λ c p at there. absurd (no_element p there);
      })
