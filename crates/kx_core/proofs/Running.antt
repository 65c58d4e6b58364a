-- A system to which an open schedule led goes on by one more event.
use Rattle.std.proofs.Common.{◌≡◌, ◌++◌, ℕ, List, [], ◌∷◌, refl, sym, ap, ◌∙◌, subst, append-nil}
use Rattle.std.proofs.Common.{Bool, ◌||◌, arith, false, suc, true, zero}
use Rattle.std.specs.Prelude.{All, take}
use Rattle.std.specs.List.{list_any}
use Rattle.std.proofs.lemmas.List.{append_assoc}
use Rattle.std.proofs.lemmas.List.Elements.{All-append, All-cons, All-head, All-nil, All-tail}
use Rattle.kx_pipeline.specs.Promises.{KeepsAll}
use Rattle.kx_core.specs.Sent.{joined}
use Rattle.kx_core.specs.World.{AddsStep, IsEvent, IsInside, IsRun, NoneLeft, Occurs, OneMore}
use Rattle.kx_core.specs.World.{Nodes, Running, Runs, StandForAll, Steps, is_arrival}
use Rattle.kx_core.specs.declared.event.Happened.{Happened}
use Rattle.kx_core.specs.declared.event.Event as happening
use Rattle.kx_core.specs.declared.event.Event.TheVariants as event
use Rattle.kx_core.proofs.Happening.{run_more}
use Rattle.kx_machine.specs.Meaning.{NodeState}
use Rattle.kx_machine.specs.declared.taken.Taken.{Taken}
use Rattle.kx_message.specs.declared.message.Message.{Message}
use Rattle.kx_pipeline.specs.OpenSystems.{Arrives, Inside, IsOpenSystemEvent, IsOpenSystemSchedule}
use Rattle.kx_pipeline.specs.OpenSystems.{OpenSystemEvent, open_system_step, run_open_system}
use Rattle.kx_system.specs.Processor.{Images}
use Rattle.kx_system.specs.System.{IsSystemEvent, IsSystemSchedule, System, SystemEvent, run_system}
use Rattle.kx_system.specs.System.{start_system, system_step}

pub joined_push : (steps : List (List Message)) (ms : List Message)
    → joined (steps ++ ms ∷ []) ≡ joined steps ++ ms
joined_push [] ms = append-nil ms
joined_push (s ∷ steps) ms =
    ap (λ rest. s ++ rest) (joined_push steps ms) ∙ sym (append_assoc s (joined steps) ms)

-- what a step answers beside its messages
abbrev answer_of : Taken → Happened
answer_of taken = record { note = taken.note; failed = taken.failed }

-- what holds of each event of a list, and of one more
one_more : (Each : OpenSystemEvent → Type 0) (events : List OpenSystemEvent) (e : OpenSystemEvent)
    → All Each events → Each e → All Each (events ++ e ∷ [])
one_more Each events e all last =
    All-append Each events (e ∷ []) all (All-cons Each e [] last (All-nil Each))

------ where nothing arrives

-- the events of the system itself
abbrev own_events : List OpenSystemEvent → List SystemEvent
own_events [] = []
own_events (Inside event ∷ events) = event ∷ own_events events
own_events (Arrives request ∷ events) = own_events events

own_run : (events : List OpenSystemEvent) (s : System) → All IsInside events
    → run_open_system events s ≡ run_system (own_events events) s
unfolding run_open_system run_system
own_run [] s all = refl
own_run (Inside event ∷ events) s all =
    own_run events (system_step s event).0 (All-tail IsInside (Inside event) events all)
own_run (Arrives request ∷ events) s all =
    absurd (All-head IsInside (Arrives request) events all)

own_fits : (events : List OpenSystemEvent) → All IsInside events → IsOpenSystemSchedule events
    → IsSystemSchedule (own_events events)
own_fits [] all fits = All-nil IsSystemEvent
own_fits (Inside event ∷ events) all fits =
    All-cons IsSystemEvent event (own_events events)
    (All-head IsOpenSystemEvent (Inside event) events fits)
    (own_fits events (All-tail IsInside (Inside event) events all)
    (All-tail IsOpenSystemEvent (Inside event) events fits))
own_fits (Arrives request ∷ events) all fits =
    absurd (All-head IsInside (Arrives request) events all)

-- an event that is no arrival is one of the system itself
inside_is : {F : Type 0} (image_of : F → Images) (s : System) (given : happening.Event F)
    (e : OpenSystemEvent) → IsEvent image_of s given e → is_arrival given ≡ false → IsInside e
inside_is image_of s (event.Make client txn timeout) e is calm = subst IsInside (sym is) tt
inside_is image_of s (event.MakeProcessor client txn timeout group inputs process) e is calm =
    subst IsInside (sym is) tt
inside_is image_of s (event.Deliver number to store) e is calm = subst IsInside (sym is.2) tt
inside_is image_of s (event.Hand to input store) e is calm = subst IsInside (sym is.2) tt
inside_is image_of s (event.Arrive request) e is calm = absurd cc

neither : (a b : Bool) → (a || b) ≡ false → (a ≡ false) × (b ≡ false)
neither true b e = absurd cc
neither false b e = (refl, e)

or_none : (a b : Bool) → b ≡ false → (a || b) ≡ a
or_none true b e = refl
or_none false b e = e

-- what no element of a list passes
pub none_before : {A : Type 0} (test : A → Bool) (n : ℕ) (xs : List A) → list_any test xs ≡ false
    → list_any test (take n xs) ≡ false
none_before test zero [] e = refl
none_before test zero (x ∷ xs) e = refl
none_before test (suc n) [] e = refl
none_before test (suc n) (x ∷ xs) e =
    let both = neither (test x) (list_any test xs) e in
    ap (λ b. b || list_any test (take n xs)) both.0 ∙ none_before test n xs both.1

pub none_more : {A : Type 0} (test : A → Bool) (xs : List A) (x : A)
    → list_any test (xs ++ x ∷ []) ≡ false → (list_any test xs ≡ false) × (test x ≡ false)
none_more test [] x e = (refl, (neither (test x) false e).0)
none_more test (y ∷ xs) x e =
    let both = neither (test y) (list_any test (xs ++ x ∷ [])) e in
    let rest = none_more test xs x both.1 in
    (ap (λ b. b || list_any test xs) both.0 ∙ rest.0, rest.1)

-- nothing arrived in one event more
pub still_calm : (before after one more : Bool) → after ≡ (before || one) → one ≡ false
    → before ≡ more → after ≡ more
still_calm before after one more is none same = is ∙ or_none before one none ∙ same

module _ {C P O F : Type 0} (Coordinates : NodeState → C → Type 0)
    (Serves : NodeState → P → Type 0) (Groups : NodeState → O → Type 0) (image_of : F → Images)
  where
    abbrev Run : Running C P O F → System → Type 0
    Run = IsRun Coordinates Serves Groups image_of

    -- a system in which nothing has happened
    pub begins : (nodes : Nodes C P O F) (steps : List (List Message)) (arrived : Bool) (count : ℕ)
        → StandForAll Coordinates Serves Groups image_of nodes (start_system count) → steps ≡ []
        → Run (record { nodes = nodes; steps = steps; arrived = arrived }) (start_system count)
    unfolding run_open_system
    begins nodes steps arrived count h none = record {
      count = count;
      events = [];
      is_schedule = All-nil IsOpenSystemEvent;
      is_run = refl;
      inside = λ closed. All-nil IsInside;
      nodes = h;
      sent = ap joined none;
    }

    pub promised : ((count : ℕ) (events : List SystemEvent) → IsSystemSchedule events
        → KeepsAll (run_system events (start_system count))) → (r : Running C P O F) (s : System)
        → Run r s → r.arrived ≡ false → KeepsAll s
    promised keep r s is closed =
        let all = is.inside closed in
        subst KeepsAll
        (sym (is.is_run ∙ own_run is.events (start_system is.count) all))
        (keep is.count (own_events is.events) (own_fits is.events all is.is_schedule))

    module _ (before : Running C P O F) (after : Nodes C P O F) (arrived : Bool) (s : System)
        (given : happening.Event F) (taken : Taken) (r : Run before s)
        (fits : (e : OpenSystemEvent) → IsEvent image_of s given e → IsOpenSystemEvent e)
        (h : Occurs image_of s given (StandForAll Coordinates Serves Groups image_of after) taken)
        (arrives : arrived ≡ (before.arrived || is_arrival given)) where
      goes_on : Steps image_of s given (Run (record {
        nodes = after;
        steps = before.steps ++ taken.messages ∷ [];
        arrived = arrived;
      })) (answer_of taken)
      goes_on = record {
        happened = h.happened;
        is = h.is;
        stands = record {
          count = r.count;
          events = r.events ++ h.happened ∷ [];
          is_schedule = one_more IsOpenSystemEvent r.events h.happened r.is_schedule
              (fits h.happened h.is);
          is_run = ap (λ (t : System). (open_system_step t h.happened).0) r.is_run
              ∙ sym (run_more r.events h.happened (start_system r.count));
          inside = λ closed.
              let none = neither before.arrived (is_arrival given) (sym arrives ∙ closed) in
              one_more IsInside r.events h.happened (r.inside none.0)
              (inside_is image_of s given h.happened h.is none.1);
          nodes = h.stand;
          sent = joined_push before.steps taken.messages
              ∙ ap (λ ms. ms ++ taken.messages) r.sent ∙ sym h.sent;
        };
        note_is = h.note_is;
        failed_is = h.failed_is;
      }

      -- the same, if what was sent is named otherwise
      pub stepped : (steps : List (List Message)) → steps ≡ before.steps ++ taken.messages ∷ []
          → Steps image_of s given
          (Run (record { nodes = after; steps = steps; arrived = arrived })) (answer_of taken)
      stepped steps same =
          subst (λ (xs : List (List Message)). Steps image_of s given
          (Run (record { nodes = after; steps = xs; arrived = arrived })) (answer_of taken))
          (sym same) goes_on

    -- the messages of one step more are what was sent after the system before
    pub adds_step : (before later : Running C P O F) (s t : System) (messages : List Message)
        → Run before s → Run later t → later.steps ≡ before.steps ++ messages ∷ []
        → AddsStep s t before.steps later.steps
    adds_step before later s t messages r is same = record {
      messages = messages;
      steps_are = same;
      own = sym is.sent ∙ ap joined same ∙ joined_push before.steps messages
          ∙ ap (λ ms. ms ++ messages) r.sent;
    }

    -- events that happened, and one more
    pub runs_more : (before after : Running C P O F) (s : System)
        (given : List (happening.Event F)) (one : happening.Event F)
        (answer : (t : System) → Run before t → Happened)
        → ((t : System) (h : Run before t) → Steps image_of t one (Run after) (answer t h))
        → Runs image_of (Run before) s given → Runs image_of (Run after) s (given ++ one ∷ [])
    runs_more before after s [] one answer goes (NoneLeft t h) =
        let next = goes s h in
        OneMore s one [] next.happened next.is
        (NoneLeft (open_system_step s next.happened).0 next.stands)
    runs_more before after s (given ∷ more) one answer goes (OneMore t g m happened is rest) =
        OneMore s given (more ++ one ∷ []) happened is
        (runs_more before after (open_system_step s happened).0 more one answer goes rest)

    -- the same, if nothing more happened
    pub runs_still : (before after : Running C P O F) (s : System)
        (given : List (happening.Event F)) → ((t : System) → Run before t → Run after t)
        → Runs image_of (Run before) s given → Runs image_of (Run after) s given
    runs_still before after s [] still (NoneLeft t h) = NoneLeft s (still s h)
    runs_still before after s (given ∷ more) still (OneMore t g m happened is rest) =
        OneMore s given more happened is
        (runs_still before after (open_system_step s happened).0 more still rest)
