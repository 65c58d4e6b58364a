-- The event of a receipt.
use Rattle.std.proofs.Common.{◌≡◌, ◌++◌, ℕ, zero, suc, Bool, true, false, cond, List, [], ◌∷◌, Some}
use Rattle.std.proofs.Common.{length, refl, sym, ap, ◌∙◌, subst}
use Rattle.std.specs.Prelude.{slice_get}
use Rattle.kx_audit.specs.Joined.{Passed, at_node}
use Rattle.kx_audit.specs.Nodes.{same_node}
use Rattle.kx_audit.specs.Receipts.{IsAnswered, IsOfStep, events_at, place_of}
use Rattle.kx_audit.specs.Schedule.{AllOccur, IsEventOf, IsScheduleOf, Occurs, made_system}
use Rattle.kx_audit.specs.Making.{Trail}
use Rattle.kx_audit.specs.Told.{Told, told_at, told_in, told_of}
use Rattle.kx_machine.specs.declared.input.Input.{Input}
use Rattle.kx_machine.specs.declared.input.Input.TheVariants as input
use Rattle.kx_machine.specs.declared.taken.Taken.{Taken}
use Rattle.kx_message.specs.declared.message.Message.{Message}
use Rattle.kx_message.specs.declared.message.NodeId.{NodeId}
use Rattle.kx_model.specs.Disk.{Store}
use Rattle.kx_nodes.specs.declared.receipt.Receipt.{Receipt}
use Rattle.kx_system.specs.System.{System, SystemEvent, run_system, system_step}
use Rattle.kx_audit.proofs.Names.{same_is}

-- an event is at the node that is handed something
place_is : (sent : List Message) (to : NodeId) (given : Input) (store : Store) (event : SystemEvent)
    → IsEventOf sent to given store event → place_of event ≡ to
place_is sent to (input.Deliver m) store event is = ap place_of is.2
place_is sent to (input.Command c) store event is = ap place_of is
place_is sent to (input.Expire now) store event is = ap place_of is
place_is sent to input.Remind store event is = ap place_of is
place_is sent to (input.Drop group member) store event is = ap place_of is
place_is sent to (input.Put values) store event is = ap place_of is
place_is sent to (input.Restart now) store event is = ap place_of is

-- the event that is the step at a place among those of a node
record IsFound (begin : System) (events : List SystemEvent) (name : NodeId) (place : ℕ)
    (p : Passed) : Type 0 where
  before : List SystemEvent
  event : SystemEvent
  later : List SystemEvent
  events_are : events ≡ before ++ event ∷ later
  node_is : p.node ≡ name
  place_is : place ≡ length (events_at name before)
  occurs : Occurs (run_system before begin) p event

module _ (name : NodeId) (p : Passed) where
  one_more : (b : Bool) (e : SystemEvent) (before : List SystemEvent)
      → same_node (place_of e) name ≡ b
      → length (events_at name (e ∷ before))
      ≡ cond b (suc (length (events_at name before))) (length (events_at name before))
  one_more true e before is =
      ap (λ c. length (cond c (e ∷ events_at name before) (events_at name before))) is
  one_more false e before is =
      ap (λ c. length (cond c (e ∷ events_at name before) (events_at name before))) is

  -- behind one event more
  behind : (begin : System) (e : SystemEvent) (events : List SystemEvent) (place : ℕ) (b : Bool)
      → same_node (place_of e) name ≡ b → IsFound (system_step begin e).0 events name place p
      → IsFound begin (e ∷ events) name (cond b (suc place) place) p
  unfolding run_system
  behind begin e events place true is h = record {
    before = e ∷ h.before;
    event = h.event;
    later = h.later;
    events_are = ap (λ (es : List SystemEvent). e ∷ es) h.events_are;
    node_is = h.node_is;
    place_is = ap (λ (n : ℕ). suc n) h.place_is ∙ sym (one_more true e h.before is);
    occurs = h.occurs;
  }
  behind begin e events place false is h = record {
    before = e ∷ h.before;
    event = h.event;
    later = h.later;
    events_are = ap (λ (es : List SystemEvent). e ∷ es) h.events_are;
    node_is = h.node_is;
    place_is = h.place_is ∙ sym (one_more false e h.before is);
    occurs = h.occurs;
  }

  found_first : (begin : System) (q : Passed) (e : SystemEvent) (events : List SystemEvent)
      → q ≡ p → q.node ≡ name → Occurs begin q e → IsFound begin (e ∷ events) name 0 p
  unfolding run_system
  found_first begin q e events same is occurs = record {
    before = [];
    event = e;
    later = events;
    events_are = refl;
    node_is = sym (ap (λ (x : Passed). x.node) same) ∙ is;
    place_is = refl;
    occurs = subst (λ (x : Passed). Occurs begin x e) same occurs;
  }

  found : (begin : System) (merged : List Passed) (events : List SystemEvent) (place : ℕ)
      → AllOccur begin merged events → slice_get (at_node name merged) place ≡ Some p
      → IsFound begin events name place p
  found begin [] events place all there = absurd cc
  found begin (q ∷ merged) [] place all there = absurd all
  found begin (q ∷ merged) (e ∷ events) place all there =
      by (same_node q.node name) refl place there
      (λ k at. found (system_step begin e).0 merged events k all.1 at)
    where
      own : place_of e ≡ q.node
      own = place_is begin.world.sent q.node q.step.input all.0.store e all.0.is

      by : (b : Bool) → same_node q.node name ≡ b → (k : ℕ)
          → slice_get (cond b (q ∷ at_node name merged) (at_node name merged)) k ≡ Some p
          → ((n : ℕ) → slice_get (at_node name merged) n ≡ Some p
          → IsFound (system_step begin e).0 events name n p)
          → IsFound begin (e ∷ events) name k p
      by true is zero at rest =
          let same : q ≡ p = cc in
          found_first begin q e events same (same_is q.node name is) all.0
      by true is (suc k) at rest =
          behind begin e events k true (ap (λ (n : NodeId). same_node n name) own ∙ is) (rest k at)
      by false is k at rest =
          behind begin e events k false (ap (λ (n : NodeId). same_node n name) own ∙ is) (rest k at)

------ the step of a receipt

told_alike : (merged : List Passed) (name : NodeId)
    → told_at name (told_in merged) ≡ told_in (at_node name merged)
told_alike [] name = refl
told_alike (p ∷ merged) name = by (same_node p.node name) (told_alike merged name)
  where
    by : (b : Bool) → told_at name (told_in merged) ≡ told_in (at_node name merged)
        → cond b (told_of p ∷ told_at name (told_in merged)) (told_at name (told_in merged))
        ≡ told_in (cond b (p ∷ at_node name merged) (at_node name merged))
    by true rest = ap (λ (xs : List Told). told_of p ∷ xs) rest
    by false rest = rest

-- the step of which something is told
record IsToldOf (ps : List Passed) (k : ℕ) (x : Told) : Type 0 where
  step : Passed
  at : slice_get ps k ≡ Some step
  is : told_of step ≡ x

step_told : (ps : List Passed) (k : ℕ) (x : Told) → slice_get (told_in ps) k ≡ Some x
    → IsToldOf ps k x
step_told [] k x at = absurd cc
step_told (p ∷ ps) zero x at = record { step = p; at = refl; is = cc }
step_told (p ∷ ps) (suc k) x at =
    let rest = step_told ps k x at in
    record { step = rest.step; at = rest.at; is = rest.is }

pub is_answered : (arrived : List Message) (trails : List Trail) (merged : List Passed)
    (events : List SystemEvent) (s : System) (receipt : Receipt) (x : Told)
    → IsScheduleOf arrived trails merged events s → IsOfStep (told_in merged) receipt x
    → IsAnswered (made_system arrived trails) events receipt
is_answered arrived trails merged events s receipt x whole is =
    let begin = made_system arrived trails in
    let one = step_told (at_node receipt.node merged) receipt.place x
    (sym (ap (λ (xs : List Told). slice_get xs receipt.place) (told_alike merged receipt.node))
    ∙ is.there) in
    let p = one.step in
    let input_is : receipt.input ≡ p.step.input =
    is.input_is ∙ ap (λ (y : Told). y.step.input) (sym one.is) in
    let taken_is : receipt.taken ≡ p.taken =
    is.taken_is ∙ ap (λ (y : Told). y.taken) (sym one.is) in
    let f = found receipt.node p begin merged events receipt.place whole.occur one.at in
    let o = f.occurs in
    let at : System = run_system f.before begin in
    record {
      before = f.before;
      event = f.event;
      later = f.later;
      events_are = f.events_are;
      at_node = place_is at.world.sent p.node p.step.input o.store f.event o.is ∙ f.node_is;
      place_is = f.place_is;
      answers = record {
        store = o.store;
        is = subst (λ (to : NodeId). IsEventOf at.world.sent to receipt.input o.store f.event)
            f.node_is
            (subst (λ (given : Input). IsEventOf at.world.sent p.node given o.store f.event)
            (sym input_is) o.is);
        sent = o.sent ∙ ap (λ (t : Taken). at.world.sent ++ t.messages) (sym taken_is);
        note_is = ap (λ (t : Taken). t.note) taken_is ∙ o.note_is;
      };
    }
