-- Merged steps are events of a system, one after the other.
use Rattle.std.proofs.Common.{◌≡◌, ◌++◌, Bool, true, false, cond, List, [], ◌∷◌, Some, None}
use Rattle.std.proofs.Common.{refl, sym, ap, ◌∙◌, subst, append-nil, Option}
use Rattle.std.specs.Prelude.{All}
use Rattle.std.proofs.lemmas.List.{append_assoc}
use Rattle.std.proofs.lemmas.List.Elements.{All-cons, All-nil}
use Rattle.kx_audit.specs.Joined.{GoesOn, Passed, TakesInOrder, WasHandedOut, at_node, handed_out}
use Rattle.kx_audit.specs.Joined.{led_to}
use Rattle.kx_audit.specs.Nodes.{node_in, same_node}
use Rattle.kx_audit.specs.Schedule.{AllOccur, IsStep, Occurs}
use Rattle.kx_machine.specs.Meaning.{NodeState, input_of, note_of}
use Rattle.kx_machine.specs.declared.taken.Taken.{Taken}
use Rattle.kx_message.specs.declared.message.Message.{Message}
use Rattle.kx_message.specs.declared.message.NodeId.{NodeId}
use Rattle.kx_nodes.specs.Replay.{Takes}
use Rattle.kx_system.specs.System.{IsSystemEvent, System, SystemEvent, SystemStepped, run_system}
use Rattle.kx_system.specs.System.{system_step}
use Rattle.kx_audit.proofs.Going.{goes}
use Rattle.kx_audit.proofs.Handing.{hands}
use Rattle.kx_audit.proofs.Names.{same_is, same_not, same_self}

------ one step

-- an event is the step
pub record Happened (s : System) (p : Passed) : Type 0 where
  pub event : SystemEvent
  pub fits : IsSystemEvent event
  pub occurs : Occurs s p event

-- a step of a node that stands where it begins
pub happened : (s : System) (p : Passed) (before : NodeState) → node_in s p.node ≡ Some before
    → Takes before p.step p.taken p.after → IsStep p.step
    → WasHandedOut s.world.sent p.step.input → Happened s p
happened s p before there takes fits was =
    let h = hands s p.node takes.store p.step.input fits was in
    let g = goes s takes.store (input_of p.step.input) p.node before there in
    record {
      event = h.event;
      fits = h.fits;
      occurs = record {
        store = takes.store;
        is = h.is;
        node_is = ap (λ (t : SystemStepped). node_in t.0 p.node) h.steps ∙ g.node_is
            ∙ ap Some (sym takes.after_is);
        others = λ other apart. ap (λ (t : SystemStepped). node_in t.0 other) h.steps
            ∙ g.others other apart;
        sent = ap (λ (t : SystemStepped). t.0.world.sent) h.steps ∙ g.sent
            ∙ ap (λ ms. s.world.sent ++ ms) (sym (ap (λ (x : Taken). x.messages) takes.answer));
        note_is = ap (λ (x : Taken). x.note) takes.answer
            ∙ ap note_of (sym (ap (λ (t : SystemStepped). t.1) h.steps ∙ g.note_is));
      };
    }

------ the steps at a node

pub at_own : (p : Passed) (ps : List Passed) (name : NodeId) → same_node p.node name ≡ true
    → at_node name (p ∷ ps) ≡ p ∷ at_node name ps
at_own p ps name e = ap (λ b. cond b (p ∷ at_node name ps) (at_node name ps)) e

pub at_other : (p : Passed) (ps : List Passed) (name : NodeId) → same_node p.node name ≡ false
    → at_node name (p ∷ ps) ≡ at_node name ps
at_other p ps name e = ap (λ b. cond b (p ∷ at_node name ps) (at_node name ps)) e

-- if steps lead from the node that is there, if there is one
abbrev pub led_in : Option NodeState → List Passed → Option NodeState
led_in None ps = None
led_in (Some node) ps = Some (led_to node ps)

pub led_nowhere : (o : Option NodeState) → o ≡ led_in o []
led_nowhere None = refl
led_nowhere (Some node) = refl

------ all steps

-- the steps are of nodes with these names
module _ (IsKnown : NodeId → Type 0) where
  abbrev pub AreKnown : List Passed → Type 0
  AreKnown [] = Unit {0}
  AreKnown (p ∷ ps) = (IsKnown p.node × IsStep p.step) × AreKnown ps

  -- a node of this name takes the steps at it
  pub record Stands (s : System) (merged : List Passed) (name : NodeId) : Type 0 where
    pub before : NodeState
    pub there : node_in s name ≡ Some before
    pub goes_on : GoesOn before (at_node name merged)

  abbrev pub AllStand : System → List Passed → Type 0
  AllStand s merged = (name : NodeId) → IsKnown name → Stands s merged name

  module _ (s : System) (p : Passed) (ps : List Passed) (event : SystemEvent)
      (is : Occurs s p event) where
    abbrev later : System
    later = (system_step s event).0

    stands_on : (name : NodeId) (b : Bool) → same_node p.node name ≡ b
        → GoesOn p.after (at_node p.node ps) → Stands s (p ∷ ps) name → Stands later ps name
    stands_on name true e on old =
        subst (Stands later ps) (same_is p.node name e)
        (record { before = p.after; there = is.node_is; goes_on = on })
    stands_on name false e on old = record {
      before = old.before;
      there = is.others name (λ h. same_not p.node name e (sym h)) ∙ old.there;
      goes_on = subst (GoesOn old.before) (at_other p ps name e) old.goes_on;
    }

    leads : (events : List SystemEvent) → ((name : NodeId) → node_in (run_system events later) name
        ≡ led_in (node_in later name) (at_node name ps)) → (before : NodeState)
        → node_in s p.node ≡ Some before → (name : NodeId) (b : Bool) → same_node p.node name ≡ b
        → node_in (run_system events later) name
        ≡ led_in (node_in s name) (at_node name (p ∷ ps))
    leads events rest before there name true e =
        let own : p.node ≡ name = same_is p.node name e in
        rest name
        ∙ ap (λ o. led_in o (at_node name ps))
        (subst (λ (n : NodeId). node_in later n ≡ Some p.after) own is.node_is)
        ∙ sym (ap (λ o. led_in o (at_node name (p ∷ ps)))
        (subst (λ (n : NodeId). node_in s n ≡ Some before) own there)
        ∙ ap (λ (qs : List Passed). Some (led_to before qs)) (at_own p ps name e))
    leads events rest before there name false e =
        rest name
        ∙ ap (λ o. led_in o (at_node name ps))
        (is.others name (λ h. same_not p.node name e (sym h)))
        ∙ ap (led_in (node_in s name)) (sym (at_other p ps name e))

  pub record Merges (s : System) (merged : List Passed) : Type 0 where
    pub events : List SystemEvent
    pub fit : All IsSystemEvent events
    pub occur : AllOccur s merged events
    pub stand : (name : NodeId) → node_in (run_system events s) name
        ≡ led_in (node_in s name) (at_node name merged)
    pub sent : (run_system events s).world.sent ≡ s.world.sent ++ handed_out merged

  -- one step, and then those behind it
  merges_more : (s : System) (p : Passed) (ps : List Passed) (before : NodeState)
      → node_in s p.node ≡ Some before → (one : Happened s p)
      → Merges (later s p ps one.event one.occurs) ps → Merges s (p ∷ ps)
  unfolding run_system
  merges_more s p ps before there one rest = record {
    events = one.event ∷ rest.events;
    fit = All-cons IsSystemEvent one.event rest.events one.fits rest.fit;
    occur = (one.occurs, rest.occur);
    stand = λ name.
        leads s p ps one.event one.occurs rest.events rest.stand before there name
        (same_node p.node name) refl;
    sent = rest.sent ∙ ap (λ (ms : List Message). ms ++ handed_out ps) one.occurs.sent
        ∙ append_assoc s.world.sent p.taken.messages (handed_out ps);
  }

  pub merges : (merged : List Passed) (s : System) → AreKnown merged
      → TakesInOrder s.world.sent merged → AllStand s merged → Merges s merged
  unfolding run_system
  merges [] s known order stand = record {
    events = [];
    fit = All-nil IsSystemEvent;
    occur = tt;
    stand = λ name. led_nowhere (node_in s name);
    sent = sym (append-nil s.world.sent);
  }
  merges (p ∷ ps) s known order stand =
      let own = stand p.node known.0.0 in
      let takes : GoesOn own.before (p ∷ at_node p.node ps) =
      subst (GoesOn own.before) (at_own p ps p.node (same_self p.node)) own.goes_on in
      let one = happened s p own.before own.there takes.0 known.0.1 order.0 in
      merges_more s p ps own.before own.there one
      (merges ps (later s p ps one.event one.occurs) known.1
      (subst (λ (ms : List Message). TakesInOrder ms ps) (sym one.occurs.sent) order.1)
      (λ name know. stands_on s p ps one.event one.occurs name (same_node p.node name) refl
      takes.1 (stand name know)))
