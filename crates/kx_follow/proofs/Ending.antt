-- What all steps that were made are: joined traces, and so an open schedule.
use Rattle.std.proofs.Common.{◌≡◌, ◌++◌, ⊎_elim, ℕ, All, Bool, true, false, cond, List, [], ◌∷◌, Some, refl}
use Rattle.std.proofs.Common.{sym, ap, ◌∙◌, subst}
use Rattle.std.specs.Prelude.{slice_get}
use Rattle.std.proofs.lemmas.List.Elements.{All-append, All-cons, All-head, All-tail}
use Rattle.kx_audit.specs.Joined.{AreJoined, GoesOn, IsWay, Passed, TakesInOrder, at_node, led_to}
use Rattle.kx_audit.specs.Joined.{steps_in}
use Rattle.kx_audit.specs.Making.{NodeMaking, Trail, named, node_of}
use Rattle.kx_audit.specs.Nodes.{same_node}
use Rattle.kx_audit.specs.Run.{IsOpenSchedule}
use Rattle.kx_audit.specs.Schedule.{AllFit, Fits, IsNodeMaking, IsStep}
use Rattle.kx_audit.proofs.Places.{from_map, to_map}
use Rattle.kx_follow.specs.Beginning.{AreLedBy}
use Rattle.kx_follow.specs.Following.{AreApart, Followed, Following, HasMade, IsOf, arrived_in}
use Rattle.kx_follow.specs.Following.{name_of, trail_in, trails_in}
use Rattle.kx_follow.specs.Whole.{IsWholeRun}
use Rattle.kx_machine.specs.Meaning.{NodeState}
use Rattle.kx_message.specs.declared.message.Message.{Message}
use Rattle.kx_message.specs.declared.message.NodeId.{NodeId}
use Rattle.kx_outside.specs.Requests.{IsRequest}
use Rattle.kx_follow.proofs.History.{arrived_both, at_both, goes_both, led_both, order_both}
use Rattle.kx_follow.proofs.History.{steps_both}
use Rattle.kx_follow.proofs.Lists.{get_both}
use Rattle.kx_system.specs.System.{System}

-- the steps at a node are of those of all
steps_fit : (history : List Passed) (name : NodeId) → All IsStep (steps_in history)
    → All IsStep (steps_in (at_node name history))
steps_fit [] name fits = fits
steps_fit (p ∷ history) name fits =
    by (same_node p.node name)
    (steps_fit history name (All-tail IsStep p.step (steps_in history) fits))
  where
    by : (b : Bool) → All IsStep (steps_in (at_node name history))
        → All IsStep (steps_in (cond b (p ∷ at_node name history) (at_node name history)))
    by true rest =
        All-cons IsStep p.step (steps_in (at_node name history))
        (All-head IsStep p.step (steps_in history) fits) rest
    by false rest = rest

-- the node's steps lead, from the node as it was made, to one for which its machine stands
pub record IsLedAll {B M : Type 0} (making : B → NodeMaking) (stands : NodeState → M → Type 0)
    (history : List Passed) (n : Followed B M) : Type 0 where
  pub fits : IsNodeMaking (making n.made)
  pub goes : GoesOn (node_of (making n.made)) (at_node (name_of making n) history)
  pub stands_so : stands (led_to (node_of (making n.made)) (at_node (name_of making n) history)) n.machine

-- these are all steps of the nodes since they were made
pub record HasMadeAll {B M : Type 0} (making : B → NodeMaking) (stands : NodeState → M → Type 0)
    (history : List Passed) (f : Following B M) : Type 0 where
  pub apart : AreApart making f.nodes
  pub led : (k : ℕ) (n : Followed B M) → slice_get f.nodes k ≡ Some n
      → IsLedAll making stands history n
  pub no_others : (j : ℕ) (p : Passed) → slice_get history j ≡ Some p → IsOf making f.nodes p
  pub in_order : TakesInOrder (arrived_in history) history
  pub requests : All IsRequest (arrived_in history)
  pub fits : All IsStep (steps_in history)

module _ {B M : Type 0} (making : B → NodeMaking) (stands : NodeState → M → Type 0)
    (starts : List NodeState) (before history : List Passed) (f : Following B M)
    (made : HasMade making stands starts history f) (led : AreLedBy making before starts f.nodes)
  where
    led_all : (k : ℕ) (n : Followed B M) → slice_get f.nodes k ≡ Some n
        → IsLedAll making stands (before ++ history) n
    led_all k n at =
        let own = made.led k n at in
        let first = led.each k n own.start at own.begins in
        let begin = node_of (making n.made) in
        let name = name_of making n in
        let one = at_node name before in
        let two = at_node name history in
        record {
          fits = own.fits;
          goes = subst (GoesOn begin) (sym (at_both name before history))
              (goes_both begin one two first.goes
              (subst (λ (s : NodeState). GoesOn s two) (sym first.leads) own.goes));
          stands_so = subst (λ (ps : List Passed). stands (led_to begin ps) n.machine)
              (sym (at_both name before history))
              (subst (λ (s : NodeState). stands s n.machine)
              (sym (led_both begin one two ∙ ap (λ (s : NodeState). led_to s two) first.leads))
              own.stands_so);
        }

    pub made_all : HasMadeAll making stands (before ++ history) f
    made_all = record {
      apart = made.apart;
      led = led_all;
      no_others = λ j p at.
          ⊎_elim (λ a. led.no_others j p a) (λ a. made.no_others a.0 p a.1)
          (get_both before history j p at);
      in_order = order_both before history led.in_order made.in_order;
      requests = subst (All IsRequest) (sym (arrived_both before history))
          (All-append IsRequest (arrived_in before) (arrived_in history) led.requests made.requests);
      fits = subst (All IsStep) (sym (steps_both before history))
          (All-append IsStep (steps_in before) (steps_in history) led.fits made.fits);
    }

module _ {B M : Type 0} (making : B → NodeMaking) (stands : NodeState → M → Type 0)
    (history : List Passed) (f : Following B M) (made : HasMadeAll making stands history f) where
  abbrev trails : List Trail
  trails = trails_in making history f.nodes

  record IsTrail (k : ℕ) (t : Trail) : Type 0 where
    node : Followed B M
    there : slice_get f.nodes k ≡ Some node
    trail_is : trail_in making history node ≡ t

  trail_at : (k : ℕ) (t : Trail) → slice_get trails k ≡ Some t → IsTrail k t
  trail_at k t at =
      let is = from_map (trail_in making history) f.nodes k t at in
      record { node = is.0; there = is.1; trail_is = is.2 }

  all_fit : AllFit trails
  all_fit k t at =
      let is = trail_at k t at in
      subst (λ (u : Trail). Fits u) is.trail_is (record {
        made = (made.led k is.node is.there).fits;
        steps = steps_fit history (name_of making is.node) made.fits;
      })

  joined : AreJoined (arrived_in history) trails history
  joined = record {
    apart = λ j k t u tat uat e.
        let one = trail_at j t tat in
        let other = trail_at k u uat in
        made.apart j k one.node other.node one.there other.there
        (ap (λ (x : Trail). named x.made) one.trail_is ∙ e
        ∙ sym (ap (λ (x : Trail). named x.made) other.trail_is));
    each = λ k t at.
        let is = trail_at k t at in
        subst (λ (u : Trail). IsWay u (at_node (named u.made) history)) is.trail_is (record {
          goes = (made.led k is.node is.there).goes;
          steps_are = refl;
        });
    no_others = λ k p at.
        let is = made.no_others k p at in (
          is.number,
          trail_in making history is.node,
          to_map (trail_in making history) f.nodes is.number is.node is.there,
          is.name_is,
        );
    in_order = made.in_order;
  }

  module _ (law : (arrived : List Message) (ts : List Trail) (merged : List Passed) → AllFit ts
      → All IsRequest arrived → AreJoined arrived ts merged
      → (s : System) × IsOpenSchedule arrived ts merged s) where
    pub whole : (s : System) × IsWholeRun making stands history f s
    whole =
        let all = law (arrived_in history) trails history all_fit made.requests joined in
        let s = all.0 in (
          s,
          record {
            schedule = all.1;
            ends = λ k n at.
                let stand = all.1.is.stand k (trail_in making history n)
                (to_map (trail_in making history) f.nodes k n at) in
                record {
                  node = led_to (node_of (making n.made)) (at_node (name_of making n) history);
                  there = stand.node_is;
                  stands_so = (made.led k n at).stands_so;
                };
          },
        )
