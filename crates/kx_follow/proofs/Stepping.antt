-- One more step of a node, and so of all that is followed.
use Rattle.std.proofs.Common.{◌≡◌, ◌≢◌, ◌++◌, ℕ, All, List, [], ◌∷◌, Some, refl, sym, ap, ◌∙◌}
use Rattle.std.proofs.Common.{length, subst, ⊎_elim}
use Rattle.std.specs.Prelude.{slice_get, slice_set}
use Rattle.std.proofs.lemmas.List.Elements.{All-append, All-nil, All-push}
use Rattle.std.proofs.lemmas.Option.{same_Some}
use Rattle.kx_audit.specs.Arrivals.{requested}
use Rattle.kx_audit.specs.Joined.{GoesOn, Passed, WasHandedOut, at_node, handed_out, led_to}
use Rattle.kx_audit.specs.Joined.{steps_in}
use Rattle.kx_audit.specs.Making.{NodeMaking}
use Rattle.kx_audit.specs.Schedule.{IsNodeMaking, IsStep}
use Rattle.kx_audit.proofs.Places.{get_more}
use Rattle.kx_audit.proofs.Ways.{goes_push, led_push, steps_push}
use Rattle.kx_follow.specs.Beginning.{AreAt, AreNodes, IsNewName}
use Rattle.kx_follow.specs.Following.{Followed, Following, HasMade, IsLed, IsOf}
use Rattle.kx_follow.specs.Following.{MakesOneMore}
use Rattle.kx_follow.specs.Following.{arrived_in, makings_of, name_of, state_after}
use Rattle.kx_follow.specs.Internal.{Steps}
use Rattle.kx_follow.specs.Pending.{AreLeft, Waiting}
use Rattle.kx_machine.specs.Meaning.{NodeState}
use Rattle.kx_machine.specs.declared.input.Input.{Input}
use Rattle.kx_machine.specs.declared.machine.StoreMode.{StoreMode}
use Rattle.kx_machine.specs.declared.taken.Taken.{Taken}
use Rattle.kx_message.specs.declared.message.NodeId.{NodeId}
use Rattle.kx_nodes.specs.Replay.{mark_of}
use Rattle.kx_outside.specs.Requests.{IsRequest}
use Rattle.kx_follow.proofs.Counting.{left_none}
use Rattle.kx_follow.proofs.History.{arrived_push, at_push_other, at_push_own, order_push}
use Rattle.kx_follow.proofs.Lists.{get_push, get_set, map_set, set_here, set_there}

-- one more of them, under a name of its own
pub one_named : {B M : Type 0} (making : B → NodeMaking) (nodes : List (Followed B M))
    (n : Followed B M) → AreNodes making nodes → IsNodeMaking (making n.made)
    → IsNewName making (name_of making n) nodes → AreNodes making (nodes ++ n ∷ [])
one_named making nodes n are fits new = record {
  apart = λ j k q r qat rat same.
      ⊎_elim
      (λ (a : slice_get nodes j ≡ Some q).
      ⊎_elim
      (λ (b : slice_get nodes k ≡ Some r). are.apart j k q r a b same)
      (λ (b : (k ≡ length nodes) × (n ≡ r)).
      absurd (new j q a (same ∙ ap (name_of making) (sym b.1))))
      (get_push nodes n k r rat))
      (λ (a : (j ≡ length nodes) × (n ≡ q)).
      ⊎_elim
      (λ (b : slice_get nodes k ≡ Some r).
      absurd (new k r b (sym same ∙ ap (name_of making) (sym a.1))))
      (λ (b : (k ≡ length nodes) × (n ≡ r)). a.0 ∙ sym b.0)
      (get_push nodes n k r rat))
      (get_push nodes n j q qat);
  fit = λ k q qat.
      ⊎_elim
      (λ (a : slice_get nodes k ≡ Some q). are.fit k q a)
      (λ (a : (k ≡ length nodes) × (n ≡ q)).
      subst (λ (x : Followed _ _). IsNodeMaking (making x.made)) a.1 fits)
      (get_push nodes n k q qat);
}

module _ {B M : Type 0} (making : B → NodeMaking) (stands : NodeState → M → Type 0) where
  abbrev name : Followed B M → NodeId
  name n = name_of making n

  -- no step was made, and nothing waits
  pub begins : (starts : List NodeState) (nodes : List (Followed B M)) → AreNodes making nodes
      → AreAt making stands starts nodes
      → HasMade making stands starts [] (record { nodes = nodes; pending = [] })
  begins starts nodes are led = record {
    apart = are.apart;
    led = λ k n at.
        let own = led k n at in
        record {
          fits = are.fit k n at;
          start = own.0;
          begins = own.1;
          goes = tt;
          stands_so = own.2;
        };
    no_others = λ j p at. absurd cc;
    in_order = tt;
    requests = All-nil IsRequest;
    fits = All-nil IsStep;
    left = left_none;
  }

  module _ (starts : List NodeState) (history : List Passed) (old : Following B M) (k : ℕ)
      (n : Followed B M) (at : slice_get old.nodes k ≡ Some n) (input : Input) (mode : StoreMode)
      (taken : Taken) (next : Followed B M) (same : next.made ≡ n.made) (pending : Waiting)
      (made : HasMade making stands starts history old)
      (steps : Steps stands (state_after making (made.led k n at).start history n) input mode taken
      next.machine)
      (was : WasHandedOut (requested input ++ handed_out history) input)
      (requests : All IsRequest (requested input)) where
    abbrev pub p : Passed
    p = record {
      node = name n;
      step = record { input = input; mark = mark_of taken };
      taken = taken;
      after = steps.after;
    }

    abbrev then_nodes : List (Followed B M)
    then_nodes = slice_set old.nodes k next

    abbrev then_all : Following B M
    then_all = record { nodes = then_nodes; pending = pending }

    -- a node keeps how it was made
    record Was (j : ℕ) (q : Followed B M) : Type 0 where
      before : Followed B M
      there : slice_get old.nodes j ≡ Some before
      made_is : q.made ≡ before.made

    was_there : (j : ℕ) (q : Followed B M) → slice_get then_nodes j ≡ Some q → Was j q
    was_there j q there =
        ⊎_elim
        (λ (t : (j ≡ k) × (next ≡ q)). record {
          before = n;
          there = ap (λ i. slice_get old.nodes i) t.0 ∙ at;
          made_is = ap (λ (x : Followed B M). x.made) (sym t.1) ∙ same;
        })
        (λ (t : (j ≢ k) × (slice_get old.nodes j ≡ Some q)).
        record { before = q; there = t.1; made_is = refl })
        (get_set old.nodes k next j q there)

    name_stays : (j : ℕ) (q : Followed B M) (w : Was j q) → name q ≡ name w.before
    name_stays j q w = ap (λ (b : B). name (record { made = b; machine = q.machine })) w.made_is

    led_own : IsLed making stands starts (history ++ p ∷ []) k
        (record { made = n.made; machine = next.machine })
    led_own =
        let led = made.led k n at in
        let begin = led.start in
        let way = at_node (name n) history in
        record {
          fits = led.fits;
          start = begin;
          begins = led.begins;
          goes = subst (GoesOn begin) (sym (at_push_own history p))
              (goes_push begin way p led.goes steps.takes);
          stands_so = subst (λ (ps : List Passed). stands (led_to begin ps) next.machine)
              (sym (at_push_own history p))
              (subst (λ (state : NodeState). stands state next.machine) (sym (led_push begin way p))
              steps.stands_so);
        }

    led_other : (q : Followed B M) (j : ℕ) → slice_get old.nodes j ≡ Some q → j ≢ k
        → IsLed making stands starts (history ++ p ∷ []) j q
    led_other q j there other =
        let led = made.led j q there in
        let e = at_push_other (name q) history p (λ h. other (made.apart j k q n there at h)) in
        let begin = led.start in
        record {
          fits = led.fits;
          start = begin;
          begins = led.begins;
          goes = subst (GoesOn begin) (sym e) led.goes;
          stands_so = subst (λ (ps : List Passed). stands (led_to begin ps) q.machine) (sym e)
              led.stands_so;
        }

    led_then : (j : ℕ) (q : Followed B M) → slice_get then_nodes j ≡ Some q
        → IsLed making stands starts (history ++ p ∷ []) j q
    led_then j q there =
        ⊎_elim
        (λ (t : (j ≡ k) × (next ≡ q)).
        subst (λ (i : ℕ). IsLed making stands starts (history ++ p ∷ []) i q) (sym t.0)
        (subst (λ (x : Followed B M). IsLed making stands starts (history ++ p ∷ []) k x) t.1
        (subst (λ (b : B). IsLed making stands starts (history ++ p ∷ []) k
        (record { made = b; machine = next.machine })) (sym same) led_own)))
        (λ (t : (j ≢ k) × (slice_get old.nodes j ≡ Some q)). led_other q j t.1 t.0)
        (get_set old.nodes k next j q there)

    makings_stay : makings_of then_nodes ≡ makings_of old.nodes
    makings_stay = map_set (λ (x : Followed B M). x.made) old.nodes k n next at same

    apart_then : (i j : ℕ) (q r : Followed B M) → slice_get then_nodes i ≡ Some q
        → slice_get then_nodes j ≡ Some r → name q ≡ name r → i ≡ j
    apart_then i j q r qat rat e =
        let was_q = was_there i q qat in
        let was_r = was_there j r rat in
        made.apart i j was_q.before was_r.before was_q.there was_r.there
        (sym (name_stays i q was_q) ∙ e ∙ name_stays j r was_r)

    of_old : (q : Passed) → IsOf making old.nodes q → IsOf making then_nodes q
    of_old q is =
        let e = is.name_is in
        let there = set_there old.nodes k next is.number is.node is.there in
        ⊎_elim
        (λ (t : (is.number ≡ k) × (slice_get then_nodes is.number ≡ Some next)).
        let node_is : is.node ≡ n = same_Some is.node n
        (sym is.there ∙ ap (λ i. slice_get old.nodes i) t.0 ∙ at) in
        record {
          number = is.number;
          node = next;
          there = t.1;
          name_is = e ∙ ap name node_is
              ∙ sym (ap (λ (b : B). name (record { made = b; machine = next.machine })) same);
        })
        (λ (t : slice_get then_nodes is.number ≡ Some is.node).
        record { number = is.number; node = is.node; there = t; name_is = e })
        there

    own : IsOf making old.nodes p
    own = record { number = k; node = n; there = at; name_is = refl }

    no_others_then : (j : ℕ) (q : Passed) → slice_get (history ++ p ∷ []) j ≡ Some q
        → IsOf making then_nodes q
    no_others_then j q there =
        of_old q (⊎_elim (λ before. made.no_others j q before)
        (λ same_step. subst (IsOf making old.nodes) same_step own) (get_more history p j q there))

    made_then : All IsStep (p.step ∷ []) → AreLeft (history ++ p ∷ []) pending
        → HasMade making stands starts (history ++ p ∷ []) then_all
    made_then fits left = record {
      apart = apart_then;
      led = led_then;
      no_others = no_others_then;
      in_order = order_push history p made.in_order was;
      requests = subst (All IsRequest) (sym (arrived_push history p))
          (All-append IsRequest (arrived_in history) (requested input) made.requests requests);
      fits = subst (All IsStep) (sym (steps_push history p))
          (All-append IsStep (steps_in history) (p.step ∷ []) made.fits fits);
      left = left;
    }

    pub one_more : IsStep p.step → AreLeft (history ++ p ∷ []) pending
        → MakesOneMore making stands starts k input mode taken history old then_all
    one_more fit left = record {
      node = n;
      there = at;
      start = (made.led k n at).start;
      begins = (made.led k n at).begins;
      passed = p;
      name_is = refl;
      input_is = refl;
      mark_is = refl;
      taken_is = refl;
      takes = steps.takes;
      meets = steps.meets;
      next = next;
      there_then = set_here old.nodes k next n at;
      stands_so = steps.stands_so;
      makings = makings_stay;
      made = made_then (All-push IsStep [] p.step (All-nil IsStep) fit) left;
    }
