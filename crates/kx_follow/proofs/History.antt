-- One more step of a history.
use Rattle.std.proofs.Common.{◌≡◌, ◌≢◌, ◌++◌, Bool, true, false, cond, List, [], ◌∷◌, sym, ap, ◌∙◌}
use Rattle.std.proofs.Common.{refl, subst, append-nil, ⊎_elim}
use Rattle.std.specs.Prelude.{Contains}
use Rattle.std.proofs.lemmas.Grind.{flat_map-append}
use Rattle.std.proofs.lemmas.List.{append_assoc}
use Rattle.std.proofs.lemmas.List.Elements.{Contains-append_cases, Contains-append_left}
use Rattle.std.proofs.lemmas.List.Elements.{Contains-append_right, filter-append}
use Rattle.kx_audit.specs.Arrivals.{requested, requests_in}
use Rattle.kx_audit.specs.Joined.{GoesOn, Passed, TakesInOrder, WasHandedOut, at_node, handed_out}
use Rattle.kx_audit.specs.Joined.{led_to, steps_in}
use Rattle.kx_audit.specs.Nodes.{same_node}
use Rattle.kx_audit.proofs.Names.{apart, same_self}
use Rattle.kx_audit.proofs.Ways.{steps_push}
use Rattle.kx_follow.specs.Following.{arrived_in}
use Rattle.kx_machine.specs.Meaning.{NodeState}
use Rattle.kx_machine.specs.declared.input.Input.{Input}
use Rattle.kx_machine.specs.declared.input.Input.TheVariants as input
use Rattle.kx_message.specs.declared.message.Message.{Message}
use Rattle.kx_message.specs.declared.message.NodeId.{NodeId}
use Rattle.kx_nodes.specs.declared.trace.Step.{Step}

------ the steps of a node

at_push : (name : NodeId) (history : List Passed) (p : Passed) (b : Bool)
    → same_node p.node name ≡ b
    → at_node name (history ++ p ∷ []) ≡ at_node name history ++ cond b (p ∷ []) []
at_push name history p b e =
    filter-append (λ (q : Passed). same_node q.node name) history (p ∷ [])
    ∙ ap (λ (c : Bool). at_node name history ++ cond c (p ∷ []) []) e

pub at_push_own : (history : List Passed) (p : Passed)
    → at_node p.node (history ++ p ∷ []) ≡ at_node p.node history ++ p ∷ []
at_push_own history p = at_push p.node history p true (same_self p.node)

pub at_push_other : (name : NodeId) (history : List Passed) (p : Passed) → name ≢ p.node
    → at_node name (history ++ p ∷ []) ≡ at_node name history
at_push_other name history p other =
    at_push name history p false (apart p.node name (λ h. other (sym h)))
    ∙ append-nil (at_node name history)

-- those of one history, and then of another
pub at_both : (name : NodeId) (before history : List Passed)
    → at_node name (before ++ history) ≡ at_node name before ++ at_node name history
at_both name before history =
    filter-append (λ (q : Passed). same_node q.node name) before history

pub led_both : (start : NodeState) (a b : List Passed)
    → led_to start (a ++ b) ≡ led_to (led_to start a) b
led_both start [] b = refl
led_both start (p ∷ a) b = led_both p.after a b

pub goes_both : (start : NodeState) (a b : List Passed) → GoesOn start a
    → GoesOn (led_to start a) b → GoesOn start (a ++ b)
goes_both start [] b goes more = more
goes_both start (p ∷ a) b goes more = (goes.0, goes_both p.after a b goes.1 more)

pub steps_both : (a b : List Passed) → steps_in (a ++ b) ≡ steps_in a ++ steps_in b
steps_both [] b = refl
steps_both (p ∷ a) b = ap (λ (steps : List Step). p.step ∷ steps) (steps_both a b)

------ messages

pub arrived_both : (before history : List Passed)
    → arrived_in (before ++ history) ≡ arrived_in before ++ arrived_in history
arrived_both before history =
    ap (λ (steps : List Step). requests_in steps) (steps_both before history)
    ∙ flat_map-append (λ (step : Step). requested step.input) (steps_in before) (steps_in history)

pub arrived_push : (history : List Passed) (p : Passed)
    → arrived_in (history ++ p ∷ []) ≡ arrived_in history ++ requested p.step.input
arrived_push history p =
    ap (λ (steps : List Step). requests_in steps) (steps_push history p)
    ∙ flat_map-append (λ (step : Step). requested step.input) (steps_in history) (p.step ∷ [])
    ∙ ap (λ (ms : List Message). arrived_in history ++ ms) (append-nil (requested p.step.input))

pub handed_push : (history : List Passed) (p : Passed)
    → handed_out (history ++ p ∷ []) ≡ handed_out history ++ p.taken.messages
handed_push history p =
    flat_map-append (λ (q : Passed). q.taken.messages) history (p ∷ [])
    ∙ ap (λ (ms : List Message). handed_out history ++ ms) (append-nil p.taken.messages)

------ the order

abbrev Covers : List Message → List Message → Type 0
Covers more sent = (m : Message) → Contains sent m → Contains more m

was_more : (sent more : List Message) (i : Input) → Covers more sent → WasHandedOut sent i
    → WasHandedOut more i
was_more sent more (input.Deliver message) covers was = covers message was
was_more sent more (input.Command command) covers was = tt
was_more sent more (input.Expire now) covers was = tt
was_more sent more input.Remind covers was = tt
was_more sent more (input.Drop group member) covers was = tt
was_more sent more (input.Put values) covers was = tt
was_more sent more (input.Restart now) covers was = tt

covers_both : (sent more also : List Message) → Covers more sent
    → Covers (more ++ also) (sent ++ also)
covers_both sent more also covers m has =
    ⊎_elim (λ t. Contains-append_left more also m (covers m t))
    (λ t. Contains-append_right more also m t) (Contains-append_cases sent also m has)

order_more : (sent more : List Message) (history : List Passed) → Covers more sent
    → TakesInOrder sent history → TakesInOrder more history
order_more sent more [] covers order = tt
order_more sent more (p ∷ history) covers order = (
  was_more sent more p.step.input covers order.0,
  order_more (sent ++ p.taken.messages) (more ++ p.taken.messages) history
      (covers_both sent more p.taken.messages covers) order.1,
)

order_last : (sent : List Message) (history : List Passed) (p : Passed)
    → TakesInOrder sent history → WasHandedOut (sent ++ handed_out history) p.step.input
    → TakesInOrder sent (history ++ p ∷ [])
order_last sent [] p order was =
    (subst (λ (ms : List Message). WasHandedOut ms p.step.input) (append-nil sent) was, tt)
order_last sent (q ∷ history) p order was = (
  order.0,
  order_last (sent ++ q.taken.messages) history p order.1
      (subst (λ (ms : List Message). WasHandedOut ms p.step.input)
      (sym (append_assoc sent q.taken.messages (handed_out history))) was),
)

-- it takes in a request that arrives, or what was sent before it
pub order_push : (history : List Passed) (p : Passed) → TakesInOrder (arrived_in history) history
    → WasHandedOut (requested p.step.input ++ handed_out history) p.step.input
    → TakesInOrder (arrived_in (history ++ p ∷ [])) (history ++ p ∷ [])
order_push history p order was =
    let now = requested p.step.input in
    let arrived = arrived_in history in
    let sent = handed_out history in
    subst (λ (ms : List Message). TakesInOrder ms (history ++ p ∷ [])) (sym (arrived_push history p))
    (order_last (arrived ++ now) history p
    (order_more arrived (arrived ++ now) history (λ m has. Contains-append_left arrived now m has)
    order)
    (was_more (now ++ sent) ((arrived ++ now) ++ sent) p.step.input
    (λ m has. ⊎_elim
    (λ t. Contains-append_left (arrived ++ now) sent m (Contains-append_right arrived now m t))
    (λ t. Contains-append_right (arrived ++ now) sent m t)
    (Contains-append_cases now sent m has)) was))

order_more_both : (more first sent : List Message) (before history : List Passed)
    → Covers more first → Covers more sent → TakesInOrder first before → TakesInOrder sent history
    → TakesInOrder more (before ++ history)
order_more_both more first sent [] history covers also order then =
    order_more sent more history also then
order_more_both more first sent (p ∷ before) history covers also order then = (
  was_more first more p.step.input covers order.0,
  order_more_both (more ++ p.taken.messages) (first ++ p.taken.messages) sent before history
      (covers_both first more p.taken.messages covers)
      (λ m has. Contains-append_left more p.taken.messages m (also m has)) order.1 then,
)

-- one history, and then another
pub order_both : (before history : List Passed) → TakesInOrder (arrived_in before) before
    → TakesInOrder (arrived_in history) history
    → TakesInOrder (arrived_in (before ++ history)) (before ++ history)
order_both before history order then =
    let first = arrived_in before in
    let sent = arrived_in history in
    subst (λ (ms : List Message). TakesInOrder ms (before ++ history))
    (sym (arrived_both before history))
    (order_more_both (first ++ sent) first sent before history
    (λ m has. Contains-append_left first sent m has)
    (λ m has. Contains-append_right first sent m has) order then)

pub was_sent : (i : Input) (sent : List Message)
    → ((m : Message) → i ≡ input.Deliver m → Contains sent m)
    → WasHandedOut (requested i ++ sent) i
was_sent (input.Deliver message) sent has =
    Contains-append_right (requested (input.Deliver message)) sent message (has message refl)
was_sent (input.Command command) sent has = tt
was_sent (input.Expire now) sent has = tt
was_sent input.Remind sent has = tt
was_sent (input.Drop group member) sent has = tt
was_sent (input.Put values) sent has = tt
was_sent (input.Restart now) sent has = tt
