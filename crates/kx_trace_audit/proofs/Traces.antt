-- Traces that are read further, and one more item of them.
use Rattle.std.proofs.Common.{◌≡◌, ◌≢◌, ◌<◌, ◌≤◌, ◌+◌, ◌⊎◌, ◌++◌, ℕ, zero, suc, inl, inr, List, [], ◌∷◌, Some}
use Rattle.std.proofs.Common.{map, length, length-append, drop}
use Rattle.std.proofs.Common.{refl, sym, ap, arith, ◌∙◌, subst, ⊎_elim, append-nil}
use Rattle.std.specs.Prelude.{slice_get, slice_set}
use Rattle.std.specs.List.{flat_map}
use Rattle.std.proofs.lemmas.Grind.{flat_map-append}
use Rattle.std.proofs.lemmas.List.{append_assoc, length-map, length-set}
use Rattle.std.proofs.lemmas.List.Elements.{All-nil}
use Rattle.std.proofs.lemmas.Option.{same_Some, slice_get_within}
use Rattle.kx_audit.specs.Joined.{GoesOn, Passed, at_node, led_to}
use Rattle.kx_audit.specs.Making.{NodeMaking, named, node_of}
use Rattle.kx_audit.specs.Schedule.{IsStep}
use Rattle.kx_audit.proofs.Places.{from_map, to_map}
use Rattle.kx_follow.specs.Beginning.{AreAt, AreLedBy}
use Rattle.kx_follow.specs.Following as following
use Rattle.kx_follow.specs.Following.{Followed, Following, HasMade, makings_of, name_of}
use Rattle.kx_follow.specs.Pending.{IsUnsent}
use Rattle.kx_follow.proofs.History.{at_push_other, at_push_own}
use Rattle.kx_follow.proofs.Lists.{get_set, map_set}
use Rattle.kx_machine.specs.Meaning.{NodeState}
use Rattle.kx_machine.specs.declared.input.Input.{Input}
use Rattle.kx_message.specs.declared.message.NodeId.{NodeId}
use Rattle.kx_outside.specs.Requests.{IsRequest}
use Rattle.kx_trace.specs.declared.node.TracedNode.{TracedNode}
use Rattle.kx_trace.specs.declared.node.TracedNode.TheVariants as traced
use Rattle.kx_trace_audit.specs.Auditing.{Auditing, HasAudited, HasGone, MakesNext, OfTrace}
use Rattle.kx_trace_audit.specs.Auditing.{PassesOver, TellsOfIts, WaitsAt, fed}
use Rattle.kx_trace_audit.specs.Beginnings.{AreApart, AreAsMade, AreNodesOf, AreStarts}
use Rattle.kx_trace_audit.specs.Beginnings.{BeginRefused, CameBefore, NotBegun}
use Rattle.kx_trace_audit.specs.Beginnings.{IsNodeOf, heads_of}
use Rattle.kx_trace_audit.specs.Items.{BeginsTold}
use Rattle.kx_trace_audit.specs.Readings.{Reading, advanced, begun, ending_of, fed_on, in_64_bits}
use Rattle.kx_trace_audit.specs.Servers as servers
use Rattle.kx_trace_audit.specs.Stepping.{HasStepped, MakesTold, Reads}
use Rattle.kx_trace_audit.specs.Told.{IsStepOf, NoneTold, NotTaken, OneMore, TellsOf, Told, Untaken}
use Rattle.kx_trace_audit.specs.Told.{input_in, told_text}
use Rattle.kx_trace_audit.specs.declared.progress.Progress.{Progress}
use Rattle.kx_trace_audit.specs.declared.progress.Progress.TheVariants as progress
use Rattle.kx_trace_audit.specs.declared.refusal.TraceRefusal.{TraceRefusal}
use Rattle.kx_trace_audit.specs.declared.refusal.TraceRefusal.TheVariants as refusal
use Rattle.kx_trace_audit.specs.declared.servers.TraceOf.{TraceOf}
use Rattle.kx_trace_files.specs.Beginning.{begun_text}
use Rattle.kx_trace_audit.proofs.Texts.{IsFed, get_fed, length_fed}

named_so : (n : TracedNode) → named (servers.making_of n) ≡ servers.name_of n
named_so traced.Coordinator = refl
named_so (traced.Partition number) = refl

-- nodes of one name are one
same_name : (n m : TracedNode) → servers.name_of n ≡ servers.name_of m → n ≡ m
same_name traced.Coordinator traced.Coordinator same = refl
same_name traced.Coordinator (traced.Partition number) same = absurd cc
same_name (traced.Partition number) traced.Coordinator same = absurd cc
same_name (traced.Partition number) (traced.Partition other) same =
    let e : number ≡ other = cc in
    ap (λ (x : ℕ). traced.Partition x) e

-- no steps at all, if the traces tell all
pub none_before : (of : List TraceOf) (starts : List NodeState) → AreAsMade of starts
    → CameBefore [] of starts
none_before of starts made = record {
  goes = λ k t at. tt;
  leads = λ k t start at begin. made k t start at begin;
  no_others = λ j p at. absurd cc;
  in_order = tt;
  requests = All-nil IsRequest;
  fits = All-nil IsStep;
}

------ what a trace tells

-- nothing, if only its head was read
tells_nothing : (of : TraceOf) → TellsOf of (begun_text of.node of.opened) [] [] []
tells_nothing of =
    let head = begun_text of.node of.opened in
    record { text_is = sym (append-nil (head ++ []) ∙ append-nil head); are = NoneTold }

-- more bytes were read
tells_on : (of : TraceOf) (text rest bytes more new : List ℕ) (told : List Told)
    (steps : List Passed) → TellsOf of text rest told steps → more ≡ text ++ bytes
    → new ≡ rest ++ bytes → TellsOf of more new told steps
tells_on of text rest bytes more new told steps tells more_is new_is =
    let front = begun_text of.node of.opened ++ flat_map told_text told in
    record {
      text_is = more_is ∙ ap (λ (l : List ℕ). l ++ bytes) tells.text_is
          ∙ append_assoc front rest bytes ∙ ap (λ (l : List ℕ). front ++ l) (sym new_is);
      are = tells.are;
    }

text_then : (head : List ℕ) (told : List Told) (x : Told) (text rest new : List ℕ)
    → text ≡ head ++ flat_map told_text told ++ rest → rest ≡ told_text x ++ new
    → text ≡ head ++ flat_map told_text (told ++ x ∷ []) ++ new
text_then head told x text rest new text_is rest_is =
    let front = head ++ flat_map told_text told in
    let one : flat_map told_text (told ++ x ∷ []) ≡ flat_map told_text told ++ told_text x =
    flat_map-append told_text told (x ∷ [])
    ∙ ap (λ (l : List ℕ). flat_map told_text told ++ l) (append-nil (told_text x)) in
    text_is ∙ ap (λ (l : List ℕ). front ++ l) rest_is
    ∙ sym (append_assoc front (told_text x) new)
    ∙ ap (λ (l : List ℕ). l ++ new) (append_assoc head (flat_map told_text told) (told_text x)
    ∙ ap (λ (l : List ℕ). head ++ l) (sym one))

-- it tells of one more step
tells_step : (of : TraceOf) (text rest new : List ℕ) (told : List Told) (steps : List Passed)
    (x : Told) (p : Passed) → TellsOf of text rest told steps → rest ≡ told_text x ++ new
    → IsStepOf x p → TellsOf of text new (told ++ x ∷ []) (steps ++ p ∷ [])
tells_step of text rest new told steps x p tells rest_is is = record {
  text_is = text_then (begun_text of.node of.opened) told x text rest new tells.text_is rest_is;
  are = OneMore told steps x p tells.are is;
}

-- it tells of an input that was not taken
tells_untaken : (of : TraceOf) (text rest new : List ℕ) (told : List Told) (steps : List Passed)
    (input : Input) → TellsOf of text rest told steps
    → rest ≡ told_text (Untaken input) ++ new
    → TellsOf of text new (told ++ Untaken input ∷ []) steps
tells_untaken of text rest new told steps input tells rest_is = record {
  text_is = text_then (begun_text of.node of.opened) told (Untaken input) text rest new
      tells.text_is rest_is;
  are = NotTaken told steps input tells.are;
}

-- by one item more
counted_on : (items : ℕ) (told : List Told) (x : Told) → items ≡ in_64_bits (length told)
    → in_64_bits (items + 1) ≡ in_64_bits (length (told ++ x ∷ []))
counted_on items told x counted =
    let more = length-append told (x ∷ []) in
    omega (arith, counted, more)

-- why the node of a trace isn't made
pub not_begun : (of : List TraceOf) (k : ℕ) (t : TraceOf) (why : TraceRefusal)
    → slice_get of k ≡ Some t → BeginRefused t why → NotBegun of why
not_begun of k t refusal.Bytes at is = (k, t, at, is)
not_begun of k t refusal.Memory at is = tt
not_begun of k t refusal.DuplicateNode at is = absurd is
not_begun of k t refusal.Unsent at is = absurd is
not_begun of k t refusal.Store at is = absurd is
not_begun of k t refusal.Answer at is = absurd is
not_begun of k t refusal.Found at is = absurd is
not_begun of k t refusal.Log at is = absurd is

------ all traces

module _ {B M : Type 0} (making : B → NodeMaking) (stands : NodeState → M → Type 0) where
  -- the nodes of the traces, in order
  abbrev Are : List TraceOf → List NodeState → List (Followed B M) → Type 0
  Are of starts nodes = AreNodesOf making stands of starts nodes

  pub no_nodes : (nodes : List (Followed B M)) → nodes ≡ [] → Are [] [] nodes
  no_nodes [] none = tt
  no_nodes (n ∷ nodes) none = absurd cc

  makings_are : (of : List TraceOf) (starts : List NodeState) (nodes : List (Followed B M))
      → Are of starts nodes
      → map making (makings_of nodes)
      ≡ map (λ (r : Reading). servers.making_of r.node) (map begun of)
  makings_are [] [] [] are = refl
  makings_are (t ∷ of) (start ∷ starts) (n ∷ nodes) are =
      ap (λ (m : NodeMaking). m ∷ map making (makings_of nodes)) are.0.making_is
      ∙ ap (λ (l : List NodeMaking). servers.making_of t.node ∷ l) (makings_are of starts nodes are.1)
  makings_are [] [] (n ∷ nodes) are = absurd are
  makings_are [] (start ∷ starts) nodes are = absurd are
  makings_are (t ∷ of) [] nodes are = absurd are
  makings_are (t ∷ of) (start ∷ starts) [] are = absurd are

  -- the node of this number, its trace, and where it was in the beginning
  pub record IsNodeAt (of : List TraceOf) (starts : List NodeState) (nodes : List (Followed B M))
      (k : ℕ) : Type 0 where
    pub trace : TraceOf
    pub trace_there : slice_get of k ≡ Some trace
    pub start : NodeState
    pub begins : slice_get starts k ≡ Some start
    pub node : Followed B M
    pub there : slice_get nodes k ≡ Some node
    pub is : IsNodeOf making stands trace start node

  -- if one of the three has an element of this number, all have
  node_at : (of : List TraceOf) (starts : List NodeState) (nodes : List (Followed B M))
      → Are of starts nodes → (k : ℕ) → (k < length of) ⊎ (k < length nodes)
      → IsNodeAt of starts nodes k
  node_at [] [] [] are k (inl within) = absurd (omega arith)
  node_at [] [] [] are k (inr within) = absurd (omega arith)
  node_at (t ∷ of) (start ∷ starts) (n ∷ nodes) are zero within = record {
    trace = t;
    trace_there = refl;
    start = start;
    begins = refl;
    node = n;
    there = refl;
    is = are.0;
  }
  node_at (t ∷ of) (start ∷ starts) (n ∷ nodes) are (suc k) within =
      let found = node_at of starts nodes are.1 k (⊎_elim
      (λ (h : suc k < suc (length of)). inl (omega (arith, h)))
      (λ (h : suc k < suc (length nodes)). inr (omega (arith, h))) within) in
      record {
        trace = found.trace;
        trace_there = found.trace_there;
        start = found.start;
        begins = found.begins;
        node = found.node;
        there = found.there;
        is = found.is;
      }
  node_at [] [] (n ∷ nodes) are k within = absurd are
  node_at [] (start ∷ starts) nodes are k within = absurd are
  node_at (t ∷ of) [] nodes are k within = absurd are
  node_at (t ∷ of) (start ∷ starts) [] are k within = absurd are

  -- one more of them
  pub one_node_more : (of : List TraceOf) (starts : List NodeState) (nodes : List (Followed B M))
      (t : TraceOf) (start : NodeState) (n : Followed B M) → Are of starts nodes
      → IsNodeOf making stands t start n
      → Are (of ++ t ∷ []) (starts ++ start ∷ []) (nodes ++ n ∷ [])
  one_node_more [] [] [] t start n are is = (is, tt)
  one_node_more (u ∷ of) (s ∷ starts) (m ∷ nodes) t start n are is =
      (are.0, one_node_more of starts nodes t start n are.1 is)
  one_node_more [] [] (m ∷ nodes) t start n are is = absurd are
  one_node_more [] (s ∷ starts) nodes t start n are is = absurd are
  one_node_more (u ∷ of) [] nodes t start n are is = absurd are
  one_node_more (u ∷ of) (s ∷ starts) [] t start n are is = absurd are

  nodes_begun : (of : List TraceOf)
      → map (λ (r : Reading). r.node) (map begun of) ≡ map (λ (t : TraceOf). t.node) of
  nodes_begun [] = refl
  nodes_begun (t ∷ of) = ap (λ (l : List TracedNode). t.node ∷ l) (nodes_begun of)

  -- the nodes in the beginning are those of the traces
  pub are_starts : (of : List TraceOf) (starts : List NodeState) (nodes : List (Followed B M))
      → Are of starts nodes → AreStarts of starts
  are_starts [] [] [] are = tt
  are_starts (t ∷ of) (start ∷ starts) (n ∷ nodes) are =
      (are.0.begins, are_starts of starts nodes are.1)
  are_starts [] [] (n ∷ nodes) are = absurd are
  are_starts [] (start ∷ starts) nodes are = absurd are
  are_starts (t ∷ of) [] nodes are = absurd are
  are_starts (t ∷ of) (start ∷ starts) [] are = absurd are

  -- the machines stand for them
  pub are_at : (of : List TraceOf) (starts : List NodeState) (nodes : List (Followed B M))
      → Are of starts nodes → AreAt making stands starts nodes
  are_at of starts nodes are k n at =
      let own = node_at of starts nodes are k (inr (slice_get_within nodes k n at)) in
      let same : own.node ≡ n = same_Some own.node n (sym own.there ∙ at) in (
        own.start,
        own.begins,
        subst (λ (m : Followed B M). stands own.start m.machine) same own.is.stands_so,
      )

  -- the name of a node is that of its trace's
  name_as : (t : TracedNode) (n : Followed B M) → making n.made ≡ servers.making_of t
      → name_of making n ≡ servers.name_of t
  name_as t n is = ap named is ∙ named_so t

  -- if two nodes have one name, two traces are of one node
  pub not_apart : (of : List TraceOf) (starts : List NodeState) (nodes : List (Followed B M))
      → Are of starts nodes → (following.AreApart making nodes → ⊥) → AreApart of → ⊥
  not_apart of starts nodes are none apart = none (λ j k n o at also same.
      let one = node_at of starts nodes are j (inr (slice_get_within nodes j n at)) in
      let two = node_at of starts nodes are k (inr (slice_get_within nodes k o also)) in
      let n_is : one.node ≡ n = same_Some one.node n (sym one.there ∙ at) in
      let o_is : two.node ≡ o = same_Some two.node o (sym two.there ∙ also) in
      apart j k one.trace two.trace one.trace_there two.trace_there
      (same_name one.trace.node two.trace.node
      (sym (name_as one.trace.node one.node one.is.making_is)
      ∙ ap (λ (m : Followed B M). name_of making m) n_is ∙ same
      ∙ sym (ap (λ (m : Followed B M). name_of making m) o_is)
      ∙ name_as two.trace.node two.node two.is.making_is)))

  -- nothing was read but the heads
  pub begins : (of : List TraceOf) (starts : List NodeState) (f : Following B M)
      → Are of starts f.nodes → HasMade making stands starts [] f
      → HasAudited making stands of starts (heads_of of) []
      (record { following = f; traces = map begun of })
  begins of starts f are has = record {
    begun = are_starts of starts f.nodes are;
    made = has;
    of_are = nodes_begun of;
    nodes_are = makings_are of starts f.nodes are;
    count = length-map of (λ (t : TraceOf). begun_text t.node t.opened)
        ∙ sym (length-map of begun);
    tells = λ k text r t text_at at there.
        let head = from_map (λ (t : TraceOf). begun_text t.node t.opened) of k text text_at in
        let read = from_map begun of k r at in
        let head_is : head.0 ≡ t = same_Some head.0 t (sym head.1 ∙ there) in
        let read_is : read.0 ≡ t = same_Some read.0 t (sym read.1 ∙ there) in
        subst (λ (x : Reading). TellsOfIts t [] text x) (ap begun (sym read_is) ∙ read.2)
        (subst (λ (l : List ℕ). TellsOfIts t [] l (begun t))
        (ap (λ (x : TraceOf). begun_text x.node x.opened) (sym head_is) ∙ head.2)
        (record { told = []; tells = tells_nothing t; items_are = refl }));
  }

module _ {B M : Type 0} (making : B → NodeMaking) (stands : NodeState → M → Type 0)
    (of : List TraceOf) (starts : List NodeState) where
  abbrev Has : List (List ℕ) → List Passed → Auditing B M → Type 0
  Has texts history a = HasAudited making stands of starts texts history a

  module _ (texts : List (List ℕ)) (history : List Passed) (old : Auditing B M) (k : ℕ) (r : Reading)
      (has : Has texts history old) (at : slice_get old.traces k ≡ Some r) where
    -- a trace is read further
    pub feeds : (bytes : List ℕ) → Has (fed texts k bytes) history
        (record { following = old.following; traces = slice_set old.traces k (fed_on bytes r) })
    feeds bytes = record {
      begun = has.begun;
      made = has.made;
      of_are = map_set (λ (x : Reading). x.node) old.traces k r (fed_on bytes r) at refl
          ∙ has.of_are;
      nodes_are = has.nodes_are
          ∙ sym (map_set (λ (x : Reading). servers.making_of x.node) old.traces k r
          (fed_on bytes r) at refl);
      count = length_fed texts k bytes ∙ has.count
          ∙ sym (length-set old.traces k (fed_on bytes r));
      tells = λ j text q t text_at qat there.
          ⊎_elim
          (λ (a : (j ≡ k) × (fed_on bytes r ≡ q)).
          ⊎_elim
          (λ (b : (j ≡ k) × IsFed texts j bytes text).
          let here = ap (λ i. slice_get old.traces i) a.0 ∙ at in
          let its = has.tells j b.1.before r t b.1.there here there in
          subst (λ (x : Reading). TellsOfIts t history text x) a.1
          (record {
            told = its.told;
            tells = tells_on t b.1.before r.unread bytes text (r.unread ++ bytes) its.told
                (at_node (servers.name_of t.node) history) its.tells b.1.text_is refl;
            items_are = its.items_are;
          }))
          (λ (b : (j ≢ k) × (slice_get texts j ≡ Some text)). absurd (b.0 a.0))
          (get_fed texts k bytes j text text_at))
          (λ (a : (j ≢ k) × (slice_get old.traces j ≡ Some q)).
          ⊎_elim
          (λ (b : (j ≡ k) × IsFed texts j bytes text). absurd (a.0 b.0))
          (λ (b : (j ≢ k) × (slice_get texts j ≡ Some text)).
          has.tells j text q t b.1 a.1 there)
          (get_fed texts k bytes j text text_at))
          (get_set old.traces k (fed_on bytes r) j q qat);
    }

    -- the node that is followed has the name of its trace's node
    pub record IsFollowed (j : ℕ) (q : Reading) : Type 0 where
      pub node : Followed B M
      pub there : slice_get old.following.nodes j ≡ Some node
      pub name_is : name_of making node ≡ servers.name_of q.node

    pub followed : (j : ℕ) (q : Reading) → slice_get old.traces j ≡ Some q → IsFollowed j q
    followed j q qat =
        let made_at = from_map making (makings_of old.following.nodes) j
        (servers.making_of q.node)
        (ap (λ (l : List NodeMaking). slice_get l j) has.nodes_are
        ∙ to_map (λ (x : Reading). servers.making_of x.node) old.traces j q qat) in
        let node_at = from_map (λ (n : Followed B M). n.made) old.following.nodes j made_at.0
        made_at.1 in
        record {
          node = node_at.0;
          there = node_at.1;
          name_is = ap (λ (b : B). named (making b)) node_at.2 ∙ ap named made_at.2
              ∙ named_so q.node;
        }

    -- the node of a trace is that of its head
    node_is : (j : ℕ) (q : Reading) (t : TraceOf) → slice_get old.traces j ≡ Some q
        → slice_get of j ≡ Some t → q.node ≡ t.node
    node_is j q t qat there =
        same_Some q.node t.node
        (sym (to_map (λ (x : Reading). x.node) old.traces j q qat)
        ∙ ap (λ (l : List TracedNode). slice_get l j) has.of_are
        ∙ to_map (λ (x : TraceOf). x.node) of j t there)

    -- the node that is followed of the trace that has this head
    record IsItsNode (j : ℕ) (t : TraceOf) : Type 0 where
      reading : Reading
      read : slice_get old.traces j ≡ Some reading
      node : Followed B M
      there : slice_get old.following.nodes j ≡ Some node
      name_is : name_of making node ≡ servers.name_of t.node

    its_node : (j : ℕ) (t : TraceOf) → slice_get of j ≡ Some t → IsItsNode j t
    its_node j t at =
        let read = from_map (λ (x : Reading). x.node) old.traces j t.node
        (ap (λ (l : List TracedNode). slice_get l j) has.of_are
        ∙ to_map (λ (x : TraceOf). x.node) of j t at) in
        let mine = followed j read.0 read.1 in
        record {
          reading = read.0;
          read = read.1;
          node = mine.node;
          there = mine.there;
          name_is = mine.name_is ∙ ap servers.name_of read.2;
        }

    module _ (f : Following B M) (used : ℕ) where
      abbrev next : Reading
      next = advanced used r

      abbrev new : Auditing B M
      new = record { following = f; traces = slice_set old.traces k next }

      nodes_then : makings_of f.nodes ≡ makings_of old.following.nodes
          → map making (makings_of f.nodes) ≡ map (λ (x : Reading). servers.making_of x.node)
          (slice_set old.traces k next)
      nodes_then e = ap (λ (l : List B). map making l) e ∙ has.nodes_are
          ∙ sym (map_set (λ (x : Reading). servers.making_of x.node) old.traces k r next at refl)

      -- of the trace that went on this is told, and the others are as before
      has_then : (more : List Passed) → HasMade making stands starts (history ++ more) f
          → makings_of f.nodes ≡ makings_of old.following.nodes
          → ((text : List ℕ) (t : TraceOf) → slice_get of k ≡ Some t
          → TellsOfIts t history text r → TellsOfIts t (history ++ more) text next)
          → ((j : ℕ) (t : TraceOf) → j ≢ k → slice_get of j ≡ Some t
          → at_node (servers.name_of t.node) (history ++ more)
          ≡ at_node (servers.name_of t.node) history)
          → Has texts (history ++ more) new
      has_then more made e own others = record {
        begun = has.begun;
        made = made;
        of_are = map_set (λ (x : Reading). x.node) old.traces k r next at refl ∙ has.of_are;
        nodes_are = nodes_then e;
        count = has.count ∙ sym (length-set old.traces k next);
        tells = λ j text q t text_at qat there.
            ⊎_elim
            (λ (a : (j ≡ k) × (next ≡ q)).
            let here = ap (λ i. slice_get texts i) (sym a.0) ∙ text_at in
            let first = ap (λ i. slice_get of i) (sym a.0) ∙ there in
            let now = own text t first (has.tells k text r t here at first) in
            subst (λ (x : Reading). TellsOfIts t (history ++ more) text x) a.1 now)
            (λ (a : (j ≢ k) × (slice_get old.traces j ≡ Some q)).
            let its = has.tells j text q t text_at a.1 there in
            record {
              told = its.told;
              tells = subst (TellsOf t text q.unread its.told) (sym (others j t a.0 there))
                  its.tells;
              items_are = its.items_are;
            })
            (get_set old.traces k next j q qat);
      }

      -- a step that is told was made
      pub made_told : (told : Told) (sent : ℕ)
          → MakesTold making stands starts k told sent history old.following f
          → BeginsTold r.unread told used
          → MakesNext making stands of starts texts history k sent old new
      made_told told sent is begin =
          let p = is.passed in
          let mine = followed k r at in
          let same : mine.node ≡ is.node = same_Some mine.node is.node (sym mine.there ∙ is.there) in
          let name_is : p.node ≡ servers.name_of r.node = is.name_is
          ∙ ap (λ (n : Followed B M). name_of making n) (sym same) ∙ mine.name_is in
          record {
            told = told;
            reads = record {
              reading = r;
              there = at;
              len = used;
              begins = begin;
              traces_are = refl;
            };
            passed = p;
            is = is.is;
            sent_is = is.sent_is;
            audited = has_then (p ∷ []) is.made is.makings
                (λ text t there its.
                let name : p.node ≡ servers.name_of t.node = name_is
                ∙ ap servers.name_of (node_is k r t at there) in
                let own : at_node (servers.name_of t.node) (history ++ p ∷ [])
                ≡ at_node (servers.name_of t.node) history ++ p ∷ [] =
                subst (λ (n : NodeId). at_node n (history ++ p ∷ []) ≡ at_node n history ++ p ∷ [])
                name (at_push_own history p) in
                record {
                  told = its.told ++ told ∷ [];
                  tells = subst (TellsOf t text (drop used r.unread) (its.told ++ told ∷ []))
                      (sym own)
                      (tells_step t text r.unread (drop used r.unread) its.told
                      (at_node (servers.name_of t.node) history) told p its.tells begin.text_is
                      is.is);
                  items_are = counted_on r.items its.told told its.items_are;
                })
                (λ j t other there.
                let theirs = its_node j t there in
                at_push_other (servers.name_of t.node) history p
                (λ e. other (has.made.apart j k theirs.node mine.node theirs.there mine.there
                (theirs.name_is ∙ e ∙ name_is ∙ sym mine.name_is))));
          }

      -- an input that is told was not taken
      pub untaken_told : (input : Input) → f ≡ old.following
          → BeginsTold r.unread (Untaken input) used
          → PassesOver making stands of starts texts history k old new
      untaken_told input is begin =
          let same = append-nil history in
          record {
            input = input;
            reads = record {
              reading = r;
              there = at;
              len = used;
              begins = begin;
              traces_are = refl;
            };
            following_is = is;
            audited = subst (λ (h : List Passed). Has texts h new) same
                (has_then []
                (subst (λ (g : Following B M). HasMade making stands starts (history ++ []) g) (sym is)
                (subst (λ (h : List Passed). HasMade making stands starts h old.following) (sym same)
                has.made))
                (ap (λ (g : Following B M). makings_of g.nodes) is)
                (λ text t there its. record {
                  told = its.told ++ Untaken input ∷ [];
                  tells = subst (λ (h : List Passed). TellsOf t text (drop used r.unread)
                      (its.told ++ Untaken input ∷ []) (at_node (servers.name_of t.node) h))
                      (sym same)
                      (tells_untaken t text r.unread (drop used r.unread) its.told
                      (at_node (servers.name_of t.node) history) input its.tells begin.text_is);
                  items_are = counted_on r.items its.told (Untaken input) its.items_are;
                })
                (λ j t other there. ap (at_node (servers.name_of t.node)) same));
          }

    -- what became of the next item, if the node that is followed is there
    waits_at : (f : Following B M) (used : ℕ)
        → Reads making stands starts k r.unread history old.following f progress.Waits used
        → WaitsAt making stands of starts history k old
    waits_at f used is =
        let mine = followed k r at in
        record {
          reading = r;
          there = at;
          told = is.told;
          len = is.len;
          begins = is.begins;
          unsent = ⊎_elim
              (λ (none : length old.following.nodes ≤ k).
              let within = slice_get_within old.following.nodes k mine.node mine.there in
              absurd (omega arith))
              (λ (unsent : IsUnsent history (input_in is.told)). unsent)
              is.becomes.0;
        }

    unchanged : (f : Following B M) → f ≡ old.following
        → (record { following = f; traces = old.traces }) ≡ old
    unchanged f is = ap (λ (g : Following B M). record { following = g; traces = old.traces }) is

    -- bytes are done with
    pub went_on : (f : Following B M) (became : Progress) (used : ℕ) → 0 < used
        → HasStepped making stands starts k r.unread (ending_of r) history old.following f became
        used
        → HasGone making stands of starts texts history k old
        (record { following = f; traces = slice_set old.traces k (advanced used r) }) became
    went_on f (progress.Made sent) used some is =
        made_told f used is.told sent is.becomes
        (subst (BeginsTold r.unread is.told) (sym is.used_is) is.begins)
    went_on f progress.NotTaken used some is =
        untaken_told f used is.becomes.0.input is.becomes.1
        (subst (λ (x : Told). BeginsTold r.unread x used) is.becomes.0.told_is
        (subst (BeginsTold r.unread is.told) (sym is.used_is) is.begins))
    went_on f progress.Waits used some is =
        let none = is.used_is in
        absurd (omega arith)
    went_on f progress.NeedsMore used some is =
        let none = is.2 in
        absurd (omega arith)

    -- none are done with
    pub stayed : (f : Following B M) (became : Progress)
        → HasStepped making stands starts k r.unread (ending_of r) history old.following f became 0
        → HasGone making stands of starts texts history k old
        (record { following = f; traces = old.traces }) became
    stayed f (progress.Made sent) is =
        let some = is.begins.some in
        let none = is.used_is in
        absurd (omega (arith, some, none))
    stayed f progress.NotTaken is =
        let some = is.begins.some in
        let none = is.used_is in
        absurd (omega (arith, some, none))
    stayed f progress.Waits is = (waits_at f 0 is, unchanged f is.becomes.1)
    stayed f progress.NeedsMore is = (OfTrace r at is.0, unchanged f is.1)

  ------ the steps before

  module _ (texts : List (List ℕ)) (history : List Passed) (a : Auditing B M)
      (has : Has texts history a) where
    -- the trace of a node that is followed
    record IsReadOf (k : ℕ) (n : Followed B M) : Type 0 where
      reading : Reading
      there : slice_get a.traces k ≡ Some reading
      making_is : making n.made ≡ servers.making_of reading.node

    read_of : (k : ℕ) (n : Followed B M) → slice_get a.following.nodes k ≡ Some n → IsReadOf k n
    read_of k n at =
        let made = to_map making (makings_of a.following.nodes) k n.made
        (to_map (λ (m : Followed B M). m.made) a.following.nodes k n at) in
        let read = from_map (λ (x : Reading). servers.making_of x.node) a.traces k (making n.made)
        (ap (λ (l : List NodeMaking). slice_get l k) (sym has.nodes_are) ∙ made) in
        record { reading = read.0; there = read.1; making_is = sym read.2 }

    -- the steps that may have come before led to the nodes in the beginning
    pub led_by : (before : List Passed) → CameBefore before of starts
        → AreLedBy making before starts a.following.nodes
    led_by before came = record {
      each = λ k n start at begin.
          let own = read_of k n at in
          let head = from_map (λ (x : TraceOf). x.node) of k own.reading.node
          (ap (λ (l : List TracedNode). slice_get l k) (sym has.of_are)
          ∙ to_map (λ (r : Reading). r.node) a.traces k own.reading own.there) in
          let node = head.0.node in
          let is : making n.made ≡ servers.making_of node = own.making_is
          ∙ ap servers.making_of (sym head.2) in
          let name = sym (name_as making stands node n is) in
          let made = sym is in
          record {
            goes = subst (λ (m : NodeMaking). GoesOn (node_of m)
                (at_node (name_of making n) before)) made
                (subst (λ (x : NodeId). GoesOn (node_of (servers.making_of node))
                (at_node x before)) name (came.goes k head.0 head.1));
            leads = subst (λ (m : NodeMaking). led_to (node_of m)
                (at_node (name_of making n) before) ≡ start) made
                (subst (λ (x : NodeId). led_to (node_of (servers.making_of node))
                (at_node x before) ≡ start) name (came.leads k head.0 start head.1 begin));
          };
      no_others = λ j p at.
          let other = came.no_others j p at in
          let read = from_map (λ (r : Reading). r.node) a.traces other.number other.trace.node
          (ap (λ (l : List TracedNode). slice_get l other.number) has.of_are
          ∙ to_map (λ (x : TraceOf). x.node) of other.number other.trace other.there) in
          let its = followed texts history a other.number read.0 has read.1 other.number read.0
          read.1 in
          record {
            number = other.number;
            node = its.node;
            there = its.there;
            name_is = other.name_is ∙ sym (ap servers.name_of read.2) ∙ sym its.name_is;
          };
      in_order = came.in_order;
      requests = came.requests;
      fits = came.fits;
    }
