-- One more step of all.
use Rattle.std.proofs.Common.{◌≡◌, ◌≢◌, ◌⊎◌, ◌<◌, ◌+◌, ℕ, zero}
use Rattle.std.proofs.Common.{suc, List, [], ◌∷◌, ◌++◌, length, take}
use Rattle.std.proofs.Common.{map, Some, refl, sym, ap, ◌∙◌, subst, inl, inr, ⊎_elim, arith}
use Rattle.std.proofs.Common.{append-nil, length-append}
use Rattle.std.proofs.lemmas.List.{append_assoc, length-take-le}
use Rattle.std.specs.Prelude.{slice_get, slice_set, sum_by, slice_index_or}
use Rattle.std.proofs.lemmas.List.Sums.{sum_by-set, sum_by-cons}
use Rattle.std.proofs.lemmas.Option.{get_or_from_slice_get, same_Some, slice_get_within}
use Rattle.kx_audit.specs.Arrivals.{arrivals}
use Rattle.kx_audit.specs.Joined.{AreApart, WasHandedOut}
use Rattle.kx_audit.specs.Making.{NodeMaking}
use Rattle.kx_audit.specs.Merged.{AreFresh, ArePlaced, AreThere, IsMerging, IsThere, Merged}
use Rattle.kx_audit.specs.Merged.{arrived_at}
use Rattle.kx_audit.specs.Merged.{lines_of, told_along, told_so_far, told_there}
use Rattle.kx_audit.specs.Replayed.{AreReplayed, Progress, left, line_of, name_at, progressed}
use Rattle.kx_audit.specs.Replayed.{IsReplayed, steps_of, traces_of, trails_of}
use Rattle.kx_audit.specs.Told.{AreToldInOrder, IsToldOf, Told, told_at, told_messages}
use Rattle.kx_audit.specs.declared.clients.Clients.{Clients}
use Rattle.kx_audit.specs.declared.turn.Turn.{Turn}
use Rattle.kx_machine.specs.Meaning.{NodeState}
use Rattle.kx_machine.specs.declared.taken.Taken.{Taken}
use Rattle.kx_message.specs.declared.message.Message.{Message}
use Rattle.kx_nodes.specs.Replay.{Traced}
use Rattle.kx_nodes.specs.declared.trace.Step.{Step}
use Rattle.kx_audit.proofs.Along.{along_push, there_is}
use Rattle.kx_audit.proofs.Auditing.{messages_push, order_push, told_push_other, told_push_own}
use Rattle.kx_audit.proofs.Lines.{told_by_at, told_by_length}
use Rattle.kx_audit.proofs.Places.{get_more, to_map}
use Rattle.kx_audit.proofs.Rerunning.{take_next}
use Rattle.kx_audit.proofs.Sources.{trail_at}

------ lists

get_set : {A : Type 0} (xs : List A) (k : ℕ) (y : A) (j : ℕ) (q : A)
    → slice_get (slice_set xs k y) j ≡ Some q
    → ((j ≡ k) × (y ≡ q)) ⊎ ((j ≢ k) × (slice_get xs j ≡ Some q))
get_set [] k y j q e = absurd cc
get_set (x ∷ xs) zero y zero q e = inl (refl, cc)
get_set (x ∷ xs) zero y (suc j) q e = inr ((λ h. omega arith), e)
get_set (x ∷ xs) (suc k) y zero q e = inr ((λ h. omega arith), e)
get_set (x ∷ xs) (suc k) y (suc j) q e =
    ⊎_elim (λ t. inl (ap suc t.0, t.1))
    (λ t. let n = t.0 in inr ((λ h. n (omega arith)), t.1)) (get_set xs k y j q e)

-- what is mapped alike is the same behind the change of an element
map_set : {A B : Type 0} (f : A → B) (xs : List A) (k : ℕ) (x y : A) → slice_get xs k ≡ Some x
    → f y ≡ f x → map f (slice_set xs k y) ≡ map f xs
map_set f [] k x y at e = refl
map_set {A} {B} f (z ∷ xs) zero x y at e =
    let same : z ≡ x = same_Some z x at in
    ap (λ (b : B). b ∷ map f xs) (e ∙ ap f (sym same))
map_set {A} {B} f (z ∷ xs) (suc k) x y at e =
    ap (λ (l : List B). f z ∷ l) (map_set f xs k x y at e)

------ how many steps are left

module _ {B M : Type 0} where
  pub fewer_set : (nodes : List (Progress B M)) (k : ℕ) (p : Progress B M)
      → slice_get nodes k ≡ Some p → p.done < length p.trace.steps
      → sum_by left (slice_set nodes k (progressed p)) + 1 ≡ sum_by left nodes
  fewer_set nodes k p at lt =
      let s = sum_by-set left nodes k (progressed p) p (slice_get_within nodes k p at) in
      let e : left (slice_index_or nodes k p) ≡ left p =
      ap (λ (x : Progress B M). left x) (get_or_from_slice_get nodes k p p at) in
      omega (arith, s, e, lt)

  pub traces_set : (nodes : List (Progress B M)) (k : ℕ) (p : Progress B M)
      → slice_get nodes k ≡ Some p
      → traces_of (slice_set nodes k (progressed p)) ≡ traces_of nodes
  traces_set nodes k p at = map_set (λ q. q.trace) nodes k p (progressed p) at refl

  pub fresh_left : (nodes : List (Progress B M)) → AreFresh nodes
      → sum_by left nodes ≡ steps_of (traces_of nodes)
  fresh_left [] fresh = refl
  fresh_left (p ∷ nodes) fresh =
      let z = fresh 0 p refl in
      let l : left p ≡ length p.trace.steps = omega (arith, z) in
      let rest = fresh_left nodes (λ k. fresh (suc k)) in
      sum_by-cons left p nodes ∙ ap (λ n. n + sum_by left nodes) l
      ∙ ap (λ n. length p.trace.steps + n) rest
      ∙ sym (sum_by-cons (λ (t : Traced B). length t.steps) p.trace (traces_of nodes))

------ places

placed_push : (before : List Told) (turns : List Turn) (told : List Told) (turn : Turn) (x : Told)
    → ArePlaced before turns told → turn.step ≡ length (told_at x.node (before ++ told))
    → ArePlaced before (turns ++ turn ∷ []) (told ++ x ∷ [])
placed_push before [] [] turn x placed e = (
  subst (λ (l : List Told). turn.step ≡ length (told_at x.node l)) (append-nil before) e,
  tt,
)
placed_push before [] (y ∷ told) turn x placed e = absurd placed
placed_push before (t ∷ turns) [] turn x placed e = absurd placed
placed_push before (t ∷ turns) (y ∷ told) turn x placed e = (
  placed.0,
  placed_push (before ++ y ∷ []) turns told turn x placed.1
      (subst (λ (l : List Told). turn.step ≡ length (told_at x.node l))
      (sym (append_assoc before (y ∷ []) told)) e),
)

------ the order goes on

module _ {B M : Type 0} (making : B → NodeMaking) (stands : NodeState → M → Type 0) where
  abbrev Is : Merged B M → Type 0
  Is m = IsMerging making stands m

  pub merging_starts : (clients : Clients) (nodes : List (Progress B M)) (sent : List Message)
      → sent ≡ arrived_at making clients nodes → AreFresh nodes
      → AreReplayed making stands nodes → AreApart (trails_of making (traces_of nodes))
      → Is (record { clients = clients; nodes = nodes; turns = []; sent = sent })
  merging_starts clients nodes sent arrived fresh replayed apart = record {
    in_order = tt;
    sent_is = arrived ∙ sym (append-nil (arrived_at making clients nodes));
    no_others = λ j x at. absurd cc;
    turns_there = λ j turn at. absurd cc;
    placed = tt;
    fits = λ k p at. ap (λ n. take n (line_of making p)) (sym (fresh k p at));
    replayed = replayed;
    apart = apart;
    count = (let e = fresh_left nodes fresh in omega (arith, e));
  }

  module _ (m : Merged B M) (k : ℕ) (p : Progress B M) (step : Step) (taken : Taken) (is : Is m)
      (at : slice_get m.nodes k ≡ Some p) (there : slice_get p.trace.steps p.done ≡ Some step)
      (answered : slice_get p.takens p.done ≡ Some taken)
      (was : WasHandedOut m.sent step.input) where
    abbrev x : Told
    x = record { node = name_at making p; step = step; taken = taken }

    abbrev then_nodes : List (Progress B M)
    then_nodes = slice_set m.nodes k (progressed p)

    abbrev then_merged : Merged B M
    then_merged = record {
      clients = m.clients;
      nodes = then_nodes;
      turns = m.turns ++ record { trace = k; step = p.done } ∷ [];
      sent = m.sent ++ taken.messages;
    }

    traces_are : traces_of then_nodes ≡ traces_of m.nodes
    traces_are = traces_set m.nodes k p at

    lines_are : lines_of making then_nodes ≡ lines_of making m.nodes
    lines_are = map_set (line_of making) m.nodes k p (progressed p) at refl

    in_line : slice_get (line_of making p) p.done ≡ Some x
    in_line = told_by_at (name_at making p) p.trace.steps p.takens p.done step taken there answered

    abbrev turn : Turn
    turn = record { trace = k; step = p.done }

    turn_there : told_there (lines_of making m.nodes) turn ≡ x ∷ []
    turn_there = there_is (lines_of making m.nodes) k p.done (line_of making p) x
        (to_map (line_of making) m.nodes k p at) in_line

    told_is : told_so_far making then_merged ≡ told_so_far making m ++ x ∷ []
    told_is =
        ap (λ (l : List (List Told)). told_along l then_merged.turns) lines_are
        ∙ along_push (lines_of making m.nodes) m.turns turn x turn_there

    there_then : AreThere (lines_of making then_nodes) then_merged.turns
    there_then j other there_too =
        subst (λ (l : List (List Told)). IsThere l other) (sym lines_are)
        (⊎_elim (λ before. is.turns_there j other before)
        (λ same. subst (IsThere (lines_of making m.nodes)) same (x, turn_there))
        (get_more m.turns turn j other there_too))

    -- what had arrived stays the same
    abbrev arrived : List Message
    arrived = arrived_at making m.clients m.nodes

    arrived_are : arrived_at making m.clients then_nodes ≡ arrived
    arrived_are =
        ap (λ (ts : List (Traced B)). arrivals m.clients (trails_of making ts)) traces_are

    order_then : AreToldInOrder arrived (told_so_far making m ++ x ∷ [])
    order_then = order_push arrived (told_so_far making m) x is.in_order
        (subst (λ (l : List _). WasHandedOut l step.input) is.sent_is was)

    known : (j : ℕ) (y : Told) → slice_get (told_so_far making m ++ x ∷ []) j ≡ Some y
        → IsToldOf (trails_of making (traces_of m.nodes)) y
    known j y there_too =
        ⊎_elim (λ before. is.no_others j y before)
        (λ same. subst (λ (z : Told). IsToldOf (trails_of making (traces_of m.nodes)) z) same
        (k, _, trail_at making m.nodes k p at, refl))
        (get_more (told_so_far making m) x j y there_too)

    fits_then : (j : ℕ) (q : Progress B M) → slice_get then_nodes j ≡ Some q
        → told_at (name_at making q) (told_so_far making m ++ x ∷ [])
        ≡ take q.done (line_of making q)
    fits_then j q qat =
        ⊎_elim
        (λ (t : (j ≡ k) × (progressed p ≡ q)).
        subst (λ (y : Progress B M). told_at (name_at making y) (told_so_far making m ++ x ∷ [])
        ≡ take y.done (line_of making y)) t.1
        (told_push_own (told_so_far making m) x
        ∙ ap (λ (l : List Told). l ++ x ∷ []) (is.fits k p at)
        ∙ sym (take_next (line_of making p) p.done x in_line)))
        (λ (t : (j ≢ k) × (slice_get m.nodes j ≡ Some q)).
        told_push_other (name_at making q) (told_so_far making m) x
        (λ same. t.0 (is.apart j k _ _ (trail_at making m.nodes j q t.1)
        (trail_at making m.nodes k p at) same))
        ∙ is.fits j q t.1)
        (get_set m.nodes k (progressed p) j q qat)

    replayed_then : AreReplayed making stands then_nodes
    replayed_then j q qat =
        ⊎_elim
        (λ (t : (j ≡ k) × (progressed p ≡ q)).
        subst (λ (y : Progress B M). IsReplayed making stands y) t.1
        (let r = is.replayed k p at in
        let lt = slice_get_within p.trace.steps p.done step there in record {
          answers = r.answers;
          again = r.again;
          whole = r.whole;
          within = omega (arith, lt);
        }))
        (λ (t : (j ≢ k) × (slice_get m.nodes j ≡ Some q)). is.replayed j q t.1)
        (get_set m.nodes k (progressed p) j q qat)

    -- so many of its node were before it
    place_is : p.done ≡ length (told_at (name_at making p) (told_so_far making m))
    place_is =
        let lt = slice_get_within p.trace.steps p.done step there in
        let all = told_by_length (name_at making p) p.trace.steps p.takens
        (is.replayed k p at).whole in
        sym (ap (λ (l : List Told). length l) (is.fits k p at)
        ∙ length-take-le p.done (line_of making p) (omega (arith, lt, all)))

    pub merging_goes : Is then_merged
    merging_goes = record {
      in_order = subst (λ (ms : List Message).
          AreToldInOrder ms (told_so_far making then_merged)) (sym arrived_are)
          (subst (AreToldInOrder arrived) (sym told_is) order_then);
      sent_is = ap (λ (l : List Message). l ++ taken.messages) is.sent_is
          ∙ append_assoc arrived (told_messages (told_so_far making m)) taken.messages
          ∙ ap (λ (l : List Message). arrived ++ l)
          (sym (messages_push (told_so_far making m) x) ∙ ap told_messages (sym told_is))
          ∙ ap (λ (l : List Message). l ++ told_messages (told_so_far making then_merged))
          (sym arrived_are);
      no_others = λ j y there_too.
          subst (λ (ts : List (Traced B)). IsToldOf (trails_of making ts) y) (sym traces_are)
          (known j y (ap (λ (l : List Told). slice_get l j) (sym told_is) ∙ there_too));
      fits = λ j q qat.
          ap (told_at (name_at making q)) told_is ∙ fits_then j q qat;
      replayed = replayed_then;
      apart = subst (λ (ts : List (Traced B)). AreApart (trails_of making ts)) (sym traces_are)
          is.apart;
      turns_there = there_then;
      placed = subst (λ (l : List Told). ArePlaced [] then_merged.turns l) (sym told_is)
          (placed_push [] m.turns (told_so_far making m) turn x is.placed place_is);
      count = (
          let f = fewer_set m.nodes k p at (slice_get_within p.trace.steps p.done step there) in
          let n = length-append (told_so_far making m) (x ∷ []) in
          let e = ap (λ (l : List Told). length l) told_is in
          let s = ap (λ (ts : List (Traced B)). steps_of ts) traces_are in
          let c = is.count in
          omega (arith, f, n, e, s, c));
    }
