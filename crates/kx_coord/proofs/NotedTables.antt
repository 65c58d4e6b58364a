-- Markers that were answered, looked up by their transactional id.
use Rattle.std.proofs.Common.{◌≡◌, ◌∙◌, ◌++◌, ℕ, List, [], ◌∷◌, Bool, true, false, Option, Some}
use Rattle.std.proofs.Common.{None, refl, sym, ap, subst, cond, map, filter}
use Rattle.std.specs.Prelude.{◌&&◌, ◌||◌, ◌==◌, bytes_eq, not}
use Rattle.std.specs.Cmp.Lexicographic.{nat_list_eq_equiv}
use Rattle.std.specs.List.{AllByRecursion, IsDistinct, flat_map, list_any}
use Rattle.std.specs.Map.{keys_of, lookup, set_value}
use Rattle.std.proofs.lemmas.List.Concat.{flat_map-cons}
use Rattle.std.proofs.lemmas.List.Folds.{list_any-append}
use Rattle.std.proofs.lemmas.Slice.Eq.{bytes_eq-Decides}
use Rattle.kx_model.specs.Markers.{Answered, same_answered}
use Rattle.kx_coord.specs.Noted.{answered_by, is_marker}
use Rattle.kx_coord.specs.declared.noted.AnsweredMarker.{AnsweredMarker}

pub and_four : (a b c d : Bool) → (((a && b) && c) && d) ≡ (a && ((b && c) && d))
and_four true b c d = refl
and_four false b c d = refl

and_or : (a x y : Bool) → ((a && x) || (a && y)) ≡ (a && (x || y))
and_or true x y = refl
and_or false x y = refl

and_none : (a : Bool) → false ≡ (a && false)
and_none true = refl
and_none false = refl

-- whether an answer is among those of a transactional id
abbrev pub is_for : Answered → AnsweredMarker → Bool
is_for a = is_marker a.held a.partition

pub among : (a : Answered) (t : List ℕ) (ms : List AnsweredMarker)
    → list_any (same_answered a) (map (answered_by t) ms)
    ≡ (bytes_eq a.txn t && list_any (is_for a) ms)
among a t [] = and_none (bytes_eq a.txn t)
among a t (m ∷ ms) =
    ap (λ c. c || list_any (same_answered a) (map (answered_by t) ms))
    (and_four (bytes_eq a.txn t) (a.held.id == m.held.id) (a.held.epoch == m.held.epoch)
    (a.partition == m.partition))
    ∙ ap (λ c. (bytes_eq a.txn t && is_for a m) || c) (among a t ms)
    ∙ and_or (bytes_eq a.txn t) (is_for a m) (list_any (is_for a) ms)

module _ {V : Type 0} (items : V → List AnsweredMarker) where
  -- all of a table
  abbrev pub shown : List (List ℕ × V) → List Answered
  shown es = flat_map (λ e. map (answered_by e.0) (items e.1)) es

  abbrev pub is_at : Answered → Option V → Bool
  is_at a None = false
  is_at a (Some v) = list_any (is_for a) (items v)

  shown_cons : (a : Answered) (e : List ℕ × V) (es : List (List ℕ × V))
      → list_any (same_answered a) (shown (e ∷ es))
      ≡ ((bytes_eq a.txn e.0 && list_any (is_for a) (items e.1))
      || list_any (same_answered a) (shown es))
  shown_cons a e es =
      ap (list_any (same_answered a))
      (flat_map-cons (λ (f : List ℕ × V). map (answered_by f.0) (items f.1)) e es)
      ∙ list_any-append (same_answered a) (map (answered_by e.0) (items e.1)) (shown es)
      ∙ ap (λ c. c || list_any (same_answered a) (shown es)) (among a e.0 (items e.1))

  -- none if no entry is of its transactional id
  none_shown : (a : Answered) (es : List (List ℕ × V))
      → AllByRecursion (λ t. bytes_eq a.txn t ≡ false) (keys_of es)
      → list_any (same_answered a) (shown es) ≡ false
  none_shown a [] none = refl
  none_shown a (e ∷ es) none =
      shown_cons a e es
      ∙ ap (λ c. (c && list_any (is_for a) (items e.1)) || list_any (same_answered a) (shown es))
      none.0
      ∙ none_shown a es none.1

  looked_by : (a : Answered) (e : List ℕ × V) (es : List (List ℕ × V)) (b : Bool)
      → (b ≡ true → list_any (same_answered a) (shown es) ≡ false)
      → list_any (same_answered a) (shown es) ≡ is_at a (lookup (bytes_eq a.txn) es)
      → ((b && list_any (is_for a) (items e.1)) || list_any (same_answered a) (shown es))
      ≡ is_at a (cond b (Some e.1) (lookup (bytes_eq a.txn) es))
  looked_by a e es true none rest =
      ap (λ c. list_any (is_for a) (items e.1) || c) (none refl) ∙ or_false _
    where
      or_false : (x : Bool) → (x || false) ≡ x
      or_false true = refl
      or_false false = refl
  looked_by a e es false none rest = rest

  -- an answer is found by its transactional id
  pub looked_up : (a : Answered) (es : List (List ℕ × V)) → IsDistinct bytes_eq (keys_of es)
      → list_any (same_answered a) (shown es) ≡ is_at a (lookup (bytes_eq a.txn) es)
  unfolding IsDistinct
  looked_up a [] apart = refl
  looked_up a (e ∷ es) apart =
      shown_cons a e es
      ∙ looked_by a e es (bytes_eq a.txn e.0)
      (λ same. none_shown a es (subst (λ t. AllByRecursion (λ y. bytes_eq t y ≡ false) (keys_of es))
      (sym ((bytes_eq-Decides a.txn e.0).0 same)) apart.0))
      (looked_up a es apart.1)

or_false : (x : Bool) → (x || false) ≡ x
or_false true = refl
or_false false = refl

module _ {V : Type 0} (items : V → List AnsweredMarker) where
  abbrev pub items_at : Option V → List AnsweredMarker
  items_at None = []
  items_at (Some v) = items v

  pub is_at_items : (a : Answered) (o : Option V)
      → is_at items a o ≡ list_any (is_for a) (items_at o)
  is_at_items a None = refl
  is_at_items a (Some v) = refl

  set_step : (test : List ℕ → Bool) (e : List ℕ × V) (es : List (List ℕ × V)) (v w : V) (b : Bool)
      → (lookup test es ≡ Some v → shown items (set_value test es w) ≡ shown items es)
      → cond b (Some e.1) (lookup test es) ≡ Some v → items w ≡ items v
      → shown items (cond b ((e.0, w) ∷ es) (e ∷ set_value test es w)) ≡ shown items (e ∷ es)
  set_step test e es v w true more found same =
      flat_map-cons (λ (f : List ℕ × V). map (answered_by f.0) (items f.1)) (e.0, w) es
      ∙ ap (λ l. map (answered_by e.0) l ++ shown items es) (same ∙ sym (ap items_at found))
      ∙ sym (flat_map-cons (λ (f : List ℕ × V). map (answered_by f.0) (items f.1)) e es)
  set_step test e es v w false more found same =
      flat_map-cons (λ (f : List ℕ × V). map (answered_by f.0) (items f.1)) e
      (set_value test es w)
      ∙ ap (λ l. map (answered_by e.0) (items e.1) ++ l) (more found)
      ∙ sym (flat_map-cons (λ (f : List ℕ × V). map (answered_by f.0) (items f.1)) e es)

  -- another value with the same answers shows nothing else
  pub shown_set : (test : List ℕ → Bool) (es : List (List ℕ × V)) (v w : V)
      → lookup test es ≡ Some v → items w ≡ items v
      → shown items (set_value test es w) ≡ shown items es
  shown_set test [] v w found same = refl
  shown_set test (e ∷ es) v w found same =
      set_step test e es v w (test e.0) (λ f. shown_set test es v w f same) found same

  one_more : (b : Answered) (txn : List ℕ) (marker : AnsweredMarker) (v : V) (o p : Option V)
      (c : Bool) → bytes_eq b.txn txn ≡ c → (c ≡ true → o ≡ p)
      → items v ≡ items_at p ++ marker ∷ []
      → is_at items b (cond c (Some v) o)
      ≡ (is_at items b o || ((bytes_eq b.txn txn && is_for b marker) || false))
  one_more b txn marker v o p true e same is =
      ap (list_any (is_for b)) is ∙ list_any-append (is_for b) (items_at p) (marker ∷ [])
      ∙ ap (λ x. x || (is_for b marker || false))
      (sym (is_at_items b p) ∙ ap (is_at items b) (sym (same refl)))
      ∙ ap (λ x. is_at items b o || ((x && is_for b marker) || false)) (sym e)
  one_more b txn marker v o p false e same is =
      sym (or_false (is_at items b o))
      ∙ ap (λ x. is_at items b o || ((x && is_for b marker) || false)) (sym e)

  -- with one more of a transactional id
  pub noted_more : (txn : List ℕ) (marker : AnsweredMarker) (es new : List (List ℕ × V)) (v : V)
      → IsDistinct bytes_eq (keys_of es) → IsDistinct bytes_eq (keys_of new)
      → ((q : List ℕ) → lookup (bytes_eq q) new
      ≡ cond (bytes_eq txn q) (Some v) (lookup (bytes_eq q) es))
      → items v ≡ items_at (lookup (bytes_eq txn) es) ++ marker ∷ []
      → (b : Answered) → list_any (same_answered b) (shown items new)
      ≡ list_any (same_answered b) (shown items es ++ answered_by txn marker ∷ [])
  noted_more txn marker es new v apart now found is b =
      looked_up items b new now ∙ ap (is_at items b) (found b.txn)
      ∙ ap (λ c. is_at items b (cond c (Some v) (lookup (bytes_eq b.txn) es)))
      (nat_list_eq_equiv.symm txn b.txn)
      ∙ one_more b txn marker v (lookup (bytes_eq b.txn) es) (lookup (bytes_eq txn) es)
      (bytes_eq b.txn txn) refl
      (λ e. ap (λ t. lookup (bytes_eq t) es) ((bytes_eq-Decides b.txn txn).0 e)) is
      ∙ ap (λ x. x || ((bytes_eq b.txn txn && is_for b marker) || false))
      (sym (looked_up items b es apart))
      ∙ ap (λ x. list_any (same_answered b) (shown items es) || (x || false))
      (sym (and_four (bytes_eq b.txn txn) (b.held.id == marker.held.id)
      (b.held.epoch == marker.held.epoch) (b.partition == marker.partition)))
      ∙ sym (list_any-append (same_answered b) (shown items es) (answered_by txn marker ∷ []))

------ forgetting

apart_texts : (b x txn : List ℕ) (c d : Bool) → bytes_eq b txn ≡ c → bytes_eq x txn ≡ d
    → (c ≡ d → ⊥) → bytes_eq b x ≡ false
apart_texts b x txn c d e f differ = by (bytes_eq b x) refl
  where
    by : (s : Bool) → bytes_eq b x ≡ s → s ≡ false
    by true g = absurd (differ (sym e ∙ ap (λ t. bytes_eq t txn) ((bytes_eq-Decides b x).0 g) ∙ f))
    by false g = refl

apart_answers : (b x : Answered) → bytes_eq b.txn x.txn ≡ false → same_answered b x ≡ false
apart_answers b x e =
    ap (λ s. ((s && b.held.id == x.held.id) && b.held.epoch == x.held.epoch)
    && b.partition == x.partition) e

forget_one : (b x : Answered) (txn : List ℕ) (rest kept : Bool) (c d : Bool)
    → bytes_eq b.txn txn ≡ c → bytes_eq x.txn txn ≡ d → kept ≡ cond c false rest
    → cond (not d) (same_answered b x || kept) kept ≡ cond c false (same_answered b x || rest)
forget_one b x txn rest kept true true e f h = h
forget_one b x txn rest kept true false e f h =
    ap (λ s. s || kept) (apart_answers b x (apart_texts b.txn x.txn txn true false e f (λ g. cc)))
    ∙ h
forget_one b x txn rest kept false true e f h =
    h ∙ sym (ap (λ s. s || rest)
    (apart_answers b x (apart_texts b.txn x.txn txn false true e f (λ g. cc))))
forget_one b x txn rest kept false false e f h = ap (λ k. same_answered b x || k) h

any_cond : (b : Answered) (d : Bool) (x : Answered) (xs : List Answered)
    → list_any (same_answered b) (cond d (x ∷ xs) xs)
    ≡ cond d (same_answered b x || list_any (same_answered b) xs) (list_any (same_answered b) xs)
any_cond b true x xs = refl
any_cond b false x xs = refl

none_of : (c : Bool) → false ≡ cond c false false
none_of true = refl
none_of false = refl

any_filter : (b : Answered) (txn : List ℕ) (xs : List Answered)
    → list_any (same_answered b) (filter (λ a. not (bytes_eq a.txn txn)) xs)
    ≡ cond (bytes_eq b.txn txn) false (list_any (same_answered b) xs)
any_filter b txn [] = none_of (bytes_eq b.txn txn)
any_filter b txn (x ∷ xs) =
    let others = filter (λ a. not (bytes_eq a.txn txn)) xs in
    any_cond b (not (bytes_eq x.txn txn)) x others
    ∙ forget_one b x txn (list_any (same_answered b) xs) (list_any (same_answered b) others)
    (bytes_eq b.txn txn) (bytes_eq x.txn txn) refl refl (any_filter b txn xs)

at_none : {V : Type 0} (items : V → List AnsweredMarker) (b : Answered) (o : Option V) (c : Bool)
    → is_at items b (cond c None o) ≡ cond c false (is_at items b o)
at_none items b o true = refl
at_none items b o false = refl

-- without those of a transactional id
pub forgotten : {V : Type 0} (items : V → List AnsweredMarker) (txn : List ℕ)
    (es new : List (List ℕ × V))
    → IsDistinct bytes_eq (keys_of es) → IsDistinct bytes_eq (keys_of new)
    → ((q : List ℕ) → lookup (bytes_eq q) new
    ≡ cond (bytes_eq txn q) None (lookup (bytes_eq q) es))
    → (b : Answered) → list_any (same_answered b) (shown items new)
    ≡ list_any (same_answered b) (filter (λ a. not (bytes_eq a.txn txn)) (shown items es))
forgotten items txn es new apart now found b =
    looked_up items b new now ∙ ap (is_at items b) (found b.txn)
    ∙ ap (λ c. is_at items b (cond c None (lookup (bytes_eq b.txn) es)))
    (nat_list_eq_equiv.symm txn b.txn)
    ∙ at_none items b (lookup (bytes_eq b.txn) es) (bytes_eq b.txn txn)
    ∙ ap (cond (bytes_eq b.txn txn) false) (sym (looked_up items b es apart))
    ∙ sym (any_filter b txn (shown items es))
