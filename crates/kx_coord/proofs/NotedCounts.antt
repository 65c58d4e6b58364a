-- Markers that were answered, counted by their transactional id.
use Rattle.std.proofs.Common.{◌≡◌, ◌∙◌, ◌+◌, ◌≤◌, ◌++◌, ℕ, List, [], ◌∷◌, Bool, true, false}
use Rattle.std.proofs.Common.{Option, Some, None, refl, sym, ap, subst, cond, map, filter, length}
use Rattle.std.proofs.Common.{arith}
use Rattle.std.specs.Prelude.{◌&&◌, ◌==◌, bytes_eq}
use Rattle.std.specs.List.{AllByRecursion, IsDistinct, list_any}
use Rattle.std.specs.Map.{keys_of, lookup}
use Rattle.std.proofs.lemmas.Bool.{and_parts, or_parts}
use Rattle.std.proofs.lemmas.Bool.Decides.{nat_tests}
use Rattle.std.proofs.lemmas.List.Concat.{flat_map-cons}
use Rattle.std.proofs.lemmas.Slice.Eq.{bytes_eq-Decides}
use Rattle.kx_model.specs.Markers.{Answered, noting, same_answered}
use Rattle.kx_coord.specs.Noted.{KeptOnce, SameAnswered, answered_by, is_marker}
use Rattle.kx_coord.specs.declared.noted.AnsweredMarker.{AnsweredMarker}
use Rattle.kx_coord.proofs.NotedTables.{and_four, is_at_items, is_for, items_at, looked_up}
use Rattle.kx_coord.proofs.NotedTables.{noted_more, shown}

-- how many pass
abbrev pub count : {A : Type 0} → (A → Bool) → List A → ℕ
count test xs = length (filter test xs)

abbrev one_if : Bool → ℕ
one_if b = cond b 1 0

count_cons : {A : Type 0} (test : A → Bool) (x : A) (xs : List A)
    → count test (x ∷ xs) ≡ one_if (test x) + count test xs
count_cons test x xs = by (test x)
  where
    by : (b : Bool) → length (cond b (x ∷ filter test xs) (filter test xs))
        ≡ one_if b + count test xs
    by true = omega arith
    by false = omega arith

count_append : {A : Type 0} (test : A → Bool) (xs ys : List A)
    → count test (xs ++ ys) ≡ count test xs + count test ys
count_append test [] ys = omega arith
count_append test (x ∷ xs) ys =
    omega (arith, count_cons test x (xs ++ ys), count_cons test x xs, count_append test xs ys)

-- none passes if none is among them
no_count : {A : Type 0} (test : A → Bool) (xs : List A) → list_any test xs ≡ false
    → count test xs ≡ 0
no_count test [] e = refl
no_count test (x ∷ xs) e =
    let h = or_parts (test x) (list_any test xs) e in
    omega (arith, count_cons test x xs, ap one_if h.0, no_count test xs h.1)

among_by : (a : Answered) (t : List ℕ) (ms : List AnsweredMarker) (c : Bool)
    → bytes_eq a.txn t ≡ c
    → count (same_answered a) (map (answered_by t) ms) ≡ cond c (count (is_for a) ms) 0
among_by a t [] true e = refl
among_by a t [] false e = refl
among_by a t (m ∷ ms) true e =
    let one : same_answered a (answered_by t m) ≡ is_for a m =
    and_four (bytes_eq a.txn t) (a.held.id == m.held.id) (a.held.epoch == m.held.epoch)
    (a.partition == m.partition) ∙ ap (λ c. c && is_for a m) e in
    omega (
      arith,
      count_cons (same_answered a) (answered_by t m) (map (answered_by t) ms),
      count_cons (is_for a) m ms,
      ap one_if one,
      among_by a t ms true e,
    )
among_by a t (m ∷ ms) false e =
    let one : same_answered a (answered_by t m) ≡ false =
    and_four (bytes_eq a.txn t) (a.held.id == m.held.id) (a.held.epoch == m.held.epoch)
    (a.partition == m.partition) ∙ ap (λ c. c && is_for a m) e in
    omega (
      arith,
      count_cons (same_answered a) (answered_by t m) (map (answered_by t) ms),
      ap one_if one,
      among_by a t ms false e,
    )

module _ {V : Type 0} (items : V → List AnsweredMarker) where
  shown_cons : (a : Answered) (e : List ℕ × V) (es : List (List ℕ × V))
      → count (same_answered a) (shown items (e ∷ es))
      ≡ count (same_answered a) (map (answered_by e.0) (items e.1))
      + count (same_answered a) (shown items es)
  shown_cons a e es =
      ap (count (same_answered a))
      (flat_map-cons (λ (f : List ℕ × V). map (answered_by f.0) (items f.1)) e es)
      ∙ count_append (same_answered a) (map (answered_by e.0) (items e.1)) (shown items es)

  none_shown : (a : Answered) (es : List (List ℕ × V))
      → AllByRecursion (λ t. bytes_eq a.txn t ≡ false) (keys_of es)
      → count (same_answered a) (shown items es) ≡ 0
  none_shown a [] none = refl
  none_shown a (e ∷ es) none =
      omega (
        arith,
        shown_cons a e es,
        among_by a e.0 (items e.1) false none.0,
        none_shown a es none.1,
      )

  looked_by : (a : Answered) (e : List ℕ × V) (es : List (List ℕ × V)) (b : Bool)
      → bytes_eq a.txn e.0 ≡ b
      → (b ≡ true → count (same_answered a) (shown items es) ≡ 0)
      → count (same_answered a) (shown items es)
      ≡ count (is_for a) (items_at items (lookup (bytes_eq a.txn) es))
      → count (same_answered a) (shown items (e ∷ es))
      ≡ count (is_for a) (items_at items (cond b (Some e.1) (lookup (bytes_eq a.txn) es)))
  looked_by a e es true same none rest =
      omega (arith, shown_cons a e es, among_by a e.0 (items e.1) true same, none refl)
  looked_by a e es false same none rest =
      omega (arith, shown_cons a e es, among_by a e.0 (items e.1) false same, rest)

  -- as many are shown as its transactional id has
  pub counted : (a : Answered) (es : List (List ℕ × V)) → IsDistinct bytes_eq (keys_of es)
      → count (same_answered a) (shown items es)
      ≡ count (is_for a) (items_at items (lookup (bytes_eq a.txn) es))
  unfolding IsDistinct
  counted a [] apart = refl
  counted a (e ∷ es) apart =
      looked_by a e es (bytes_eq a.txn e.0) refl
      (λ same. none_shown a es (subst (λ t. AllByRecursion (λ y. bytes_eq t y ≡ false) (keys_of es))
      (sym ((bytes_eq-Decides a.txn e.0).0 same)) apart.0))
      (counted a es apart.1)

  -- one more, which was not among them
  one_more : (b : Answered) (marker : AnsweredMarker) (ms : List AnsweredMarker) (c : Bool)
      → is_for b marker ≡ c → count (is_for b) ms ≤ 1
      → (c ≡ true → list_any (is_for b) ms ≡ false)
      → count (is_for b) (ms ++ marker ∷ []) ≤ 1
  one_more b marker ms true e few new =
      omega (
        arith,
        count_append (is_for b) ms (marker ∷ []),
        count_cons (is_for b) marker [],
        ap one_if e,
        no_count (is_for b) ms (new refl),
      )
  one_more b marker ms false e few new =
      omega (
        arith,
        count_append (is_for b) ms (marker ∷ []),
        count_cons (is_for b) marker [],
        ap one_if e,
        few,
      )

  more_by : (b : Answered) (marker : AnsweredMarker) (v : V) (o p : Option V) (c : Bool)
      → (c ≡ true → o ≡ p) → items v ≡ items_at items p ++ marker ∷ []
      → count (is_for b) (items_at items o) ≤ 1
      → (is_for b marker ≡ true → list_any (is_for b) (items_at items p) ≡ false)
      → count (is_for b) (items_at items (cond c (Some v) o)) ≤ 1
  more_by b marker v o p true same is few new =
      subst (λ l. count (is_for b) l ≤ 1) (sym is)
      (one_more b marker (items_at items p) (is_for b marker) refl
      (subst (λ q. count (is_for b) (items_at items q) ≤ 1) (same refl) few) new)
  more_by b marker v o p false same is few new = few

  pub noted_once : (txn : List ℕ) (marker : AnsweredMarker) (es new : List (List ℕ × V)) (v : V)
      → IsDistinct bytes_eq (keys_of es) → IsDistinct bytes_eq (keys_of new)
      → ((q : List ℕ) → lookup (bytes_eq q) new
      ≡ cond (bytes_eq txn q) (Some v) (lookup (bytes_eq q) es))
      → items v ≡ items_at items (lookup (bytes_eq txn) es) ++ marker ∷ []
      → list_any (is_marker marker.held marker.partition)
      (items_at items (lookup (bytes_eq txn) es)) ≡ false
      → KeptOnce (shown items es) → KeptOnce (shown items new)
  noted_once txn marker es new v apart now found is fresh once b =
      let few : count (is_for b) (items_at items (lookup (bytes_eq b.txn) es)) ≤ 1 =
      omega (arith, once b, counted b es apart) in
      let by = more_by b marker v (lookup (bytes_eq b.txn) es) (lookup (bytes_eq txn) es)
      (bytes_eq txn b.txn)
      (λ e. ap (λ t. lookup (bytes_eq t) es) (sym ((bytes_eq-Decides txn b.txn).0 e))) is few
      (λ e. subst (λ (test : AnsweredMarker → Bool). list_any test
      (items_at items (lookup (bytes_eq txn) es)) ≡ false) (sym (same_test b marker e)) fresh) in
      omega (
        arith,
        counted b new now,
        ap (λ o. count (is_for b) (items_at items o)) (found b.txn),
        by,
      )
    where
      same_test : (b : Answered) (marker : AnsweredMarker) → is_for b marker ≡ true
          → is_for b ≡ is_marker marker.held marker.partition
      same_test b marker e =
          let same_ids = b.held.id == marker.held.id in
          let same_epochs = b.held.epoch == marker.held.epoch in
          let h = and_parts (same_ids && same_epochs) (b.partition == marker.partition) e in
          let g = and_parts same_ids same_epochs h.0 in
          let same_id : b.held.id ≡ marker.held.id = let k = g.0 in grind (arith, nat_tests) in
          let same_epoch : b.held.epoch ≡ marker.held.epoch =
          let k = g.1 in grind (arith, nat_tests) in
          let same_partition : b.partition ≡ marker.partition =
          let k = h.1 in grind (arith, nat_tests) in
          λ i. is_marker (record { id = same_id i; epoch = same_epoch i }) (same_partition i)

  -- without those of a transactional id
  pub forgotten_once : (txn : List ℕ) (es new : List (List ℕ × V))
      → IsDistinct bytes_eq (keys_of es) → IsDistinct bytes_eq (keys_of new)
      → ((q : List ℕ) → lookup (bytes_eq q) new
      ≡ cond (bytes_eq txn q) None (lookup (bytes_eq q) es))
      → KeptOnce (shown items es) → KeptOnce (shown items new)
  forgotten_once txn es new apart now found once b =
      let few : count (is_for b) (items_at items (lookup (bytes_eq b.txn) es)) ≤ 1 =
      omega (arith, once b, counted b es apart) in
      let by = left (bytes_eq txn b.txn) (lookup (bytes_eq b.txn) es) few in
      omega (
        arith,
        counted b new now,
        ap (λ o. count (is_for b) (items_at items o)) (found b.txn),
        by,
      )
    where
      left : (c : Bool) (o : Option V) → count (is_for b) (items_at items o) ≤ 1
          → count (is_for b) (items_at items (cond c None o)) ≤ 1
      left true o h = omega arith
      left false o h = h

module _ {V : Type 0} (items : V → List AnsweredMarker) where
  -- a table with one answer more of a transactional id, which it didn't show, shows it noted
  pub shows_noted : (txn : List ℕ) (marker : AnsweredMarker) (es new : List (List ℕ × V)) (v : V)
      (old : List Answered) → IsDistinct bytes_eq (keys_of es) → IsDistinct bytes_eq (keys_of new)
      → ((q : List ℕ) → lookup (bytes_eq q) new
      ≡ cond (bytes_eq txn q) (Some v) (lookup (bytes_eq q) es))
      → items v ≡ items_at items (lookup (bytes_eq txn) es) ++ marker ∷ []
      → KeptOnce (shown items es) → shown items es ≡ old
      → list_any (same_answered (answered_by txn marker)) old ≡ false
      → SameAnswered (shown items new) (noting old (answered_by txn marker))
  shows_noted txn marker es new v old apart now found is once shows none =
      let a = answered_by txn marker in
      let fresh = sym (is_at_items items a (lookup (bytes_eq txn) es))
      ∙ sym (looked_up items a es apart) ∙ ap (list_any (same_answered a)) shows ∙ none in
      record {
        same = λ b. noted_more items txn marker es new v apart now found is b
            ∙ ap (λ (s : List Answered). list_any (same_answered b) (s ++ a ∷ [])) shows
            ∙ ap (list_any (same_answered b)) (sym (ap (λ c. cond c old (old ++ a ∷ [])) none));
        once = noted_once items txn marker es new v apart now found is fresh once;
      }
