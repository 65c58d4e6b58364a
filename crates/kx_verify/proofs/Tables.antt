-- Parked requests, looked up by id and epoch.
use Rattle.std.proofs.Common.{◌≡◌, ◌∙◌, ◌≤◌, ◌<◌, ◌++◌, List, [], ◌∷◌, Bool, true, false}
use Rattle.std.proofs.Common.{Some, None, refl, sym, ap, subst, cond, filter, length, not}
use Rattle.std.proofs.Common.{arith}
use Rattle.std.specs.Prelude.{◌==◌}
use Rattle.std.specs.Bool.{Decides}
use Rattle.std.specs.Cmp.{IsEquivalence}
use Rattle.std.specs.List.{All, IsDistinct, flat_map}
use Rattle.std.specs.Map.{keys_of, lookup, set_value}
use Rattle.std.proofs.lemmas.Bool.{and_from, and_parts, eq-eqb, eqb-true, not-false, not-true}
use Rattle.std.proofs.lemmas.Cmp.{and_equiv, nat_eq_equiv, on_equiv}
use Rattle.std.proofs.lemmas.List.{append-nil, length-append}
use Rattle.std.proofs.lemmas.List.Concat.{flat_map-cons}
use Rattle.std.proofs.lemmas.List.Elements.{All-append, All-head, All-nil, All-push, All-tail}
use Rattle.std.proofs.lemmas.List.Elements.{All-weaker, filter-append}
use Rattle.std.proofs.lemmas.Map.{lookup-none}
use Rattle.std.proofs.lemmas.Map.Entries.{none_past_head}
use Rattle.std.proofs.lemmas.Map.Keys.{IsDistinct-tail}
use Rattle.kx_message.specs.declared.message.Held.{Held}
use Rattle.kx_model.specs.Verification.{Parked, is_for, pair_of, parked_for, parked_limit, without}
use Rattle.kx_verify.specs.Guard.{SameParked}
use Rattle.kx_verify.specs.Internal.Table.{IsOf, IsTable, Key, items_at, key_of, same_key}

------ keys

keys_equal : IsEquivalence same_key
keys_equal =
    and_equiv (on_equiv (λ (k : Key). k.0) nat_eq_equiv) (on_equiv (λ (k : Key). k.1) nat_eq_equiv)

key_decides : (a b : Key) → Decides (same_key a b) (a ≡ b)
key_decides a b = (
  λ e. let p = and_parts (a.0 == b.0) (a.1 == b.1) e in
      let first = eqb-true a.0 b.0 p.0 in
      let second = eqb-true a.1 b.1 p.1 in
      λ i. (first i, second i),
  λ e. and_from (a.0 == b.0) (a.1 == b.1) (eq-eqb a.0 b.0 (ap (λ (k : Key). k.0) e))
      (eq-eqb a.1 b.1 (ap (λ (k : Key). k.1) e)),
)

-- a request is for an id and epoch if its key is theirs
for_key : (held : Held) (p : Parked) → is_for held p ≡ same_key (key_of p.held) (key_of held)
for_key held p = refl

------ filters

module _ {X : Type 0} (p : X → Bool) where
  keeps_all : (xs : List X) → All (λ x. p x ≡ true) xs → filter p xs ≡ xs
  keeps_all [] all = refl
  keeps_all (x ∷ xs) all =
      let passes : p x ≡ true = All-head (λ y. p y ≡ true) x xs all in
      ap (λ b. cond b (x ∷ filter p xs) (filter p xs)) passes
      ∙ ap (λ rest. x ∷ rest) (keeps_all xs (All-tail (λ y. p y ≡ true) x xs all))

  keeps_none : (xs : List X) → All (λ x. p x ≡ false) xs → filter p xs ≡ []
  keeps_none [] all = refl
  keeps_none (x ∷ xs) all =
      let fails : p x ≡ false = All-head (λ y. p y ≡ false) x xs all in
      ap (λ b. cond b (x ∷ filter p xs) (filter p xs)) fails
      ∙ keeps_none xs (All-tail (λ y. p y ≡ false) x xs all)

-- what one filter drops, another doesn't keep
dropped : {X : Type 0} (s f : X → Bool) → ((x : X) → f x ≡ false → s x ≡ false) → (xs : List X)
    → filter s (filter f xs) ≡ filter s xs
dropped s f less [] = refl
dropped {X} s f less (x ∷ xs) = at (f x) refl (dropped s f less xs)
  where
    at : (b : Bool) → f x ≡ b → filter s (filter f xs) ≡ filter s xs
        → filter s (cond b (x ∷ filter f xs) (filter f xs)) ≡ filter s (x ∷ xs)
    at true e rest = ap (λ l. cond (s x) (x ∷ l) l) rest
    at false e rest = rest ∙ sym (ap (λ b. cond b (x ∷ filter s xs) (filter s xs)) (less x e))

none_left : {X : Type 0} (s f : X → Bool) → ((x : X) → f x ≡ true → s x ≡ false) → (xs : List X)
    → filter s (filter f xs) ≡ []
none_left s f less [] = refl
none_left {X} s f less (x ∷ xs) = at (f x) refl (none_left s f less xs)
  where
    at : (b : Bool) → f x ≡ b → filter s (filter f xs) ≡ []
        → filter s (cond b (x ∷ filter f xs) (filter f xs)) ≡ []
    at true e rest =
        ap (λ b. cond b (x ∷ filter s (filter f xs)) (filter s (filter f xs))) (less x e) ∙ rest
    at false e rest = rest

------ a table

module _ {V : Type 0} (items : V → List Parked) where
  -- all of a table
  abbrev pub shown : List (Key × V) → List Parked
  shown es = flat_map (λ e. items e.1) es

  abbrev kept : List (Key × V) → Key → List Parked
  kept es key = items_at items (lookup (same_key key) es)

  abbrev Owned : List (Key × V) → Type 0
  Owned es = (key : Key) → All (IsOf key) (kept es key)

  head_owned : (e : Key × V) (es : List (Key × V)) → Owned (e ∷ es) → All (IsOf e.0) (items e.1)
  head_owned e es own =
      subst (λ b. All (IsOf e.0) (items_at items (cond b (Some e.1) (lookup (same_key e.0) es))))
      (keys_equal.refl e.0) (own e.0)

  past_head : (e : Key × V) (es : List (Key × V)) → IsDistinct same_key (keys_of (e ∷ es))
      → (key : Key) → same_key key e.0 ≡ true → lookup (same_key key) es ≡ None
  past_head e es apart key is =
      lookup-none (same_key key) es (none_past_head keys_equal key e es apart is)

  tail_owned : (e : Key × V) (es : List (Key × V)) → IsDistinct same_key (keys_of (e ∷ es))
      → Owned (e ∷ es) → Owned es
  tail_owned e es apart own key = by (same_key key e.0) refl
    where
      by : (b : Bool) → same_key key e.0 ≡ b → All (IsOf key) (kept es key)
      by true is =
          subst (λ o. All (IsOf key) (items_at items o)) (sym (past_head e es apart key is))
          (All-nil (IsOf key))
      by false is =
          subst
          (λ b. All (IsOf key) (items_at items (cond b (Some e.1) (lookup (same_key key) es))))
          is (own key)

  -- those of an id and epoch are what is kept with their key
  found : (es : List (Key × V)) → IsDistinct same_key (keys_of es) → Owned es → (held : Held)
      → parked_for (shown es) held ≡ kept es (key_of held)
  found [] apart own held = refl
  found (e ∷ es) apart own held =
      ap (filter (is_for held)) (flat_map-cons (λ (f : Key × V). items f.1) e es)
      ∙ filter-append (is_for held) (items e.1) (shown es)
      ∙ by (same_key (key_of held) e.0) refl
      (found es (IsDistinct-tail same_key e.0 (keys_of es) apart) (tail_owned e es apart own) held)
    where
      here : (b : Bool) → same_key (key_of held) e.0 ≡ b → (p : Parked) → IsOf e.0 p
          → is_for held p ≡ b
      here b is p of =
          keys_equal.symm (key_of p.held) (key_of held)
          ∙ ap (same_key (key_of held)) of.key_is ∙ is

      by : (b : Bool) → same_key (key_of held) e.0 ≡ b
          → parked_for (shown es) held ≡ kept es (key_of held)
          → parked_for (items e.1) held ++ parked_for (shown es) held
          ≡ items_at items (cond b (Some e.1) (lookup (same_key (key_of held)) es))
      by true is more =
          ap (λ l. l ++ parked_for (shown es) held)
          (keeps_all (is_for held) (items e.1)
          (All-weaker (IsOf e.0) (λ p. is_for held p ≡ true) (here true is) (items e.1)
          (head_owned e es own)))
          ∙ ap (λ l. items e.1 ++ l)
          (more ∙ ap (items_at items) (past_head e es apart (key_of held) is))
          ∙ append-nil (items e.1)
      by false is more =
          ap (λ l. l ++ parked_for (shown es) held)
          (keeps_none (is_for held) (items e.1)
          (All-weaker (IsOf e.0) (λ p. is_for held p ≡ false) (here false is) (items e.1)
          (head_owned e es own)))
          ∙ more

  pub looked_up : (es : List (Key × V)) → IsTable items es → (held : Held)
      → parked_for (shown es) held ≡ kept es (key_of held)
  looked_up es is held = found es is.unique is.own held

  pub table_few : (es : List (Key × V)) → IsTable items es → (held : Held)
      → length (parked_for (shown es) held) ≤ parked_limit
  table_few es is held =
      omega (arith, ap length (looked_up es is held), is.few (key_of held))

  -- each of a table is of its batch's id and epoch
  all_own : (es : List (Key × V)) → IsDistinct same_key (keys_of es) → Owned es
      → All (λ p. pair_of p.request ≡ Some p.held) (shown es)
  all_own [] apart own = All-nil (λ p. pair_of p.request ≡ Some p.held)
  all_own (e ∷ es) apart own =
      let P = λ (p : Parked). pair_of p.request ≡ Some p.held in
      subst (All P) (sym (flat_map-cons (λ (f : Key × V). items f.1) e es))
      (All-append P (items e.1) (shown es)
      (All-weaker (IsOf e.0) P (λ p of. of.own) (items e.1) (head_owned e es own))
      (all_own es (IsDistinct-tail same_key e.0 (keys_of es) apart)
      (tail_owned e es apart own)))

  pub table_own : (es : List (Key × V)) → IsTable items es
      → All (λ p. pair_of p.request ≡ Some p.held) (shown es)
  table_own es is = all_own es is.unique is.own

  ------ one more

  module _ (es new : List (Key × V)) (v : V) (p : Parked) (is : IsTable items es)
      (unique : IsDistinct same_key (keys_of new))
      (now : (q : Key) → lookup (same_key q) new
      ≡ cond (same_key (key_of p.held) q) (Some v) (lookup (same_key q) es))
      (more : items v ≡ kept es (key_of p.held) ++ p ∷ [])
      (own : pair_of p.request ≡ Some p.held)
      (few : length (kept es (key_of p.held)) < parked_limit) where
    with_one : (q : Key)
        → kept new q ≡ kept es q ++ cond (same_key (key_of p.held) q) (p ∷ []) []
    with_one q = ap (items_at items) (now q) ∙ by (same_key (key_of p.held) q) refl
      where
        by : (b : Bool) → same_key (key_of p.held) q ≡ b
            → items_at items (cond b (Some v) (lookup (same_key q) es))
            ≡ kept es q ++ cond b (p ∷ []) []
        by true e =
            more ∙ ap (λ (k : Key). kept es k ++ p ∷ []) ((key_decides (key_of p.held) q).0 e)
        by false e = sym (append-nil (kept es q))

    pub table_with : IsTable items new
    table_with = record {
      unique = unique;
      own = λ q. subst (All (IsOf q)) (sym (with_one q))
          (one q (same_key (key_of p.held) q) refl);
      few = λ q.
          omega (arith, ap length (with_one q), one_more q (same_key (key_of p.held) q) refl);
    }
      where
        one : (q : Key) (b : Bool) → same_key (key_of p.held) q ≡ b
            → All (IsOf q) (kept es q ++ cond b (p ∷ []) [])
        one q true e =
            All-push (IsOf q) (kept es q) p (is.own q)
            (record { key_is = (key_decides (key_of p.held) q).0 e; own = own })
        one q false e =
            subst (All (IsOf q)) (sym (append-nil (kept es q))) (is.own q)

        one_more : (q : Key) (b : Bool) → same_key (key_of p.held) q ≡ b
            → length (kept es q ++ cond b (p ∷ []) []) ≤ parked_limit
        one_more q true e =
            omega (
              arith,
              length-append (kept es q) (p ∷ []),
              few,
              ap (λ (k : Key). length (kept es k)) ((key_decides (key_of p.held) q).0 e),
            )
        one_more q false e = omega (arith, ap length (append-nil (kept es q)), is.few q)

    pub parked_with : SameParked (shown new) (shown es ++ p ∷ [])
    parked_with held =
        looked_up new table_with held ∙ with_one (key_of held)
        ∙ ap (λ l. l ++ cond (is_for held p) (p ∷ []) []) (sym (looked_up es is held))
        ∙ sym (filter-append (is_for held) (shown es) (p ∷ []))

  -- the same by what is seen of the table
  pub adds : (es new : List (Key × V)) (v : V) (p : Parked) (old : List Parked) (held : Held)
      → shown es ≡ old → held ≡ p.held → IsTable items es → IsDistinct same_key (keys_of new)
      → ((q : Key) → lookup (same_key q) new
      ≡ cond (same_key (key_of held) q) (Some v) (lookup (same_key q) es))
      → items v ≡ kept es (key_of held) ++ p ∷ [] → pair_of p.request ≡ Some held
      → length (parked_for old p.held) < parked_limit
      → IsTable items new × SameParked (shown new) (old ++ p ∷ [])
  adds es new v p old held view same is unique now more own few =
      let now' = subst (λ (h : Held). (q : Key) → lookup (same_key q) new
      ≡ cond (same_key (key_of h) q) (Some v) (lookup (same_key q) es)) same now in
      let more' = subst (λ (h : Held). items v ≡ kept es (key_of h) ++ p ∷ []) same more in
      let own' : pair_of p.request ≡ Some p.held =
      own ∙ ap (λ (h : Held). Some h) same in
      let few' : length (kept es (key_of p.held)) < parked_limit =
      omega (
        arith,
        few,
        ap (λ (l : List Parked). length (parked_for l p.held)) view,
        ap length (looked_up es is p.held),
      ) in (
        table_with es new v p is unique now' more' own' few',
        λ h. parked_with es new v p is unique now' more' own' few' h
            ∙ ap (λ (l : List Parked). parked_for (l ++ p ∷ []) h) view,
      )

  ------ a value that keeps the same requests

  set_step : (test : Key → Bool) (e : Key × V) (es : List (Key × V)) (v w : V) (b : Bool)
      → (lookup test es ≡ Some v → shown (set_value test es w) ≡ shown es)
      → cond b (Some e.1) (lookup test es) ≡ Some v → items w ≡ items v
      → shown (cond b ((e.0, w) ∷ es) (e ∷ set_value test es w)) ≡ shown (e ∷ es)
  set_step test e es v w true more found same =
      flat_map-cons (λ (f : Key × V). items f.1) (e.0, w) es
      ∙ ap (λ l. l ++ shown es) (same ∙ sym (ap (items_at items) found))
      ∙ sym (flat_map-cons (λ (f : Key × V). items f.1) e es)
  set_step test e es v w false more found same =
      flat_map-cons (λ (f : Key × V). items f.1) e (set_value test es w)
      ∙ ap (λ l. items e.1 ++ l) (more found)
      ∙ sym (flat_map-cons (λ (f : Key × V). items f.1) e es)

  pub shown_set : (test : Key → Bool) (es : List (Key × V)) (v w : V)
      → lookup test es ≡ Some v → items w ≡ items v → shown (set_value test es w) ≡ shown es
  shown_set test [] v w found same = refl
  shown_set test (e ∷ es) v w found same =
      set_step test e es v w (test e.0) (λ f. shown_set test es v w f same) found same

  pub table_same : (es new : List (Key × V)) (key : Key) (v w : V) → IsTable items es
      → IsDistinct same_key (keys_of new)
      → ((q : Key) → lookup (same_key q) new
      ≡ cond (same_key key q) (Some w) (lookup (same_key q) es))
      → lookup (same_key key) es ≡ Some v → items w ≡ items v → IsTable items new
  table_same es new key v w is unique now found same = record {
    unique = unique;
    own = λ q. subst (All (IsOf q)) (sym (as_before q)) (is.own q);
    few = λ q. omega (arith, ap length (as_before q), is.few q);
  }
    where
      by : (q : Key) (b : Bool) → same_key key q ≡ b
          → items_at items (cond b (Some w) (lookup (same_key q) es)) ≡ kept es q
      by q true e =
          same ∙ sym (ap (items_at items) found)
          ∙ ap (kept es) ((key_decides key q).0 e)
      by q false e = refl

      as_before : (q : Key) → kept new q ≡ kept es q
      as_before q = ap (items_at items) (now q) ∙ by q (same_key key q) refl

  ------ without those of an id and epoch

  module _ (es new : List (Key × V)) (gone : Held) (is : IsTable items es)
      (unique : IsDistinct same_key (keys_of new))
      (now : (q : Key) → lookup (same_key q) new
      ≡ cond (same_key (key_of gone) q) None (lookup (same_key q) es)) where
    taken : (q : Key) → kept new q ≡ cond (same_key (key_of gone) q) [] (kept es q)
    taken q = ap (items_at items) (now q) ∙ by (same_key (key_of gone) q)
      where
        by : (b : Bool) → items_at items (cond b None (lookup (same_key q) es))
            ≡ cond b [] (kept es q)
        by true = refl
        by false = refl

    pub table_without : IsTable items new
    table_without = record {
      unique = unique;
      own = λ q. subst (All (IsOf q)) (sym (taken q)) (one q (same_key (key_of gone) q));
      few = λ q. omega (arith, ap length (taken q), fewer q (same_key (key_of gone) q));
    }
      where
        one : (q : Key) (b : Bool) → All (IsOf q) (cond b [] (kept es q))
        one q true = All-nil (IsOf q)
        one q false = is.own q

        fewer : (q : Key) (b : Bool) → length (cond b [] (kept es q)) ≤ parked_limit
        fewer q true = omega arith
        fewer q false = is.few q

    left : (held : Held) (xs : List Parked) (b : Bool) → same_key (key_of gone) (key_of held) ≡ b
        → cond b [] (parked_for xs held) ≡ parked_for (without xs gone) held
    left held xs true e =
        sym (none_left (is_for held) (λ p. not (is_for gone p)) (λ p h. same p h) xs)
      where
        same : (p : Parked) → not (is_for gone p) ≡ true → is_for held p ≡ false
        same p h =
            ap (same_key (key_of p.held)) (sym ((key_decides (key_of gone) (key_of held)).0 e))
            ∙ not-true (is_for gone p) h
    left held xs false e =
        sym (dropped (is_for held) (λ p. not (is_for gone p)) (λ p h. other p h) xs)
      where
        other : (p : Parked) → not (is_for gone p) ≡ false → is_for held p ≡ false
        other p h =
            ap (λ (k : Key). same_key k (key_of held))
            ((key_decides (key_of p.held) (key_of gone)).0 (not-false (is_for gone p) h)) ∙ e

    pub parked_without : SameParked (shown new) (without (shown es) gone)
    parked_without held =
        looked_up new table_without held ∙ taken (key_of held)
        ∙ ap (cond (same_key (key_of gone) (key_of held)) []) (sym (looked_up es is held))
        ∙ left held (shown es) (same_key (key_of gone) (key_of held)) refl
