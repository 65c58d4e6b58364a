-- A group by the facts of a log, and what one more fact changes.
use Rattle.std.proofs.Common.{◌≡◌, ℕ, ◌+◌, ◌==◌, Bool, true, false, not, ◌&&◌, ◌||◌, cond, List, []}
use Rattle.std.proofs.Common.{◌∷◌, ◌++◌, filter, refl, sym, ap, ◌∙◌, arith, append_assoc, ℤ}
use Rattle.std.proofs.Common.{append-nil}
use Rattle.std.specs.Prelude.{bytes_eq, count_by, filter_map, if◌then◌else◌}
use Rattle.std.specs.List.{AllByRecursion, cons_option, list_any}
use Rattle.std.proofs.Math.Bool.{or-false}
use Rattle.std.proofs.lemmas.Cmp.{nat_eq_equiv}
use Rattle.std.proofs.lemmas.List.Elements.{filter-append, filter_agree, filter_map-append}
use Rattle.std.proofs.lemmas.List.Folds.{list_any-append}
use Rattle.std.proofs.lemmas.List.Sums.{sum_by_push}
use Rattle.kx_message.specs.Values.{where_true}
use Rattle.kx_model.specs.Groups.{Fact, Offset, Joined, Left, Dropped, is_membership_of}
use Rattle.kx_model.specs.Groups.{joined_to, went_from}
use Rattle.kx_members.specs.Follows.{SaysOffset, gone_from}
use Rattle.kx_members.specs.Standing.{Standing, after, is_among, joined, went}

------ lists

module _ {A : Type 0} where
  any-push : (test : A → Bool) (items : List A) (item : A)
      → list_any test (items ++ item ∷ []) ≡ (list_any test items || test item)
  any-push test items item =
      list_any-append test items (item ∷ [])
      ∙ ap (λ b. list_any test items || b) (or-false (test item))

  -- one test after another
  filter_both : (first second : A → Bool) (items : List A)
      → filter (λ x. first x && second x) items ≡ filter second (filter first items)
  filter_both first second [] = refl
  filter_both first second (x ∷ items) = by (first x) (filter_both first second items)
    where
      both : List A
      both = filter (λ y. first y && second y) items

      firsts : List A
      firsts = filter first items

      by : (b : Bool) → both ≡ filter second firsts
          → cond (b && second x) (x ∷ both) both ≡ filter second (cond b (x ∷ firsts) firsts)
      by true rest = ap (λ l. cond (second x) (x ∷ l) l) rest
      by false rest = rest

neither : (a b : Bool) → not (a || b) ≡ (not a && not b)
neither true b = refl
neither false b = refl

and_true : (b : Bool) → (b && true) ≡ b
and_true true = refl
and_true false = refl

-- whether a member is among those that went, of which one is the first, if it is of the group
one_more : (member first : ℕ) (of_group rest : Bool) (lost : List ℕ)
    → rest ≡ is_among member lost
    → ((of_group && first == member) || rest)
    ≡ is_among member (cons_option (where_true of_group first) lost)
one_more member first true rest lost e = ap (λ b. (first == member) || b) e
one_more member first false rest lost e = e

standing_is : (m n : ℕ) (some other gone lost : List ℕ) → m ≡ n → some ≡ other → gone ≡ lost
    → ◌≡◌ {A = Standing} (record { generation = m; members = some; gone = gone })
    (record { generation = n; members = other; gone = lost })
standing_is m n some other gone lost e f g =
    λ i. record { generation = e i; members = f i; gone = g i }

------ a group by the facts

module _ (group : List ℕ) where
  abbrev pub stays : List Fact → ℕ → Bool
  stays facts member = not (list_any (went_from group member) facts)

  abbrev pub joins : List Fact → List ℕ
  joins facts = filter_map (joined_to group) facts

  abbrev pub leaves : List Fact → List ℕ
  leaves facts = filter_map (gone_from group) facts

  abbrev pub standing_by : List Fact → Standing
  standing_by facts = record {
    generation = count_by (is_membership_of group) facts;
    members = filter (stays facts) (joins facts);
    gone = leaves facts;
  }

  -- those that went are among those that are kept as such
  pub gone_is : (member : ℕ) (facts : List Fact)
      → list_any (went_from group member) facts ≡ is_among member (leaves facts)
  gone_is member [] = refl
  gone_is member (Offset g partition offset ∷ facts) = gone_is member facts
  gone_is member (Joined g m ∷ facts) = gone_is member facts
  gone_is member (Left g m ∷ facts) =
      one_more member m (bytes_eq g group) _ (leaves facts) (gone_is member facts)
  gone_is member (Dropped g m ∷ facts) =
      one_more member m (bytes_eq g group) _ (leaves facts) (gone_is member facts)

  ------ one more fact

  module _ (facts : List Fact) where
    -- the members by any test that says who stays
    pushed : (fact : Fact) (test : ℕ → Bool)
        → ((m : ℕ) → (stays facts m && not (went_from group m fact)) ≡ test m)
        → standing_by (facts ++ fact ∷ []) ≡ record {
          generation = (standing_by facts).generation + cond (is_membership_of group fact) 1 0;
          members = filter test (joins facts) ++ filter test (joins (fact ∷ []));
          gone = leaves facts ++ leaves (fact ∷ []);
        }
    pushed fact test agrees =
        standing_is _ _ _ _ _ _
        (sum_by_push (λ f. cond (is_membership_of group f) 1 0) facts fact)
        (filter_agree (stays (facts ++ fact ∷ [])) test
        (λ m. ap not (any-push (went_from group m) facts fact)
        ∙ neither (list_any (went_from group m) facts) (went_from group m fact) ∙ agrees m)
        (joins (facts ++ fact ∷ []))
        ∙ ap (filter test) (filter_map-append (joined_to group) facts (fact ∷ []))
        ∙ filter-append test (joins facts) (joins (fact ∷ [])))
        (filter_map-append (gone_from group) facts (fact ∷ []))

    offset_push : (g : List ℕ) (partition : ℕ) (offset : ℤ)
        → standing_by (facts ++ Offset g partition offset ∷ []) ≡ standing_by facts
    offset_push g partition offset =
        pushed (Offset g partition offset) (stays facts) (λ m. and_true (stays facts m))
        ∙ standing_is _ _ _ _ _ _ (omega arith)
        (append-nil (filter (stays facts) (joins facts))) (append-nil (leaves facts))

    -- one that joins had not gone
    pub join_push : (g : List ℕ) (member : ℕ)
        → (bytes_eq g group ≡ true → list_any (went_from group member) facts ≡ false)
        → standing_by (facts ++ Joined g member ∷ [])
        ≡ after (Joined g member) group (standing_by facts)
    join_push g member new =
        pushed (Joined g member) (stays facts) (λ m. and_true (stays facts m))
        ∙ by (bytes_eq g group) new
      where
        by : (b : Bool) → (b ≡ true → list_any (went_from group member) facts ≡ false)
            → ◌≡◌ {A = Standing} (record {
              generation = (standing_by facts).generation + cond b 1 0;
              members = filter (stays facts) (joins facts)
                  ++ filter (stays facts) (cons_option (where_true b member) []);
              gone = leaves facts ++ [];
            }) (if b then joined member (standing_by facts) else standing_by facts)
        by true h =
            standing_is _ _ _ _ _ _ refl
            (ap (λ c. filter (stays facts) (joins facts) ++ cond (not c) (member ∷ []) [])
            (h refl)) (append-nil (leaves facts))
        by false h =
            standing_is _ _ _ _ _ _ (omega arith)
            (append-nil (filter (stays facts) (joins facts))) (append-nil (leaves facts))

    went_by : (member : ℕ) (b : Bool) → ◌≡◌ {A = Standing} (record {
      generation = (standing_by facts).generation + cond b 1 0;
      members = filter (λ m. stays facts m && not (b && member == m)) (joins facts) ++ [];
      gone = leaves facts ++ cons_option (where_true b member) [];
    }) (if b then went member (standing_by facts) else standing_by facts)
    went_by member true =
        standing_is _ _ _ _ _ _ refl
        (append-nil (filter (λ m. stays facts m && not (member == m)) (joins facts))
        ∙ filter_both (stays facts) (λ m. not (member == m)) (joins facts)
        ∙ filter_agree (λ m. not (member == m)) (λ m. not (m == member))
        (λ m. ap not (nat_eq_equiv.symm member m)) (filter (stays facts) (joins facts))) refl
    went_by member false =
        standing_is _ _ _ _ _ _ (omega arith)
        (append-nil (filter (λ m. stays facts m && true) (joins facts))
        ∙ filter_agree (λ m. stays facts m && true) (stays facts)
        (λ m. and_true (stays facts m)) (joins facts)) (append-nil (leaves facts))

    pub leave_push : (g : List ℕ) (member : ℕ)
        → standing_by (facts ++ Left g member ∷ [])
        ≡ after (Left g member) group (standing_by facts)
    leave_push g member =
        pushed (Left g member) (λ m. stays facts m && not (bytes_eq g group && member == m))
        (λ m. refl)
        ∙ went_by member (bytes_eq g group)

    pub drop_push : (g : List ℕ) (member : ℕ)
        → standing_by (facts ++ Dropped g member ∷ [])
        ≡ after (Dropped g member) group (standing_by facts)
    drop_push g member =
        pushed (Dropped g member) (λ m. stays facts m && not (bytes_eq g group && member == m))
        (λ m. refl)
        ∙ went_by member (bytes_eq g group)

  ------ more facts that say nothing of a membership

  pub offsets_push : (facts said : List Fact) → AllByRecursion SaysOffset said
      → standing_by (facts ++ said) ≡ standing_by facts
  offsets_push facts [] all = ap standing_by (append-nil facts)
  offsets_push facts (Offset g partition offset ∷ said) all =
      ap standing_by (sym (append_assoc facts (Offset g partition offset ∷ []) said))
      ∙ offsets_push (facts ++ Offset g partition offset ∷ []) said all.1
      ∙ offset_push facts g partition offset
  offsets_push facts (Joined g member ∷ said) all = absurd all.0
  offsets_push facts (Left g member ∷ said) all = absurd all.0
  offsets_push facts (Dropped g member ∷ said) all = absurd all.0
